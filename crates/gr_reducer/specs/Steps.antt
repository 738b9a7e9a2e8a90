-- a reducer between its turns: what its strengthener keeps is what it holds
use Rattle.std.specs.Prelude.{◌≡◌, ◌<◌, ◌≤◌, ℕ, nat_eq, if◌then◌else◌, List, Option, Some, None}
use Rattle.gr_logic.specs.Literals.{Literal}
use Rattle.gr_logic.specs.Rup.{Live}
use Rattle.gr_logic.specs.Closure.{family_of}
use Rattle.gr_diary.specs.Histories.{clauses_held_by, taken_by}
use Rattle.gr_seat.specs.Handles.{TableId, Handle, HasSeenLegal}
use Rattle.gr_strengthen.specs.Families.{kept_family, cited_family}
use Rattle.gr_strengthen.specs.Outcomes.{HasItsUnits}
use Rattle.gr_strengthen.specs.Strengtheners.{StrengthenerState}

-- the clauses that the seat's actor holds, as far as the seat has seen the history
abbrev pub held_at : Handle → Live
held_at h = clauses_held_by h.formula h.reducers h.capacity h.seen h.actor

-- the id that it has taken
abbrev pub taken_at : Handle → Option ℕ
taken_at h = taken_by h.formula h.reducers h.capacity h.seen h.actor

-- clauses without the one that is taken
abbrev pub without_taken : Option ℕ → Live → Live
without_taken None held id = held id
without_taken (Some taken) held id = if nat_eq id taken then None else held id

-- a reducer's seat, and a strengthener over its formula that keeps just the clauses that the reducer holds, but for the
-- one that it has taken
pub record IsInStep (h : Handle) (s : StrengthenerState) : Type 0 where
  pub legal : HasSeenLegal h
  pub reducer : 0 < h.actor
  pub within : h.actor ≤ h.reducers
  pub formula : s.formula ≡ h.formula
  pub kept : (id : ℕ) → kept_family s.kept id ≡ family_of (without_taken (taken_at h) (held_at h)) id

-- the reducer has taken nothing
abbrev pub IsFree : Handle → Type 0
IsFree h = taken_at h ≡ None

-- the reducer has taken the clause of this id
pub record HasTaken (h : Handle) (id : ℕ) (c : List Literal) : Type 0 where
  pub taken : taken_at h ≡ Some id
  pub clause : held_at h id ≡ Some c

-- a reducer between two rounds, at a seat of this exchange
pub record IsBetweenRounds (exchange : TableId) (h : Handle) (s : StrengthenerState) : Type 0 where
  pub lock : h.lock ≡ exchange
  pub in_step : IsInStep h s
  pub free : IsFree h

-- a reducer within a round, that has taken this clause and has shared its units
pub record IsReadyToGive (exchange : TableId) (h : Handle) (s : StrengthenerState) (id : ℕ) (c : List Literal)
    : Type 0 where
  pub lock : h.lock ≡ exchange
  pub in_step : IsInStep h s
  pub taken : HasTaken h id c
  pub units : HasItsUnits (cited_family s.formula s.kept)

-- what the reducer had taken it still has
abbrev pub KeepsTaken : Handle → Handle → Type 0
KeepsTaken s t = (id : ℕ) (c : List Literal) → HasTaken s id c → HasTaken t id c
