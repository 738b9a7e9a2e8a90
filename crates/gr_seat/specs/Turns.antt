-- what a turn does to a seat
use Rattle.std.specs.Prelude.{◌≡◌, ℕ, ◌+◌, List, [], ◌∷◌, ◌++◌}
use mathlib.Core.List.{IsPrefix}
use Rattle.gr_diary.specs.declared.entries.Entry.{Entry}
use Rattle.gr_diary.specs.States.{State}
use Rattle.gr_diary.specs.Histories.{entries_of, state_of}
use Rattle.gr_seat.specs.Handles.{Handle, HasSeenLegal}

-- what no call changes
pub record IsSameSeat (s t : Handle) : Type 0 where
  pub lock : t.lock ≡ s.lock
  pub formula : t.formula ≡ s.formula
  pub reducers : t.reducers ≡ s.reducers
  pub capacity : t.capacity ≡ s.capacity
  pub actor : t.actor ≡ s.actor

-- no seat is made or taken back
abbrev pub IsCounted : Handle → Handle → Type 0
IsCounted s t = (t.splits ≡ s.splits) × (t.out ≡ s.out)

-- no turn is taken, and no more is seen
abbrev pub HasSeenThat : Handle → Handle → Type 0
HasSeenThat s t = (t.seen ≡ s.seen) × (t.turns ≡ s.turns)

-- the seat has seen a legal history, which begins with what it had seen
pub record SeesMore (s t : Handle) : Type 0 where
  pub same : IsSameSeat s t
  pub counted : IsCounted s t
  pub begins : IsPrefix s.seen t.seen
  pub legal : HasSeenLegal t

-- the seat took a turn
pub record TakesTurn (s t : Handle) : Type 0 where
  pub sees : SeesMore s t
  pub turns : t.turns ≡ s.turns + 1

-- the seat made just this entry, with which the history that it has seen ends, and the state before it tells this
pub record Makes (s t : Handle) (e : Entry) (Tells : State → Type 0) : Type 0 where
  pub before : List Entry
  pub begins : IsPrefix s.seen before
  pub ends : t.seen ≡ before ++ e ∷ []
  pub own : entries_of t.seen t.actor ≡ entries_of s.seen s.actor ++ e ∷ []
  pub tells : Tells (state_of s.formula s.reducers s.capacity before)

-- the seat made no entry
abbrev pub MakesNone : Handle → Handle → Type 0
MakesNone s t = entries_of t.seen t.actor ≡ entries_of s.seen s.actor

-- the answer tells nothing of the state
abbrev pub Anything : State → Type 0
Anything s = Unit {0}
