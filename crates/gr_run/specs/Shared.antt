-- a search over a shared exchange, from the searching thread's seat
use Rattle.std.specs.Prelude.{◌≡◌, ℕ, Bool, [], All}
use Rattle.gr_diary.specs.Histories.{entries_of}
use Rattle.gr_search.specs.declared.asks.Ask.{Ask}
use Rattle.gr_search.specs.declared.asks.Ask.TheVariants.{Done}
use Rattle.gr_search.specs.declared.asks.Found.{Found}
use Rattle.gr_seat.specs.Handles.{Handle, HasSeenLegal}
use Rattle.gr_seat.specs.Turns.{SeesMore}
use Rattle.gr_run.specs.declared.answers.Answer.{Answer}
use Rattle.gr_run.specs.declared.answers.Answer.TheVariants as answer
use Rattle.gr_run.specs.Offers.{IsOfferedUpTo}
use Rattle.gr_run.specs.Moves.{IsReached, IsToldOf}
use Rattle.gr_run.specs.Runs.{IsUnderway, IsFound, IsEnded, IsRun}

-- the searching thread's seat, which has seen a legal history and made no entry of it
pub record HasNotSearched (s : Handle) : Type 0 where
  pub solver : s.actor ≡ 0
  pub legal : HasSeenLegal s
  pub first : entries_of s.seen 0 ≡ []

-- what came of an ask
abbrev pub IsSeatAnswer : Handle → Ask → Answer → Handle → Type 0
IsSeatAnswer old a (answer.Told told) new =
    SeesMore old new × IsToldOf old.formula old.reducers old.capacity old.seen a told new.seen
IsSeatAnswer old a (answer.Found found) new = (new ≡ old) × (a ≡ Done found)

-- the seat has seen more, by others alone
abbrev pub HasWaited : Handle → Handle → Type 0
HasWaited old new = SeesMore old new × IsReached old.formula old.reducers old.capacity old.seen new.seen

-- a search that has not ended the history: its seat has seen more, which keeps the rules
pub record IsStanding (offer limit : ℕ) (keep_all : Bool) (old new : Handle) : Type 0 where
  pub sees : SeesMore old new
  pub underway : IsUnderway new.formula new.reducers new.capacity limit keep_all new.seen
  pub offered : All (IsOfferedUpTo offer) new.seen

-- what a search found, by what its seat has seen
abbrev pub IsFoundFrom : ℕ → Bool → Handle → Found → Type 0
IsFoundFrom limit keep_all s found = IsFound s.formula s.reducers s.capacity limit keep_all s.seen found

-- the history that a seat has seen is closed
abbrev pub IsEndedAt : ℕ → Bool → Handle → Type 0
IsEndedAt limit keep_all s = IsEnded s.formula s.reducers s.capacity limit keep_all s.seen

-- a whole run, by what its seat has seen
abbrev pub IsRunFrom : ℕ → Bool → Handle → Found → Type 0
IsRunFrom limit keep_all s found = IsRun s.formula s.reducers s.capacity limit keep_all s.seen found
