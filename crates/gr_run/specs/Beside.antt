-- a search beside reducers
use Rattle.std.specs.Prelude.{◌≡◌, ◌<◌, ◌^◌, ℕ, List, [], length, slice_index_or, All, IfOk}
use Rattle.gr_logic.specs.Formulas.{Cnf}
use Rattle.gr_diary.specs.Diaries.{Journal}
use Rattle.gr_diary.specs.Histories.{entries_of}
use Rattle.gr_bench.specs.Exchanges.{Tells}
use Rattle.gr_seat.specs.Handles.{Handle, TableId}
use Rattle.gr_seat.specs.Turns.{SeesMore}
use Rattle.gr_run.specs.declared.options.SolveOptions.{SolveOptions}
use Rattle.gr_run.specs.declared.searching.Searched.{Searched}
use Rattle.gr_run.specs.Offers.{IsOfferedUpTo}
use Rattle.gr_run.specs.Shared.{IsEndedAt, IsRunFrom}

-- a seat at the exchange over the formula, where this actor has made no entry
pub record IsUnusedBy (exchange : TableId) (f : Cnf) (actor : ℕ) (h : Handle) : Type 0 where
  pub lock : h.lock ≡ exchange
  pub formula : h.formula ≡ f
  pub first : entries_of h.seen actor ≡ []

-- a seat at the exchange over the formula, which has made no entry
abbrev pub IsUnused : TableId → Cnf → Handle → Type 0
IsUnused exchange f h = IsUnusedBy exchange f h.actor h

-- each of the seats has seen more
abbrev pub AllSeeMore : List Handle → List Handle → Type 0
AllSeeMore before after =
    (k : ℕ) (d e : Handle) → k < length before → SeesMore (slice_index_or before k d) (slice_index_or after k e)

-- the search is over: its seat has seen a closed history, which keeps the rules, and what it found holds of that
pub record HasSearched (o : SolveOptions) (seat : Handle) (searched : Searched) : Type 0 where
  pub sees : SeesMore seat searched.seat
  pub ended : IsEndedAt o.conflicts o.keep_all searched.seat
  pub offered : All (IsOfferedUpTo o.offer) searched.seat.seen
  pub found : IfOk searched.found (IsRunFrom o.conflicts o.keep_all searched.seat)

-- the diary has just the history that the seat has seen
pub record HasDiary (h : Handle) (diary : Journal) : Type 0 where
  pub seen : diary.entries ≡ h.seen
  pub tells : Tells h.formula h.reducers h.capacity diary
  pub few : length diary.entries < 2 ^ 62
