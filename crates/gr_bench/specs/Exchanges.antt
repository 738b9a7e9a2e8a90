-- what contracts see of the exchange, and what its calls do to it
use Rattle.std.specs.Prelude.{◌≡◌, ◌≢◌, ℕ, ◌+◌, false, List, [], ◌∷◌, ◌++◌, length, Some, None}
use Rattle.gr_logic.specs.Literals.{Literal}
use Rattle.gr_logic.specs.Formulas.{Cnf}
use Rattle.gr_logic.specs.Log.{Accepts, refusal}
use Rattle.gr_logic.specs.Truth.{Implied, IsUnsatisfiable}
use Rattle.gr_logic.specs.WorkLists.{best}
use Rattle.gr_logic.specs.declared.items.Item.{Item}
use Rattle.gr_logic.specs.declared.items.Strengthened.TheVariants.{Shorter}
use Rattle.gr_diary.specs.declared.entries.Entry.{Entry}
use Rattle.gr_diary.specs.declared.entries.Entry.TheVariants.{Return}
use Rattle.gr_diary.specs.Entries.{Addition, addition_of}
use Rattle.gr_diary.specs.States.{State}
use Rattle.gr_diary.specs.Histories.{IsLegal, IsClosed, IsEnabled, AddsEmptyClause, state_of, lefts_of, lines_of}
use Rattle.gr_diary.specs.Diaries.{Journal, journal_lines}
use Rattle.gr_diary.specs.Laws.{IsPartOfLastTaken}

-- the formula, how many reducers there are, how many clauses may be on offer, and the history
pub record Exchange : Type 0 where
  pub formula : Cnf
  pub reducers : ℕ
  pub capacity : ℕ
  pub diary : Journal

-- the state after the history
abbrev pub state_at : Exchange → State
state_at x = state_of x.formula x.reducers x.capacity x.diary.entries

-- what the entry's actor holds and has taken allows the entry, where the history is open and
-- there is what the entry takes from the work list or the results
abbrev pub IsEnabledAt : Exchange → Entry → Type 0
IsEnabledAt x e = IsEnabled x.formula x.reducers x.capacity x.diary.entries e

-- the history has its end, or the empty clause
abbrev pub IsClosedAt : Exchange → Type 0
IsClosedAt x = IsClosed x.diary.entries

-- an entry may follow
abbrev pub IsOpenAt : Exchange → Type 0
IsOpenAt x = (state_at x).closed ≡ false

-- nothing is on offer, though an entry may follow
abbrev pub IsIdle : Exchange → Type 0
IsIdle x = (¬ IsClosedAt x) × ((state_at x).work ≡ [])

-- the best item on offer is this one
abbrev pub BestIs : Exchange → Item → Type 0
BestIs x item = best (state_at x).work ≡ Some item

-- there is a result
abbrev pub HasResult : Exchange → Type 0
HasResult x = (state_at x).results ≢ []

-- the formula, the number of reducers and the capacity stay
pub record IsSameExchange (old new : Exchange) : Type 0 where
  pub formula : new.formula ≡ old.formula
  pub reducers : new.reducers ≡ old.reducers
  pub capacity : new.capacity ≡ old.capacity

-- nothing that the history says has changed
pub record IsUnchanged (old new : Exchange) : Type 0 where
  pub same : IsSameExchange old new
  pub entries : new.diary.entries ≡ old.diary.entries
  pub left : new.diary.left ≡ old.diary.left

-- the history grew by this entry, and is legal
pub record IsGrown (old new : Exchange) (e : Entry) : Type 0 where
  pub same : IsSameExchange old new
  pub entries : new.diary.entries ≡ old.diary.entries ++ e ∷ []
  pub legal : IsLegal new.formula new.reducers new.capacity new.diary.entries

-- a diary tells a history that is legal for the formula and the sizes, with what left at each
-- entry, and its lines count on from the formula's clauses
pub record Tells (f : Cnf) (reducers capacity : ℕ) (diary : Journal) : Type 0 where
  pub legal : IsLegal f reducers capacity diary.entries
  pub first : diary.first ≡ length f.clauses + 1
  pub left : diary.left ≡ lefts_of f reducers capacity diary.entries

-- each clause that an entry adds is implied by the formula
abbrev pub AddsImplied : Exchange → Type 0
AddsImplied x =
    (before : List Entry) (e : Entry) (later : List Entry) (a : Addition)
    → x.diary.entries ≡ before ++ e ∷ later → addition_of e ≡ Some a
    → Implied x.formula.clauses a.clause

-- each clause that a reducer gives back is a proper part of the one that it took last
abbrev pub ReturnsParts : Exchange → Type 0
ReturnsParts x =
    (before : List Entry) (actor : ℕ) (c : List Literal) (hints : List ℕ) (later : List Entry)
    → x.diary.entries ≡ before ++ Return actor (Shorter c hints) ∷ later
    → IsPartOfLastTaken x.formula x.reducers x.capacity before actor c

-- what is known of the log at every moment: the diary's lines are the history's log, and no line
-- is refused; where the empty clause was added, the log is accepted, and no assignment satisfies
-- the formula
pub record IsLogged (x : Exchange) : Type 0 where
  pub lines :
      journal_lines (length x.formula.clauses + 1) x.diary.entries x.diary.left
      ≡ lines_of x.formula x.reducers x.capacity x.diary.entries
  pub unrefused : refusal x.formula (lines_of x.formula x.reducers x.capacity x.diary.entries) ≡ None
  pub implied : AddsImplied x
  pub parts : ReturnsParts x
  pub refutes : AddsEmptyClause x.diary.entries
      → Accepts x.formula (lines_of x.formula x.reducers x.capacity x.diary.entries)
      × IsUnsatisfiable x.formula.clauses
