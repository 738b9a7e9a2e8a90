-- how a history goes on where the searching thread asks: others may come first, whoever they are
use Rattle.std.specs.Prelude.{◌≡◌, ◌≢◌, ℕ, true, List, [], ◌∷◌, ◌++◌, All}
use Rattle.gr_logic.specs.Formulas.{Cnf}
use Rattle.gr_diary.specs.declared.entries.Entry.{Entry}
use Rattle.gr_diary.specs.declared.entries.Entry.TheVariants as entry
use Rattle.gr_diary.specs.Entries.{actor_of}
use Rattle.gr_diary.specs.Histories.{IsLegal, IsClosed, state_of}
use Rattle.gr_bench.specs.Answers.{IsFirstResult}
use Rattle.gr_search.specs.declared.asks.Ask.{Ask}
use Rattle.gr_search.specs.declared.asks.Ask.TheVariants as ask
use Rattle.gr_search.specs.declared.asks.Told.{Told}
use Rattle.gr_search.specs.declared.asks.Told.TheVariants.{Start, Id, Imported, Drained, Forgotten, Closed}
use Rattle.gr_search.specs.Tellings.{adds_clause, lets_go, is_open}
use Rattle.gr_search.specs.Turns.{asked_by, entry_of}

-- entries of reducers alone
abbrev pub AreOthers : List Entry → Type 0
AreOthers es = All (λ e. actor_of e ≢ 0) es

-- the history with others' entries behind it
pub record IsReached (f : Cnf) (reducers capacity : ℕ) (before after : List Entry) : Type 0 where
  pub between : List Entry
  pub others : AreOthers between
  pub splits : before ++ between ≡ after
  pub legal : IsLegal f reducers capacity after

-- with others' entries and then this one
pub record IsContinued (f : Cnf) (reducers capacity : ℕ) (before : List Entry) (e : Entry) (after : List Entry) : Type 0
  where
    pub place : List Entry
    pub reached : IsReached f reducers capacity before place
    pub splits : place ++ e ∷ [] ≡ after
    pub legal : IsLegal f reducers capacity after

-- what may be told where this was asked for: the entry was made, or the history is closed
abbrev pub IsToldOf : Cnf → ℕ → ℕ → List Entry → Ask → Told → List Entry → Type 0
IsToldOf f reducers capacity before a Start after = ⊥
IsToldOf f reducers capacity before a (Id id) after =
    (adds_clause (asked_by a) ≡ true)
    × (c : IsContinued f reducers capacity before (entry_of a) after)
    × (id ≡ (state_of f reducers capacity c.place).next)
IsToldOf f reducers capacity before a (Imported old new clause) after =
    (a ≡ ask.Import)
    × (c : IsContinued f reducers capacity before entry.Import after)
    × IsFirstResult (state_of f reducers capacity c.place) old new clause
IsToldOf f reducers capacity before a Drained after =
    (a ≡ ask.Import) × IsContinued f reducers capacity before entry.Drained after
IsToldOf f reducers capacity before a Forgotten after =
    (lets_go (asked_by a) ≡ true) × IsContinued f reducers capacity before (entry_of a) after
IsToldOf f reducers capacity before a Closed after =
    (is_open (asked_by a) ≡ true) × IsReached f reducers capacity before after × IsClosed after
