-- how a run stands, and how it ends
use Rattle.std.specs.Prelude.{◌≡◌, ◌≢◌, ◌↔◌, ◌≤◌, ◌*◌, ◌^◌, ℕ, Bool, true, false, List, length}
use Rattle.std.specs.List.{list_any}
use Rattle.gr_logic.specs.Formulas.{Cnf}
use Rattle.gr_logic.specs.Truth.{MeetsAll}
use Rattle.gr_diary.specs.declared.entries.Entry.{Entry}
use Rattle.gr_diary.specs.Entries.{is_close}
use Rattle.gr_diary.specs.Histories.{IsLegal, IsClosed, AddsEmptyClause, learn_count}
use Rattle.gr_diary.specs.SearchRules.{forget_count}
use Rattle.gr_search.specs.declared.asks.Found.{Found}
use Rattle.gr_search.specs.declared.asks.Found.TheVariants.{Model, Refuted, Spent}
use Rattle.gr_run.specs.Driving.{KeepsRules}

-- a history that the searching thread has not ended
pub record IsUnderway (f : Cnf) (reducers capacity limit : ℕ) (keep_all : Bool) (d : List Entry) : Type 0 where
  pub legal : IsLegal f reducers capacity d
  pub rules : KeepsRules f reducers capacity d
  pub unclosed : list_any is_close d ≡ false
  pub kept : keep_all ≡ true → forget_count d ≡ 0
  pub within : learn_count d ≤ limit

-- the assignment satisfies the formula
pub record Satisfies (f : Cnf) (model : List Bool) : Type 0 where
  pub length : length model ≡ f.vars
  pub meets : MeetsAll model f.clauses

-- what a search found, and the history so far
pub record IsFound (f : Cnf) (reducers capacity limit : ℕ) (keep_all : Bool) (d : List Entry) (found : Found) : Type 0
  where
    pub underway : IsUnderway f reducers capacity limit keep_all d
    pub refuted : found ≡ Refuted → AddsEmptyClause d
    pub spent : found ≡ Spent → learn_count d ≡ limit
    pub model : (m : List Bool) → found ≡ Model m → Satisfies f m

-- a history that is closed
pub record IsEnded (f : Cnf) (reducers capacity limit : ℕ) (keep_all : Bool) (d : List Entry) : Type 0 where
  pub legal : IsLegal f reducers capacity d
  pub rules : KeepsRules f reducers capacity d
  pub closed : IsClosed d
  pub kept : keep_all ≡ true → forget_count d ≡ 0
  -- no more clauses were learnt than may be
  pub within : learn_count d ≤ limit

-- a whole run: its history, and what it found
pub record IsRun (f : Cnf) (reducers capacity limit : ℕ) (keep_all : Bool) (d : List Entry) (found : Found) : Type 0
  where
    pub ended : IsEnded f reducers capacity limit keep_all d
    -- exactly where the history adds the empty clause
    pub refuted : (found ≡ Refuted) ↔ AddsEmptyClause d
    pub spent : found ≡ Spent → learn_count d ≡ limit
    pub model : (m : List Bool) → found ≡ Model m → Satisfies f m

-- no search runs out of clauses that may learn as many as there are (3^V with the empty one), where it keeps all; or q
-- times as many, where 2,000 * q are no fewer
pub record HasRoom (f : Cnf) (limit : ℕ) (keep_all : Bool) (found : Found) : Type 0 where
  pub keeping : keep_all ≡ true → 3 ^ f.vars ≤ limit → found ≢ Spent
  pub sparing : (q : ℕ) → 3 ^ f.vars ≤ 2_000 * q → q * 3 ^ f.vars ≤ limit → found ≢ Spent
