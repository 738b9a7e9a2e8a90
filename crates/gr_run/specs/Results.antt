-- what a run answers
use Rattle.std.specs.Prelude.{◌≡◌, ◌≢◌, ◌↔◌, ◌≤◌, ◌*◌, ◌^◌, ℕ, true, [], All}
use Rattle.gr_logic.specs.Formulas.{Cnf}
use Rattle.gr_logic.specs.Log.{HasIds}
use Rattle.gr_diary.specs.Histories.{AddsEmptyClause, learn_count, lines_of}
use Rattle.gr_bench.specs.Exchanges.{Tells}
use Rattle.gr_run.specs.declared.options.SolveOptions.{SolveOptions}
use Rattle.gr_run.specs.declared.results.Ran.{Ran}
use Rattle.gr_run.specs.declared.results.Verdict.TheVariants.{Satisfiable, Unsatisfiable, Unknown}
use Rattle.gr_run.specs.Runs.{Satisfies, IsEnded}

-- options within the program's limits
pub record AreInRange (o : SolveOptions) : Type 0 where
  pub reducers : o.reducers ≤ 8
  pub some_conflicts : 1 ≤ o.conflicts
  pub conflicts : o.conflicts ≤ 4_000_000
  pub some_capacity : 1 ≤ o.capacity
  pub capacity : o.capacity ≤ 100_000
  pub low_offer : 2 ≤ o.offer
  pub offer : o.offer ≤ 1_000_000

-- a run over V variables ends with a verdict where it may learn 3^V clauses and keeps them all, or q times as many,
-- where 2,000 * q are no fewer than 3^V
pub record IsBudgeted (f : Cnf) (o : SolveOptions) (ran : Ran) : Type 0 where
  pub keeping : o.keep_all ≡ true → 3 ^ f.vars ≤ o.conflicts → ran.verdict ≢ Unknown
  pub sparing : (q : ℕ) → 3 ^ f.vars ≤ 2_000 * q → q * 3 ^ f.vars ≤ o.conflicts → ran.verdict ≢ Unknown

-- a run's history is legal and closed and keeps the rules of the search, and its verdict is true
pub record IsRan (f : Cnf) (o : SolveOptions) (ran : Ran) : Type 0 where
  pub tells : Tells f o.reducers o.capacity ran.diary
  -- a log may write each id of its lines
  pub ids : All HasIds (lines_of f o.reducers o.capacity ran.diary.entries)
  pub ended : IsEnded f o.reducers o.capacity o.conflicts o.keep_all ran.diary.entries
  pub unsatisfiable : (ran.verdict ≡ Unsatisfiable) ↔ AddsEmptyClause ran.diary.entries
  pub satisfiable : ran.verdict ≡ Satisfiable → Satisfies f ran.model
  pub unknown : ran.verdict ≡ Unknown → learn_count ran.diary.entries ≡ o.conflicts
  pub bare : ran.verdict ≢ Satisfiable → ran.model ≡ []
  pub budget : IsBudgeted f o ran
