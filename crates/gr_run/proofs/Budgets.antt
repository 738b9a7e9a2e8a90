-- what a run may learn before it is over
use Rattle.std.proofs.Common.{◌≡◌, ℕ, Bool, List, arith}
use Rattle.gr_logic.specs.Formulas.{Cnf}
use Rattle.gr_diary.specs.declared.entries.Entry.{Entry}
use Rattle.gr_diary.specs.Histories.{AddsEmptyClause}
use Rattle.gr_diary.proofs.Budget.{kept-clauses-are-few, spared-clauses-are-few}
use Rattle.gr_search.specs.declared.asks.Found.{Found}
use Rattle.gr_search.specs.declared.asks.Found.TheVariants.{Spent}
use Rattle.gr_run.specs.Runs.{IsRun, HasRoom}

module _ (f : Cnf) (reducers capacity limit : ℕ) (keep_all : Bool) (d : List Entry) (found : Found)
    (run : IsRun f reducers capacity limit keep_all d found)
  where
    no-empty : found ≡ Spent → ¬ AddsEmptyClause d
    no-empty spent adds = let refuted = run.refuted.1 adds in cc (spent, refuted)

    pub budgeted : HasRoom f limit keep_all found
    budgeted = record {
      keeping = λ keeps enough spent.
          let few = kept-clauses-are-few f reducers capacity d run.ended.legal run.ended.rules.fresh
          (run.ended.kept keeps) (no-empty spent) in
          let full = run.spent spent in
          absurd (omega arith);
      sparing = λ q more enough spent.
          let few = spared-clauses-are-few f reducers capacity d run.ended.legal run.ended.rules.fresh
          run.ended.rules.spares (no-empty spent) q more in
          let full = run.spent spent in
          absurd (omega arith);
    }
