-- a run with reducers is one with its options
use Rattle.std.proofs.Common.{◌≡◌, ◌≤◌, ℕ, length, sym, subst}
use Rattle.gr_logic.specs.Formulas.{Cnf}
use Rattle.gr_bench.specs.Exchanges.{Tells}
use Rattle.gr_diary.proofs.LogIds.{lines-have-ids}
use Rattle.gr_search.specs.declared.asks.Found.{Found}
use Rattle.gr_seat.specs.Handles.{Handle}
use Rattle.gr_run.specs.declared.options.SolveOptions.{SolveOptions}
use Rattle.gr_run.specs.declared.results.Ran.{Ran}
use Rattle.gr_run.specs.Beside.{HasDiary}
use Rattle.gr_run.specs.Results.{IsRan}
use Rattle.gr_run.specs.Runs.{IsRun}
use Rattle.gr_run.specs.Shared.{IsRunFrom}
use Rattle.gr_run.specs.Verdicts.{verdict_of, model_of}
use Rattle.gr_run.proofs.Reports.{reported}

module _ (f : Cnf) (o : SolveOptions) (h : Handle) (formula : h.formula ≡ f) (reducers : h.reducers ≡ o.reducers)
    (capacity : h.capacity ≡ o.capacity)
  where
    at-options : (P : Cnf → ℕ → ℕ → Type 0) → P h.formula h.reducers h.capacity → P f o.reducers o.capacity
    at-options P p = subst (P f o.reducers) capacity
        (subst (λ n. P f n h.capacity) reducers (subst (λ g. P g h.reducers h.capacity) formula p))

    pub ran-of : (found : Found) (ran : Ran) → HasDiary h ran.diary → length f.clauses ≤ 5_000_000
        → IsRunFrom o.conflicts o.keep_all h found → ran.verdict ≡ verdict_of found → ran.model ≡ model_of found
        → IsRan f o ran
    ran-of found ran d clauses run verdict model =
        let tells : Tells f o.reducers o.capacity ran.diary =
        at-options (λ g n w. Tells g n w ran.diary) d.tells in
        reported f o found ran verdict model tells
        (lines-have-ids f o.reducers o.capacity ran.diary.entries tells.legal clauses d.few)
        (subst (λ es. IsRun f o.reducers o.capacity o.conflicts o.keep_all es found) (sym d.seen)
        (at-options (λ g n w. IsRun g n w o.conflicts o.keep_all h.seen found) run))
