-- a report says what was found
use Rattle.std.proofs.Common.{◌≡◌, ℕ, Bool, ◌∙◌, refl, sym, subst, All, ◌<◌, ◌≤◌, ◌^◌, length}
use Rattle.gr_logic.specs.Formulas.{Cnf}
use Rattle.gr_logic.specs.Log.{HasIds}
use Rattle.gr_diary.specs.Diaries.{Journal}
use Rattle.gr_diary.specs.Histories.{IsLegal, lines_of}
use Rattle.gr_diary.proofs.LogIds.{lines-have-ids}
use Rattle.gr_bench.specs.Exchanges.{Exchange, IsSameExchange, Tells}
use Rattle.gr_search.specs.declared.asks.Found.{Found}
use Rattle.gr_search.specs.declared.asks.Found.TheVariants.{Model, Refuted, Spent}
use Rattle.gr_run.specs.declared.options.SolveOptions.{SolveOptions}
use Rattle.gr_run.specs.declared.results.Ran.{Ran}
use Rattle.gr_run.specs.declared.results.Verdict.TheVariants.{Unknown}
use Rattle.gr_run.specs.Runs.{Satisfies, IsRun, HasRoom}
use Rattle.gr_run.specs.Results.{IsBudgeted, IsRan}
use Rattle.gr_run.proofs.Budgets.{budgeted}
use Rattle.gr_run.specs.Verdicts.{verdict_of, model_of}

spent-of : (found : Found) → verdict_of found ≡ Unknown → found ≡ Spent
spent-of (Model m) is = absurd (cc is)
spent-of Refuted is = absurd (cc is)
spent-of Spent is = refl

-- where a search has room, its run ends with a verdict
budget-of : (f : Cnf) (o : SolveOptions) (found : Found) (ran : Ran) → ran.verdict ≡ verdict_of found
    → HasRoom f o.conflicts o.keep_all found → IsBudgeted f o ran
budget-of f o found ran verdict room = record {
  keeping = λ keeps enough is. room.keeping keeps enough (spent-of found (sym verdict ∙ is));
  sparing = λ q more enough is. room.sparing q more enough (spent-of found (sym verdict ∙ is));
}

pub reported : (f : Cnf) (o : SolveOptions) (found : Found) (ran : Ran) → ran.verdict ≡ verdict_of found
    → ran.model ≡ model_of found → Tells f o.reducers o.capacity ran.diary
    → All HasIds (lines_of f o.reducers o.capacity ran.diary.entries)
    → IsRun f o.reducers o.capacity o.conflicts o.keep_all ran.diary.entries found → IsRan f o ran
reported f o (Model m) ran verdict model tells ids run = record {
  tells = tells;
  ids = ids;
  ended = run.ended;
  unsatisfiable = (λ is. absurd (cc (is, verdict)), λ adds. absurd (let no = run.refuted.1 adds in cc no));
  satisfiable = λ _. subst (Satisfies f) (sym model) (run.model m refl);
  unknown = λ is. absurd (cc (is, verdict));
  bare = λ not. absurd (not verdict);
  budget = budget-of f o (Model m) ran verdict
      (budgeted f o.reducers o.capacity o.conflicts o.keep_all ran.diary.entries (Model m) run);
}
reported f o Refuted ran verdict model tells ids run = record {
  tells = tells;
  ids = ids;
  ended = run.ended;
  unsatisfiable = (λ _. run.refuted.0 refl, λ _. verdict);
  satisfiable = λ is. absurd (cc (is, verdict));
  unknown = λ is. absurd (cc (is, verdict));
  bare = λ _. model;
  budget = budget-of f o Refuted ran verdict
      (budgeted f o.reducers o.capacity o.conflicts o.keep_all ran.diary.entries Refuted run);
}
reported f o Spent ran verdict model tells ids run = record {
  tells = tells;
  ids = ids;
  ended = run.ended;
  unsatisfiable = (λ is. absurd (cc (is, verdict)), λ adds. absurd (let no = run.refuted.1 adds in cc no));
  satisfiable = λ is. absurd (cc (is, verdict));
  unknown = λ _. run.spent refl;
  bare = λ _. model;
  budget = budget-of f o Spent ran verdict
      (budgeted f o.reducers o.capacity o.conflicts o.keep_all ran.diary.entries Spent run);
}

-- a run over an exchange with the options' sizes is one with these options
module _ (f : Cnf) (o : SolveOptions) (x y : Exchange) (formula : x.formula ≡ f) (reducers : x.reducers ≡ o.reducers)
    (capacity : x.capacity ≡ o.capacity) (exchange : IsSameExchange x y)
  where
    formula-is : y.formula ≡ f
    formula-is = exchange.formula ∙ formula

    reducers-are : y.reducers ≡ o.reducers
    reducers-are = exchange.reducers ∙ reducers

    capacity-is : y.capacity ≡ o.capacity
    capacity-is = exchange.capacity ∙ capacity

    at-options : (P : Cnf → ℕ → ℕ → Type 0) → P y.formula y.reducers y.capacity → P f o.reducers o.capacity
    at-options P p = subst (P f o.reducers) capacity-is
        (subst (λ n. P f n y.capacity) reducers-are (subst (λ g. P g y.reducers y.capacity) formula-is p))

    pub tells-at : (diary : Journal) → diary ≡ y.diary → Tells y.formula y.reducers y.capacity y.diary
        → Tells f o.reducers o.capacity diary
    tells-at diary same tells = subst (Tells f o.reducers o.capacity) (sym same)
        (at-options (λ g n w. Tells g n w y.diary) tells)

    pub ids-at : (diary : Journal) → diary ≡ y.diary → Tells y.formula y.reducers y.capacity y.diary
        → length y.diary.entries < 2 ^ 62 → length f.clauses ≤ 5_000_000
        → All HasIds (lines_of f o.reducers o.capacity diary.entries)
    ids-at diary same tells few clauses =
        subst (λ (d : Journal). All HasIds (lines_of f o.reducers o.capacity d.entries)) (sym same)
        (lines-have-ids f o.reducers o.capacity y.diary.entries
        (at-options (λ g n w. IsLegal g n w y.diary.entries) tells.legal) clauses few)

    pub run-at : (limit : ℕ) (keep_all : Bool) (found : Found) (diary : Journal) → limit ≡ o.conflicts
        → keep_all ≡ o.keep_all → diary ≡ y.diary
        → IsRun y.formula y.reducers y.capacity limit keep_all y.diary.entries found
        → IsRun f o.reducers o.capacity o.conflicts o.keep_all diary.entries found
    run-at limit keep_all found diary limited keeps same run =
        subst (λ (d : Journal). IsRun f o.reducers o.capacity o.conflicts o.keep_all d.entries found) (sym same)
        (subst (λ k. IsRun f o.reducers o.capacity o.conflicts k y.diary.entries found) keeps
        (subst (λ n. IsRun f o.reducers o.capacity n keep_all y.diary.entries found) limited
        (at-options (λ g n w. IsRun g n w limit keep_all y.diary.entries found) run)))
