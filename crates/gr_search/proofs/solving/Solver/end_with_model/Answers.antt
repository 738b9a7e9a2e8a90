use Rattle.std.proofs.Common.{sym, subst, arith, refl}
use Rattle.gr_trail.specs.Trails.{TrailState}
use Rattle.gr_search.specs.declared.asks.Ask.{Ask}
use Rattle.gr_search.specs.declared.asks.Ask.TheVariants as ask
use Rattle.gr_search.specs.declared.asks.Found.TheVariants.{Model}
use Rattle.gr_search.specs.declared.solving.Solver.{Solver}
use Rattle.gr_search.specs.declared.solving.Request.TheVariants.{Done}
use Rattle.gr_search.specs.Keeping.{MakesTrue}
use Rattle.gr_search.specs.SolverTurns.{HasSearched}
use Rattle.gr_search.proofs.Asking.{is-model-of}
use Rattle.gr_search.proofs.solving.Solver.end_with_model.Goals as goal

pub returns-clause-searched : goal.returns-clause-searched
returns-clause-searched c =
    let s = c.args.self.now in
    let m = c.in_ok-model.model in
    let new : Solver = record s { request = Done } in
    let has : HasSearched s (ask.Done (Model m)) new = record {
      stays = record { vars = refl; first_learnt = refl; keep_all = refl; limit = refl };
      clauses = refl;
      counts = refl;
      settled = omega arith;
      asking = (
        refl,
        m,
        refl,
        is-model-of s.base s.vars m c.trail.ensures.base c.requires.quiet c.requires.steady.kept.sized c.requires.all
            c.in_ok-model.ensures.length
            (subst (λ (t : TrailState). MakesTrue m t.assigned) c.trail.ensures.trail c.in_ok-model.ensures.true_),
      );
    } in
    subst (λ (x : Solver). HasSearched s c.end.result x) (sym c.end.ensures.request)
    (subst (λ (a : Ask). HasSearched s a new) (sym c.end.ensures.ask) has)
