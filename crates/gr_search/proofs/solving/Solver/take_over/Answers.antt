use Rattle.std.proofs.Common.{sym, ◌∙◌, subst, arith, refl}
use Rattle.gr_search.specs.declared.asks.Told.{Told}
use Rattle.gr_search.specs.declared.asks.Told.TheVariants.{Imported}
use Rattle.gr_search.specs.Solvers.{MayBeTold, MayComeIn, IsReadyFor, IsGrounded, MayLearnMore}
use Rattle.gr_search.specs.TakingOver.{HasTakenOver}
use Rattle.gr_search.proofs.Steady.{kept-imported, added-depth}
use Rattle.gr_search.proofs.solving.Solver.take_over.Goals as goal

pub returns-in_ok-import-in-Imported-clause-steady : goal.returns-in_ok-import-in-Imported-clause-steady
returns-in_ok-import-in-Imported-clause-steady c =
    let s = c.args.self.now in
    let a = c.in-Imported in
    let come : MayComeIn s a.old a.new a.clause = subst (MayBeTold s) a.is c.requires.told in
    record {
      kept = kept-imported s.vars s.base c.import.new.base a.old a.new a.clause s.settled s.chooser come.unneeded
          c.in_ok-import-in-Imported.ensures c.requires.waiting.steady.kept;
      analyzer = c.requires.waiting.steady.analyzer;
    }

pub returns-in_ok-import-in-Imported-clause-none : goal.returns-in_ok-import-in-Imported-clause-none
returns-in_ok-import-in-Imported-clause-none c =
    let s = c.args.self.now in
    let a = c.in-Imported in
    let d = c.import.new.base in
    let come : MayComeIn s a.old a.new a.clause = subst (MayBeTold s) a.is c.requires.told in
    let imported = c.in_ok-import-in-Imported.ensures in
    let grounded : IsGrounded s = subst (IsReadyFor s) come.asked c.requires.waiting.ready in
    let over : HasTakenOver s (Imported a.old a.new a.clause) (record s { base = d }) = record {
      stays = record { vars = refl; first_learnt = refl; keep_all = refl; limit = refl };
      clauses = record {
        left = imported.left;
        lbd = imported.lbd;
        leaves = imported.leaves;
        added = record {
          place = imported.place.0;
          fresh = imported.added.fresh;
          added = imported.added.clauses;
        };
      };
      tally = refl;
      settled = omega arith;
      more = subst (MayLearnMore s) come.asked c.requires.waiting.more;
      grounded = λ _. added-depth (record s.base { clauses = imported.left }) d a.new imported.lbd a.clause
          imported.place imported.added ∙ grounded.ground;
    } in
    subst (λ (t : Told). HasTakenOver s t (record s { base = d })) (sym a.is) over
