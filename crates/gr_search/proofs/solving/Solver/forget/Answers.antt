use Rattle.std.proofs.Common.{◌<◌, All, get_or, sym, ap, ◌∙◌, subst, arith, refl}
use Rattle.gr_trail.specs.Trails.{TrailState}
use Rattle.gr_import.specs.Imports.{IsNoReason}
use Rattle.gr_search.specs.Counting.{CountState}
use Rattle.gr_search.specs.Keeping.{IsKept}
use Rattle.gr_search.specs.Solvers.{IsReadyFor, MayForget, MayLearnMore}
use Rattle.gr_search.specs.TakingOver.{AreLeft, ClausesLeft}
use Rattle.gr_search.specs.declared.solving.Request.{Request}
use Rattle.gr_search.proofs.Steady.{all-settled, kept-compacted}
use Rattle.gr_search.proofs.Forgettable.{weak-unneeded, kept-left, without-compacted}
use Rattle.gr_search.proofs.solving.Solver.forget.Goals as goal

pub remove_all-requires : goal.remove_all-requires
remove_all-requires c =
    let s = c.args.self.now in
    let ids = c.in-Forgetting.ids.items in
    let may : MayForget s ids = subst (IsReadyFor s) c.in-Forgetting.is c.requires.waiting.ready in
    let settled = all-settled s.vars s.base.clauses s.base.trail s.settled s.chooser c.requires.waiting.steady.kept
    may.grounded.all in
    record {
      unneeded = subst (All (IsNoReason s.base)) (sym c.deref.ensures.value)
          (λ i d low. weak-unneeded s.base s.first_learnt c.trail-trail.ensures.base (get_or ids i d) settled
          (may.each i d low));
    }

pub returns-in_ok-compact-in-Forgetting-clause-steady : goal.returns-in_ok-compact-in-Forgetting-clause-steady
returns-in_ok-compact-in-Forgetting-clause-steady c =
    let s = c.args.self.now in
    let ids = c.in-Forgetting.ids.items in
    let m = c.remove_all.new.base in
    let may : MayForget s ids = subst (IsReadyFor s) c.in-Forgetting.is c.requires.waiting.ready in
    let left : AreLeft s.base.clauses m.clauses ids =
    subst (AreLeft s.base.clauses m.clauses) c.deref.ensures.value c.remove_all.ensures.clauses in
    record {
      kept = kept-compacted s.vars m c.compact.new.self s.settled s.chooser c.in_ok-compact-in-Forgetting.ensures
          (subst (λ (t : TrailState). IsKept s.vars m.clauses t s.settled s.chooser) (sym c.remove_all.ensures.trail)
          (kept-left s.base s.first_learnt c.trail-trail.ensures.base s.vars s.settled s.chooser m.clauses ids may.each
          left c.requires.waiting.steady.kept));
      analyzer = c.requires.waiting.steady.analyzer;
    }

pub returns-in_ok-compact-in-Forgetting-clause-over : goal.returns-in_ok-compact-in-Forgetting-clause-over
returns-in_ok-compact-in-Forgetting-clause-over c =
    let s = c.args.self.now in
    let ids = c.in-Forgetting.ids.items in
    let m = c.remove_all.new.base in
    let may : MayForget s ids = subst (IsReadyFor s) c.in-Forgetting.is c.requires.waiting.ready in
    let left : AreLeft s.base.clauses m.clauses ids =
    subst (AreLeft s.base.clauses m.clauses) c.deref.ensures.value c.remove_all.ensures.clauses in
    let more : s.counts.tally.learns < s.counts.limit =
    subst (MayLearnMore s) c.in-Forgetting.is c.requires.waiting.more in
    record {
      stays = record {
        vars = refl;
        first_learnt = refl;
        keep_all = refl;
        limit = ap (λ (n : CountState). n.limit) c.forget.ensures;
      };
      clauses = subst (λ (r : Request). ClausesLeft s r c.compact.new.self.clauses) (sym c.in-Forgetting.is)
          (without-compacted s.base.clauses m c.compact.new.self ids left c.in_ok-compact-in-Forgetting.ensures);
      tally = ap (λ (n : CountState). n.tally) c.forget.ensures;
      settled = omega arith;
      more = subst (λ (n : CountState). n.tally.learns < n.limit) (sym c.forget.ensures) more;
      grounded = λ _. ap (λ (t : TrailState). t.depth) c.in_ok-compact-in-Forgetting.ensures.trail
          ∙ ap (λ (t : TrailState). t.depth) c.remove_all.ensures.trail ∙ may.grounded.ground;
    }
