use Rattle.std.proofs.Common.{◌≢◌, All, IsTrue, [], sym, ap, ◌∙◌, subst, arith, rules, refl}
use Rattle.std.proofs.lemmas.Grind.{common_steps}
use Rattle.gr_search.specs.Solvers.{IsForgettable}
use Rattle.gr_search.specs.Searches as search
use Rattle.gr_search.proofs.Forgettable.{weakest-forgettable}
use Rattle.gr_search.proofs.Asking.{may-forget}
use Rattle.gr_search.proofs.solving.Solver.ask_to_forget.Goals as goal

pub returns-clause-some : goal.returns-clause-some
returns-clause-some c =
    let s = c.args.self.now in
    let ids = c.in_ok-ids.ids in
    let weakest = c.in_ok-ids.ensures in
    let time : IsTrue c.may_forget.result = search rules in
    let some : ids ≢ [] = λ none. (let e = c.all.ensures in let f = c.is_empty.ensures in let g = c.if-is_empty.false in
    first_of (search rules, grind (arith, common_steps))) in
    record {
      stays = record { vars = refl; first_learnt = refl; keep_all = refl; limit = refl };
      clauses = refl;
      counts = refl;
      settled = omega arith;
      asking = (
        ap search.Forgetting (c.in_ok-from_slice.ensures.items ∙ c.all-2.ensures),
        some,
        weakest.rising,
        may-forget s ids _ c.requires.grounded (c.may_forget.ensures.0 time) c.requires.waits
            (weakest-forgettable s.base.clauses s.first_learnt ids weakest),
        c.if-self.false,
      );
    }

pub returns-clause-waiting : goal.returns-clause-waiting
returns-clause-waiting c =
    let s = c.args.self.now in
    let ids = c.in_ok-ids.ids in
    let time : IsTrue c.may_forget.result = search rules in
    record {
      steady = record { kept = c.requires.steady.kept; analyzer = c.requires.steady.analyzer };
      ready = may-forget s c.in_ok-from_slice.field-0.items _ c.requires.grounded (c.may_forget.ensures.0 time)
          c.requires.waits
          (subst (All (IsForgettable s.base.clauses s.first_learnt))
          (sym (c.in_ok-from_slice.ensures.items ∙ c.all-2.ensures))
          (weakest-forgettable s.base.clauses s.first_learnt ids c.in_ok-ids.ensures));
      more = c.requires.more;
    }
