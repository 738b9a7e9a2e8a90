-- the checker is at rest after an addition
use Rattle.std.proofs.Common.{ap, sym, ◌∙◌}
use Rattle.gr_check.proofs.Bounds.{insert-AreBounded, up_to}
use Rattle.gr_check.proofs.checker.Checker.add.Goals as goal

pub invariant_of-self-2 : goal.invariant_of-self-2
invariant_of-self-2 c = record {
  same_vars =
      ap (λ m. m.vars) c.clear.ensures ∙ c.unit_steps-outcome.ensures.vars
      ∙ c.self.invariant.same_vars;
  unmarked = ap (λ m. m.list) c.clear.ensures;
  none_leaving = c.self.invariant.none_leaving;
  within =
      rw c.in_ok-insert.ensures.ok
      (insert-AreBounded c.self.inside.vars c.self.inside.pool c.args.id c.args.lemma.now
      c.self.invariant.within
      (up_to c.self.inside.vars c.args.lemma.now
      (sym c.has_var_above.ensures ∙ c.if-has_var_above.false)));
}
