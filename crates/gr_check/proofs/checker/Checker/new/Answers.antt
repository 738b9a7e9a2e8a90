-- a new checker is at rest
use Rattle.std.proofs.Common.{nat_eq, ap, sym, ◌∙◌}
use Rattle.std.specs.List.{list_any}
use Rattle.std.specs.FinMap as finite
use Rattle.gr_check.proofs.Bounds.{empty-AreBounded, with_clauses-AreBounded}
use Rattle.gr_check.proofs.checker.Checker.new.Goals as goal

pub invariant_of-result : goal.invariant_of-result
invariant_of-result c = record {
  same_vars =
      ap (λ m. m.vars) c.in_ok-marks.ensures ∙ c.vars.ensures.vars ∙ sym c.vars-2.ensures.vars;
  unmarked = ap (λ m. m.list) c.in_ok-marks.ensures;
  none_leaving = λ q. ap (list_any (nat_eq q)) c.new-4.ensures.empty;
  within =
      rw (c.in_ok-pool.ensures, c.vars-2.ensures.vars, c.clauses.ensures.clauses)
      (with_clauses-AreBounded c.args.formula.now.vars c.args.formula.now.clauses finite.empty 1
      (empty-AreBounded c.args.formula.now.vars) c.clauses.ensures.within);
}
