use Rattle.std.proofs.Common.{None, false, ap, ◌∙◌}
use Rattle.gr_prop.specs.Bases.{clauses_in}
use Rattle.gr_prop.proofs.Deciding.{kept-empty, paired-empty, empty-clauses}
use Rattle.gr_prop.proofs.bases.Base.new.Goals as goal

pub invariant_of-result : goal.invariant_of-result
invariant_of-result c =
    rw (
      c.new-4.ensures,
      c.in_ok-trail.ensures,
      c.in_ok-watches.ensures,
      c.in_ok-pairs.ensures,
      c.new-5.ensures,
      c.new-6.ensures.items,
    ) (kept-empty c.args.vars, paired-empty c.args.vars)

pub returns : goal.returns
returns c = λ i. record {
  clauses = (ap (λ a. clauses_in a.clauses) c.new-4.ensures ∙ empty-clauses) i;
  trail = c.in_ok-trail.ensures i;
  quiet = false;
  conflict = None;
}
