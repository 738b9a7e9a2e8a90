use Rattle.std.proofs.Common.{refl, ap, ◌∙◌, arith}
use Rattle.std.specs.FinMap as finite
use Rattle.std.specs.FinSet as set
use Rattle.std.specs.Ordering.{nat_cmp}
use Rattle.gr_strengthen.specs.Families.{KeptClauses}
use Rattle.gr_strengthen.specs.Strengtheners.{StrengthenerState}
use Rattle.gr_strengthen.proofs.Unkept.{unkept-insert}
use Rattle.gr_strengthen.proofs.tests.calls.keep_all.Goals as goal

pub loop-clause-init : goal.loop-clause-init
loop-clause-init c = record {
  formula = refl;
  vars = c.requires.vars;
  above = c.requires.above;
  unused = λ id low. ap (λ (kept : KeptClauses). finite.get kept id) c.requires.unused ∙ finite.get-empty nat_cmp id;
}

pub loop-clause-preserved : goal.loop-clause-preserved
loop-clause-preserved c =
    let e = c.in_ok-keep.ensures in
    let was = c.loop-clause.invariant in
    record {
      formula = ap (λ (v : StrengthenerState). v.formula) e ∙ was.formula;
      vars = ap (λ (v : StrengthenerState). v.formula.vars) e ∙ was.vars;
      above = (let a = was.above in omega (arith, a));
      unused = λ id low. ap (λ (v : StrengthenerState). finite.get v.kept id) e
          ∙ unkept-insert c.loop-clause.strengthener.kept c.in_ok-taken.taken.id id
          (set.from_list c.in_ok-taken.taken.clause)
          (let i = c.in_ok-taken.ensures.id in omega (arith, low, i))
          (was.unused id (omega (arith, low)));
    }
