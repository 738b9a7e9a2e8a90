use Rattle.std.proofs.Common.{◌∙◌, sym, ap}
use Rattle.std.specs.HashSet as set
use Rattle.gr_logic.specs.Literals.{negation}
use Rattle.gr_logic.specs.Seen.{same_code}
use Rattle.gr_logic.specs.NormalForms.{with_new}
use Rattle.gr_logic.proofs.FirstOccurrences.{first_occurrences-next, members-front, apart-next, tautology-at}
use Rattle.gr_logic.proofs.normalizing.normal_by_set.Goals as goal

-- the test says whether the front has the negation
pub returns-then-contains : goal.returns-then-contains
returns-then-contains c =
    let x = c.lit-item.result in
    tautology-at c.args.lits.now c.loop-lit.lit-index x c.loop-lit-test.true c.lit-item.is
    (members-front c.args.lits.now c.loop-lit.firsts c.loop-lit.lit-index (negation x) c.loop-lit.invariant.firsts
    ∙ sym (c.loop-lit.invariant.seen (negation x))
    ∙ ap (set.contains same_code c.loop-lit.seen) (sym c.negate.ensures)
    ∙ sym c.contains.ensures
    ∙ c.if-contains.true)

pub loop-lit-preserved : goal.loop-lit-preserved
loop-lit-preserved c =
    let x = c.lit-item.result in
    record {
      firsts =
          c.in_ok-push_unseen.ensures.ok
          ∙ ap (λ ls. with_new ls x) c.loop-lit.invariant.firsts
          ∙ sym (first_occurrences-next c.args.lits.now c.loop-lit.lit-index x c.loop-lit-test.true c.lit-item.is);
      seen = c.in_ok-push_unseen.ensures.seen;
      apart =
          apart-next c.args.lits.now c.loop-lit.lit-index x c.loop-lit-test.true c.lit-item.is
          c.loop-lit.invariant.apart
          (members-front c.args.lits.now c.loop-lit.firsts c.loop-lit.lit-index (negation x) c.loop-lit.invariant.firsts
          ∙ sym (c.loop-lit.invariant.seen (negation x))
          ∙ ap (set.contains same_code c.loop-lit.seen) (sym c.negate.ensures)
          ∙ sym c.contains.ensures
          ∙ c.if-contains.false);
    }
