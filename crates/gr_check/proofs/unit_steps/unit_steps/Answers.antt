-- one more literal of the lemma is marked
use Rattle.std.proofs.Common.{◌≡◌, ◌∙◌, ◌+◌, ℕ, ap, sym, arith, drop, get_or, Some, None}
use Rattle.std.proofs.lemmas.Grind.{common_steps}
use Rattle.std.specs.Prelude.{option_map, slice_get}
use Rattle.std.specs.FinMap.{get}
use Rattle.gr_logic.specs.Literals.{negation}
use Rattle.gr_logic.specs.Rup.{with_literal, members, steps}
use Rattle.gr_check.specs.Runs.{lits_of, lits_in}
use Rattle.gr_check.proofs.Hints.{steps-forces, steps-falsified}
use Rattle.gr_check.proofs.Negations.{negated-next}
use Rattle.gr_check.proofs.unit_steps.unit_steps.Goals as goal

pub loop-lit-preserved : goal.loop-lit-preserved
loop-lit-preserved c = record {
  same_vars = c.in_ok-add.ensures.vars ∙ c.loop-lit.invariant.same_vars;
  marked =
      c.in_ok-add.ensures.ok
      ∙ ap (with_literal (members c.loop-lit.marks.list)) c.negate.ensures
      ∙ ap (λ set. with_literal set (negation c.lit-item.result)) c.loop-lit.invariant.marked
      ∙ sym (negated-next c.args.lemma.now c.loop-lit.lit-index c.lit-item.result
      c.loop-lit-test.true c.lit-item.is);
}

pub returns-in-Falsified-clause-ok : goal.returns-in-Falsified-clause-ok
returns-in-Falsified-clause-ok c =
    let id : ℕ = get_or c.args.hints.now c.loop-i.i 0 in
    let place : get_or c.locate.new.places.items c.loop-i.i None ≡ Some c.in-Some.run' =
    grind (arith, common_steps) in
    let clause : get c.args.pool.now id ≡ Some c.lits_at.result.now =
    c.in_ok-lits.ensures.found c.loop-i.i c.loop-i-test.true
    ∙ ap (option_map (lits_of c.in_ok-lits.lits.now)) place
    ∙ ap Some (sym c.lits_at.ensures) in
    sym c.loop-i.invariant.same_answer
    ∙ steps-falsified (get c.args.pool.now)
    (members c.loop-i.marks.list) c.args.hints.now c.loop-i.i c.lits_at.result.now
    c.loop-i-test.true clause (sym c.in-Falsified.ensures.reading)

pub loop-i-preserved : goal.loop-i-preserved
loop-i-preserved c =
    let id : ℕ = get_or c.args.hints.now c.loop-i.i 0 in
    let place : get_or c.locate.new.places.items c.loop-i.i None ≡ Some c.in-Some.run' =
    grind (arith, common_steps) in
    let clause : get c.args.pool.now id ≡ Some c.lits_at.result.now =
    c.in_ok-lits.ensures.found c.loop-i.i c.loop-i-test.true
    ∙ ap (option_map (lits_of c.in_ok-lits.lits.now)) place
    ∙ ap Some (sym c.lits_at.ensures) in
    record {
      same_vars = c.in_ok-add-in-Forces.ensures.vars ∙ c.loop-i.invariant.same_vars;
      same_answer =
          ap (λ set. steps (get c.args.pool.now) set (drop (c.loop-i.i + 1) c.args.hints.now))
          c.in_ok-add-in-Forces.ensures.ok
          ∙ steps-forces (get c.args.pool.now)
          (members c.loop-i.marks.list) c.args.hints.now c.loop-i.i c.lits_at.result.now
          c.in-Forces.lit c.loop-i-test.true clause (sym c.in-Forces.ensures.reading)
          ∙ c.loop-i.invariant.same_answer;
    }

pub read_clause-requires-clause-first : goal.read_clause-requires-clause-first
read_clause-requires-clause-first c =
    let place : get_or c.locate.new.places.items c.loop-i.i None ≡ Some c.in-Some.run' =
    grind (arith, common_steps) in
    let first : get_or c.locate.new.firsts.items c.loop-i.i None ≡ c.index-in-Some.result.now =
    grind (arith, common_steps) in
    sym first ∙ c.in_ok-lits.ensures.first c.loop-i.i c.loop-i-test.true
    ∙ ap (λ x. slice_get (lits_in c.in_ok-lits.lits.now x) 0) place
    ∙ ap (λ ls. slice_get ls 0) (sym c.lits_at.ensures)
