-- what an accepted log says of its formula
use Rattle.std.proofs.Common.{◌≡◌, ◌+◌, true, [], drop, None, sym, ap, ◌∙◌}
use Rattle.std.proofs.Math.ListN.{drop_of_length-le}
use Rattle.gr_logic.specs.Log.{refusal, refusal_from, opening, state_after}
use Rattle.gr_logic.proofs.LogSound.{accepts-sound}
use Rattle.gr_check.specs.declared.refusals.Finish.TheVariants.{Verified}
use Rattle.gr_check.proofs.whole_logs.check_all.Goals as goal

-- an accepted log refutes its formula
pub returns-clause-unsatisfiable : goal.returns-clause-unsatisfiable
returns-clause-unsatisfiable c is =
    let verified : c.finish.result ≡ Verified = cc in
    let done : drop c.loop-i.i c.args.lines.now ≡ [] =
    drop_of_length-le c.args.lines.now c.loop-i-test.false in
    let accepted : refusal c.args.formula.now c.args.lines.now ≡ None =
    sym c.loop-i.invariant.same_refusal
    ∙ ap (refusal_from (c.loop-i.i + 1) c.loop-i.checker) done in
    let refuted : (state_after (opening c.args.formula.now) c.args.lines.now).refuted ≡ true =
    ap (λ s. s.refuted) (sym c.loop-i.invariant.same_end
    ∙ ap (state_after c.loop-i.checker) done) ∙ c.finish.ensures.0 verified in
    accepts-sound c.args.formula.now c.args.lines.now (accepted, refuted)
