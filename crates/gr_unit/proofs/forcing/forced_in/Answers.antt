use Rattle.std.proofs.Common.{◌∙◌, sym}
use Rattle.gr_logic.specs.Rup.{members}
use Rattle.gr_unit.proofs.Forced.{forced-by-test, has-none}
use Rattle.gr_unit.proofs.forcing.forced_in.Goals as goal

pub returns-then-are_others_false-clause-forced : goal.returns-then-are_others_false-clause-forced
returns-then-are_others_false-clause-forced c =
    forced-by-test (members c.args.derived.now) c.args.lits.now c.in-Some.lit c.in-Some.ensures.has
    (sym c.are_others_false.ensures ∙ c.if-are_others_false.true)

pub returns-clause-none : goal.returns-clause-none
returns-clause-none c =
    has-none (members c.args.derived.now) c.args.lits.now c.in-Some.lit c.in-Some.ensures.has c.in-Some.ensures.is_open
    (sym c.are_others_false.ensures ∙ c.if-are_others_false.false)
