use Rattle.std.proofs.Common.{ap, ◌∙◌}
use Rattle.std.specs.FinSet as set
use Rattle.gr_logic.proofs.FiniteSets.{flagged-insert}
use Rattle.gr_logic.proofs.literal_sets.LitSet.add.Goals as goal

pub returns-clause-ok : goal.returns-clause-ok
returns-clause-ok c =
    flagged-insert c.self.inside.flags.items c.set_flag.new.flags.items c.args.lit
    (λ i. rw c.code.ensures.code at (c.in_ok-set_flag.ensures.ok i))
    ∙ ap (λ s. set.insert s c.args.lit) c.self.view_is
