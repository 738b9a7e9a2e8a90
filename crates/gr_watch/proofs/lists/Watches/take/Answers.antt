-- the literal has an empty list
use Rattle.std.proofs.Common.{ap, ◌∙◌}
use Rattle.gr_watch.proofs.Edits.{written}
use Rattle.gr_watch.proofs.lists.Watches.take.Goals as goal

pub returns-clause-rest : goal.returns-clause-rest
returns-clause-rest c = written _ _ _ c.args.self.now c.self.view_is c.self.invariant.0 c.args.lit
    c.requires c.code.result c.code.ensures.code _ _ (ap (λ list. list.items)
    c.replace.ensures.after ∙ c.new.ensures.items)
