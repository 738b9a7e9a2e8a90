-- the set has one more member
use Rattle.gr_logic.proofs.Members.{members-push}
use Rattle.gr_check.proofs.marks.Marks.add.Goals as goal

pub returns-clause-ok : goal.returns-clause-ok
returns-clause-ok c =
    rw (← c.self.view_is, c.in_ok-push.ensures.items)
    (members-push c.self.inside.marked.items c.args.lit)
