-- the reducer has taken nothing then
use Rattle.std.proofs.Common.{◌∙◌}
use Rattle.gr_diary.specs.declared.entries.Entry.TheVariants.{Return}
use Rattle.gr_logic.specs.declared.items.Strengthened.TheVariants.{Same}
use Rattle.gr_bench.specs.Tables.{table_of}
use Rattle.gr_bench.proofs.Pushed.{grown, behind, behind-as}
use Rattle.gr_bench.proofs.QuietSteps.{same-step}
use Rattle.gr_bench.proofs.benches.Bench.give_same.Goals as goal

pub invariant_of-self-2 : goal.invariant_of-self-2
invariant_of-self-2 c =
    let i = c.self.inside in
    same-step c.args.self.now i.formula i.reducers i.capacity i.diary (table_of i.books) c.self.view_is
    c.self.invariant c.requires.still c.push.new.self (table_of c.note_taken.new.self)
    (c.push.ensures.first ∙ c.in_ok-reserve.ensures.first) (c.push.ensures.close ∙ c.in_ok-reserve.ensures.close)
    c.args.actor c.requires.able c.note_taken.ensures
    (behind _ c.push.ensures.entries c.in_ok-reserve.ensures.entries)
    (behind-as c.push.ensures.left c.in_ok-reserve.ensures.left c.new-left.ensures)

pub returns-clause-ok : goal.returns-clause-ok
returns-clause-ok c =
    let i = c.self.inside in
    grown c.args.self.now i.formula i.reducers i.capacity i.diary c.self.view_is c.self.invariant.tells
    c.requires.still
    (Return c.args.actor Same) c.requires.able tt c.push.new.self
    (behind _ c.push.ensures.entries c.in_ok-reserve.ensures.entries)
