-- the learnt clause is held by the searching thread
use Rattle.std.proofs.Common.{◌∙◌, ap, false}
use Rattle.gr_diary.specs.declared.entries.Entry.TheVariants.{Learn}
use Rattle.gr_bench.specs.Tables.{table_of, ended_if}
use Rattle.gr_bench.proofs.Pushed.{grown, behind, behind-as}
use Rattle.gr_bench.proofs.KeptSteps.{next-free, learnt-step}
use Rattle.gr_bench.proofs.benches.Bench.learn_kept.Goals as goal

pub keep-requires-clause-apart : goal.keep-requires-clause-apart
keep-requires-clause-apart c =
    let i = c.self.inside in
    next-free i.formula i.reducers i.capacity i.diary (table_of i.books) c.self.invariant 0

pub invariant_of-self-2 : goal.invariant_of-self-2
invariant_of-self-2 c =
    let i = c.self.inside in
    learnt-step c.args.self.now i.formula i.reducers i.capacity i.diary (table_of i.books) c.self.view_is
    c.self.invariant c.requires.still c.push.new.self (table_of c.end_if.new.self)
    (c.push.ensures.first ∙ c.in_ok-reserve.ensures.first) (c.push.ensures.close ∙ c.in_ok-reserve.ensures.close)
    c.args.clause c.args.hints c.args.lbd c.is_empty-ends.result c.requires.able c.is_empty-ends.ensures
    (c.end_if.ensures ∙ ap (ended_if c.is_empty-ends.result) c.in_ok-keep.ensures.ok)
    (behind _ c.push.ensures.entries c.in_ok-reserve.ensures.entries)
    (behind-as c.push.ensures.left c.in_ok-reserve.ensures.left c.new-left.ensures)

pub returns-clause-ok : goal.returns-clause-ok
returns-clause-ok c =
    let i = c.self.inside in
    grown c.args.self.now i.formula i.reducers i.capacity i.diary c.self.view_is c.self.invariant.tells
    c.requires.still
    (Learn c.args.clause c.args.hints c.args.lbd false) c.requires.able tt c.push.new.self
    (behind _ c.push.ensures.entries c.in_ok-reserve.ensures.entries)
