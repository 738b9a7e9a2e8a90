-- the unit clause is held by the searching thread
use Rattle.std.proofs.Common.{◌∙◌}
use Rattle.gr_diary.specs.declared.entries.Entry.TheVariants as entry
use Rattle.gr_bench.specs.Tables.{table_of}
use Rattle.gr_bench.proofs.Pushed.{grown, behind, behind-as}
use Rattle.gr_bench.proofs.KeptSteps.{next-free, unit-step}
use Rattle.gr_bench.proofs.benches.Bench.keep_unit.Goals as goal

pub keep-requires-clause-apart : goal.keep-requires-clause-apart
keep-requires-clause-apart c =
    let i = c.self.inside in
    next-free i.formula i.reducers i.capacity i.diary (table_of i.books) c.self.invariant 0

pub invariant_of-self-2 : goal.invariant_of-self-2
invariant_of-self-2 c =
    let i = c.self.inside in
    unit-step c.args.self.now i.formula i.reducers i.capacity i.diary (table_of i.books) c.self.view_is
    c.self.invariant c.requires.still c.push.new.self (table_of c.keep.new.self)
    (c.push.ensures.first ∙ c.in_ok-reserve.ensures.first) (c.push.ensures.close ∙ c.in_ok-reserve.ensures.close)
    c.args.lit c.args.hints c.requires.able c.in_ok-keep.ensures.ok
    (behind _ c.push.ensures.entries c.in_ok-reserve.ensures.entries)
    (behind-as c.push.ensures.left c.in_ok-reserve.ensures.left c.new-left.ensures)

pub returns-clause-ok : goal.returns-clause-ok
returns-clause-ok c =
    let i = c.self.inside in
    grown c.args.self.now i.formula i.reducers i.capacity i.diary c.self.view_is c.self.invariant.tells
    c.requires.still
    (entry.Unit 0 c.args.lit c.args.hints) c.requires.able tt c.push.new.self
    (behind _ c.push.ensures.entries c.in_ok-reserve.ensures.entries)
