-- the best item goes from the work list to the reducer
use Rattle.std.proofs.Common.{◌∙◌}
use Rattle.gr_diary.specs.declared.entries.Entry.TheVariants.{Take}
use Rattle.gr_bench.specs.Tables.{table_of}
use Rattle.gr_bench.proofs.Pushed.{grown, behind, behind-as}
use Rattle.gr_bench.proofs.GivenSteps.{item-held, item-clause, item-free, best-offer, given-step, some-work}
use Rattle.gr_bench.proofs.benches.Bench.take_item.Goals as goal

pub take-requires-clause-apart : goal.take-requires-clause-apart
take-requires-clause-apart c =
    let i = c.self.inside in
    item-free c.args.self.now i.formula i.reducers i.capacity i.diary (table_of i.books) c.self.view_is
    c.self.invariant c.args.item c.requires.best c.args.actor c.requires.able

pub take-requires-clause-work : goal.take-requires-clause-work
take-requires-clause-work c =
    let i = c.self.inside in
    item-held c.args.self.now i.formula i.reducers i.capacity i.diary (table_of i.books) c.self.view_is
    c.self.invariant c.args.item c.requires.best

pub take-requires-clause-clause : goal.take-requires-clause-clause
take-requires-clause-clause c =
    let i = c.self.inside in
    item-clause c.args.self.now i.formula i.reducers i.capacity i.diary (table_of i.books) c.self.view_is
    c.self.invariant c.args.item c.requires.best

pub invariant_of-self-2 : goal.invariant_of-self-2
invariant_of-self-2 c =
    let i = c.self.inside in
    given-step c.args.self.now i.formula i.reducers i.capacity i.diary (table_of i.books) c.self.view_is
    c.self.invariant c.args.item c.requires.best c.requires.still c.push.new.self (table_of c.take.new.self)
    (c.push.ensures.first ∙ c.in_ok-reserve.ensures.first) (c.push.ensures.close ∙ c.in_ok-reserve.ensures.close)
    c.args.actor c.requires.able c.in_ok-clause.ensures.ok
    (behind _ c.push.ensures.entries c.in_ok-reserve.ensures.entries)
    (behind-as c.push.ensures.left c.in_ok-reserve.ensures.left c.new-left.ensures)

pub returns-clause-ok : goal.returns-clause-ok
returns-clause-ok c =
    let i = c.self.inside in
    grown c.args.self.now i.formula i.reducers i.capacity i.diary c.self.view_is c.self.invariant.tells
    c.requires.still
    (Take c.args.actor) c.requires.able (some-work _ c.args.item c.requires.best) c.push.new.self
    (behind _ c.push.ensures.entries c.in_ok-reserve.ensures.entries)

pub returns-clause-best : goal.returns-clause-best
returns-clause-best c =
    let i = c.self.inside in
    best-offer c.args.self.now i.formula i.reducers i.capacity i.diary (table_of i.books) c.self.view_is
    c.self.invariant c.args.item c.requires.best c.in_ok-clause.clause c.in_ok-clause.ensures.clause
