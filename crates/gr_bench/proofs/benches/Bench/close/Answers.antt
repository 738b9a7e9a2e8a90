-- `Close` is the one entry that needs no room of its own
use Rattle.std.proofs.Common.{refl}
use Rattle.gr_diary.specs.declared.entries.Entry.TheVariants.{Close}
use Rattle.gr_bench.specs.Tables.{table_of}
use Rattle.gr_bench.proofs.Pushed.{grown}
use Rattle.gr_bench.proofs.QuietSteps.{closed-step}
use Rattle.gr_bench.proofs.benches.Bench.close.Goals as goal

pub invariant_of-self : goal.invariant_of-self
invariant_of-self c =
    let i = c.self.inside in
    closed-step c.args.self.now i.formula i.reducers i.capacity i.diary (table_of i.books) c.self.view_is
    c.self.invariant (c.if-is_closed.ensures.still refl) c.push_close.new.self
    (table_of c.end_if.new.self) c.push_close.ensures.first c.end_if.ensures c.push_close.ensures.entries
    c.push_close.ensures.left

pub returns-clause-done : goal.returns-clause-done
returns-clause-done c _ =
    let i = c.self.inside in
    grown c.args.self.now i.formula i.reducers i.capacity i.diary c.self.view_is c.self.invariant.tells
    (c.if-is_closed.ensures.still refl) Close tt tt c.push_close.new.self c.push_close.ensures.entries
