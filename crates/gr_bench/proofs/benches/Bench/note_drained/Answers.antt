-- nothing changes but the history
use Rattle.std.proofs.Common.{◌∙◌, refl}
use Rattle.gr_diary.specs.declared.entries.Entry.TheVariants.{Drained}
use Rattle.gr_bench.specs.Tables.{table_of}
use Rattle.gr_bench.proofs.Pushed.{grown, behind, behind-as}
use Rattle.gr_bench.proofs.QuietSteps.{drained-step}
use Rattle.gr_bench.proofs.benches.Bench.note_drained.Goals as goal

pub invariant_of-self-2 : goal.invariant_of-self-2
invariant_of-self-2 c =
    let i = c.self.inside in
    drained-step c.args.self.now i.formula i.reducers i.capacity i.diary (table_of i.books) c.self.view_is
    c.self.invariant c.requires.still c.push.new.self (table_of i.books)
    (c.push.ensures.first ∙ c.in_ok-reserve.ensures.first) (c.push.ensures.close ∙ c.in_ok-reserve.ensures.close)
    c.requires.none refl
    (behind _ c.push.ensures.entries c.in_ok-reserve.ensures.entries)
    (behind-as c.push.ensures.left c.in_ok-reserve.ensures.left c.new-left.ensures)

pub returns-clause-ok : goal.returns-clause-ok
returns-clause-ok c =
    let i = c.self.inside in (
      grown c.args.self.now i.formula i.reducers i.capacity i.diary c.self.view_is c.self.invariant.tells
          c.requires.still
          (Drained) tt c.requires.none c.push.new.self
          (behind _ c.push.ensures.entries c.in_ok-reserve.ensures.entries),
      c.requires.none,
    )
