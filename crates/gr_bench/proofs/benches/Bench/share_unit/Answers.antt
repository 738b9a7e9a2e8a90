-- the unit clause is a result, held by its reducer
use Rattle.std.proofs.Common.{◌∙◌, refl, None}
use Rattle.gr_diary.specs.declared.entries.Entry.TheVariants as entry
use Rattle.gr_bench.specs.Tables.{table_of}
use Rattle.gr_bench.proofs.Pushed.{grown, behind, behind-as}
use Rattle.gr_bench.proofs.KeptSteps.{next-free, next-no_result, shared-step}
use Rattle.gr_bench.proofs.benches.Bench.share_unit.Goals as goal

pub share-requires-clause-held : goal.share-requires-clause-held
share-requires-clause-held c = next-free _ _ _ _ _ c.self.invariant c.args.actor

pub share-requires-clause-apart : goal.share-requires-clause-apart
share-requires-clause-apart c = next-no_result _ _ _ _ _ c.self.invariant

pub invariant_of-self-2 : goal.invariant_of-self-2
invariant_of-self-2 c =
    let i = c.self.inside in
    shared-step c.args.self.now i.formula i.reducers i.capacity i.diary (table_of i.books) c.self.view_is
    c.self.invariant c.requires.still c.push.new.self (table_of c.share.new.self)
    (c.push.ensures.first ∙ c.in_ok-reserve.ensures.first) (c.push.ensures.close ∙ c.in_ok-reserve.ensures.close)
    c.args.actor c.args.lit c.args.hints (record { old = None; id = c.in_ok-id.id; clause = c.in_ok-clause.clause })
    c.requires.reducer c.requires.able refl c.in_ok-id.ensures.id c.in_ok-clause.ensures c.in_ok-share.ensures.ok
    (behind _ c.push.ensures.entries c.in_ok-reserve.ensures.entries)
    (behind-as c.push.ensures.left c.in_ok-reserve.ensures.left c.new-left.ensures)

pub returns-clause-ok : goal.returns-clause-ok
returns-clause-ok c =
    let i = c.self.inside in
    grown c.args.self.now i.formula i.reducers i.capacity i.diary c.self.view_is c.self.invariant.tells
    c.requires.still
    (entry.Unit c.args.actor c.args.lit c.args.hints) c.requires.able tt c.push.new.self
    (behind _ c.push.ensures.entries c.in_ok-reserve.ensures.entries)
