-- what was let go by its last holder leaves
use Rattle.std.proofs.Common.{◌∙◌, ap, sym, subst}
use Rattle.gr_diary.specs.declared.entries.Entry.TheVariants.{Forget}
use Rattle.gr_bench.specs.Lone.{is_lone}
use Rattle.gr_bench.specs.Tables.{table_of, forgotten_by, HoldsEach}
use Rattle.gr_bench.proofs.Pushed.{grown, behind}
use Rattle.gr_bench.proofs.ForgetSteps.{ids-held, forgotten-step}
use Rattle.gr_bench.proofs.benches.Bench.forget_ids.Goals as goal
use Rattle.std.proofs.Common.{filter}

pub forget-requires-clause-held : goal.forget-requires-clause-held
forget-requires-clause-held c =
    let i = c.self.inside in
    subst (HoldsEach i.books.holders c.args.actor) (sym c.forgotten.ensures)
    (ids-held c.args.self.now i.formula i.reducers i.capacity i.diary (table_of i.books) c.self.view_is
    c.self.invariant c.requires.still c.args.actor c.args.ids c.requires.able)

pub invariant_of-self-2 : goal.invariant_of-self-2
invariant_of-self-2 c =
    let i = c.self.inside in
    forgotten-step c.args.self.now i.formula i.reducers i.capacity i.diary (table_of i.books) c.self.view_is
    c.self.invariant c.requires.still c.args.actor c.args.ids c.requires.able c.push.new.self
    (table_of c.forget.new.self) c.in_ok-left.left
    (c.push.ensures.first ∙ c.in_ok-reserve.ensures.first) (c.push.ensures.close ∙ c.in_ok-reserve.ensures.close)
    (c.forget.ensures ∙ ap (λ ids. forgotten_by c.args.actor ids (table_of i.books)) c.forgotten.ensures)
    (c.in_ok-left.ensures ∙ ap (filter (is_lone i.books.holders)) c.all.ensures)
    (behind _ c.push.ensures.entries c.in_ok-reserve.ensures.entries)
    (behind _ c.push.ensures.left c.in_ok-reserve.ensures.left)

pub returns-clause-ok : goal.returns-clause-ok
returns-clause-ok c =
    let i = c.self.inside in
    grown c.args.self.now i.formula i.reducers i.capacity i.diary c.self.view_is c.self.invariant.tells
    c.requires.still
    (Forget c.args.actor c.args.ids) c.requires.able tt c.push.new.self
    (behind _ c.push.ensures.entries c.in_ok-reserve.ensures.entries)
