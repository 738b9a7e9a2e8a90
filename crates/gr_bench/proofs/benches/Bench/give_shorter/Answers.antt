-- the shorter clause is a result, and the reducer lets the taken one go
use Rattle.std.proofs.Common.{◌∙◌, ap, sym, subst, refl, None, filter, option_to_list}
use Rattle.gr_logic.specs.declared.items.Strengthened.TheVariants.{Shorter}
use Rattle.gr_diary.specs.declared.entries.Entry.TheVariants.{Return}
use Rattle.gr_bench.specs.Lone.{is_lone}
use Rattle.gr_bench.specs.Tables.{Table, table_of, ended_if, noted_taken, forgotten_by, HoldsEach}
use Rattle.gr_bench.proofs.Pushed.{grown, unchanged, behind}
use Rattle.gr_bench.proofs.KeptSteps.{next-free, next-no_result}
use Rattle.gr_bench.proofs.ShortSteps.{held-taken, shortened-step}
use Rattle.gr_bench.proofs.benches.Bench.give_shorter.Goals as goal

pub share-requires-clause-held : goal.share-requires-clause-held
share-requires-clause-held c = next-free _ _ _ _ _ c.self.invariant c.args.actor

pub share-requires-clause-apart : goal.share-requires-clause-apart
share-requires-clause-apart c = next-no_result _ _ _ _ _ c.self.invariant

pub let_go-requires-clause-held : goal.let_go-requires-clause-held
let_go-requires-clause-held c =
    let i = c.self.inside in
    subst (λ h. HoldsEach h c.args.actor (option_to_list ((table_of i.books).taken c.args.actor)))
    (sym (ap (λ (t : Table). t.holders) c.in_ok-share.ensures.ok))
    (held-taken c.args.self.now i.formula i.reducers i.capacity i.diary (table_of i.books) c.self.view_is
    c.self.invariant c.requires.still c.args.actor c.args.clause c.args.hints c.requires.able
    (record { old = (table_of i.books).taken c.args.actor; id = c.in_ok-id.id; clause = c.in_ok-copy.copy }))

pub invariant_of-self-in_err-share : goal.invariant_of-self-in_err-share
invariant_of-self-in_err-share c =
    let i = c.self.inside in
    unchanged i.formula i.reducers i.capacity i.diary (table_of i.books) c.self.invariant c.reserve.new.self
    (table_of c.share.new.self) c.in_ok-reserve.ensures.first c.in_ok-reserve.ensures.entries
    c.in_ok-reserve.ensures.left c.in_ok-reserve.ensures.close c.in_err-share.ensures.err

pub invariant_of-self-2 : goal.invariant_of-self-2
invariant_of-self-2 c =
    let i = c.self.inside in
    shortened-step c.args.self.now i.formula i.reducers i.capacity i.diary (table_of i.books) c.self.view_is
    c.self.invariant c.requires.still c.args.actor c.args.clause c.args.hints c.requires.able
    (record { old = (table_of i.books).taken c.args.actor; id = c.in_ok-id.id; clause = c.in_ok-copy.copy })
    c.is_empty-ends.result c.push.new.self (table_of c.end_if.new.self) c.in_ok-left.left refl
    c.in_ok-id.ensures.id c.in_ok-copy.ensures c.is_empty-ends.ensures
    (c.push.ensures.first ∙ c.in_ok-reserve.ensures.first) (c.push.ensures.close ∙ c.in_ok-reserve.ensures.close)
    (c.end_if.ensures ∙ ap (ended_if c.is_empty-ends.result)
    (c.note_taken.ensures ∙ ap (noted_taken c.args.actor None)
    (c.let_go.ensures ∙ ap (forgotten_by c.args.actor (option_to_list ((table_of i.books).taken c.args.actor)))
    c.in_ok-share.ensures.ok)))
    (c.in_ok-left.ensures
    ∙ ap (λ o. filter (is_lone i.books.holders) (option_to_list o)) c.unless-candidate.ensures)
    (behind _ c.push.ensures.entries c.in_ok-reserve.ensures.entries)
    (behind _ c.push.ensures.left c.in_ok-reserve.ensures.left)

pub returns-clause-ok : goal.returns-clause-ok
returns-clause-ok c =
    let i = c.self.inside in
    grown c.args.self.now i.formula i.reducers i.capacity i.diary c.self.view_is c.self.invariant.tells
    c.requires.still
    (Return c.args.actor (Shorter c.args.clause c.args.hints)) c.requires.able tt c.push.new.self
    (behind _ c.push.ensures.entries c.in_ok-reserve.ensures.entries)
