-- the first result goes to the searching thread, and what it stands for is let go
use Rattle.std.proofs.Common.{◌≡◌, ◌∙◌, ap, sym, subst, filter, option_to_list}
use Rattle.gr_diary.specs.declared.entries.Entry.TheVariants.{Import}
use Rattle.gr_bench.specs.Lone.{is_lone}
use Rattle.gr_bench.specs.Tables.{Table, table_of, held_old, held_old_of, forgotten_by, HoldsEach}
use Rattle.gr_bench.proofs.Pushed.{grown, unchanged, behind}
use Rattle.gr_bench.proofs.ImportSteps.{apart, dropped-held, first-result, imported-step}
use Rattle.gr_bench.proofs.benches.Bench.import_first.Goals as goal

pub take_over-requires : goal.take_over-requires
take_over-requires c = let i = c.self.inside in record {
  apart = apart c.args.self.now i.formula i.reducers i.capacity i.diary (table_of i.books) c.self.view_is
      c.self.invariant c.requires.still c.requires.some;
}

pub let_go-requires-clause-held : goal.let_go-requires-clause-held
let_go-requires-clause-held c =
    let i = c.self.inside in
    let ids : option_to_list c.held_old-old.result ≡ held_old i.books.holders c.in_ok-first.first.old =
    c.held_old-old.ensures ∙ ap (λ z. held_old_of z i.books.holders) c.in_ok-first.ensures.first in
    subst (HoldsEach c.take_over.new.self.holders 0) (sym ids)
    (subst (λ h. HoldsEach h 0 (held_old i.books.holders c.in_ok-first.first.old))
    (sym (ap (λ (t : Table). t.holders) c.in_ok-first.ensures.ok))
    (dropped-held c.args.self.now i.formula i.reducers i.capacity i.diary (table_of i.books) c.self.view_is
    c.self.invariant c.requires.still c.requires.some c.in_ok-first.first c.take_over.new.self.results.items
    c.in_ok-first.ensures.first))

pub invariant_of-self-in_err-first : goal.invariant_of-self-in_err-first
invariant_of-self-in_err-first c =
    let i = c.self.inside in
    unchanged i.formula i.reducers i.capacity i.diary (table_of i.books) c.self.invariant c.reserve.new.self
    (table_of c.take_over.new.self) c.in_ok-reserve.ensures.first c.in_ok-reserve.ensures.entries
    c.in_ok-reserve.ensures.left c.in_ok-reserve.ensures.close c.in_err-first.ensures.err

pub invariant_of-self-2 : goal.invariant_of-self-2
invariant_of-self-2 c =
    let i = c.self.inside in
    let ids : option_to_list c.held_old-old.result ≡ held_old i.books.holders c.in_ok-first.first.old =
    c.held_old-old.ensures ∙ ap (λ z. held_old_of z i.books.holders) c.in_ok-first.ensures.first in
    imported-step c.args.self.now i.formula i.reducers i.capacity i.diary (table_of i.books) c.self.view_is
    c.self.invariant c.requires.still c.requires.some c.in_ok-first.first c.take_over.new.self.results.items
    c.in_ok-first.ensures.first c.push.new.self (table_of c.let_go.new.self) c.in_ok-left.left
    (c.push.ensures.first ∙ c.in_ok-reserve.ensures.first) (c.push.ensures.close ∙ c.in_ok-reserve.ensures.close)
    (c.let_go.ensures ∙ (λ j. forgotten_by 0 (ids j) (c.in_ok-first.ensures.ok j)))
    (c.in_ok-left.ensures ∙ ap (filter (is_lone i.books.holders)) ids)
    (behind _ c.push.ensures.entries c.in_ok-reserve.ensures.entries)
    (behind _ c.push.ensures.left c.in_ok-reserve.ensures.left)

pub returns-clause-ok : goal.returns-clause-ok
returns-clause-ok c =
    let i = c.self.inside in (
      grown c.args.self.now i.formula i.reducers i.capacity i.diary c.self.view_is c.self.invariant.tells
          c.requires.still
          (Import) tt c.requires.some c.push.new.self
          (behind _ c.push.ensures.entries c.in_ok-reserve.ensures.entries),
      first-result c.args.self.now i.formula i.reducers i.capacity i.diary (table_of i.books) c.self.view_is
          c.self.invariant c.requires.still c.requires.some c.in_ok-first.first c.take_over.new.self.results.items
          c.in_ok-first.ensures.first,
    )
