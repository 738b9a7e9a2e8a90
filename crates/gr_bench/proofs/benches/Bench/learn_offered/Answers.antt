-- the learnt clause is on offer, and what it drives out is not
use Rattle.std.proofs.Common.{◌∙◌, ap, true, length, filter, arith, ◌<◌, ◌≡◌, ◌^◌, List}
use Rattle.gr_logic.specs.Literals.{Literal}
use Rattle.gr_diary.specs.declared.entries.Entry.TheVariants.{Learn}
use Rattle.gr_bench.specs.Lone.{is_lone}
use Rattle.gr_bench.specs.Tables.{table_of, offered}
use Rattle.gr_bench.proofs.Pushed.{grown, unchanged, behind}
use Rattle.gr_bench.proofs.KeptSteps.{next-free}
use Rattle.gr_bench.proofs.OfferSteps.{next-new, next-no_offer, work-held, clause-short, offered-step}
use Rattle.gr_bench.proofs.benches.Bench.learn_offered.Goals as goal

pub overflow_cast-item : goal.overflow_cast-item
overflow_cast-item c =
    let i = c.self.inside in
    let few = c.self.invariant.vars in
    let short = clause-short c.args.self.now i.formula i.reducers i.capacity i.diary (table_of i.books)
    c.self.view_is c.self.invariant c.requires.still c.args.clause c.args.hints c.args.lbd c.requires.able in
    let same : length c.lits.result.now ≡ length c.args.clause =
    ap (λ (z : List Literal). length z) c.lits.ensures in
    let fits : length c.lits.result.now < 2 ^ 32 = omega arith in record { fits = fits }

pub offer-requires-clause-held : goal.offer-requires-clause-held
offer-requires-clause-held c =
    let i = c.self.inside in
    next-free i.formula i.reducers i.capacity i.diary (table_of i.books) c.self.invariant 0

pub offer-requires-clause-apart : goal.offer-requires-clause-apart
offer-requires-clause-apart c =
    let i = c.self.inside in
    next-no_offer i.formula i.reducers i.capacity i.diary (table_of i.books) c.self.invariant

pub offer-requires-clause-new : goal.offer-requires-clause-new
offer-requires-clause-new c =
    let i = c.self.inside in
    next-new i.formula i.reducers i.capacity i.diary (table_of i.books) c.self.invariant

pub offer-requires-clause-work : goal.offer-requires-clause-work
offer-requires-clause-work c =
    let i = c.self.inside in
    work-held i.formula i.reducers i.capacity i.diary (table_of i.books) c.self.invariant

pub invariant_of-self-in_err-offer : goal.invariant_of-self-in_err-offer
invariant_of-self-in_err-offer c =
    let i = c.self.inside in
    unchanged i.formula i.reducers i.capacity i.diary (table_of i.books) c.self.invariant c.reserve.new.self
    (table_of c.offer.new.self) c.in_ok-reserve.ensures.first c.in_ok-reserve.ensures.entries
    c.in_ok-reserve.ensures.left c.in_ok-reserve.ensures.close c.in_err-offer.ensures.err

pub invariant_of-self-2 : goal.invariant_of-self-2
invariant_of-self-2 c =
    let i = c.self.inside in
    offered-step c.args.self.now i.formula i.reducers i.capacity i.diary (table_of i.books) c.self.view_is
    c.self.invariant c.requires.still c.args.clause c.args.hints c.args.lbd c.requires.able c.push.new.self
    (table_of c.offer.new.self)
    (record { id = c.in_ok-id.id; lbd = c.args.lbd; len = length c.lits.result.now }) c.in_ok-left.left
    (c.push.ensures.first ∙ c.in_ok-reserve.ensures.first) (c.push.ensures.close ∙ c.in_ok-reserve.ensures.close)
    (λ i. record { id = c.in_ok-id.ensures.id i; lbd = c.args.lbd; len = length (c.lits.ensures i) })
    (c.in_ok-offer.ensures.ok ∙ ap (λ z. offered (record {
      id = c.in_ok-id.id;
      lbd = c.args.lbd;
      len = length c.lits.result.now;
    }) z (table_of i.books)) c.in_ok-copy.ensures)
    (c.in_ok-left.ensures ∙ ap (filter (is_lone i.books.holders)) c.replaced-replaced.ensures)
    (behind _ c.push.ensures.entries c.in_ok-reserve.ensures.entries)
    (behind _ c.push.ensures.left c.in_ok-reserve.ensures.left)

pub returns-clause-ok : goal.returns-clause-ok
returns-clause-ok c =
    let i = c.self.inside in
    grown c.args.self.now i.formula i.reducers i.capacity i.diary c.self.view_is c.self.invariant.tells
    c.requires.still
    (Learn c.args.clause c.args.hints c.args.lbd true) c.requires.able tt c.push.new.self
    (behind _ c.push.ensures.entries c.in_ok-reserve.ensures.entries)
