use Rattle.std.proofs.Common.{length, sym, ap, ◌∙◌, subst}
use Rattle.gr_logic.specs.Rup.{members}
use Rattle.gr_strengthen.specs.Walking.{IsSpentAt, IsSpentBy}
use Rattle.gr_strengthen.proofs.Shortened.{all-kept}
use Rattle.gr_strengthen.proofs.Concluded.{stop-has, stop-spent, stopped-outcome}
use Rattle.gr_strengthen.proofs.shortening.conclude.Goals as goal

pub lits-requires : goal.lits-requires
lits-requires c =
    stop-has c.args.base.now c.arena-arena.result.now c.args.notes.now.kept c.args.clause.now c.in-Some.place
    c.arena-arena.ensures.clauses
    (subst (IsSpentAt c.args.base.now c.args.notes.now.kept c.args.clause.now) c.in-Some.is c.requires.walked.spent)

pub id-requires : goal.id-requires
id-requires c =
    stop-has c.args.base.now c.arena-arena.result.now c.args.notes.now.kept c.args.clause.now c.in-Some.place
    c.arena-arena.ensures.clauses
    (subst (IsSpentAt c.args.base.now c.args.notes.now.kept c.args.clause.now) c.in-Some.is c.requires.walked.spent)

pub shorten-requires-clause-spent : goal.shorten-requires-clause-spent
shorten-requires-clause-spent c =
    subst (λ ls. IsSpentBy c.args.base.now.trail.assigned c.args.notes.now.kept (members ls)) (sym c.lits.ensures)
    (stop-spent c.args.base.now c.arena-arena.result.now c.args.notes.now.kept c.args.clause.now c.in-Some.place
    c.arena-arena.ensures.clauses
    (subst (IsSpentAt c.args.base.now c.args.notes.now.kept c.args.clause.now) c.in-Some.is c.requires.walked.spent))

pub returns-then-lits-clause-clause-outcome : goal.returns-then-lits-clause-clause-outcome
returns-then-lits-clause-clause-outcome c k is none =
    all-kept k c.args.clause.now c.args.notes.now.kept (c.requires.walked.greedy k is) c.requires.walked.part
    (ap length (sym c.lits-in-None.ensures) ∙ c.if-lits-clause.true)

pub returns-in-Some-clause-outcome : goal.returns-in-Some-clause-outcome
returns-in-Some-clause-outcome c =
    stopped-outcome c.args.base.now c.arena-arena.result.now c.args.id c.args.clause.now c.args.notes.now.kept
    c.in-Some.place c.lits.result.now c.id.result c.shorten.result c.arena-arena.ensures.clauses
    (stop-has c.args.base.now c.arena-arena.result.now c.args.notes.now.kept c.args.clause.now c.in-Some.place
    c.arena-arena.ensures.clauses
    (subst (IsSpentAt c.args.base.now c.args.notes.now.kept c.args.clause.now) c.in-Some.is c.requires.walked.spent))
    c.lits.ensures c.id.ensures c.requires.walked.greedy c.shorten.ensures.outcome
