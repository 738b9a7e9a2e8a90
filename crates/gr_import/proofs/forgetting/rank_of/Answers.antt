use Rattle.std.proofs.Common.{sym, refl, ap, subst, IsSome, length, arith}
use Rattle.gr_import.proofs.Lent.{stored-as}
use Rattle.gr_import.proofs.Candidates.{one-rank, not-weak, lbd-read, len-read, candidate-at}
use Rattle.gr_import.proofs.forgetting.rank_of.Goals as goal

pub lbd-lbd-requires : goal.lbd-lbd-requires
lbd-lbd-requires c =
    let found = c.in_ok-place.ensures.some in
    let s = stored-as c.arena-arena.result.now.clauses c.args.base.now.clauses c.in_ok-place.place.0 found.0
    c.arena-arena.ensures.clauses found.1 in
    subst IsSome (sym s.1.0) refl

pub returns-then-lbd-lt3-clause-none : goal.returns-then-lbd-lt3-clause-none
returns-then-lbd-lt3-clause-none c =
    let found = c.in_ok-place.ensures.some in
    not-weak c.args.base.now c.args.first_learnt c.arena-arena.ensures.base c.in_ok-place.place.0 found.0
    c.lbd-lbd.result c.args.id found.1 found.2
    (lbd-read c.arena-arena.result.now.clauses c.args.base.now.clauses c.in_ok-place.place.0 found.0
    c.arena-arena.ensures.clauses found.1 c.lbd-lbd.result c.lbd-lbd.ensures)
    (omega (arith, c.if-lbd-lt3.true))

pub returns-clause-some : goal.returns-clause-some
returns-clause-some c =
    let found = c.in_ok-place.ensures.some in
    candidate-at c.args.base.now.clauses c.args.first_learnt c.in_ok-place.place.0 found.0 c.lbd-lbd.result
    (length c.lits.result.now) c.args.id found.1 found.2
    (lbd-read c.arena-arena.result.now.clauses c.args.base.now.clauses c.in_ok-place.place.0 found.0
    c.arena-arena.ensures.clauses found.1 c.lbd-lbd.result c.lbd-lbd.ensures)
    (len-read c.arena-arena.result.now.clauses c.args.base.now.clauses c.in_ok-place.place.0 found.0
    c.arena-arena.ensures.clauses found.1 c.arena-arena.ensures.normal (length c.lits.result.now)
    (ap length c.lits.ensures))
    (omega (arith, c.if-id-first_learnt.false)) (omega (arith, c.if-lbd-lt3.false))

pub returns-clause-one : goal.returns-clause-one
returns-clause-one c r x e =
    let found = c.in_ok-place.ensures.some in
    one-rank c.args.base.now c.args.first_learnt c.arena-arena.ensures.base r
    (record { lbd = c.lbd-lbd.result; len = length c.lits.result.now; id = c.args.id }) x
    (candidate-at c.args.base.now.clauses c.args.first_learnt c.in_ok-place.place.0 found.0 c.lbd-lbd.result
    (length c.lits.result.now) c.args.id found.1 found.2
    (lbd-read c.arena-arena.result.now.clauses c.args.base.now.clauses c.in_ok-place.place.0 found.0
    c.arena-arena.ensures.clauses found.1 c.lbd-lbd.result c.lbd-lbd.ensures)
    (len-read c.arena-arena.result.now.clauses c.args.base.now.clauses c.in_ok-place.place.0 found.0
    c.arena-arena.ensures.clauses found.1 c.arena-arena.ensures.normal (length c.lits.result.now)
    (ap length c.lits.ensures))
    (omega (arith, c.if-id-first_learnt.false)) (omega (arith, c.if-lbd-lt3.false))) e
