use Rattle.std.proofs.Common.{◌≤◌, arith}
use Rattle.std.proofs.lemmas.Bool.Decides.{nat_tests}
use Rattle.gr_search.proofs.StoredReasons.{reason-stored, settled-by}
use Rattle.gr_search.proofs.settling.is_settled.Goals as goal

pub lits-requires : goal.lits-requires
lits-requires c =
    reason-stored c.args.base.now c.trail.result.now c.arena-arena.result.now.clauses c.var.result c.in-Some.place
    c.arena-arena.ensures.base c.trail.ensures.trail c.arena-arena.ensures.clauses c.in-Some.ensures

pub returns-then-lits-eq1 : goal.returns-then-lits-eq1
returns-then-lits-eq1 c is a to =
    let low : c.lbd.result ≤ 2 = grind (arith, nat_tests) in
    settled-by c.args.base.now c.trail.result.now c.arena-arena.result.now.clauses c.args.lit c.var.result
    c.in-Some.place c.lits.result.now c.lbd.result c.arena-arena.ensures.base c.trail.ensures.legal c.requires.ground
    c.trail.ensures.trail c.arena-arena.ensures.clauses c.var.ensures.number c.in-Some.ensures c.lits.ensures
    c.if-lits-eq1.true c.lbd.ensures low a to
