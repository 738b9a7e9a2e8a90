-- one more clause has its id
use Rattle.std.proofs.Common.{sym, ◌∙◌}
use Rattle.gr_check.proofs.Additions.{with_clauses-next}
use Rattle.gr_check.proofs.checker.numbered.Goals as goal

pub loop-i-preserved : goal.loop-i-preserved
loop-i-preserved c =
    rw (c.in_ok-insert.ensures.ok, c.lits.ensures)
    (sym (with_clauses-next c.loop-i.pool c.args.clauses.now c.loop-i.i c.index-clauses-i.result
    c.loop-i-test.true c.index-clauses-i.is) ∙ c.loop-i.invariant)
