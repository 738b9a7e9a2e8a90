use Rattle.std.proofs.Common.{◌≡◌, true}
use Rattle.gr_logic.specs.Literals.{Literal}
use Rattle.gr_logic.specs.Rup.{members}
use Rattle.gr_logic.specs.Closure.{IsWithin, InClosure, listed}
use Rattle.gr_unit.proofs.Growing.{unset_in}
use Rattle.gr_unit.proofs.closing.derive.Given as goal

abbrev pub invariant-loop-found : goal.invariant-loop-found
invariant-loop-found l =
    record {
      given : IsWithin (members l.given) (members l.derived);
      least : (q : Literal) → members l.derived q ≡ true → InClosure (listed l.clauses) (members l.given) q;
    }

abbrev pub decreases-loop-found : goal.decreases-loop-found
decreases-loop-found l = unset_in l.derived l.clauses
