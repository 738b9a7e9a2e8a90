-- what becomes of a literal, by the closure of the kept literals' negations
use Rattle.std.proofs.Common.{◌≡◌, true, false, List, map}
use Rattle.gr_logic.specs.Literals.{Literal, negation}
use Rattle.gr_logic.specs.Rup.{members, negated}
use Rattle.gr_logic.specs.Closure.{listed, InClosure, DerivesConflict}
use Rattle.gr_unit.specs.Closing.{IsClosureOf, is_conflict_of}
use Rattle.gr_unit.proofs.Conflicts.{conflict-is}

pub conflicting : (cs : List (List Literal)) (kept derived : List Literal) → IsClosureOf cs (map negation kept) derived
    → is_conflict_of cs derived ≡ true → DerivesConflict (listed cs) (negated kept)
conflicting cs kept derived closure e = (conflict-is cs (map negation kept) derived closure).0 e

pub quiet : (cs : List (List Literal)) (kept derived : List Literal) → IsClosureOf cs (map negation kept) derived
    → is_conflict_of cs derived ≡ false → ¬ DerivesConflict (listed cs) (negated kept)
quiet cs kept derived closure e conflict =
    let other : is_conflict_of cs derived ≡ true = (conflict-is cs (map negation kept) derived closure).1 conflict in
    cc (e, other)

pub absent : (cs : List (List Literal)) (kept derived : List Literal) (l : Literal)
    → IsClosureOf cs (map negation kept) derived
    → members derived l ≡ false → ¬ InClosure (listed cs) (negated kept) l
absent cs kept derived l closure e there =
    let other : members derived l ≡ true = (closure l).1 there in cc (e, other)
