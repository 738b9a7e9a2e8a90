-- additions to the clauses that may be cited
use Rattle.std.proofs.Common.{◌≡◌, ℕ, ◌+◌, ◌<◌, List, ◌∷◌, refl, length, drop, get_or, add-one, drop-cons}
use Rattle.std.specs.FinMap as finite
use Rattle.gr_logic.specs.Literals.{Literal}
use Rattle.gr_logic.specs.Log.{Clauses, with_clauses}

-- one more clause of the formula
pub with_clauses-next : (live : Clauses) (cs : List (List Literal)) (i : ℕ) (c : List Literal)
    → i < length cs → c ≡ get_or cs i c
    → with_clauses live (i + 1) (drop i cs)
    ≡ with_clauses (finite.insert live (i + 1) c) (i + 1 + 1) (drop (i + 1) cs)
with_clauses-next live cs i c in_range is =
    let left : drop i cs ≡ get_or cs i c ∷ drop (i + 1) cs =
    rw add-one (drop-cons cs i c in_range) in
    rw (left, ← is) refl
