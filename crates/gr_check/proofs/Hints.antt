-- unit steps along hints, one by one
use Rattle.std.proofs.Common.{◌≡◌, ℕ, ◌+◌, ◌<◌, List, ◌∷◌, Some, refl, length, drop, get_or, add-one, drop-cons}
use Rattle.gr_logic.specs.Literals.{Literal}
use Rattle.gr_logic.specs.Rup.{Live, LiteralSet, with_literal, steps, reading, Falsified, Forces, Accepted}

-- the rest of the hints has the next one first
rest : (hints : List ℕ) (i : ℕ) → i < length hints
    → drop i hints ≡ get_or hints i 0 ∷ drop (i + 1) hints
rest hints i in_range = rw add-one (drop-cons hints i 0 in_range)

-- a literal that is forced is true from then on
pub steps-forces : (live : Live) (set : LiteralSet) (hints : List ℕ) (i : ℕ) (c : List Literal)
    (l : Literal) → i < length hints → live (get_or hints i 0) ≡ Some c → reading set c ≡ Forces l
    → steps live (with_literal set l) (drop (i + 1) hints) ≡ steps live set (drop i hints)
steps-forces live set hints i c l in_range is says =
    let left = rest hints i in_range in rw (left, is, says) refl

-- a falsified clause ends the steps
pub steps-falsified : (live : Live) (set : LiteralSet) (hints : List ℕ) (i : ℕ) (c : List Literal)
    → i < length hints → live (get_or hints i 0) ≡ Some c → reading set c ≡ Falsified
    → steps live set (drop i hints) ≡ Accepted
steps-falsified live set hints i c in_range is says =
    let left = rest hints i in_range in rw (left, is, says) refl
