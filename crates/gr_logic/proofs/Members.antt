-- sets of literals, by their members
use Rattle.std.specs.Prelude.{◌≡◌, Bool, true, false, ◌||◌, List, [], ◌∷◌, ◌++◌, refl}
use Rattle.std.proofs.Common.{ap, ◌∙◌}
use Rattle.gr_logic.specs.Literals.{Literal, same_literal}
use Rattle.gr_logic.specs.Rup.{with_literal, members}

or-swap : (a b c : Bool) → (a || (b || c)) ≡ (b || (a || c))
or-swap true true c = refl
or-swap true false c = refl
or-swap false b c = refl

pub members-push_at : (q : Literal) (ls : List Literal) (l : Literal)
    → members (ls ++ l ∷ []) q ≡ (same_literal q l || members ls q)
members-push_at q [] l = refl
members-push_at q (x ∷ xs) l =
    ap (λ b. same_literal q x || b) (members-push_at q xs l)
    ∙ or-swap (same_literal q x) (same_literal q l) (members xs q)

-- two sets with the same members are one
pub members-push : (ls : List Literal) (l : Literal) → members (ls ++ l ∷ []) ≡ with_literal (members ls) l
members-push ls l = λ i q. members-push_at q ls l i
