-- literals that are one, and their negations
use Rattle.std.proofs.Common.{◌≡◌, Bool, true, false, not, ◌&&◌, ◌||◌, List, [], ◌∷◌, map, refl, ap, ◌∙◌, arith, nat_eq}
use Rattle.std.proofs.lemmas.Bool.Decides.{nat_tests}
use Rattle.gr_logic.specs.Literals.{Literal, negation, same_literal, same_sign}
use Rattle.gr_logic.specs.Rup.{members, negated}

sign-itself : (b : Bool) → same_sign b b ≡ true
sign-itself true = refl
sign-itself false = refl

pub same_literal-itself : (l : Literal) → same_literal l l ≡ true
same_literal-itself l =
    let v : nat_eq l.index l.index ≡ true = grind (arith, nat_tests) in rw v (sign-itself l.positive)

pub same_literal-sym : (a b : Literal) → same_literal a b ≡ same_literal b a
same_literal-sym a b =
    let v : nat_eq a.index b.index ≡ nat_eq b.index a.index = grind (arith, nat_tests) in
    rw v (ap (λ s. nat_eq b.index a.index && s) (signs a.positive b.positive))
  where
    signs : (s t : Bool) → same_sign s t ≡ same_sign t s
    signs true true = refl
    signs true false = refl
    signs false true = refl
    signs false false = refl

not-not : (b : Bool) → not (not b) ≡ b
not-not true = refl
not-not false = refl

pub negation-negation : (l : Literal) → negation (negation l) ≡ l
negation-negation l = λ i. record { index = l.index; positive = not-not l.positive i }

-- the negation may stand on either side
pub same_literal-negation : (a b : Literal) → same_literal a (negation b) ≡ same_literal (negation a) b
same_literal-negation a b = ap (λ s. nat_eq a.index b.index && s) (signs a.positive b.positive)
  where
    signs : (s t : Bool) → same_sign s (not t) ≡ same_sign (not s) t
    signs true true = refl
    signs true false = refl
    signs false true = refl
    signs false false = refl

pub negation-apart : (l : Literal) → same_literal (negation l) l ≡ false
negation-apart l = apart (nat_eq l.index l.index) l.positive
  where
    apart : (v s : Bool) → (v && same_sign (not s) s) ≡ false
    apart true true = refl
    apart true false = refl
    apart false true = refl
    apart false false = refl

-- a literal of the list is among its members
pub members-first : (l : Literal) (ls : List Literal) → members (l ∷ ls) l ≡ true
members-first l ls = ap (λ b. b || members ls l) (same_literal-itself l)

pub or-true : (b : Bool) → (b || true) ≡ true
or-true true = refl
or-true false = refl

pub members-later : (q l : Literal) (ls : List Literal) → members ls q ≡ true → members (l ∷ ls) q ≡ true
members-later q l ls m = ap (λ b. same_literal q l || b) m ∙ or-true (same_literal q l)

-- the negations of a clause's literals are the literals whose negations it has
pub negated-is : (c : List Literal) (q : Literal) → negated c q ≡ members c (negation q)
negated-is [] q = refl
negated-is (x ∷ xs) q =
    ap (λ b. b || members (map negation xs) q) (same_literal-negation q x)
    ∙ ap (λ b. same_literal (negation q) x || b) (negated-is xs q)
