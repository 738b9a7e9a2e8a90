-- parts of lists
use Rattle.std.proofs.Common.{◌≡◌, ◌≢◌, inl, inr, ℕ, ◌<◌, ◌≤◌, Bool, true, false, not, ◌||◌, List, [], ◌∷◌, length, refl, sym, ap, ◌∙◌, subst, arith, if◌then◌else◌}
use Rattle.std.specs.List.{filter}
use Rattle.std.proofs.lemmas.List.Elements.{All-head, All-tail, All-cons, All-nil}
use Rattle.gr_logic.specs.Literals.{Literal, negation, same_literal}
use Rattle.gr_logic.specs.Formulas.{VarsUpTo}
use Rattle.gr_logic.specs.NormalForms.{IsNormal}
use Rattle.gr_logic.specs.Rup.{members}
use Rattle.gr_logic.specs.Closure.{IsWithin}
use Rattle.gr_logic.proofs.Sound.{same_literal-is}
use Rattle.gr_logic.proofs.SameLiteral.{members-first, members-later}
use Rattle.gr_strengthen.specs.Walking.{IsSublist}

pub sublist-skip : (xs : List Literal) (y : Literal) (ys : List Literal) → IsSublist xs ys → IsSublist xs (y ∷ ys)
sublist-skip [] y ys s = tt
sublist-skip (x ∷ xs) y ys s = inr s

pub sublist-itself : (xs : List Literal) → IsSublist xs xs
sublist-itself [] = tt
sublist-itself (x ∷ xs) = inl (refl, sublist-itself xs)

pub sublist-tail : (x : Literal) (xs ys : List Literal) → IsSublist (x ∷ xs) ys → IsSublist xs ys
sublist-tail x xs [] s = absurd s
sublist-tail x xs (y ∷ ys) (inl s) = sublist-skip xs y ys s.1
sublist-tail x xs (y ∷ ys) (inr s) = sublist-skip xs y ys (sublist-tail x xs ys s)

pub sublist-then : (xs ys zs : List Literal) → IsSublist xs ys → IsSublist ys zs → IsSublist xs zs
sublist-then [] ys zs s t = tt
sublist-then (x ∷ xs) [] zs s t = absurd s
sublist-then (x ∷ xs) (y ∷ ys) [] s t = absurd t
sublist-then (x ∷ xs) (y ∷ ys) (z ∷ zs) (inl s) (inl t) = inl (s.0 ∙ t.0, sublist-then xs ys zs s.1 t.1)
sublist-then (x ∷ xs) (y ∷ ys) (z ∷ zs) (inr s) (inl t) = inr (sublist-then (x ∷ xs) ys zs s t.1)
sublist-then (x ∷ xs) (y ∷ ys) (z ∷ zs) s (inr t) = inr (sublist-then (x ∷ xs) (y ∷ ys) zs s t)

pub sublist-filter : (p : Literal → Bool) (xs : List Literal) → IsSublist (filter p xs) xs
sublist-filter p [] = tt
sublist-filter p (x ∷ xs) = go (p x) (sublist-filter p xs)
  where
    go : (b : Bool) → IsSublist (filter p xs) xs → IsSublist (if b then x ∷ filter p xs else filter p xs) (x ∷ xs)
    go true s = inl (refl, s)
    go false s = sublist-skip (filter p xs) x xs s

either : (q x : Literal) (xs : List Literal) (P : Type 0) → members (x ∷ xs) q ≡ true → (q ≡ x → P)
    → (members xs q ≡ true → P) → P
either q x xs P m here there =
    elim (same_literal q x) as (λ b. same_literal q x ≡ b → (b || members xs q) ≡ true → P) [
      | true ↦ λ e _. here (same_literal-is q x e)
      | false ↦ λ _ n. there n
    ] refl m

pub sublist-within : (xs ys : List Literal) → IsSublist xs ys → IsWithin (members xs) (members ys)
sublist-within [] ys s q m = absurd (cc)
sublist-within (x ∷ xs) [] s q m = absurd s
sublist-within (x ∷ xs) (y ∷ ys) (inl s) q m =
    either q x xs (members (y ∷ ys) q ≡ true) m
    (λ e. subst (λ l. members (y ∷ ys) l ≡ true) (sym (e ∙ s.0)) (members-first y ys))
    (λ n. members-later q y ys (sublist-within xs ys s.1 q n))
sublist-within (x ∷ xs) (y ∷ ys) (inr s) q m = members-later q y ys (sublist-within (x ∷ xs) ys s q m)

pub sublist-normal : (xs ys : List Literal) → IsSublist xs ys → IsNormal ys → IsNormal xs
sublist-normal [] ys s n = tt
sublist-normal (x ∷ xs) [] s n = absurd s
sublist-normal (x ∷ xs) (y ∷ ys) (inl s) n = (
  λ q m e. n.0 q (sublist-within xs ys s.1 q m) (e ∙ ap (λ (l : Literal). l.index) s.0),
  sublist-normal xs ys s.1 n.1,
)
sublist-normal (x ∷ xs) (y ∷ ys) (inr s) n = sublist-normal (x ∷ xs) ys s n.1

pub sublist-known : (vars : ℕ) (xs ys : List Literal) → IsSublist xs ys → VarsUpTo vars ys → VarsUpTo vars xs
sublist-known vars [] ys s known = All-nil (λ l. l.index < vars)
sublist-known vars (x ∷ xs) [] s known = absurd s
sublist-known vars (x ∷ xs) (y ∷ ys) (inl s) known =
    All-cons (λ l. l.index < vars) x xs
    (subst (λ (l : Literal). l.index < vars) (sym s.0) (All-head (λ l. l.index < vars) y ys known))
    (sublist-known vars xs ys s.1 (All-tail (λ l. l.index < vars) y ys known))
sublist-known vars (x ∷ xs) (y ∷ ys) (inr s) known =
    sublist-known vars (x ∷ xs) ys s (All-tail (λ l. l.index < vars) y ys known)

pub sublist-short : (xs ys : List Literal) → IsSublist xs ys → length xs ≤ length ys
sublist-short [] ys s = omega arith
sublist-short (x ∷ xs) [] s = absurd s
sublist-short (x ∷ xs) (y ∷ ys) (inl s) = let h = sublist-short xs ys s.1 in omega arith
sublist-short (x ∷ xs) (y ∷ ys) (inr s) = let h = sublist-short (x ∷ xs) ys s in omega arith

-- one that is as long is the whole list
pub sublist-whole : (xs ys : List Literal) → IsSublist xs ys → length xs ≡ length ys → xs ≡ ys
sublist-whole [] [] s e = refl
sublist-whole [] (y ∷ ys) s e = absurd (omega arith)
sublist-whole (x ∷ xs) [] s e = absurd s
sublist-whole (x ∷ xs) (y ∷ ys) (inl s) e =
    let rest = sublist-whole xs ys s.1 (omega arith) in λ i. s.0 i ∷ rest i
sublist-whole (x ∷ xs) (y ∷ ys) (inr s) e =
    absurd (let h = sublist-short (x ∷ xs) ys s in omega arith)

-- a normal list has its first literal once
first-once : (y : Literal) (xs ys : List Literal) → IsSublist xs ys → IsNormal (y ∷ ys) → members xs y ≡ true → ⊥
first-once y xs ys s n m = n.0 y (sublist-within xs ys s y m) refl

-- a part that is shorter lacks a literal of a normal list
pub sublist-lacks : (xs ys : List Literal) → IsSublist xs ys → IsNormal ys → length xs ≢ length ys
    → IsWithin (members ys) (members xs) → ⊥
sublist-lacks [] [] s n apart within = apart refl
sublist-lacks [] (y ∷ ys) s n apart within = absurd (let m = within y (members-first y ys) in cc)
sublist-lacks (x ∷ xs) [] s n apart within = absurd s
sublist-lacks (x ∷ xs) (y ∷ ys) (inl s) n apart within =
    sublist-lacks xs ys s.1 n.1 (λ e. apart (omega arith)) (λ q m. either q x xs (members xs q ≡ true)
    (within q (members-later q y ys m))
    (λ e. absurd (n.0 q m (ap (λ (l : Literal). l.index) (e ∙ s.0)))) (λ k. k))
sublist-lacks (x ∷ xs) (y ∷ ys) (inr s) n apart within =
    first-once y (x ∷ xs) ys s n (within y (members-first y ys))

-- a normal list does not have a literal beside its negation
pub normal-one-sign : (ys : List Literal) (l : Literal) → IsNormal ys → members ys l ≡ true
    → members ys (negation l) ≡ true → ⊥
normal-one-sign [] l n m k = absurd (cc)
normal-one-sign (y ∷ ys) l n m k =
    either l y ys ⊥ m
    (λ e. either (negation l) y ys ⊥ k
    (λ f. apart l (f ∙ sym e))
    (λ h. n.0 (negation l) h (ap (λ (q : Literal). q.index) e)))
    (λ h. either (negation l) y ys ⊥ k
    (λ f. n.0 l h (ap (λ (q : Literal). q.index) f))
    (λ g. normal-one-sign ys l n.1 h g))
  where
    apart : (q : Literal) → negation q ≡ q → ⊥
    apart q e = sign q.positive (ap (λ (p : Literal). p.positive) e)
      where
        sign : (b : Bool) → not b ≡ b → ⊥
        sign true e = cc
        sign false e = cc
