-- conflicts of a list of derived literals
use Rattle.std.proofs.Common.{◌≡◌, ◌↔◌, ℕ, zero, suc, Bool, true, false, ◌||◌, List, [], ◌∷◌, Some, inl, inr, refl, ap, ◌∙◌, subst}
use Rattle.std.specs.List.{list_any}
use Rattle.gr_logic.specs.Literals.{Literal, negation, same_literal}
use Rattle.gr_logic.specs.Rup.{members}
use Rattle.gr_logic.specs.Log.{is_empty}
use Rattle.gr_logic.specs.Closure.{listed, no_literals, DerivesConflict}
use Rattle.gr_logic.proofs.Sound.{same_literal-is}
use Rattle.gr_logic.proofs.SameLiteral.{members-first, members-later}
use Rattle.gr_unit.specs.Closing.{IsClosureOf, is_conflict_of}

or-true : (b : Bool) → (b || true) ≡ true
or-true true = refl
or-true false = refl

-- some literal of the list passes a test
any-member : (p : Literal → Bool) (ls : List Literal) → list_any p ls ≡ true
    → (l : Literal) × (members ls l ≡ true) × (p l ≡ true)
any-member p [] e = absurd (cc)
any-member p (x ∷ xs) e = at (p x) refl e (any-member p xs)
  where
    at : (b : Bool) → p x ≡ b → (b || list_any p xs) ≡ true
        → (list_any p xs ≡ true → (l : Literal) × (members xs l ≡ true) × (p l ≡ true))
        → (l : Literal) × (members (x ∷ xs) l ≡ true) × (p l ≡ true)
    at true passes e rest = (x, members-first x xs, passes)
    at false fails e rest = let found = rest e in (found.0, members-later found.0 x xs found.1, found.2)

member-any : (p : Literal → Bool) (ls : List Literal) (l : Literal) → members ls l ≡ true → p l ≡ true
    → list_any p ls ≡ true
member-any p [] l m passes = absurd (cc)
member-any p (x ∷ xs) l m passes =
    elim (same_literal l x) as (λ b. same_literal l x ≡ b → (b || members xs l) ≡ true
    → (p x || list_any p xs) ≡ true) [
      | true ↦ λ same _. ap (λ b. b || list_any p xs) (subst (λ y. p y ≡ true) (same_literal-is l x same) passes)
      | false ↦ λ _ m. ap (λ b. p x || b) (member-any p xs l m passes) ∙ or-true (p x)
    ] refl m

-- an empty clause of the list is the empty clause of the family
any-empty : (cs : List (List Literal)) → list_any is_empty cs ≡ true → (i : ℕ) × (listed cs i ≡ Some no_literals)
any-empty [] e = absurd (cc)
any-empty ([] ∷ cs) e = (0, refl)
any-empty ((x ∷ xs) ∷ cs) e = let found = any-empty cs e in (suc found.0, found.1)

no-member : (c : List Literal) → Some (members c) ≡ Some no_literals → is_empty c ≡ true
no-member [] e = refl
no-member (x ∷ xs) e =
    let same : members (x ∷ xs) ≡ no_literals = cc in
    let none : members (x ∷ xs) x ≡ false = ap (λ s. s x) same in
    absurd (cc (none, members-first x xs))

empty-any : (cs : List (List Literal)) (i : ℕ) → listed cs i ≡ Some no_literals → list_any is_empty cs ≡ true
empty-any [] i e = absurd (cc)
empty-any (c ∷ cs) zero e = ap (λ b. b || list_any is_empty cs) (no-member c e)
empty-any (c ∷ cs) (suc i) e = ap (λ b. is_empty c || b) (empty-any cs i e) ∙ or-true (is_empty c)

-- the test is the fact
pub conflict-is : (cs : List (List Literal)) (given derived : List Literal) → IsClosureOf cs given derived
    → (is_conflict_of cs derived ≡ true) ↔ DerivesConflict (listed cs) (members given)
conflict-is cs given derived closure = (forth (list_any (λ l. members derived (negation l)) derived) refl, back)
  where
    forth : (b : Bool) → list_any (λ l. members derived (negation l)) derived ≡ b → (b || list_any is_empty cs) ≡ true
        → DerivesConflict (listed cs) (members given)
    forth true two e =
        let found = any-member (λ l. members derived (negation l)) derived two in
        inl (found.0, ((closure found.0).0 found.1, (closure (negation found.0)).0 found.2))
    forth false two e = inr (any-empty cs e)

    back : DerivesConflict (listed cs) (members given) → is_conflict_of cs derived ≡ true
    back (inl two) =
        ap (λ b. b || list_any is_empty cs) (member-any (λ l. members derived (negation l)) derived two.0
        ((closure two.0).1 two.1.0) ((closure (negation two.0)).1 two.1.1))
    back (inr empty) =
        ap (λ b. list_any (λ l. members derived (negation l)) derived || b) (empty-any cs empty.0 empty.1)
        ∙ or-true (list_any (λ l. members derived (negation l)) derived)
