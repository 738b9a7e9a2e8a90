-- a literal that a list of clauses forces and that is new, or that there is none
use Rattle.std.proofs.Common.{◌≡◌, ◌⊎◌, ℕ, zero, suc, ◌+◌, Bool, true, false, ◌||◌, List, [], ◌∷◌, inl, inr, refl, sym, ap, ◌∙◌, subst, arith, All}
use Rattle.std.proofs.lemmas.List.Elements.{All-nil, All-cons}
use Rattle.gr_logic.specs.Literals.{Literal, negation, same_literal}
use Rattle.gr_logic.specs.Rup.{LiteralSet, members}
use Rattle.gr_logic.specs.Closure.{Forces}
use Rattle.gr_logic.proofs.Sound.{same_literal-is}
use Rattle.gr_logic.proofs.SameLiteral.{members-first, members-later}
use Rattle.gr_unit.specs.Forcing.{others_false, AreAllFalse, HasForced, IsForcedAt}
use Rattle.gr_unit.proofs.Forced.{forced-by-test, forced-by-falsity, has-open, has-none}

-- a literal of the list that fails a test, or all pass it
first-failing : (p : Literal → Bool) (ls : List Literal)
    → ((l : Literal) × ((members ls l ≡ true) × (p l ≡ false))) ⊎ ((q : Literal) → members ls q ≡ true → p q ≡ true)
first-failing p [] = inr (λ q m. absurd (cc))
first-failing p (x ∷ xs) = at (p x) refl (first-failing p xs)
  where
    at : (b : Bool) → p x ≡ b
        → ((l : Literal) × ((members xs l ≡ true) × (p l ≡ false))) ⊎ ((q : Literal) → members xs q ≡ true → p q ≡ true)
        → ((l : Literal) × ((members (x ∷ xs) l ≡ true) × (p l ≡ false)))
        ⊎ ((q : Literal) → members (x ∷ xs) q ≡ true → p q ≡ true)
    at false fails rest = inl (x, (members-first x xs, fails))
    at true passes (inl found) = inl (found.0, (members-later found.0 x xs found.1.0, found.1.1))
    at true passes (inr all) = inr (λ q m.
        elim (same_literal q x) as (λ b. same_literal q x ≡ b → (b || members xs q) ≡ true → p q ≡ true) [
          | true ↦ λ same _. ap p (same_literal-is q x same) ∙ passes
          | false ↦ λ _ later. all q later
        ] refl m)

-- a new literal that the clause forces
abbrev New : LiteralSet → List Literal → Type 0
New set c = (l : Literal) × ((set l ≡ false) × Forces set (members c) l)

new-in : (set : LiteralSet) (c : List Literal) → New set c ⊎ HasForced set c
new-in set c = at (first-failing (λ q. set (negation q)) c)
  where
    test : (l : Literal) → members c l ≡ true → set (negation l) ≡ false → (known apart : Bool) → set l ≡ known
        → others_false set c l ≡ apart → New set c ⊎ HasForced set c
    test l m free true apart there e = inr (has-open set c l m free there)
    test l m free false true new e = inl (l, (new, forced-by-test set c l m e))
    test l m free false false new e = inr (has-none set c l m free e)

    falsified : AreAllFalse set c
        → ((l : Literal) × ((members c l ≡ true) × (set l ≡ false)))
        ⊎ ((q : Literal) → members c q ≡ true → set q ≡ true)
        → New set c ⊎ HasForced set c
    falsified falses (inl found) = inl (found.0, (found.1.1, forced-by-falsity set c found.0 found.1.0 falses))
    falsified falses (inr all) = inr (λ l forced. all l forced.has)

    at : ((l : Literal) × ((members c l ≡ true) × (set (negation l) ≡ false))) ⊎ AreAllFalse set c
        → New set c ⊎ HasForced set c
    at (inl found) =
        test found.0 found.1.0 found.1.1 (set found.0) (others_false set c found.0) refl refl
    at (inr falses) = falsified falses (first-failing set c)

-- a new literal that a clause of the list forces
abbrev pub NewAt : List (List Literal) → LiteralSet → Type 0
NewAt cs set = (place : ℕ) × ((l : Literal) × ((set l ≡ false) × IsForcedAt cs set place l))

pub new-among : (cs : List (List Literal)) (set : LiteralSet) → NewAt cs set ⊎ All (HasForced set) cs
new-among [] set = inr (All-nil (HasForced set))
new-among (c ∷ cs) set = at (new-in set c) (new-among cs set)
  where
    at : New set c ⊎ HasForced set c → NewAt cs set ⊎ All (HasForced set) cs
        → NewAt (c ∷ cs) set ⊎ All (HasForced set) (c ∷ cs)
    at (inl new) rest = inl (0, (new.0, (new.1.0, (omega arith, new.1.1))))
    at (inr one) (inl found) =
        inl (suc found.0, (found.1.0, (found.1.1.0, (omega (arith, found.1.1.1.0), found.1.1.1.1))))
    at (inr one) (inr all) = inr (All-cons (HasForced set) c cs one all)
