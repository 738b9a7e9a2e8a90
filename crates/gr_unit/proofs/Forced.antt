-- what a clause forces, by its first literal that is not false
use Rattle.std.proofs.Common.{◌≡◌, Bool, true, false, ◌&&◌, ◌||◌, List, [], ◌∷◌, Some, inl, inr, refl, sym, ap, ◌∙◌, subst, All}
use Rattle.std.specs.Option.{option_map}
use Rattle.std.proofs.lemmas.Option.{slice_get_cases}
use Rattle.gr_logic.specs.Literals.{Literal, negation, same_literal}
use Rattle.gr_logic.specs.Rup.{LiteralSet, members}
use Rattle.gr_logic.specs.Closure.{Forces, listed, IsClosedUnder}
use Rattle.gr_logic.proofs.Sound.{same_literal-is}
use Rattle.gr_logic.proofs.SameLiteral.{members-first, members-later}
use Rattle.gr_unit.specs.Forcing.{others_false, AreAllFalse, HasForced}

and-first : (a b : Bool) → (a && b) ≡ true → a ≡ true
and-first true b e = refl
and-first false b e = e

and-second : (a b : Bool) → (a && b) ≡ true → b ≡ true
and-second true b e = e
and-second false b e = absurd (cc)

-- the test on the others is the fact
false-by-test : (set : LiteralSet) (c : List Literal) (l q : Literal) → others_false set c l ≡ true
    → members c q ≡ true → same_literal q l ≡ false → set (negation q) ≡ true
false-by-test set [] l q test m other = absurd (cc)
false-by-test set (x ∷ xs) l q test m other =
    elim (same_literal q x) as (λ b. same_literal q x ≡ b → (b || members xs q) ≡ true → set (negation q) ≡ true) [
      | true ↦ λ same _.
          let is : q ≡ x = same_literal-is q x same in
          let apart : same_literal x l ≡ false = subst (λ y. same_literal y l ≡ false) is other in
          subst (λ y. set (negation y) ≡ true) (sym is)
          (sym (ap (λ b. b || set (negation x)) apart)
          ∙ and-first (same_literal x l || set (negation x)) (others_false set xs l) test)
      | false ↦ λ _ m. false-by-test set xs l q
          (and-second (same_literal x l || set (negation x)) (others_false set xs l) test) m other
    ] refl m

test-by-false : (set : LiteralSet) (c : List Literal) (l : Literal)
    → ((q : Literal) → members c q ≡ true → same_literal q l ≡ false → set (negation q) ≡ true)
    → others_false set c l ≡ true
test-by-false set [] l each = refl
test-by-false set (x ∷ xs) l each =
    ap (λ b. b && others_false set xs l) (first (same_literal x l) refl)
    ∙ test-by-false set xs l (λ q m other. each q (members-later q x xs m) other)
  where
    first : (b : Bool) → same_literal x l ≡ b → (b || set (negation x)) ≡ true
    first true same = refl
    first false other = each x (members-first x xs) other

-- a literal whose others are false is forced
pub forced-by-test : (set : LiteralSet) (c : List Literal) (l : Literal) → members c l ≡ true
    → others_false set c l ≡ true → Forces set (members c) l
forced-by-test set c l m test = record { has = m; others = λ q n other. false-by-test set c l q test n other }

-- each literal of a falsified clause is forced
pub forced-by-falsity : (set : LiteralSet) (c : List Literal) (l : Literal) → members c l ≡ true
    → AreAllFalse set c → Forces set (members c) l
forced-by-falsity set c l m falses = record { has = m; others = λ q n _. falses q n }

-- a literal that is not false is the one that is forced
forced-is-open : (set : LiteralSet) (c : List Literal) (open' l : Literal) → members c open' ≡ true
    → set (negation open') ≡ false → Forces set (members c) l → l ≡ open'
forced-is-open set c open' l m free forced = at (same_literal open' l) refl
  where
    at : (b : Bool) → same_literal open' l ≡ b → l ≡ open'
    at true same = sym (same_literal-is open' l same)
    at false other = let falls : set (negation open') ≡ true = forced.others open' m other in absurd (cc (falls, free))

-- where it is true already, nothing is missing
pub has-open : (set : LiteralSet) (c : List Literal) (open' : Literal) → members c open' ≡ true
    → set (negation open') ≡ false → set open' ≡ true → HasForced set c
has-open set c open' m free there l forced = ap set (forced-is-open set c open' l m free forced) ∙ there

-- where another is not false either, nothing is forced
pub has-none : (set : LiteralSet) (c : List Literal) (open' : Literal) → members c open' ≡ true
    → set (negation open') ≡ false → others_false set c open' ≡ false → HasForced set c
has-none set c open' m free test l forced =
    let is : l ≡ open' = forced-is-open set c open' l m free forced in
    let all : others_false set c open' ≡ true =
    test-by-false set c open' (subst (λ y. (q : Literal) → members c q ≡ true → same_literal q y ≡ false
    → set (negation q) ≡ true) is forced.others) in
    absurd (cc (all, test))

-- where all clauses have what they force, the set is closed under the list
pub closed-list : (cs : List (List Literal)) (set : LiteralSet) → All (HasForced set) cs → IsClosedUnder (listed cs) set
closed-list cs set all i c l is forced =
    elim (slice_get_cases cs i).1 as (λ _. set l ≡ true) [
      | inl found ↦
          let same : members found.0 ≡ c = Some-is (sym (ap (option_map members) found.2) ∙ is) in
          all i found.0 found.1 l (subst (λ s. Forces set s l) (sym same ∙ ap members (sym found.3)) forced)
      | inr past ↦ absurd (cc (sym (ap (option_map members) past.1) ∙ is))
    ]
  where
    Some-is : {one other : LiteralSet} → Some one ≡ Some other → one ≡ other
    Some-is e = cc
