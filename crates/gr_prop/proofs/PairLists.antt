-- the lists of the clauses of two literals
use Rattle.std.proofs.Common.{◌≡◌, ◌≢◌, ◌⊎◌, ℕ, ◌+◌, ◌≤◌, true, false, ◌||◌, All, List, [], ◌∷◌, length, nat_eq, refl, sym, ap, ◌∙◌, subst, inl, inr, arith, if◌then◌else◌}
use Rattle.std.proofs.lemmas.Bool.Decides.{nat_tests}
use Rattle.std.proofs.lemmas.List.Sums.{sum_by-cons}
use Rattle.std.proofs.lemmas.List.Elements.{All-weaker, All-head, All-tail}
use Rattle.std.proofs.lemmas.List.Sorted.{sum_by-IsPermutation, list_any-IsPermutation}
use Rattle.std.specs.List.{sum_by, list_any}
use Rattle.std.specs.List.Sorted.{IsPermutation}
use Rattle.gr_logic.specs.Literals.{Literal, negation, same_literal}
use Rattle.gr_logic.specs.Rup.{members}
use Rattle.gr_logic.proofs.Sound.{same_literal-is}
use Rattle.gr_trail.specs.Trails.{Assigned, true_in}
use Rattle.gr_watch.specs.declared.lists.Watch.{Watch}
use Rattle.gr_watch.specs.WatchLists.{WatchLists, list_of}
use Rattle.gr_prop.specs.Watching.{Store, lits_at, bit, count_in, watched, is_pair, paired, IsOther, ArePaired}
use Rattle.gr_prop.specs.Visits.{OthersFalse}
use Rattle.gr_prop.proofs.Kept.{any-member}
use Rattle.gr_prop.proofs.Counts.{not-same, pair-permuted}

-- the two literals
pub pair-is : (c : List Literal) → is_pair c ≡ true → (a : Literal) × (b : Literal) × (c ≡ a ∷ b ∷ [])
pair-is [] h = absurd (cc)
pair-is (a ∷ []) h =
    let e : length (a ∷ []) ≡ 2 = grind (arith, nat_tests, h) in absurd (omega (arith, e))
pair-is (a ∷ b ∷ []) h = (a, b, refl)
pair-is (a ∷ b ∷ x ∷ rest) h =
    let e : length (a ∷ b ∷ x ∷ rest) ≡ 2 = grind (arith, nat_tests, h) in absurd (omega (arith, e))

-- both are watched
pair-watched : (c : List Literal) (l : Literal) → is_pair c ≡ true
    → watched c l ≡ sum_by (λ x. bit (same_literal l x)) c
pair-watched c l h =
    let p = pair-is c h in
    let a : Literal = p.0 in
    let b : Literal = p.1 in
    let e = sum_by-cons (λ (x : Literal). bit (same_literal l x)) a (b ∷ []) in
    let f = sum_by-cons (λ (x : Literal). bit (same_literal l x)) b [] in
    let same : watched (a ∷ b ∷ []) l ≡ sum_by (λ x. bit (same_literal l x)) (a ∷ b ∷ []) = omega (arith, e, f) in
    subst (λ c. watched c l ≡ sum_by (λ x. bit (same_literal l x)) c) (sym p.2) same

-- the order of the literals does not matter
paired-watched : (c d : List Literal) (l : Literal) → IsPermutation c d → watched (paired c) l ≡ watched (paired d) l
paired-watched c d l p =
    elim (is_pair c) as (λ b. is_pair c ≡ b → watched (if b then c else []) l ≡ watched (paired d) l) [
      | false ↦ λ e. ap (λ b. watched (if b then d else []) l) (sym e ∙ pair-permuted c d p)
      | true ↦ λ e.
          let same : is_pair d ≡ true = sym (pair-permuted c d p) ∙ e in
          pair-watched c l e ∙ sym (sum_by-IsPermutation (λ x. bit (same_literal l x)) c d p)
          ∙ sym (pair-watched d l same) ∙ ap (λ b. watched (if b then d else []) l) (sym same)
    ] refl

-- clauses in another order have the same lists
pub paired-ordered : (k n : Store) (vars : ℕ) (pairs : WatchLists)
    → ((q : ℕ) → IsPermutation (lits_at k q) (lits_at n q)) → ArePaired k vars pairs → ArePaired n vars pairs
paired-ordered k n vars pairs orders p = record {
  watching = λ q l. p.watching q l ∙ paired-watched _ _ l (orders q);
  others = λ l. All-weaker (IsOther k l) (IsOther n l) (λ w h. record {
    two = sym (pair-permuted _ _ (orders w.place.0)) ∙ h.two;
    own = sym (list_any-IsPermutation (same_literal l) _ _ (orders w.place.0)) ∙ h.own;
    other = sym (list_any-IsPermutation (same_literal w.blocker) _ _ (orders w.place.0)) ∙ h.other;
    apart = h.apart;
  }) (list_of pairs l) (p.others l);
  vars' = p.vars';
  even = p.even;
}

-- a member of a pair is one of the two
one-of : (a b q : Literal) → members (a ∷ b ∷ []) q ≡ true → (q ≡ a) ⊎ (q ≡ b)
one-of a b q m =
    elim (same_literal q a) as (λ t. same_literal q a ≡ t → (t || (same_literal q b || false)) ≡ true
    → (q ≡ a) ⊎ (q ≡ b)) [
      | true ↦ λ same _. inl (same_literal-is q a same)
      | false ↦ λ _. elim (same_literal q b) as (λ t. same_literal q b ≡ t → (false || (t || false)) ≡ true
          → (q ≡ a) ⊎ (q ≡ b)) [
            | true ↦ λ same _. inr (same_literal-is q b same)
            | false ↦ λ _ h. absurd (cc)
          ] refl
    ] refl m

third : (a b g o q : Literal) → (g ≡ a) ⊎ (g ≡ b) → (o ≡ a) ⊎ (o ≡ b) → (q ≡ a) ⊎ (q ≡ b) → g ≢ o → q ≢ o → q ≡ g
third a b g o q (inl e) (inl f) h apart free = absurd (apart (e ∙ sym f))
third a b g o q (inr e) (inr f) h apart free = absurd (apart (e ∙ sym f))
third a b g o q (inl e) (inr f) (inl h) apart free = h ∙ sym e
third a b g o q (inl e) (inr f) (inr h) apart free = absurd (free (h ∙ sym f))
third a b g o q (inr e) (inl f) (inl h) apart free = absurd (free (h ∙ sym f))
third a b g o q (inr e) (inl f) (inr h) apart free = h ∙ sym e

-- where the watched literal is false, all are but the other one
pub others-are-false : (k : Store) (xs : List Assigned) (gone : Literal) (w : Watch) → IsOther k gone w
    → true_in xs (negation gone) ≡ true → OthersFalse xs (lits_at k w.place.0) w.blocker
others-are-false k xs gone w h falls q m free =
    let p = pair-is (lits_at k w.place.0) h.two in
    let a : Literal = p.0 in
    let b : Literal = p.1 in
    let among : (l : Literal) → members (lits_at k w.place.0) l ≡ true → (l ≡ a) ⊎ (l ≡ b) =
    λ l i. one-of a b l (ap (λ c. members c l) (sym p.2) ∙ i) in
    let is : q ≡ gone = third a b gone w.blocker q (among gone h.own) (among w.blocker h.other) (among q m)
    (not-same gone w.blocker h.apart) (not-same q w.blocker free) in
    ap (λ l. true_in xs (negation l)) is ∙ falls

-- a place that stands in a list whose other literals are true has a true literal
pub met-any : (k : Store) (xs : List Assigned) (gone : Literal) (list : List Watch) (place : ℕ)
    → All (IsOther k gone) list → All (λ w. true_in xs w.blocker ≡ true) list → 1 ≤ count_in place list
    → list_any (true_in xs) (lits_at k place) ≡ true
met-any k xs gone [] place others met h = absurd (omega (arith, h))
met-any k xs gone (w ∷ ws) place others met h =
    let e : count_in place (w ∷ ws) ≡ bit (nat_eq w.place.0 place) + count_in place ws =
    sum_by-cons (λ (x : Watch). bit (nat_eq x.place.0 place)) w ws in
    let one = All-head (IsOther k gone) w ws others in
    let now : true_in xs w.blocker ≡ true = All-head (λ (x : Watch). true_in xs x.blocker ≡ true) w ws met in
    elim (nat_eq w.place.0 place) as (λ b. nat_eq w.place.0 place ≡ b → list_any (true_in xs)
    (lits_at k place) ≡ true) [
      | true ↦ λ same.
          let is : w.place.0 ≡ place = grind (arith, nat_tests, same) in
          subst (λ q. list_any (true_in xs) (lits_at k q) ≡ true) is
          (any-member (true_in xs) (lits_at k w.place.0) w.blocker one.other now)
      | false ↦ λ apart.
          let f : bit (nat_eq w.place.0 place) ≡ 0 = ap bit apart in
          met-any k xs gone ws place (All-tail (IsOther k gone) w ws others)
          (All-tail (λ (x : Watch). true_in xs x.blocker ≡ true) w ws met) (omega (arith, e, f, h))
    ] refl
