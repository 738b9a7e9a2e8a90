-- the candidates with the ids so far
use Rattle.std.proofs.Common.{◌≡◌, ◌≢◌, ◌<◌, ◌+◌, ◌⊎◌, ℕ, zero, suc, false, ◌||◌, List, [], ◌∷◌, ◌++◌, map, take, length, get_or, inl, inr, refl, sym, ap, ◌∙◌, subst, arith, nat_eq, All, AllPairs, Contains}
use Rattle.std.specs.List.{list_any, IsDistinct}
use Rattle.std.specs.Cmp.{nat_eq_equiv}
use Rattle.std.proofs.lemmas.Bool.Decides.{nat_tests}
use Rattle.std.proofs.lemmas.List.{length-take-le, map-append, take_more, get_or-take}
use Rattle.std.proofs.lemmas.List.Elements.{All-nil, All-cons, All-head, All-tail, All-weaker, All-append, Contains-append_left, Contains-append_right, Contains-append_cases}
use Rattle.std.proofs.lemmas.Map.Keys.{IsDistinct-push}
use Rattle.gr_prop.specs.Bases.{Clauses}
use Rattle.gr_import.specs.declared.ranks.Rank.{Rank}
use Rattle.gr_import.specs.Forgetting.{Ranked, IsCandidate, ranked_of, AreRanks, AreAllRanks}

-- an element of one is it
only : {X : Type 0} (x y : X) → Contains (x ∷ []) y → x ≡ y
only x y (zero, low, is) = is
only x y (suc k, low, is) = absurd (omega (arith, low))

one-of : {X : Type 0} (x : X) → Contains (x ∷ []) x
one-of x = (0, omega arith, refl)

id_of : Rank → ℕ
id_of x = x.id

-- a number above all of these is none of them
none-equal : (n : ℕ) (xs : List Rank) → All (λ x. x.id < n) xs → list_any (nat_eq n) (map (λ x. x.id) xs) ≡ false
none-equal n [] all = refl
none-equal n (x ∷ xs) all =
    let low : x.id < n = All-head (λ (y : Rank). y.id < n) x xs all in
    let other : nat_eq n x.id ≡ false = grind (arith, nat_tests) in
    ap (λ b. b || list_any (nat_eq n) (map (λ y. y.id) xs)) other
    ∙ none-equal n xs (All-tail (λ (y : Rank). y.id < n) x xs all)

module _ (k : Clauses) (first : ℕ) where
  -- at first there are none
  pub no-ranks : AreRanks k first [] []
  unfolding IsDistinct
  no-ranks = record {
    each = All-nil (λ x. IsCandidate k first (ranked_of x));
    all = λ r x has. absurd (omega (arith, has.1));
    among = All-nil (λ x. Contains [] x.id);
    distinct = tt;
  }

  module _ (ids : List ℕ) (ranks : List Rank) (old : AreRanks k first ids ranks) (id : ℕ) where
    -- an id that no candidate has
    pub ranks-stay : ((r : Ranked) → IsCandidate k first r → r.id ≢ id) → AreRanks k first (ids ++ id ∷ []) ranks
    ranks-stay none = record {
      each = old.each;
      all = λ r x has. before r x (Contains-append_cases ids (id ∷ []) r.id has);
      among = All-weaker (λ x. Contains ids x.id) (λ x. Contains (ids ++ id ∷ []) x.id)
          (λ x m. Contains-append_left ids (id ∷ []) x.id m) ranks old.among;
      distinct = old.distinct;
    }
      where
        before : (r : Ranked) → IsCandidate k first r → Contains ids r.id ⊎ Contains (id ∷ []) r.id
            → Contains (map ranked_of ranks) r
        before r x (inl there) = old.all r x there
        before r x (inr here) = absurd (none r x (sym (only id r.id here)))

    -- an id of a candidate, above those so far
    pub ranks-grow : (y : Rank) → y.id ≡ id → IsCandidate k first (ranked_of y)
        → ((r : Ranked) → IsCandidate k first r → r.id ≡ id → r ≡ ranked_of y)
        → ((q : ℕ) → Contains ids q → q < id) → AreRanks k first (ids ++ id ∷ []) (ranks ++ y ∷ [])
    ranks-grow y named is one above = record {
      each = All-append (λ x. IsCandidate k first (ranked_of x)) ranks (y ∷ []) old.each
          (All-cons (λ x. IsCandidate k first (ranked_of x)) y [] is
          (All-nil (λ x. IsCandidate k first (ranked_of x))));
      all = λ r x has. subst (λ rs. Contains rs r) (sym (map-append ranked_of ranks (y ∷ [])))
          (among r x (Contains-append_cases ids (id ∷ []) r.id has));
      among = All-append (λ x. Contains (ids ++ id ∷ []) x.id) ranks (y ∷ [])
          (All-weaker (λ x. Contains ids x.id) (λ x. Contains (ids ++ id ∷ []) x.id)
          (λ x m. Contains-append_left ids (id ∷ []) x.id m) ranks old.among)
          (All-cons (λ x. Contains (ids ++ id ∷ []) x.id) y []
          (Contains-append_right ids (id ∷ []) y.id (subst (Contains (id ∷ [])) (sym named) (one-of id)))
          (All-nil (λ x. Contains (ids ++ id ∷ []) x.id)));
      distinct = subst (IsDistinct nat_eq) (sym (map-append (λ (x : Rank). x.id) ranks (y ∷ [])))
          (IsDistinct-push nat_eq_equiv (map (λ x. x.id) ranks) y.id old.distinct
          (none-equal y.id ranks (All-weaker (λ x. Contains ids x.id) (λ x. x.id < y.id)
          (λ x m. subst (λ n. x.id < n) (sym named) (above x.id m)) ranks old.among)));
    }
      where
        among : (r : Ranked) → IsCandidate k first r → Contains ids r.id ⊎ Contains (id ∷ []) r.id
            → Contains (map ranked_of ranks ++ ranked_of y ∷ []) r
        among r x (inl there) = Contains-append_left (map ranked_of ranks) (ranked_of y ∷ []) r (old.all r x there)
        among r x (inr here) =
            Contains-append_right (map ranked_of ranks) (ranked_of y ∷ []) r
            (subst (Contains (ranked_of y ∷ [])) (sym (one r x (sym (only id r.id here)))) (one-of (ranked_of y)))

  -- in the end all candidates are there
  pub all-ranked : (ids : List ℕ) (ranks : List Rank) → AreRanks k first ids ranks
      → ((r : Ranked) → IsCandidate k first r → Contains ids r.id) → AreAllRanks k first ranks
  all-ranked ids ranks old has = record {
    each = old.each;
    all = λ r x. old.all r x (has r x);
    distinct = old.distinct;
  }

-- of rising numbers those before a place are below the one there
pub below-next : (ids : List ℕ) (i d : ℕ) → AllPairs (λ a b. a < b) ids → i < length ids → (q : ℕ)
    → Contains (take i ids) q → q < get_or ids i d
below-next ids i d rising within q has =
    let few = length-take-le i ids (omega (arith, within)) in
    let low : has.0 < i = omega (arith, has.1, few) in
    let at : get_or ids has.0 q ≡ q = sym (get_or-take i ids has.0 q low) ∙ has.2 in
    subst (λ n. n < get_or ids i d) at
    (subst (λ n. get_or ids has.0 q < n) (same-default ids i q d within) (rising has.0 i q low within))
  where
    same-default : (xs : List ℕ) (i a b : ℕ) → i < length xs → get_or xs i a ≡ get_or xs i b
    same-default [] i a b low = absurd (omega (arith, low))
    same-default (x ∷ xs) zero a b low = refl
    same-default (x ∷ xs) (suc i) a b low = same-default xs i a b (omega (arith, low))

-- the ids up to the next place
pub next-ranks : (k : Clauses) (first : ℕ) (ids : List ℕ) (i : ℕ) (ranks : List Rank) → i < length ids
    → AreRanks k first (take i ids ++ get_or ids i 0 ∷ []) ranks → AreRanks k first (take (i + 1) ids) ranks
next-ranks k first ids i ranks within old =
    subst (λ xs. AreRanks k first xs ranks) (sym (take_more ids i 0 within)) old
