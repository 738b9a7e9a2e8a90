-- what other reasons leave as it was
use Rattle.std.proofs.Common.{◌≡◌, ℕ, ◌<◌, ◌&&◌, ◌||◌, List, [], ◌∷◌, map, take, drop, zero, suc, refl, sym, ap, ◌∙◌, subst, nat_le}
use Rattle.std.specs.List.{list_any}
use Rattle.gr_logic.specs.Literals.{Literal, negation, same_literal}
use Rattle.gr_trail.specs.Trails.{Assigned, true_in}
use Rattle.gr_prop.specs.Watching.{true_by, IsKept, IsGuarded, AreAt, AreWithin}

module _ (f : Assigned → Assigned) (lit : (x : Assigned) → (f x).lit ≡ x.lit)
    (level : (x : Assigned) → (f x).level ≡ x.level) where
  pub mapped-true : (xs : List Assigned) (q : Literal) → true_in (map f xs) q ≡ true_in xs q
  mapped-true [] q = refl
  mapped-true (x ∷ xs) q = λ i. same_literal q (lit x i) || mapped-true xs q i

  pub mapped-by : (xs : List Assigned) (n : ℕ) (q : Literal) → true_by (map f xs) n q ≡ true_by xs n q
  mapped-by [] n q = refl
  mapped-by (x ∷ xs) n q = λ i. (same_literal q (lit x i) && nat_le (level x i) n) || mapped-by xs n q i

  mapped-any : (xs : List Assigned) (n : ℕ) (c : List Literal) → list_any (true_by (map f xs) n) c ≡ list_any
      (true_by xs n) c
  mapped-any xs n [] = refl
  mapped-any xs n (q ∷ qs) = λ i. mapped-by xs n q i || mapped-any xs n qs i

  mapped-kept : (xs done : List Assigned) (w : Literal) (c : List Literal) → IsKept xs done w c → IsKept (map f xs)
      (map f done) w c
  mapped-kept xs [] w c k = tt
  mapped-kept xs (x ∷ done) w c k = (
    (λ same. ap (λ n. list_any (true_by (map f xs) n) c) (level x) ∙ mapped-any xs x.level c
        ∙ k.0 (ap (same_literal (negation w)) (sym (lit x)) ∙ same)),
    mapped-kept xs done w c k.1,
  )

  pub mapped-guarded : (xs done : List Assigned) (c : List Literal) → IsGuarded xs done c → IsGuarded (map f xs)
      (map f done) c
  mapped-guarded xs done [] g = g
  mapped-guarded xs done (w ∷ []) g = mapped-by xs 0 w ∙ g
  mapped-guarded xs done (w ∷ o ∷ rest) g = (mapped-kept xs done w _ g.0, mapped-kept xs done o _ g.1)

  pub mapped-at : (depth : ℕ) (xs : List Assigned) → AreAt depth xs → AreAt depth (map f xs)
  mapped-at depth [] all = tt
  mapped-at depth (x ∷ xs) all = (level x ∙ all.0, mapped-at depth xs all.1)

  pub mapped-within : (n : ℕ) (xs : List Assigned) → AreWithin n xs → AreWithin n (map f xs)
  mapped-within n [] all = tt
  mapped-within n (x ∷ xs) all = (subst (λ (l : Literal). l.index < n) (sym (lit x)) all.0, mapped-within n xs all.1)

pub take-mapped : {X Y : Type 0} (f : X → Y) (n : ℕ) (xs : List X) → take n (map f xs) ≡ map f (take n xs)
take-mapped f zero xs = refl
take-mapped f (suc n) [] = refl
take-mapped f (suc n) (x ∷ xs) = ap (λ z. f x ∷ z) (take-mapped f n xs)

pub drop-mapped : {X Y : Type 0} (f : X → Y) (n : ℕ) (xs : List X) → drop n (map f xs) ≡ map f (drop n xs)
drop-mapped f zero xs = refl
drop-mapped f (suc n) [] = refl
drop-mapped f (suc n) (x ∷ xs) = drop-mapped f n xs
