-- a clause in which no variable stands twice is no longer than there are variables
use Rattle.std.proofs.Common.{◌≡◌, ℕ, zero, suc, ◌+◌, ◌<◌, ◌≤◌, true, false, List, [], ◌∷◌, All, length, nat_eq, nat_lt, refl, ap, arith}
use Rattle.std.proofs.lemmas.Bool.Decides.{nat_tests}
use Rattle.std.proofs.lemmas.List.Sums.{sum_by-cons}
use Rattle.std.proofs.lemmas.List.Elements.{All-head, All-tail}
use Rattle.gr_logic.specs.Literals.{Literal}
use Rattle.gr_prop.specs.Watching.{bit, occurs}

-- how many literals have a variable below this one
abbrev below : List Literal → ℕ → ℕ
below [] n = 0
below (x ∷ xs) n = bit (nat_lt x.index n) + below xs n

none : (c : List Literal) → below c 0 ≡ 0
none [] = refl
none (x ∷ xs) =
    let t : nat_lt x.index 0 ≡ false = grind (arith, nat_tests) in
    let e : bit (nat_lt x.index 0) ≡ 0 = ap bit t in
    let rest = none xs in
    omega (arith, e, rest)

all : (c : List Literal) (n : ℕ) → All (λ l. l.index < n) c → below c n ≡ length c
all [] n known = refl
all (x ∷ xs) n known =
    let low : x.index < n = All-head (λ l. l.index < n) x xs known in
    let t : nat_lt x.index n ≡ true = grind (arith, nat_tests, low) in
    let e : bit (nat_lt x.index n) ≡ 1 = ap bit t in
    let rest = all xs n (All-tail (λ l. l.index < n) x xs known) in
    omega (arith, e, rest)

one : (i n : ℕ) → bit (nat_lt i (suc n)) ≡ bit (nat_lt i n) + bit (nat_eq i n)
one i n =
    elim (nat_lt i n) as (λ b. nat_lt i n ≡ b → bit (nat_lt i (suc n)) ≡ bit b + bit (nat_eq i n)) [
      | true ↦ λ e.
          let s : nat_lt i (suc n) ≡ true = grind (arith, nat_tests, e) in
          let o : nat_eq i n ≡ false = grind (arith, nat_tests, e) in
          let f : bit (nat_lt i (suc n)) ≡ 1 = ap bit s in
          let g : bit (nat_eq i n) ≡ 0 = ap bit o in
          omega (arith, f, g)
      | false ↦ λ e.
          let s : nat_lt i (suc n) ≡ nat_eq i n = grind (arith, nat_tests, e) in
          let f : bit (nat_lt i (suc n)) ≡ bit (nat_eq i n) = ap bit s in
          omega (arith, f)
    ] refl

next : (c : List Literal) (n : ℕ) → below c (suc n) ≡ below c n + occurs c n
next [] n = omega arith
next (x ∷ xs) n =
    let e : occurs (x ∷ xs) n ≡ bit (nat_eq x.index n) + occurs xs n =
    sum_by-cons (λ (y : Literal). bit (nat_eq y.index n)) x xs in
    let o = one x.index n in
    let rest = next xs n in
    omega (arith, e, o, rest)

few : (c : List Literal) → ((index : ℕ) → occurs c index ≤ 1) → (n : ℕ) → below c n ≤ n
few c distinct zero = let e = none c in omega (arith, e)
few c distinct (suc n) =
    let e = next c n in
    let rest = few c distinct n in
    let d = distinct n in
    omega (arith, e, rest, d)

pub short : (c : List Literal) (n : ℕ) → ((index : ℕ) → occurs c index ≤ 1)
    → All (λ l. l.index < n) c → length c ≤ n
short c n distinct known =
    let e = all c n known in
    let f = few c distinct n in
    omega (arith, e, f)
