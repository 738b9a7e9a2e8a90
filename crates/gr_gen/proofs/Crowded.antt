-- more pigeons than holes
use Rattle.std.proofs.Common.{◌≡◌, ◌<◌, ◌≤◌, ◌+◌, ◌-◌, ◌⊎◌, inl, inr, ℕ, suc, zero, Bool, true, false, not, ◌||◌, List, [], ◌∷◌, map, length, refl, sym, ap, subst, arith, nat_eq}
use Rattle.std.specs.Prelude.{IsTrue}
use Rattle.std.specs.List.{AllByRecursion, IsDistinct, flat_map, list_any, range_with_len}
use Rattle.std.proofs.lemmas.Bool.{eqb-true, false_from_ne_true, or_cases, or_parts}
use Rattle.std.proofs.lemmas.Map.Steps.{length-le_from_distinct_below}
use Rattle.gr_logic.specs.Literals.{Literal}
use Rattle.gr_logic.specs.Truth.{Meets, MeetsAll, IsUnsatisfiable, literal_true, value_of}
use Rattle.gr_gen.specs.OddRings.{is}
use Rattle.gr_gen.specs.Pigeonholes.{nest, is_somewhere, apart, apart_from_later, alone_in, crowd}
use Rattle.gr_gen.proofs.Counting.{all-front, all-back, all-flat, all-mapped, some-of}

not-both : (u v : Bool) → IsTrue (not u || (not v || false)) → u ≡ true → v ≡ true → ⊥
not-both true true clause one other = absurd (cc)
not-both true false clause one other = absurd (cc)
not-both false v clause one other = absurd (cc)

each-other : (h : ℕ) (hs : List ℕ) → list_any (nat_eq h) hs ≡ false → AllByRecursion (λ k. nat_eq h k ≡ false) hs
each-other h [] none = tt
each-other h (k ∷ ks) none =
    let parts = or_parts (nat_eq h k) (list_any (nat_eq h) ks) none in (parts.0, each-other h ks parts.1)

module _ (holes : ℕ) (a : List Bool) (all : MeetsAll a (crowd holes).clauses) where
  abbrev somewhere : List (List Literal)
  somewhere = map (is_somewhere holes) (range_with_len 0 (holes + 1))

  abbrev alone : List (List Literal)
  alone = flat_map (alone_in holes) (range_with_len 0 holes)

  -- the pigeon is in the hole
  abbrev IsIn : ℕ → ℕ → Type 0
  IsIn pigeon hole = (hole < holes) × (value_of a (nest holes pigeon hole) ≡ true)

  home : (pigeon : ℕ) → pigeon ≤ holes → (hole : ℕ) × IsIn pigeon hole
  home pigeon low =
      let found = some-of (literal_true a) (λ hole. is (nest holes pigeon hole)) 0 holes
      (all-mapped (Meets a) (is_somewhere holes) 0 (holes + 1) pigeon pigeon
      (all-front (Meets a) somewhere alone all) (omega arith) (omega arith)) in
      (found.0, (let within = found.1.0 in omega arith, found.1.1))

  apart-in : (hole pigeon other : ℕ) → IsIn pigeon hole → IsIn other hole → pigeon < other → other ≤ holes → ⊥
  apart-in hole pigeon other one two before low =
      not-both (value_of a (nest holes pigeon hole)) (value_of a (nest holes other hole))
      (all-mapped (Meets a) (apart holes hole pigeon) (pigeon + 1) (holes - pigeon) (other - (pigeon + 1)) other
      (all-flat (Meets a) (apart_from_later holes hole) 0 (holes + 1) pigeon pigeon
      (all-flat (Meets a) (alone_in holes) 0 holes hole hole
      (all-back (Meets a) somewhere alone all) one.0 (omega arith)) (omega arith) (omega arith))
      (omega arith) (omega arith)) one.1 two.1

  -- the holes of the first pigeons: no two are one
  record AreHomes (count : ℕ) (hs : List ℕ) : Type 0 where
    many : length hs ≡ count
    each : (hole : ℕ) → list_any (nat_eq hole) hs ≡ true → (pigeon : ℕ) × ((pigeon < count) × IsIn pigeon hole)
    distinct : IsDistinct nat_eq hs

  no-homes : AreHomes zero []
  unfolding IsDistinct
  no-homes = record { many = refl; each = λ hole none. absurd (cc); distinct = tt }

  one-home-more : (count : ℕ) (hs : List ℕ) → count ≤ holes → AreHomes count hs
      → (new : (hole : ℕ) × IsIn count hole) → AreHomes (suc count) (new.0 ∷ hs)
  unfolding IsDistinct
  one-home-more count hs low homes new = record {
    many = ap suc homes.many;
    each = λ hole there. pick hole (or_cases (nat_eq hole new.0) (list_any (nat_eq hole) hs) there);
    distinct = (each-other new.0 hs (false_from_ne_true (list_any (nat_eq new.0) hs) clash), homes.distinct);
  }
    where
      pick : (hole : ℕ) → (nat_eq hole new.0 ≡ true) ⊎ (list_any (nat_eq hole) hs ≡ true)
          → (pigeon : ℕ) × ((pigeon < suc count) × IsIn pigeon hole)
      pick hole (inl same) = (count, (omega arith, subst (IsIn count) (sym (eqb-true hole new.0 same)) new.1))
      pick hole (inr later) =
          let found = homes.each hole later in
          (found.0, (let before = found.1.0 in omega arith, found.1.1))

      clash : list_any (nat_eq new.0) hs ≡ true → ⊥
      clash there =
          let found = homes.each new.0 there in
          apart-in new.0 found.0 count found.1.1 new.1 found.1.0 low

  homes-of : (count : ℕ) → count ≤ holes + 1 → (hs : List ℕ) × AreHomes count hs
  homes-of zero low = ([], no-homes)
  homes-of (suc count) low =
      let rest = homes-of count (omega arith) in
      let new = home count (omega arith) in
      (new.0 ∷ rest.0, one-home-more count rest.0 (omega arith) rest.1 new)

-- so many different numbers are not below the number of holes
pub crowd-is-unsatisfiable : (holes : ℕ) → IsUnsatisfiable (crowd holes).clauses
crowd-is-unsatisfiable holes a all =
    let homes = homes-of holes a all (holes + 1) (omega arith) in
    let few = length-le_from_distinct_below homes.0 holes homes.1.distinct
    (λ hole there. (homes.1.each hole there).1.1.0) in
    let many = homes.1.many in absurd (omega arith)
