-- stores of clauses, and the clauses without the order of their literals
use Rattle.std.proofs.Common.{◌≡◌, ◌≢◌, ℕ, ◌<◌, ◌≤◌, Bool, true, false, cond, ◌||◌, List, [], ◌∷◌, map, Option, Some, None, IsSome, length, refl, sym, ap, ◌∙◌, subst, arith, nat_eq, ◌==◌}
use Rattle.std.proofs.lemmas.Bool.Decides.{nat_tests}
use Rattle.std.proofs.lemmas.List.Sorted.{All-permutation, sum_by-IsPermutation, list_any-IsPermutation, IsPermutation-swap, IsPermutation-refl, IsPermutation-trans}
use Rattle.std.specs.List.{list_any, swap}
use Rattle.std.specs.List.Sorted.{IsPermutation}
use Rattle.std.specs.Option.{unwrap_or, option_map}
use Rattle.std.specs.Ordering.{nat_cmp, eq_by_cmp}
use Rattle.std.specs.Cmp.{nat_cmp_total, unsigned_tied}
use Rattle.std.specs.FinMap as finite
use Rattle.std.specs.FinMap.{nat_cmp-IsAntisymmetric}
use Rattle.std.specs.FinSet as set
use Rattle.gr_logic.specs.Literals.{Literal, same_literal}
use Rattle.gr_logic.specs.LiteralSets.{literal_cmp}
use Rattle.gr_logic.specs.Rup.{LiteralSet, members}
use Rattle.gr_logic.proofs.FiniteSets.{literal_cmp_total, literal_cmp-IsAntisymmetric, eq_by_cmp-literal}
use Rattle.gr_arena.specs.Arenas.{Stored, no_clause}
use Rattle.gr_prop.specs.Bases.{BaseClause, base_clause, clauses_in, family}
use Rattle.gr_prop.specs.Watching.{Store, stored_at, lits_at, bit, AllDistinct, AreKnown}
use Rattle.gr_prop.specs.Visits.{IsReordered}

pub tied-itself : (q : ℕ) → eq_by_cmp nat_cmp q q ≡ true
tied-itself q = unsigned_tied q q ∙ grind (arith, nat_tests)

pub not-tied : (q n : ℕ) → q ≢ n → eq_by_cmp nat_cmp q n ≡ false
not-tied q n apart = unsigned_tied q n ∙ grind (arith, nat_tests)

-- what holds at this place, and at each other, holds everywhere
pub by_place : (P : ℕ → Type 0) (place : ℕ) → P place → ((q : ℕ) → q ≢ place → P q) → (q : ℕ) → P q
by_place P place here there q =
    elim (q == place) as (λ b. (q == place) ≡ b → P q) [
      | true ↦ λ is. let v : place ≡ q = grind (arith, nat_tests) in subst P v here
      | false ↦ λ is. there q (λ w. let t : (q == place) ≡ true = grind (arith, nat_tests) in cc)
    ] refl

module _ {X : Type 0} where
  pub get-insert-same : (k : finite.FinMap nat_cmp X) (p : ℕ) (x : X) → finite.get (finite.insert k p x) p ≡ Some x
  get-insert-same k p x = finite.get-insert nat_cmp_total k p x p ∙ ap (λ b. cond b (Some x) (finite.get k p))
      (tied-itself p)

  pub get-insert-other : (k : finite.FinMap nat_cmp X) (p : ℕ) (x : X) (q : ℕ) → q ≢ p → finite.get
      (finite.insert k p x) q ≡ finite.get k q
  get-insert-other k p x q apart = finite.get-insert nat_cmp_total k p x q ∙ ap
      (λ b. cond b (Some x) (finite.get k q)) (not-tied q p apart)

  pub get-remove-same : (k : finite.FinMap nat_cmp X) (p : ℕ) → finite.get (finite.remove k p) p ≡ None
  get-remove-same k p = finite.get-remove nat_cmp_total k p p ∙ ap (λ b. cond b None (finite.get k p)) (tied-itself p)

  pub get-remove-other : (k : finite.FinMap nat_cmp X) (p q : ℕ) → q ≢ p → finite.get (finite.remove k p) q ≡
      finite.get k q
  get-remove-other k p q apart = finite.get-remove nat_cmp_total k p q ∙ ap (λ b. cond b None (finite.get k q))
      (not-tied q p apart)

  pub same-map : (k n : finite.FinMap nat_cmp X) → ((q : ℕ) → finite.get k q ≡ finite.get n q) → k ≡ n
  same-map k n each = finite.same_map nat_cmp_total nat_cmp-IsAntisymmetric k n each

  -- what came in at a new place is taken out again
  pub remove-insert : (k : finite.FinMap nat_cmp X) (p : ℕ) (x : X) → finite.get k p ≡ None → finite.remove
      (finite.insert k p x) p ≡ k
  remove-insert k p x new = same-map _ _ (by_place (λ q. finite.get (finite.remove (finite.insert k p x) p) q ≡
      finite.get k q) p
      (get-remove-same (finite.insert k p x) p ∙ sym new)
      (λ q apart. get-remove-other (finite.insert k p x) p q apart ∙ get-insert-other k p x q apart))

find-map : {X Y : Type 0} (f : X → Y) (es : List (ℕ × X)) (q : ℕ) → finite.find nat_cmp q
    (map (λ e. (e.0, f e.1)) es) ≡ option_map f (finite.find nat_cmp q es)
find-map f [] q = refl
find-map f (e ∷ es) q = cases (eq_by_cmp nat_cmp q e.0) (finite.find nat_cmp q es) (find-map f es q)
  where
    cases : (b : Bool) (y : Option _) {x : Option _} → x ≡ option_map f y → cond b (Some (f e.1)) x ≡ option_map f
        (cond b (Some e.1) y)
    cases true y same = refl
    cases false y same = same

pub get-clauses_in : (k : Store) (q : ℕ) → finite.get (clauses_in k) q ≡ option_map base_clause (finite.get k q)
get-clauses_in k q =
    finite.get-from_entries nat_cmp_total (map (λ e. (e.0, base_clause e.1)) (finite.entries k)) q
    ∙ find-map base_clause (finite.entries k) q ∙ ap (option_map base_clause) (sym (finite.get-entries k q))

any-same : (q : Literal) (c : List Literal) → list_any (eq_by_cmp literal_cmp q) c ≡ members c q
any-same q [] = refl
any-same q (x ∷ xs) = λ i. eq_by_cmp-literal q x i || any-same q xs i

-- the set of a clause's literals
pub contains-clause : (c : List Literal) → set.contains (set.from_list {R = literal_cmp} c) ≡ members c
contains-clause c = λ i q. (set.contains-from_list literal_cmp_total c q ∙ any-same q c) i

pub family-at : (k : Store) (q : ℕ) → family (clauses_in k) q ≡ option_map (λ (s : Stored). members s.lits)
    (finite.get k q)
family-at k q = ap (option_map (λ (c : BaseClause). set.contains c.literals)) (get-clauses_in k q) ∙ go (finite.get k q)
  where
    go : (o : Option Stored) → option_map (λ (c : BaseClause). set.contains c.literals) (option_map base_clause o) ≡
        option_map (λ (s : Stored). members s.lits) o
    go None = refl
    go (Some s) = ap Some (contains-clause s.lits)

pub family-there : (k : Store) (q : ℕ) → IsSome (finite.get k q) → family (clauses_in k) q ≡ Some
    (members (lits_at k q))
family-there k q there = family-at k q ∙ go (finite.get k q) there
  where
    go : (o : Option Stored) → IsSome o → option_map (λ (s : Stored). members s.lits) o ≡ Some
        (members (unwrap_or o no_clause).lits)
    go None h = absurd (cc)
    go (Some s) h = refl

pub family-some : (k : Store) (q : ℕ) (c : LiteralSet) → family (clauses_in k) q ≡ Some c → IsSome (finite.get k q) ×
    (members (lits_at k q) ≡ c)
family-some k q c is = go (finite.get k q) (sym (family-at k q) ∙ is)
  where
    go : (o : Option Stored) → option_map (λ (s : Stored). members s.lits) o ≡ Some c → IsSome o ×
        (members (unwrap_or o no_clause).lits ≡ c)
    go None e = absurd (cc)
    go (Some s) e = (refl, inside e)
      where
        inside : {a b : LiteralSet} → Some a ≡ Some b → a ≡ b
        inside e = cc

-- the order of the literals does not matter
pub same-literals : (c d : List Literal) → IsPermutation c d → set.from_list {R = literal_cmp} d ≡ set.from_list c
same-literals c d p = set.same_set literal_cmp_total literal_cmp-IsAntisymmetric _ _
    (λ q. ap (λ s. s q) (contains-clause d) ∙ sym (list_any-IsPermutation (same_literal q) c d p) ∙ sym
    (ap (λ s. s q) (contains-clause c)))

pub some-is : (k : Store) (p : ℕ) → IsSome (finite.get k p) → finite.get k p ≡ Some (stored_at k p)
some-is k p = elim (finite.get k p) as (λ o. IsSome o → o ≡ Some (unwrap_or o no_clause)) [
  | None ↦ λ h. absurd (cc)
  | Some s ↦ λ _. refl
]

pub lits-other : (k n : Store) (place : ℕ) → IsReordered k n place → (q : ℕ) → q ≢ place → lits_at n q ≡ lits_at k q
lits-other k n place r q apart = ap (λ o. (unwrap_or o no_clause).lits) (r.others q apart)

pub there-other : (k n : Store) (place : ℕ) → IsReordered k n place → (q : ℕ) → IsSome (finite.get n q) → IsSome
    (finite.get k q)
there-other k n place r = by_place (λ q. IsSome (finite.get n q) → IsSome (finite.get k q)) place (λ _. r.was)
    (λ q apart h. subst IsSome (r.others q apart) h)

pub there-new : (k n : Store) (place : ℕ) → IsReordered k n place → (q : ℕ) → IsSome (finite.get k q) → IsSome
    (finite.get n q)
there-new k n place r = by_place (λ q. IsSome (finite.get k q) → IsSome (finite.get n q)) place (λ _. r.there)
    (λ q apart h. subst IsSome (sym (r.others q apart)) h)

pub lits-permuted : (k n : Store) (place : ℕ) → IsReordered k n place → (q : ℕ) → IsPermutation (lits_at k q)
    (lits_at n q)
lits-permuted k n place r = by_place (λ q. IsPermutation (lits_at k q) (lits_at n q)) place r.lits
    (λ q apart. subst (IsPermutation (lits_at k q)) (sym (lits-other k n place r q apart)) (IsPermutation-refl _))

-- a reordered store has the same clauses
pub reordered-clauses : (k n : Store) (place : ℕ) → IsReordered k n place → clauses_in n ≡ clauses_in k
reordered-clauses k n place r = same-map _ _ (by_place (λ q. finite.get (clauses_in n) q ≡ finite.get (clauses_in k)
    q) place
    (get-clauses_in n place ∙ ap (option_map base_clause) (some-is n place r.there)
    ∙ (λ i. Some (record {
      id = r.id i;
      lbd = r.lbd i;
      literals = same-literals (lits_at k place) (lits_at n place)
          r.lits i;
    }))
    ∙ sym (get-clauses_in k place ∙ ap (option_map base_clause) (some-is k place r.was)))
    (λ q apart. get-clauses_in n q ∙ ap (option_map base_clause) (r.others q apart) ∙ sym (get-clauses_in k q)))

pub reordered-distinct : (k n : Store) (place : ℕ) → IsReordered k n place → AllDistinct k → AllDistinct n
reordered-distinct k n place r all q index =
    subst (λ m. m ≤ 1) (sym (sum_by-IsPermutation (λ (x : Literal). bit (nat_eq x.index index)) _ _
    (lits-permuted k n place r q))) (all q index)

pub reordered-known : (k n : Store) (vars place : ℕ) → IsReordered k n place → AreKnown k vars → AreKnown n vars
reordered-known k n vars place r all q = All-permutation (λ (l : Literal). l.index < vars) _ _
    (lits-permuted k n place r q) (all q)

pub reordered-members : (k n : Store) (place : ℕ) → IsReordered k n place → (q : ℕ) (l : Literal) → members
    (lits_at n q) l ≡ members (lits_at k q) l
reordered-members k n place r q l = sym (list_any-IsPermutation (same_literal l) _ _ (lits-permuted k n place r q))

pub reordered-any : (k n : Store) (place : ℕ) → IsReordered k n place → (q : ℕ) (p : Literal → Bool) → list_any p
    (lits_at n q) ≡ list_any p (lits_at k q)
reordered-any k n place r q p = sym (list_any-IsPermutation p _ _ (lits-permuted k n place r q))

pub reordered-itself : (k : Store) (p : ℕ) → IsSome (finite.get k p) → IsReordered k k p
reordered-itself k p there =
    record { others = λ q apart. refl; was = there; there = there; id = refl; lbd = refl; lits = IsPermutation-refl _ }

pub reordered-on : (k m n : Store) (p : ℕ) → IsReordered k m p → IsReordered m n p → IsReordered k n p
reordered-on k m n p one two = record {
  others = λ q apart. two.others q apart ∙ one.others q apart;
  was = one.was;
  there = two.there;
  id = two.id ∙ one.id;
  lbd = two.lbd ∙ one.lbd;
  lits = IsPermutation-trans _ _ _ one.lits two.lits;
}

-- two literals change places
abbrev pub with_swapped : Store → ℕ → ℕ → ℕ → Store
with_swapped k p i j = finite.insert k p (record (stored_at k p) { lits = swap (lits_at k p) i j })

pub stored-insert : (k : Store) (p : ℕ) (s : Stored) → stored_at (finite.insert k p s) p ≡ s
stored-insert k p s = ap (λ o. unwrap_or o no_clause) (get-insert-same k p s)

pub lits-swapped : (k : Store) (p i j : ℕ) → lits_at (with_swapped k p i j) p ≡ swap (lits_at k p) i j
lits-swapped k p i j = ap (λ (s : Stored). s.lits) (stored-insert k p _)

pub swapped-reordered : (k : Store) (p i j : ℕ) → IsSome (finite.get k p) → i < length (lits_at k p) → j < length
    (lits_at k p)
    → IsReordered k (with_swapped k p i j) p
swapped-reordered k p i j there low high = record {
  others = λ q apart. get-insert-other k p _ q apart;
  was = there;
  there = subst IsSome (sym (get-insert-same k p _)) refl;
  id = ap (λ (s : Stored). s.id) (stored-insert k p _);
  lbd = ap (λ (s : Stored). s.lbd) (stored-insert k p _);
  lits = IsPermutation-swap _ _ i j low high (lits-swapped k p i j);
}

-- a clause comes in, or leaves
pub clauses-insert : (k : Store) (p : ℕ) (s : Stored) → clauses_in (finite.insert k p s) ≡ finite.insert
    (clauses_in k) p (base_clause s)
clauses-insert k p s = same-map _ _ (by_place (λ q. finite.get (clauses_in (finite.insert k p s)) q ≡ finite.get
    (finite.insert (clauses_in k) p (base_clause s)) q) p
    (get-clauses_in (finite.insert k p s) p ∙ ap (option_map base_clause) (get-insert-same k p s) ∙ sym
    (get-insert-same (clauses_in k) p (base_clause s)))
    (λ q apart. get-clauses_in (finite.insert k p s) q ∙ ap (option_map base_clause) (get-insert-other k p s q apart)
    ∙ sym (get-clauses_in k q)
    ∙ sym (get-insert-other (clauses_in k) p (base_clause s) q apart)))

pub clauses-remove : (k : Store) (p : ℕ) → clauses_in (finite.remove k p) ≡ finite.remove (clauses_in k) p
clauses-remove k p = same-map _ _ (by_place (λ q. finite.get (clauses_in (finite.remove k p)) q ≡ finite.get
    (finite.remove (clauses_in k) p) q) p
    (get-clauses_in (finite.remove k p) p ∙ ap (option_map base_clause) (get-remove-same k p) ∙ sym
    (get-remove-same (clauses_in k) p))
    (λ q apart. get-clauses_in (finite.remove k p) q ∙ ap (option_map base_clause) (get-remove-other k p q apart) ∙
    sym (get-clauses_in k q)
    ∙ sym (get-remove-other (clauses_in k) p q apart)))

pub lits-insert : (k : Store) (p : ℕ) (s : Stored) → lits_at (finite.insert k p s) p ≡ s.lits
lits-insert k p s = ap (λ (t : Stored). t.lits) (stored-insert k p s)

pub lits-insert-other : (k : Store) (p : ℕ) (s : Stored) (q : ℕ) → q ≢ p → lits_at (finite.insert k p s) q ≡ lits_at k q
lits-insert-other k p s q apart = ap (λ o. (unwrap_or o no_clause).lits) (get-insert-other k p s q apart)

pub lits-remove : (k : Store) (p : ℕ) → lits_at (finite.remove k p) p ≡ []
lits-remove k p = ap (λ o. (unwrap_or o no_clause).lits) (get-remove-same k p)

pub lits-remove-other : (k : Store) (p q : ℕ) → q ≢ p → lits_at (finite.remove k p) q ≡ lits_at k q
lits-remove-other k p q apart = ap (λ o. (unwrap_or o no_clause).lits) (get-remove-other k p q apart)

pub none-lits : (k : Store) (p : ℕ) → finite.get k p ≡ None → lits_at k p ≡ []
none-lits k p e = ap (λ o. (unwrap_or o no_clause).lits) e
