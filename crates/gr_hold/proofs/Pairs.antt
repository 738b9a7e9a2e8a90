-- what the words say of each pair
use Rattle.std.proofs.Common.{◌≡◌, ℕ, zero, suc, ◌+◌, ◌≤◌, ◌<◌, Bool, true, false, not, ◌&&◌, ◌||◌, List, [], ◌∷◌}
use Rattle.std.proofs.Common.{◌++◌, map, Option, Some, None, refl, sym, ap, ◌∙◌, arith, nat_eq, nat_lt, cond}
use Rattle.std.proofs.Common.{if◌then◌else◌}
use Rattle.std.specs.Prelude.{is_some, count_by}
use Rattle.std.specs.List.{list_any}
use Rattle.std.specs.Int.{bit_at}
use Rattle.std.specs.Map.{lookup}
use Rattle.std.specs.Ordering.{nat_cmp, eq_by_cmp, on}
use Rattle.std.specs.Cmp.{IsTotalOrder, nat_cmp_total, then_total, on_total, both_tied, unsigned_ties}
use Rattle.std.specs.FinSet as set
use Rattle.std.specs.FinMap.{IsAntisymmetric, nat_cmp-IsAntisymmetric}
use Rattle.std.proofs.lemmas.Bool.Decides.{nat_tests}
use Rattle.std.proofs.lemmas.Map.Lookups.{exact_pairs}
use Rattle.std.proofs.lemmas.Map.Views.{any-filter_same, tells_apart}
use Rattle.std.proofs.lemmas.Nat.Bits.{bit_at-zero}
use Rattle.gr_hold.specs.declared.holds.Holder.{Holder}
use Rattle.gr_hold.specs.declared.holds.Holder.TheVariants.{Actor, Work, Result}
use Rattle.gr_hold.specs.Holding.{IsHolder, Holding, all_holders, number_of, holder_of, holder_of-number_of, hold_cmp}
use Rattle.gr_hold.specs.Holding.{count_of}
use Rattle.gr_hold.specs.Words.{word_of, is_held, candidates, held, IsPut, IsWritten, bits_below}
use Rattle.gr_hold.proofs.Bits.{counted}

pub hold_cmp_total : IsTotalOrder hold_cmp
hold_cmp_total =
    then_total (on_total (λ (p : ℕ × Holder). p.0) nat_cmp_total)
    (on_total (λ (p : ℕ × Holder). number_of p.1) nat_cmp_total)

-- only a pair ties with itself
pub hold_cmp-IsAntisymmetric : IsAntisymmetric hold_cmp
hold_cmp-IsAntisymmetric =
    exact_pairs nat_cmp (on number_of nat_cmp) nat_cmp-IsAntisymmetric (λ a b e.
    sym (holder_of-number_of a) ∙ ap holder_of (nat_cmp-IsAntisymmetric (number_of a) (number_of b) e)
    ∙ holder_of-number_of b)

-- whether two pairs are one
abbrev pub same_pair : ℕ × Holder → ℕ × Holder → Bool
same_pair p r = nat_eq p.0 r.0 && nat_eq (number_of p.1) (number_of r.1)

pub tied-pair : (p r : ℕ × Holder) → eq_by_cmp hold_cmp p r ≡ same_pair p r
tied-pair p r =
    sym (both_tied (nat_eq p.0 r.0) (nat_eq (number_of p.1) (number_of r.1)) _ _ (unsigned_ties p.0 r.0)
    (unsigned_ties (number_of p.1) (number_of r.1)))

-- whether it is one of those that may hold
abbrev pub is_holder : Holder → Bool
is_holder by = list_any (λ h. nat_eq (number_of by) (number_of h)) all_holders

-- one id's pairs have a pair where the id is that one
any-row : (q id : ℕ) (by : Holder) (hs : List Holder)
    → list_any (same_pair (q, by)) (map (λ h. (id, h)) hs)
    ≡ (nat_eq q id && list_any (λ h. nat_eq (number_of by) (number_of h)) hs)
any-row q id by [] = none (nat_eq q id)
  where
    none : (b : Bool) → false ≡ (b && false)
    none true = refl
    none false = refl
any-row q id by (h ∷ hs) =
    ap (λ b. (nat_eq q id && nat_eq (number_of by) (number_of h)) || b) (any-row q id by hs)
    ∙ cases (nat_eq q id) _ _
  where
    cases : (a b c : Bool) → ((a && b) || (a && c)) ≡ (a && (b || c))
    cases true b c = refl
    cases false b c = refl

any-append : {X : Type 0} (p : X → Bool) (xs ys : List X)
    → list_any p (xs ++ ys) ≡ (list_any p xs || list_any p ys)
any-append p [] ys = refl
any-append p (x ∷ xs) ys = ap (λ b. p x || b) (any-append p xs ys) ∙ assoc (p x) _ _
  where
    assoc : (a b c : Bool) → (a || (b || c)) ≡ ((a || b) || c)
    assoc true b c = refl
    assoc false b c = refl

any-candidates : (words : List (ℕ × ℕ)) (q : ℕ) (by : Holder)
    → list_any (same_pair (q, by)) (candidates words)
    ≡ (is_some (lookup (nat_eq q) words) && is_holder by)
any-candidates [] q by = refl
any-candidates (e ∷ es) q by =
    any-append (same_pair (q, by)) (map (λ h. (e.0, h)) all_holders) (candidates es)
    ∙ (λ i. any-row q e.0 by all_holders i || any-candidates es q by i)
    ∙ cases (nat_eq q e.0) (is_holder by) (lookup (nat_eq q) es)
  where
    or-same : (a b : Bool) → (a || (b && a)) ≡ a
    or-same true b = refl
    or-same false true = refl
    or-same false false = refl

    cases : (a b : Bool) (o : Option ℕ)
        → ((a && b) || (is_some o && b)) ≡ (is_some (cond a (Some e.1) o) && b)
    cases true b o = or-same b (is_some o)
    cases false b o = refl

-- a pair is in the set where its holder's bit is set
pub contains-held : (words : List (ℕ × ℕ)) (q : ℕ) (by : Holder)
    → set.contains (held words) (q, by) ≡ (is_holder by && is_held words (q, by))
contains-held words q by =
    set.contains-from_list hold_cmp_total _ (q, by)
    ∙ any-filter_same (eq_by_cmp hold_cmp (q, by)) (is_held words) (is_held words (q, by))
    (λ k tie. ap (is_held words) (sym (tells_apart hold_cmp-IsAntisymmetric (q, by) k tie))) (candidates words)
    ∙ ap (λ b. is_held words (q, by) && b)
    ((λ i. list_any (λ r. tied-pair (q, by) r i) (candidates words)) ∙ any-candidates words q by)
    ∙ cases (lookup (nat_eq q) words) (is_holder by)
  where
    end : (a b : Bool) → (a && (true && b)) ≡ (b && a)
    end true true = refl
    end true false = refl
    end false true = refl
    end false false = refl

    cases : (o : Option ℕ) (b : Bool)
        → (nat_eq (bit_at (word_of o) (number_of by)) 1 && (is_some o && b))
        ≡ (b && nat_eq (bit_at (word_of o) (number_of by)) 1)
    cases (Some word) b = end (nat_eq (bit_at word (number_of by)) 1) b
    cases None b = rw (bit_at-zero (number_of by)) (end_none b)
      where
        end_none : (b : Bool) → false ≡ (b && false)
        end_none true = refl
        end_none false = refl

-- an actor up to 8 is one of the holders
pub one_of_them : (by : Holder) → IsHolder by → is_holder by ≡ true
one_of_them Work is = refl
one_of_them Result is = refl
one_of_them (Actor actor) is = each actor is
  where
    each : (a : ℕ) → a ≤ 8 → is_holder (Actor a) ≡ true
    each zero low = refl
    each (suc zero) low = refl
    each (suc (suc zero)) low = refl
    each (suc (suc (suc zero))) low = refl
    each (suc (suc (suc (suc zero)))) low = refl
    each (suc (suc (suc (suc (suc zero))))) low = refl
    each (suc (suc (suc (suc (suc (suc zero)))))) low = refl
    each (suc (suc (suc (suc (suc (suc (suc zero))))))) low = refl
    each (suc (suc (suc (suc (suc (suc (suc (suc zero)))))))) low = refl
    each (suc (suc (suc (suc (suc (suc (suc (suc (suc a))))))))) low = absurd (omega arith)

-- a holder's number is low
pub low_number : (by : Holder) → is_holder by ≡ true → number_of by < 11
low_number Work is = omega arith
low_number Result is = omega arith
low_number (Actor actor) is = each (nat_lt actor 9) refl
  where
    each : (b : Bool) → nat_lt actor 9 ≡ b → suc (suc actor) < 11
    each true low = grind (arith, nat_tests)
    each false high = grind (arith, nat_tests)

second : (a b : Bool) → (a && b) ≡ true → b ≡ true
second true b e = e
second false b e = absurd (let f = e in cc)

-- a word that is put changes one pair
module _ (old new : List (ℕ × ℕ)) (id word : ℕ) (by : Holder) (bit : ℕ) (is : IsHolder by)
    (put : IsPut old new id word)
    (written : IsWritten (word_of (lookup (nat_eq id) old)) word (number_of by) bit) where
  changed : (q : ℕ) (h : Holder) → is_holder h ≡ true
      → is_held new (q, h) ≡ (if same_pair (q, h) (id, by) then nat_eq bit 1 else is_held old (q, h))
  changed q h one =
      ap (λ w. nat_eq (bit_at w (number_of h)) 1) (put q) ∙ cases (nat_eq id q) refl
    where
      inner : (b : Bool) → nat_eq (if b then bit else bit_at (word_of (lookup (nat_eq id) old)) (number_of h)) 1
          ≡ (if b then nat_eq bit 1 else is_held old (id, h))
      inner true = refl
      inner false = refl

      cases : (b : Bool) → nat_eq id q ≡ b
          → nat_eq (bit_at (if b then word else word_of (lookup (nat_eq q) old)) (number_of h)) 1
          ≡ (if same_pair (q, h) (id, by) then nat_eq bit 1 else is_held old (q, h))
      cases true e =
          let same : id ≡ q = grind (arith, nat_tests) in
          let here : nat_eq q id ≡ true = grind (arith, nat_tests) in
          ap (λ n. nat_eq n 1) (written (number_of h) (low_number h one))
          ∙ inner (nat_eq (number_of h) (number_of by))
          ∙ (λ i. if sym here i && nat_eq (number_of h) (number_of by) then nat_eq bit 1 else is_held old (same i, h))
      cases false e =
          let other : nat_eq q id ≡ false = grind (arith, nat_tests) in
          rw other refl

  contains-changed : (q : ℕ) (h : Holder)
      → set.contains (held new) (q, h)
      ≡ (if same_pair (q, h) (id, by) then nat_eq bit 1 else set.contains (held old) (q, h))
  contains-changed q h =
      contains-held new q h ∙ cases (is_holder h) refl
      ∙ (λ i. if same_pair (q, h) (id, by) then nat_eq bit 1 else sym (contains-held old q h) i)
    where
      outside : (b : Bool) → is_holder h ≡ false → same_pair (q, h) (id, by) ≡ b
          → false ≡ (if b then nat_eq bit 1 else false)
      outside false none e = refl
      outside true none e = absurd (
          let same : number_of h ≡ number_of by = grind (arith, nat_tests, second (nat_eq q id) _ e) in
          let there : is_holder h ≡ true =
          ap (λ n. list_any (λ k. nat_eq n (number_of k)) all_holders) same ∙ one_of_them by is in
          cc)

      cases : (b : Bool) → is_holder h ≡ b
          → (b && is_held new (q, h))
          ≡ (if same_pair (q, h) (id, by) then nat_eq bit 1 else (b && is_held old (q, h)))
      cases true one = changed q h one
      cases false none = outside (same_pair (q, h) (id, by)) none refl

-- a pair more
pub given : (old new : List (ℕ × ℕ)) (id word : ℕ) (by : Holder) → IsHolder by → IsPut old new id word
    → IsWritten (word_of (lookup (nat_eq id) old)) word (number_of by) 1
    → held new ≡ set.insert (held old) (id, by)
given old new id word by is put written =
    set.same_set hold_cmp_total hold_cmp-IsAntisymmetric (held new) (set.insert (held old) (id, by)) (λ p.
    contains-changed old new id word by 1 is put written p.0 p.1
    ∙ cases (same_pair p (id, by)) (set.contains (held old) p)
    ∙ (λ i. sym (tied-pair p (id, by)) i || set.contains (held old) p)
    ∙ sym (set.contains-insert hold_cmp_total (held old) (id, by) p))
  where
    cases : (b x : Bool) → (if b then true else x) ≡ (b || x)
    cases true x = refl
    cases false x = refl

-- a pair less
pub dropped : (old new : List (ℕ × ℕ)) (id word : ℕ) (by : Holder) → IsHolder by → IsPut old new id word
    → IsWritten (word_of (lookup (nat_eq id) old)) word (number_of by) 0
    → held new ≡ set.remove (held old) (id, by)
dropped old new id word by is put written =
    set.same_set hold_cmp_total hold_cmp-IsAntisymmetric (held new) (set.remove (held old) (id, by)) (λ p.
    contains-changed old new id word by 0 is put written p.0 p.1
    ∙ cases (same_pair p (id, by)) (set.contains (held old) p)
    ∙ (λ i. not (sym (tied-pair p (id, by)) i) && set.contains (held old) p)
    ∙ sym (set.contains-remove hold_cmp_total (held old) (id, by) p))
  where
    cases : (b x : Bool) → (if b then false else x) ≡ (not b && x)
    cases true x = refl
    cases false x = refl

-- whether a holder's bit is set
pub bit-held : (words : List (ℕ × ℕ)) (id : ℕ) (by : Holder) → IsHolder by
    → set.contains (held words) (id, by)
    ≡ nat_eq (bit_at (word_of (lookup (nat_eq id) words)) (number_of by)) 1
bit-held words id by is =
    contains-held words id by ∙ ap (λ b. b && is_held words (id, by)) (one_of_them by is)

-- how many bits are set
pub count-held : (words : List (ℕ × ℕ)) (id : ℕ)
    → count_of (held words) id ≡ bits_below (word_of (lookup (nat_eq id) words)) 11
count-held words id =
    (λ i. count_by (λ by. contains-held words id by i) all_holders)
    ∙ sums (word_of (lookup (nat_eq id) words))
  where
    sums : (w : ℕ) → count_by (λ by. is_holder by && nat_eq (bit_at w (number_of by)) 1) all_holders ≡ bits_below w 11
    sums w = λ i.
        0 + counted w 0 i + counted w 1 i + counted w 2 i + counted w 3 i + counted w 4 i + counted w 5 i
        + counted w 6 i + counted w 7 i + counted w 8 i + counted w 9 i + counted w 10 i

-- a word with a bit is not zero
pub some_bit : (old word at : ℕ) → at < 11 → IsWritten old word at 1 → 0 < word
some_bit old zero at low written =
    absurd (
    let here : nat_eq at at ≡ true = grind (arith, nat_tests) in
    let one : 0 ≡ 1 = sym (bit_at-zero at) ∙ written at low ∙ ap (λ b. if b then 1 else bit_at old at) here in
    omega (arith, one))
some_bit old (suc n) at low written = omega arith

-- an id that is held has a word
pub has_word : (words : List (ℕ × ℕ)) (id : ℕ) (by : Holder) → IsHolder by
    → set.contains (held words) (id, by) ≡ true → is_some (lookup (nat_eq id) words) ≡ true
has_word words id by is there = cases (lookup (nat_eq id) words) (sym (bit-held words id by is) ∙ there)
  where
    cases : (o : Option ℕ) → nat_eq (bit_at (word_of o) (number_of by)) 1 ≡ true → is_some o ≡ true
    cases (Some word) e = refl
    cases None e =
        absurd (
        let none : nat_eq 0 1 ≡ true = sym (ap (λ n. nat_eq n 1) (bit_at-zero (number_of by))) ∙ e in
        let z = none in
        cc)

-- the word of the id that is put
pub put_here : (old new : List (ℕ × ℕ)) (id word : ℕ) → IsPut old new id word
    → word_of (lookup (nat_eq id) new) ≡ word
put_here old new id word put =
    let here : nat_eq id id ≡ true = grind (arith, nat_tests) in
    put id ∙ ap (λ b. if b then word else word_of (lookup (nat_eq id) old)) here

-- ---- the pairs of a set that was changed
pub none_at_first : (holding : Holding) (p : ℕ × Holder) → holding ≡ set.empty → set.contains holding p ≡ false
none_at_first holding p is = ap (λ s. set.contains s p) is ∙ set.contains-empty hold_cmp p

pub one_more : (old new : Holding) (given p : ℕ × Holder) → new ≡ set.insert old given
    → set.contains new p ≡ (same_pair p given || set.contains old p)
one_more old new given p is =
    ap (λ s. set.contains s p) is ∙ set.contains-insert hold_cmp_total old given p
    ∙ ap (λ b. b || set.contains old p) (tied-pair p given)
