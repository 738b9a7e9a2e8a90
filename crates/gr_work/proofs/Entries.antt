-- a map by arrival, whose entries are in the order of arrival
use Rattle.std.proofs.Common.{◌≡◌, ℕ, zero, suc, ◌<◌, ◌≤◌, ◌+◌, ◌-◌, Bool, true, false, cond, not, ◌&&◌, ◌||◌, List}
use Rattle.std.proofs.Common.{[], ◌∷◌, ◌++◌, map, length, length-append, get_or, Option, Some, None, refl, sym, ap}
use Rattle.std.proofs.Common.{◌∙◌, arith, nat_eq, nat_lt}
use Rattle.std.specs.Prelude.{All, unwrap_or, is_some, slice_get}
use Rattle.std.specs.List.{IsDistinct, AllByRecursion, list_any}
use Rattle.std.specs.List.Sorted.{IsStrictlySortedBy}
use Rattle.std.specs.Map.{lookup, remove_entry, keys_of, values_of}
use Rattle.std.specs.BTreeMap as tree
use Rattle.std.specs.BTreeMap.{BTreeMap, insert_entry, is_at, IsOrdered, IsLowerBound, btree_map_len}
use Rattle.gr_logic.specs.WorkLists.{best, without_first}
use Rattle.std.specs.declared.cmp.Ordering.{Ordering}
use Rattle.std.specs.declared.cmp.Ordering.TheVariants.{Less, Equal, Greater}
use Rattle.std.specs.Ordering.{nat_cmp, ordering_then, is_eq, is_lt, is_gt, match_ordering}
use Rattle.std.specs.Cmp.{nat_cmp_total, nat_eq_equiv, tied_itself}
use Rattle.std.specs.FinMap.{nat_cmp-IsAntisymmetric}
use Rattle.std.proofs.lemmas.Bool.Decides.{nat_tests}
use Rattle.std.proofs.lemmas.List.Elements.{All-nil, All-cons, All-head, All-tail}
use Rattle.std.proofs.lemmas.Map.Keys.{sorted_head, sorted_tail, IsDistinct-head, IsDistinct-tail, IsDistinct-cons}
use Rattle.std.proofs.lemmas.Map.Keys.{IsDistinct-push}
use Rattle.std.proofs.lemmas.Map.Views.{tells_apart, All-found}
use Rattle.std.proofs.lemmas.List.{map-append}
use Rattle.std.proofs.lemmas.List.Sums.{length-filter, count_by-le-length}
use Rattle.gr_logic.specs.declared.items.Item.{Item}
use Rattle.gr_work.specs.declared.ranks.Rank.{Rank}
use Rattle.gr_work.specs.Ranks.{rank_of, rank_cmp, IsRanking}
use Rattle.gr_work.specs.Laws.{is_better, IsBest}
use Rattle.gr_work.specs.WorkSets.{without_id, without, is_in, HasDifferentIds}
use Rattle.gr_work.proofs.Best.{alone, one_before, only_best}

abbrev Entries : Type 0
Entries = List (ℕ × Item)

-- a later number is not at an earlier one
not_at : (a k : ℕ) → k < a → nat_cmp a k ≡ Greater
not_at a k below = grind (arith, nat_tests)

-- the latest goes to the end
pub added : (es : Entries) (a : ℕ) (item : Item) → All (λ k. k < a) (keys_of es)
    → insert_entry nat_cmp es a item ≡ es ++ (a, item) ∷ []
added [] a item below = refl
added (e ∷ es) a item below =
    ap (λ o. match_ordering o ((a, item) ∷ e ∷ es) ((e.0, item) ∷ es) (e ∷ insert_entry nat_cmp es a item))
    (not_at a e.0 (All-head (λ k. k < a) e.0 (keys_of es) below))
    ∙ ap (λ list. e ∷ list) (added es a item (All-tail (λ k. k < a) e.0 (keys_of es) below))

-- and comes off again
pub taken_back : (es : Entries) (a : ℕ) (item : Item) → All (λ k. k < a) (keys_of es)
    → remove_entry (is_at (nat_cmp a)) (es ++ (a, item) ∷ []) ≡ es
taken_back [] a item below =
    ap (λ o. cond (is_eq o) [] ((a, item) ∷ [])) (tied_itself nat_cmp_total a)
taken_back (e ∷ es) a item below =
    ap (λ o. cond (is_eq o) (es ++ (a, item) ∷ []) (e ∷ remove_entry (is_at (nat_cmp a)) (es ++ (a, item) ∷ [])))
    (not_at a e.0 (All-head (λ k. k < a) e.0 (keys_of es) below))
    ∙ ap (λ list. e ∷ list) (taken_back es a item (All-tail (λ k. k < a) e.0 (keys_of es) below))

-- no earlier one has its number
pub absent : (es : Entries) (a : ℕ) → All (λ k. k < a) (keys_of es) → lookup (is_at (nat_cmp a)) es ≡ None
absent [] a below = refl
absent (e ∷ es) a below =
    ap (λ o. cond (is_eq o) (Some e.1) (lookup (is_at (nat_cmp a)) es))
    (not_at a e.0 (All-head (λ k. k < a) e.0 (keys_of es) below))
    ∙ absent es a (All-tail (λ k. k < a) e.0 (keys_of es) below)

pub values-push : (es : Entries) (a : ℕ) (item : Item)
    → values_of (es ++ (a, item) ∷ []) ≡ values_of es ++ item ∷ []
values-push [] a item = refl
values-push (e ∷ es) a item = ap (λ list. e.1 ∷ list) (values-push es a item)

-- ---- the best by rank

lt-is : (m n : ℕ) → nat_lt m n ≡ is_lt (nat_cmp m n)
lt-is m n = grind (arith, nat_tests)

gt-is : (m n : ℕ) → nat_lt n m ≡ is_gt (nat_cmp m n)
gt-is m n = grind (arith, nat_tests)

eq-is : (m n : ℕ) → nat_eq m n ≡ is_eq (nat_cmp m n)
eq-is m n = grind (arith, nat_tests)

eq-back : (m n : ℕ) → nat_eq n m ≡ is_eq (nat_cmp m n)
eq-back m n = grind (arith, nat_tests)

-- none that is not before it in the ranking is better
not_better : (l n a : Ordering) → is_gt (ordering_then l (ordering_then n a)) ≡ false
    → (is_gt l || (is_eq l && is_gt n)) ≡ false
not_better Less n a e = refl
not_better Equal Less a e = refl
not_better Equal Equal a e = refl
not_better Equal Greater a e = e
not_better Greater n a e = e

-- a later one that is not before it is worse
is_worse : (l n a : Ordering) → a ≡ Greater → is_gt (ordering_then l (ordering_then n a)) ≡ false
    → (is_lt l || (is_eq l && is_lt n)) ≡ true
is_worse Less n a later e = refl
is_worse Equal Less a later e = refl
is_worse Equal Equal a later e = absurd (let t : true ≡ false = sym (ap is_gt later) ∙ e in cc)
is_worse Equal Greater a later e = absurd (let t : true ≡ false = e in cc)
is_worse Greater n a later e = absurd (let t : true ≡ false = e in cc)

abbrev IsNotBefore : ℕ → Item → ℕ × Item → Type 0
IsNotBefore a item e = is_gt (rank_cmp (rank_of a item) (rank_of e.0 e.1)) ≡ false

not_better_one : (a : ℕ) (item : Item) (e : ℕ × Item) → IsNotBefore a item e → is_better e.1 item ≡ false
not_better_one a item e after =
    (λ i. gt-is item.lbd (e.1).lbd i || (eq-back item.lbd (e.1).lbd i && gt-is item.len (e.1).len i))
    ∙ not_better (nat_cmp item.lbd (e.1).lbd) (nat_cmp item.len (e.1).len) (nat_cmp e.0 a) after

worse_one : (a : ℕ) (item : Item) (e : ℕ × Item) → nat_cmp a e.0 ≡ Less → IsNotBefore a item e
    → is_better item e.1 ≡ true
worse_one a item e later after =
    (λ i. lt-is item.lbd (e.1).lbd i || (eq-is item.lbd (e.1).lbd i && lt-is item.len (e.1).len i))
    ∙ is_worse (nat_cmp item.lbd (e.1).lbd) (nat_cmp item.len (e.1).len) (nat_cmp e.0 a) (turned a e.0 later) after
  where
    turned : (m n : ℕ) → nat_cmp m n ≡ Less → nat_cmp n m ≡ Greater
    turned m n e = grind (arith, nat_tests)

all_worse : (a : ℕ) (item : Item) (es : Entries) → AllByRecursion (λ k. nat_cmp a k ≡ Less) (keys_of es)
    → All (IsNotBefore a item) es → All (λ other. is_better item other ≡ true) (values_of es)
all_worse a item [] later after = All-nil (λ other. is_better item other ≡ true)
all_worse a item (e ∷ es) later after =
    All-cons (λ other. is_better item other ≡ true) e.1 (values_of es)
    (worse_one a item e later.0 (All-head (IsNotBefore a item) e es after))
    (all_worse a item es later.1 (All-tail (IsNotBefore a item) e es after))

-- the first by rank is the best
pub ranked_first : (es : Entries) (a : ℕ) (item : Item) → IsStrictlySortedBy nat_cmp (keys_of es)
    → lookup (is_at (nat_cmp a)) es ≡ Some item → All (IsNotBefore a item) es → IsBest (values_of es) item
ranked_first [] a item sorted there after = absurd (let none : None ≡ Some item = there in cc)
ranked_first (e ∷ es) a item sorted there after =
    cases (is_at (nat_cmp a) e.0) refl there
    (λ found. ranked_first es a item (sorted_tail nat_cmp e.0 (keys_of es) sorted) found rest)
  where
    rest : All (IsNotBefore a item) es
    rest = All-tail (IsNotBefore a item) e es after

    cases : (b : Bool) → is_at (nat_cmp a) e.0 ≡ b → cond b (Some e.1) (lookup (is_at (nat_cmp a)) es) ≡ Some item
        → (lookup (is_at (nat_cmp a)) es ≡ Some item → IsBest (values_of es) item)
        → IsBest (e.1 ∷ values_of es) item
    cases false at found others =
        one_before e.1 (values_of es) item (not_better_one a item e (All-head (IsNotBefore a item) e es after))
        (others found)
    cases true at found others =
        let same : a ≡ e.0 = tells_apart nat_cmp-IsAntisymmetric a e.0 at in
        let one : item ≡ e.1 = ap (λ o. unwrap_or o item) (sym found) in
        alone e.1 (values_of es) item one
        (rw (sym one) (all_worse a item es (rw same (sorted_head nat_cmp e.0 (keys_of es) sorted)) rest))

-- ---- the item that leaves, by its id

-- an id that no item has takes none out
pub kept : (id : ℕ) (items : List Item) → AllByRecursion (λ y. nat_eq id y ≡ false) (map (λ item. item.id) items)
    → without_id id items ≡ items
kept id [] apart = refl
kept id (x ∷ xs) apart =
    ap (λ b. cond (not b) (x ∷ without_id id xs) (without_id id xs)) apart.0
    ∙ ap (λ list. x ∷ list) (kept id xs apart.1)

apart_as : (k l : ℕ) → k ≡ l → (ids : List ℕ) → AllByRecursion (λ y. nat_eq k y ≡ false) ids
    → AllByRecursion (λ y. nat_eq l y ≡ false) ids
apart_as k l same [] apart = apart
apart_as k l same (id ∷ ids) apart =
    (ap (λ n. nat_eq n id) (sym same) ∙ apart.0, apart_as k l same ids apart.1)

-- the item that is found differs from one that all others differ from
other_id : (es : Entries) (a id : ℕ) (item : Item) → lookup (is_at (nat_cmp a)) es ≡ Some item
    → AllByRecursion (λ y. nat_eq id y ≡ false) (map (λ item. item.id) (values_of es)) → nat_eq id item.id ≡ false
other_id [] a id item there apart = absurd (let none : None ≡ Some item = there in cc)
other_id (e ∷ es) a id item there apart =
    cases (is_at (nat_cmp a) e.0) there (λ found. other_id es a id item found apart.1)
  where
    cases : (b : Bool) → cond b (Some e.1) (lookup (is_at (nat_cmp a)) es) ≡ Some item
        → (lookup (is_at (nat_cmp a)) es ≡ Some item → nat_eq id item.id ≡ false) → nat_eq id item.id ≡ false
    cases true found others =
        ap (λ (x : Item). nat_eq id x.id) (sym (ap (λ o. unwrap_or o item) found)) ∙ apart.0
    cases false found others = others found

-- the entry that leaves is the one item of its id
pub left_by_id : (es : Entries) (a : ℕ) (item : Item) → lookup (is_at (nat_cmp a)) es ≡ Some item
    → HasDifferentIds (values_of es)
    → values_of (remove_entry (is_at (nat_cmp a)) es) ≡ without_id item.id (values_of es)
left_by_id [] a item there apart = absurd (let none : None ≡ Some item = there in cc)
left_by_id (e ∷ es) a item there apart =
    cases (is_at (nat_cmp a) e.0) there
    (λ found. left_by_id es a item found (IsDistinct-tail nat_eq (e.1).id (map (λ item. item.id) (values_of es)) apart))
  where
    head : AllByRecursion (λ y. nat_eq (e.1).id y ≡ false) (map (λ item. item.id) (values_of es))
    head = IsDistinct-head nat_eq (e.1).id (map (λ item. item.id) (values_of es)) apart

    turned : (m n : ℕ) (b : Bool) → nat_eq m n ≡ b → nat_eq n m ≡ b
    turned m n b e = grind (arith, nat_tests)

    here : e.1 ≡ item → values_of es ≡ without_id item.id (e.1 ∷ values_of es)
    here one =
        let ids : (e.1).id ≡ item.id = ap (λ (x : Item). x.id) one in
        let same : nat_eq item.id (e.1).id ≡ true = grind (arith, nat_tests) in
        sym (ap (λ b. cond (not b) (e.1 ∷ without_id item.id (values_of es)) (without_id item.id (values_of es))) same
        ∙ kept item.id (values_of es) (apart_as (e.1).id item.id ids _ head))

    cases : (b : Bool) → cond b (Some e.1) (lookup (is_at (nat_cmp a)) es) ≡ Some item
        → (lookup (is_at (nat_cmp a)) es ≡ Some item
        → values_of (remove_entry (is_at (nat_cmp a)) es) ≡ without_id item.id (values_of es))
        → values_of (cond b es (e ∷ remove_entry (is_at (nat_cmp a)) es)) ≡ without_id item.id (e.1 ∷ values_of es)
    cases true found others = here (ap (λ o. unwrap_or o item) found)
    cases false found others =
        let other : nat_eq item.id (e.1).id ≡ false =
        turned (e.1).id item.id false (other_id es a (e.1).id item found head) in
        ap (λ list. e.1 ∷ list) (others found)
        ∙ sym (ap (λ b. cond (not b) (e.1 ∷ without_id item.id (values_of es))
        (without_id item.id (values_of es))) other)

-- fewer items differ too
fewer_apart : (k id : ℕ) (items : List Item) → AllByRecursion (λ y. nat_eq k y ≡ false) (map (λ item. item.id) items)
    → AllByRecursion (λ y. nat_eq k y ≡ false) (map (λ item. item.id) (without_id id items))
fewer_apart k id [] apart = apart
fewer_apart k id (x ∷ xs) apart = cases (nat_eq id x.id) (fewer_apart k id xs apart.1)
  where
    cases : (b : Bool)
        → AllByRecursion (λ y. nat_eq k y ≡ false) (map (λ item. item.id) (without_id id xs))
        → AllByRecursion (λ y. nat_eq k y ≡ false)
        (map (λ item. item.id) (cond (not b) (x ∷ without_id id xs) (without_id id xs)))
    cases true rest = rest
    cases false rest = (apart.0, rest)

pub still_apart : (id : ℕ) (items : List Item) → HasDifferentIds items → HasDifferentIds (without_id id items)
still_apart id [] apart = apart
still_apart id (x ∷ xs) apart =
    cases (nat_eq id x.id) (still_apart id xs (IsDistinct-tail nat_eq x.id (map (λ item. item.id) xs) apart))
  where
    cases : (b : Bool) → HasDifferentIds (without_id id xs)
        → HasDifferentIds (cond (not b) (x ∷ without_id id xs) (without_id id xs))
    cases true rest = rest
    cases false rest =
        IsDistinct-cons nat_eq x.id (map (λ item. item.id) (without_id id xs))
        (fewer_apart x.id id xs (IsDistinct-head nat_eq x.id (map (λ item. item.id) xs) apart)) rest

pub still_apart_without : (left : Option Item) (items : List Item) → HasDifferentIds items
    → HasDifferentIds (without left items)
still_apart_without None items apart = apart
still_apart_without (Some item) items apart = still_apart item.id items apart

pub still_room : (left : Option Item) (items : List Item) → length (without left items) ≤ length items
still_room None items = omega arith
still_room (Some item) items =
    omega (
      arith,
      length-filter (λ (x : Item). not (nat_eq item.id x.id)) items,
      count_by-le-length (λ (x : Item). not (nat_eq item.id x.id)) items,
    )

-- one more item that differs
any-ids : (id : ℕ) (items : List Item) → list_any (nat_eq id) (map (λ item. item.id) items) ≡ is_in id items
any-ids id [] = refl
any-ids id (x ∷ xs) = ap (λ b. nat_eq id x.id || b) (any-ids id xs)

pub push_apart : (items : List Item) (item : Item) → HasDifferentIds items → is_in item.id items ≡ false
    → HasDifferentIds (items ++ item ∷ [])
push_apart items item apart new =
    rw (map-append (λ (x : Item). x.id) items (item ∷ []))
    (IsDistinct-push nat_eq_equiv (map (λ item. item.id) items) item.id apart (any-ids item.id items ∙ new))

pub rest_apart : (items : List Item) → HasDifferentIds items → HasDifferentIds (without_first items)
rest_apart [] apart = apart
rest_apart (x ∷ xs) apart = IsDistinct-tail nat_eq x.id (map (λ item. item.id) xs) apart

pub length-without_first : (items : List Item) → length (without_first items) ≡ length items - 1
length-without_first [] = refl
length-without_first (x ∷ xs) = omega arith

pub length-push : (items : List Item) (item : Item) → length (items ++ item ∷ []) ≡ length items + 1
length-push items item = length-append items (item ∷ [])

-- what was first is first where one comes behind it
pub first-push : (items : List Item) (item : Item) → 1 ≤ length items
    → slice_get (items ++ item ∷ []) 0 ≡ slice_get items 0
first-push [] item some = absurd (omega arith)
first-push (x ∷ xs) item some = refl

-- ---- two maps

module _ (arrivals : BTreeMap ℕ Item) (ranking : BTreeMap Rank Item) (is : IsRanking arrivals ranking) where
  -- the first of the ranking is the best
  pub best_by_rank : (rank : Rank) (item : Item) → tree.get rank_cmp ranking rank ≡ Some item
      → IsLowerBound rank_cmp ranking rank → best (values_of arrivals.entries) ≡ Some item
  best_by_rank rank item there least =
      let known = is.same.arrived rank item there in
      only_best (values_of arrivals.entries) item
      (ranked_first arrivals.entries rank.arrival item is.in_order known.1
      (λ k d low.
      let e = get_or arrivals.entries k d in
      ap (λ r. is_gt (rank_cmp r (rank_of e.0 e.1))) (sym known.0)
      ∙ least (rank_of e.0 e.1) (ap is_some
      (is.same.ranked e.0 e.1 (All-found nat_cmp_total arrivals is.in_order k d low)))))

  -- where the ranking is empty, so is the list
  pub none_by_rank : btree_map_len ranking ≡ 0 → best (values_of arrivals.entries) ≡ None
  none_by_rank empty = cases arrivals.entries refl
    where
      nothing : (rs : List (Rank × Item)) → length rs ≡ 0 → (r : Rank) → lookup (is_at (rank_cmp r)) rs ≡ None
      nothing [] e r = refl
      nothing (x ∷ xs) e r = absurd (omega (arith, e))

      cases : (es : Entries) → arrivals.entries ≡ es → best (values_of es) ≡ None
      cases [] e = refl
      cases (x ∷ xs) e =
          let there : tree.get nat_cmp arrivals x.0 ≡ Some x.1 =
          ap (lookup (is_at (nat_cmp x.0))) e
          ∙ ap (λ o. cond (is_eq o) (Some x.1) (lookup (is_at (nat_cmp x.0)) xs)) (tied_itself nat_cmp_total x.0) in
          let none : None ≡ Some x.1 =
          sym (nothing ranking.entries empty (rank_of x.0 x.1)) ∙ is.same.ranked x.0 x.1 there in
          absurd (let z = none in cc)

-- the same entries
pub same_ranking : (arrivals now : BTreeMap ℕ Item) (ranking others : BTreeMap Rank Item)
    → now.entries ≡ arrivals.entries → others.entries ≡ ranking.entries → IsOrdered nat_cmp now
    → IsRanking arrivals ranking → IsRanking now others
same_ranking arrivals now ranking others one two ordered is = record {
  in_order = ordered;
  same = record {
    ranked = λ a x e. ap (lookup (is_at (rank_cmp (rank_of a x)))) two
        ∙ is.same.ranked a x (sym (ap (lookup (is_at (nat_cmp a))) one) ∙ e);
    arrived = λ r x e.
        let known = is.same.arrived r x (sym (ap (lookup (is_at (rank_cmp r))) two) ∙ e) in
        (known.0, ap (lookup (is_at (nat_cmp r.arrival))) one ∙ known.1);
  };
}

pub no_length : (n : ℕ) → (0 < n → false ≡ true) → n ≡ 0
no_length zero none = refl
no_length (suc n) none = absurd (let z = none (omega arith) in cc)

pub none_apart : HasDifferentIds []
unfolding IsDistinct
none_apart = tt
