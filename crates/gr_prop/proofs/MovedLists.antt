-- the loops that put new places in
use Rattle.std.proofs.Common.{◌≡◌, ◌≢◌, ℕ, ◌+◌, ◌<◌, ◌≤◌, Bool, true, false, ◌||◌, AllPairs, Contains, ◌↔◌, List, [], ◌∷◌, ◌++◌, map, Option, Some, None, IsSome, get_or, set, take, drop, length, nat_eq, zero, suc, refl, sym, ap, ◌∙◌, subst, arith, cond, if◌then◌else◌}
use Rattle.std.proofs.lemmas.Bool.Decides.{nat_tests}
use Rattle.std.proofs.lemmas.List.{length-map, drop_more, set-get_or, get_or_default, get_or-append-add, length-take-le, take_all, drop_all, append-nil, length-append, length-drop, get_or_past, get_or-take}
use Rattle.std.proofs.lemmas.List.Edits.{map_over_more}
use Rattle.std.proofs.lemmas.List.Folds.{list_any_more, list_any_none, list_any_at}
use Rattle.std.specs.List.{list_any, find}
use Rattle.std.specs.Option.{option_map, unwrap_or}
use Rattle.std.specs.Ordering.{nat_cmp}
use Rattle.std.specs.FinMap as finite
use Rattle.gr_logic.specs.Literals.{Literal, var_of}
use Rattle.gr_logic.specs.Codes.{code_of}
use Rattle.gr_logic.specs.declared.places.Place.{Place}
use Rattle.gr_trail.specs.Trails.{Assigned, assigned_to, lits_of, with_reason}
use Rattle.gr_watch.specs.declared.lists.Watch.{Watch}
use Rattle.gr_watch.specs.WatchLists.{WatchLists, list_of}
use Rattle.gr_prop.specs.BaseChanges.{moved_place, moved_assigned}
use Rattle.gr_prop.specs.Compactions.{moved_watch}
use Rattle.gr_prop.proofs.Stores.{by_place, get-insert-same, get-insert-other}
use Rattle.gr_prop.proofs.Rounds.{lit-at}

-- a place as the moves tell it
pub place-moved : (moves : finite.FinMap nat_cmp ℕ) (p q : Place) → finite.get moves p.0 ≡ Some q.0 → q ≡ moved_place
    moves p
place-moved moves p q e = λ i. record { 0 = sym (ap (λ (o : Option ℕ). unwrap_or {T = ℕ} o p.0) e) i }

pub watch-moved : (moves : finite.FinMap nat_cmp ℕ) (w : Watch) (q : Place) → finite.get moves w.place.0 ≡ Some q.0 →
    record { place = q; blocker = w.blocker } ≡ moved_watch moves w
watch-moved moves w q e = λ i. record { place = place-moved moves w.place q e i; blocker = w.blocker }

-- the element at the index is still the old one
pub still-at : {X : Type 0} (f : X → X) (old cur : List X) (i : ℕ) (d : X) → i < length old → cur ≡ map f
    (take i old) ++ drop i old → get_or cur i d ≡ get_or old i d
still-at f old cur i d low is =
    let long : length (map f (take i old)) ≡ i = length-map (take i old) f ∙ length-take-le i old (omega arith) in
    let e : length (map f (take i old)) + 0 ≡ i = omega arith in
    ap (λ xs. get_or xs i d) is ∙ ap (λ n. get_or (map f (take i old) ++ drop i old) n d) (sym e)
    ∙ get_or-append-add (map f (take i old)) (drop i old) 0 d ∙ ap (λ xs. get_or xs 0 d) (drop_more old i d low)

pub all-moved : {X : Type 0} (f : X → X) (old cur : List X) (i : ℕ) → length old ≤ i → cur ≡ map f (take i old) ++
    drop i old → cur ≡ map f old
all-moved f old cur i high is =
    is ∙ (λ j. map f (take_all i old high j) ++ drop_all i old high j) ∙ append-nil (map f old)

pub long-as : {X : Type 0} (f : X → X) (old cur : List X) (i : ℕ) → i ≤ length old → cur ≡ map f (take i old) ++ drop
    i old → length cur ≡ length old
long-as f old cur i low is =
    let a : length (map f (take i old)) ≡ i = length-map (take i old) f ∙ length-take-le i old low in
    let b = length-append (map f (take i old)) (drop i old) in
    let e = length-drop i old in
    let g : length cur ≡ length (map f (take i old) ++ drop i old) = ap length is in
    omega arith

-- ---- a trail's reasons
abbrev Apart : List Assigned → Type 0
Apart ys = AllPairs (λ (a b : Assigned). a.lit.index ≢ b.lit.index) ys

tail-pairs : (y : Assigned) (ys : List Assigned) → Apart (y ∷ ys) → Apart ys
tail-pairs y ys all i j d low high = all (suc i) (suc j) d (omega arith) (omega arith)

pub found-at : (ys : List Assigned) (i : ℕ) (x : Assigned) → Apart ys → i < length ys → x ≡ get_or ys i x →
    assigned_to ys (var_of x.lit) ≡ Some x
found-at [] i x apart low at = absurd (omega arith)
found-at (y ∷ ys) zero x apart low at =
    let same : nat_eq (var_of y.lit) (var_of x.lit) ≡ true = subst
    (λ (z : Assigned). nat_eq (var_of z.lit) (var_of x.lit) ≡ true) at (grind (arith, nat_tests)) in
    ap (λ b. cond b (Some y) (find (λ a. nat_eq (var_of a.lit) (var_of x.lit)) ys)) same ∙ ap Some (sym at)
found-at (y ∷ ys) (suc i) x apart low at =
    let other : y.lit.index ≢ (get_or ys i x).lit.index = apart 0 (suc i) x (omega arith) low in
    let apart' : y.lit.index ≢ x.lit.index = λ e. other (e ∙ ap (λ (z : Assigned). z.lit.index) at) in
    let no' : nat_eq (var_of y.lit) (var_of x.lit) ≡ false = grind (arith, nat_tests) in
    ap (λ b. cond b (Some y) (find (λ a. nat_eq (var_of a.lit) (var_of x.lit)) ys)) no'
    ∙ found-at ys i x (tail-pairs y ys apart) (omega arith) at

-- what was assigned at an index, whose variable is this one
pub record AssignedAt (xs : List Assigned) (i var : ℕ) : Type 0 where
  pub item : Assigned
  pub at : item ≡ get_or xs i item
  pub low : i < length xs
  pub var' : var ≡ var_of item.lit
  pub found : assigned_to xs var ≡ Some item

pub assigned-at : (xs : List Assigned) (i : ℕ) (l : Literal) (var : ℕ) → Apart xs → i < length (lits_of xs)
    → l ≡ get_or (lits_of xs) i l → var ≡ var_of l → AssignedAt xs i var
assigned-at xs i l var apart low at is =
    let x = lit-at xs i l low at in
    let same : var ≡ var_of x.0.lit = is ∙ ap var_of (sym x.1.1.0) in
    record {
      item = x.0;
      at = x.1.0;
      low = x.1.1.1;
      var' = same;
      found = ap (assigned_to xs) same ∙ found-at xs i x.0 apart x.1.1.1 x.1.0;
    }

-- its reason, as the trail tells it
pub reason-is : (x : Assigned) (o : Option Assigned) (r : Option Place) → o ≡ Some x → option_map
    (λ (a : Assigned). a.reason) o ≡ Some r → x.reason ≡ r
reason-is x o r e told = ap (λ (q : Option (Option Place)). unwrap_or {T = Option Place} q x.reason)
    (sym (ap (option_map (λ (a : Assigned). a.reason)) e) ∙ told)

none-reason : (ys : List Assigned) (v : ℕ) (p : Place) → ((k : ℕ) (d : Assigned) → k < length ys → var_of
    (get_or ys k d).lit ≢ v) → with_reason ys v p ≡ ys
none-reason [] v p all = refl
none-reason (y ∷ ys) v p all =
    let other : var_of y.lit ≢ v = all 0 y (omega arith) in
    let no' : nat_eq (var_of y.lit) v ≡ false = grind (arith, nat_tests) in
    (λ i. (if no' i then record y { reason = Some p } else y) ∷ none-reason ys v p
    (λ k d low. all (suc k) d (omega arith)) i)

pub reason-set : (ys : List Assigned) (i : ℕ) (x : Assigned) (p : Place) → Apart ys → i < length ys → x ≡ get_or ys i x
    → with_reason ys (var_of x.lit) p ≡ set ys i (record x { reason = Some p })
reason-set [] i x p apart low at = absurd (omega arith)
reason-set (y ∷ ys) zero x p apart low at =
    let same : nat_eq (var_of y.lit) (var_of x.lit) ≡ true = subst
    (λ (z : Assigned). nat_eq (var_of z.lit) (var_of x.lit) ≡ true) at (grind (arith, nat_tests)) in
    let rest : with_reason ys (var_of x.lit) p ≡ ys = none-reason ys (var_of x.lit) p (λ k d h e.
    let other : y.lit.index ≢ (get_or ys k d).lit.index = apart 0 (suc k) d (omega arith) (omega arith) in
    other (let f : x.lit.index ≡ y.lit.index = ap (λ (z : Assigned). z.lit.index) at in omega arith)) in
    (λ i. (if same i then record y { reason = Some p } else y) ∷ rest i) ∙ ap
    (λ (z : Assigned). record z { reason = Some p } ∷ ys) (sym at)
reason-set (y ∷ ys) (suc i) x p apart low at =
    let other : y.lit.index ≢ (get_or ys i x).lit.index = apart 0 (suc i) x (omega arith) low in
    let apart' : y.lit.index ≢ x.lit.index = λ e. other (e ∙ ap (λ (z : Assigned). z.lit.index) at) in
    let no' : nat_eq (var_of y.lit) (var_of x.lit) ≡ false = grind (arith, nat_tests) in
    (λ j. (if no' j then record y { reason = Some p } else y) ∷ reason-set ys i x p (tail-pairs y ys apart)
    (omega arith) at j)

-- one more reason has its new place
pub reason-next : (moves : finite.FinMap nat_cmp ℕ) (old cur : List Assigned) (i : ℕ) (x : Assigned) (p q : Place) →
    i < length old
    → cur ≡ map (moved_assigned moves) (take i old) ++ drop i old → Apart cur → i < length cur → x ≡ get_or cur i x →
    x.reason ≡ Some p → finite.get moves p.0 ≡ Some q.0
    → with_reason cur (var_of x.lit) q ≡ map (moved_assigned moves) (take (i + 1) old) ++ drop (i + 1) old
reason-next moves old cur i x p q low is apart low' at has to =
    reason-set cur i x q apart low' at
    ∙ ap (set cur i) (λ j. record x {
      reason = (ap Some (place-moved moves p q to) ∙ ap
          (option_map (moved_place moves)) (sym has)) j;
    })
    ∙ map_over_more (moved_assigned moves) old cur i x low is at

-- a decision has none
pub reason-none : (moves : finite.FinMap nat_cmp ℕ) (old cur : List Assigned) (i : ℕ) (x : Assigned) → i < length old
    → cur ≡ map (moved_assigned moves) (take i old) ++ drop i old → x ≡ get_or cur i x → x.reason ≡ None
    → cur ≡ map (moved_assigned moves) (take (i + 1) old) ++ drop (i + 1) old
reason-none moves old cur i x low is at none =
    sym (ap (set cur i) at ∙ set-get_or cur i x)
    ∙ ap (set cur i) (λ j. record x { reason = (none ∙ ap (option_map (moved_place moves)) (sym none)) j })
    ∙ map_over_more (moved_assigned moves) old cur i x low is at

-- ---- the lists
-- past the end there are no watches
pub past-list : (ws vs : WatchLists) (moves : finite.FinMap nat_cmp ℕ) (l : Literal) → length ws.lists ≤ code_of l →
    list_of vs l ≡ list_of ws l
    → list_of vs l ≡ map (moved_watch moves) (list_of ws l)
past-list ws vs moves l high same =
    let none : list_of ws l ≡ [] = get_or_past ws.lists (code_of l) [] high in
    same ∙ none ∙ sym (ap (map (moved_watch moves)) none)

-- ---- the index
-- the keys before an index are other keys
pub fresh-key : (ids : List ℕ) (i id : ℕ) → AllPairs (λ a b. a < b) ids → i < length ids → id ≡ get_or ids i id →
    list_any (nat_eq id) (take i ids) ≡ false
fresh-key ids i id rising low at = list_any_none (nat_eq id) (take i ids) (λ k d under.
    let short : k < i = let e = length-take-le i ids (omega arith) in omega arith in
    let g : get_or (take i ids) k d ≡ get_or ids k d = get_or-take i ids k d short in
    let h : get_or ids k d < get_or ids i d = rising k i d short low in
    let j : get_or ids i d ≡ id = get_or_default ids i d id low ∙ sym at in
    grind (arith, nat_tests))

pub any-key : (ids : List ℕ) (q : ℕ) → Contains ids q → list_any (nat_eq q) ids ≡ true
any-key ids q c = list_any_at (nat_eq q) ids c.0 q c.1 (let e = c.2 in grind (arith, nat_tests))

pub key-any : (ids : List ℕ) (q : ℕ) → list_any (nat_eq q) ids ≡ false → Contains ids q → ⊥
key-any ids q e c = let f = any-key ids q c in cc

-- the index with new places under the first ids
pub record IsIndexMoved (moves : finite.FinMap nat_cmp ℕ) (old cur : finite.FinMap nat_cmp Place) (ids : List ℕ)
    (i : ℕ) : Type 0 where
  pub moved : (q : ℕ) → list_any (nat_eq q) (take i ids) ≡ true → finite.get cur q ≡ option_map (moved_place moves)
      (finite.get old q)
  pub still : (q : ℕ) → list_any (nat_eq q) (take i ids) ≡ false → finite.get cur q ≡ finite.get old q

module _ (moves : finite.FinMap nat_cmp ℕ) (old cur : finite.FinMap nat_cmp Place) (ids : List ℕ) (i : ℕ)
    (rising : AllPairs (λ a b. a < b) ids) (low : i < length ids)
    (before : IsIndexMoved moves old cur ids i) where
  abbrev id : ℕ
  id = get_or ids i 0

  pub untouched : finite.get cur id ≡ finite.get old id
  untouched = before.still id (fresh-key ids i id rising low (sym (get_or_default ids i id 0 low)))

  both-false : (a b : Bool) → (a || b) ≡ false → (a ≡ false) × (b ≡ false)
  both-false true b e = absurd (cc)
  both-false false b e = (refl, e)

  or-out : (a b : Bool) → (a || b) ≡ true → b ≡ false → a ≡ true
  or-out true b e f = refl
  or-out false b e f = absurd (cc)

  step : (new : finite.FinMap nat_cmp Place) → finite.get new id ≡ option_map (moved_place moves) (finite.get old id)
      → ((q : ℕ) → q ≢ id → finite.get new q ≡ finite.get cur q)
      → IsIndexMoved moves old new ids (i + 1)
  step new here there = record {
    moved = by_place (λ q. list_any (nat_eq q) (take (i + 1) ids) ≡ true → finite.get new q ≡ option_map
        (moved_place moves) (finite.get old q)) id
        (λ _. here)
        (λ q apart e.
        let no' : nat_eq q id ≡ false = grind (arith, nat_tests) in
        there q apart ∙ before.moved q (or-out (list_any (nat_eq q) (take i ids)) (nat_eq q id)
        (sym (list_any_more (nat_eq q) ids i 0 low) ∙ e) no'));
    still = λ q e.
        let two = both-false (list_any (nat_eq q) (take i ids)) (nat_eq q id)
        (sym (list_any_more (nat_eq q) ids i 0 low) ∙ e) in
        let apart : q ≢ id = let f = two.1 in grind (arith, nat_tests) in
        there q apart ∙ before.still q two.0;
  }

  pub put-step : (new : finite.FinMap nat_cmp Place) (p q : Place) → finite.get cur id ≡ Some p → finite.get moves
      p.0 ≡ Some q.0 → new ≡ finite.insert cur id q
      → IsIndexMoved moves old new ids (i + 1)
  put-step new p q has to is = step new
      (ap (λ m. finite.get m id) is ∙ get-insert-same cur id q ∙ ap Some (place-moved moves p q to) ∙ ap
      (option_map (moved_place moves)) (sym has ∙ untouched))
      (λ r apart. ap (λ m. finite.get m r) is ∙ get-insert-other cur id q r apart)

  pub skip-step : (new : finite.FinMap nat_cmp Place) → finite.get cur id ≡ None → new ≡ cur → IsIndexMoved moves old
      new ids (i + 1)
  skip-step new none is = step new
      (ap (λ m. finite.get m id) is ∙ none ∙ ap (option_map (moved_place moves)) (sym none ∙ untouched))
      (λ r apart. ap (λ m. finite.get m r) is)

-- all ids are done
pub index-done : (moves : finite.FinMap nat_cmp ℕ) (old cur : finite.FinMap nat_cmp Place) (ids : List ℕ) (i : ℕ)
    → ((id : ℕ) → Contains ids id ↔ IsSome (finite.get old id)) → length ids ≤ i → IsIndexMoved moves old cur ids i
    → (id : ℕ) → finite.get cur id ≡ option_map (moved_place moves) (finite.get old id)
index-done moves old cur ids i each high done id =
    let whole : take i ids ≡ ids = take_all i ids high in
    elim (list_any (nat_eq id) ids) as (λ b. list_any (nat_eq id) ids ≡ b → finite.get cur id ≡ option_map
    (moved_place moves) (finite.get old id)) [
      | true ↦ λ e. done.moved id (ap (list_any (nat_eq id)) whole ∙ e)
      | false ↦ λ e. done.still id (ap (list_any (nat_eq id)) whole ∙ e) ∙ none (finite.get old id)
          (λ h. key-any ids id e ((each id).1 h))
    ] refl
  where
    none : (o : Option Place) → (IsSome o → ⊥) → o ≡ option_map (moved_place moves) o
    none None h = refl
    none (Some p) h = absurd (h refl)
