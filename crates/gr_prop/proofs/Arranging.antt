-- literals that are not false come to a clause's front
use Rattle.std.proofs.Common.{◌≡◌, ◌≢◌, ℕ, ◌*◌, ◌<◌, ◌≤◌, true, false, ◌||◌, List, [], ◌∷◌, ◌++◌, get_or, set, take, length, refl, sym, ap, ◌∙◌, arith, nat_eq}
use Rattle.std.specs.List.{swap, swap_remove}
use Rattle.std.specs.List.Sorted.{IsPermutation}
use Rattle.std.proofs.lemmas.Bool.Decides.{nat_tests}
use Rattle.std.proofs.lemmas.List.{take-set, take-take, get_or-set_same, get_or-set_other, length-set, set-set, take_all, take-append-le}
use Rattle.std.proofs.lemmas.List.Edits.{swap_is}
use Rattle.std.proofs.lemmas.List.Sorted.{list_any-IsPermutation, IsPermutation-swap_remove}
use Rattle.gr_logic.specs.Literals.{Literal, negation, same_literal}
use Rattle.gr_logic.specs.declared.places.Place.{Place}
use Rattle.gr_trail.specs.Trails.{Assigned, true_in}
use Rattle.gr_prop.specs.Watching.{AllFalse, is_in}
use Rattle.gr_prop.specs.Visits.{OthersFalse}
use Rattle.gr_logic.specs.Codes.{code_of}
use Rattle.gr_watch.specs.declared.lists.Watch.{Watch}
use Rattle.gr_watch.specs.WatchLists.{WatchLists, list_of, with_list}
use Rattle.gr_watch.proofs.Edits.{with_own}
use Rattle.gr_prop.specs.Additions.{IsFronted, IsArranged, attached}
use Rattle.gr_prop.proofs.Counts.{code-low, list-same}
use Rattle.gr_prop.proofs.Endings.{rest-false, others-false}

-- ---- an exchange with a later index
pub get-swapped : (xs : List Literal) (at k : ℕ) (d : Literal) → at < length xs → k < length xs → get_or
    (swap xs at k) at d ≡ get_or xs k d
get-swapped xs at k d low high =
    ap (λ ys. get_or ys at d) (sym (swap_is xs at k d low high))
    ∙ elim (nat_eq at k) as (λ b. nat_eq at k ≡ b → get_or (set (set xs at (get_or xs k d)) k (get_or xs at d)) at d
    ≡ get_or xs k d) [
      | true ↦ λ same.
          let is : at ≡ k = grind (arith, nat_tests) in
          ap (λ n. get_or (set (set xs at (get_or xs k d)) k (get_or xs at d)) n d) is
          ∙ get_or-set_same (set xs at (get_or xs k d)) k (get_or xs at d) d
          (omega (arith, high, length-set xs at (get_or xs k d)))
          ∙ ap (λ n. get_or xs n d) is
      | false ↦ λ apart.
          let other : at ≢ k = grind (arith, nat_tests) in
          get_or-set_other (set xs at (get_or xs k d)) k at (get_or xs at d) d other
          ∙ get_or-set_same xs at (get_or xs k d) d low
    ] refl

pub front-swapped : (xs : List Literal) (at k : ℕ) (d : Literal) → at ≤ k → k < length xs → take at (swap xs at k) ≡
    take at xs
front-swapped xs at k d le high =
    ap (take at) (sym (swap_is xs at k d (omega arith) high))
    ∙ sym (take-take at k (set (set xs at (get_or xs k d)) k (get_or xs at d)) le)
    ∙ ap (take at) (take-set (set xs at (get_or xs k d)) k (get_or xs at d))
    ∙ take-take at k (set xs at (get_or xs k d)) le
    ∙ take-set xs at (get_or xs k d)

pub swapped-fronted : (assigned : List Assigned) (c e : List Literal) (at k : ℕ) → at ≤ k → k < length c → e ≡ swap c
    at k
    → ((d : Literal) → true_in assigned (negation (get_or c k d)) ≡ false) → IsFronted assigned c e at
swapped-fronted assigned c e at k le high is free = record {
  before = go c high;
  free = λ d falls. let f = ap (λ ys. true_in assigned (negation (get_or ys at d))) is ∙ ap
      (λ l. true_in assigned (negation l)) (get-swapped c at k d (omega arith) high) ∙ free d in absurd (cc);
}
  where
    go : (c' : List Literal) → k < length c' → take at e ≡ take at c
    go [] h = absurd (omega arith)
    go (d ∷ ds) h = ap (take at) is ∙ front-swapped c at k d le high

pub none-fronted : (assigned : List Assigned) (c : List Literal) (at : ℕ)
    → ((k : ℕ) (d : Literal) → at ≤ k → k < length c → true_in assigned (negation (get_or c k d)) ≡ true) → IsFronted
    assigned c c at
none-fronted assigned c at falses = record { before = refl; free = λ d falls k low high. falses k d low high }

-- ---- the first two
pub arranged : (assigned : List Assigned) (c m e : List Literal) → IsPermutation m e → 2 ≤ length m → IsFronted
    assigned c m 0 → IsFronted assigned m e 1 → IsArranged assigned e
arranged assigned c m [] p long one two = tt
arranged assigned c m (w ∷ []) p long one two = tt
arranged assigned c m (w ∷ o ∷ rest) p long one two = (first m one p long two.before, second)
  where
    first : (ms : List Literal) → IsFronted assigned c ms 0 → IsPermutation ms (w ∷ o ∷ rest) → 2 ≤ length ms → take
        1 (w ∷ o ∷ rest) ≡ take 1 ms
        → true_in assigned (negation w) ≡ true → AllFalse assigned (w ∷ o ∷ rest)
    first [] f q l same falls = absurd (omega arith)
    first (x ∷ xs) f q l same falls =
        let is : w ≡ x = ap (λ (zs : List Literal). get_or zs 0 w) same in
        let all : AllFalse assigned (x ∷ xs) = rest-false assigned (x ∷ xs)
        (λ k d h. f.free d (ap (λ y. true_in assigned (negation y)) (sym is) ∙ falls) k (omega arith) h) in
        λ y m'. all y (list_any-IsPermutation (same_literal y) (x ∷ xs) (w ∷ o ∷ rest) q ∙ m')

    second : true_in assigned (negation o) ≡ true → OthersFalse assigned (w ∷ o ∷ rest) w
    second falls = others-false assigned (w ∷ o ∷ rest) w o rest refl falls
        (λ k d low high. two.free d falls k (omega arith) high)

-- ---- a place leaves a list of places
pub removed-in : (list : List Place) (i : ℕ) (x : Place) (q : ℕ) → i < length list → x ≡ get_or list i x → is_in list
    q ≡ (nat_eq x.0 q || is_in (swap_remove list i x) q)
removed-in list i x q low at = list_any-IsPermutation (λ p. nat_eq p.0 q) list (x ∷ swap_remove list i x)
    (IsPermutation-swap_remove list i x low at)

-- ---- a watch that was attached is taken out again
pub attach-undone : (ws : WatchLists) (l : Literal) (new : Watch) (n : ℕ) → length ws.lists ≡ 2 * ws.vars → l.index <
    ws.vars → n ≡ length (list_of ws l)
    → with_list (with_list (attached ws l new) l []) l (take n (list_of (attached ws l new) l)) ≡ ws
attach-undone ws l new n even low is =
    let room : code_of l < length ws.lists = code-low l ws.vars (length ws.lists) even low in
    let list : take n (list_of (attached ws l new) l) ≡ list_of ws l =
    ap (take n) (list-same ws l (list_of ws l ++ new ∷ []) room) ∙ ap (λ m. take m (list_of ws l ++ new ∷ [])) is
    ∙ take-append-le (length (list_of ws l)) (list_of ws l) (new ∷ []) (omega arith)
    ∙ take_all (length (list_of ws l)) (list_of ws l) (omega arith) in
    ap (λ lists. record ws { lists = lists })
    (set-set (set ws.lists (code_of l) (list_of ws l ++ new ∷ [])) (code_of l) []
    (take n (list_of (attached ws l new) l))
    ∙ set-set ws.lists (code_of l) (list_of ws l ++ new ∷ []) (take n (list_of (attached ws l new) l)))
    ∙ ap (with_list ws l) list ∙ with_own ws l
