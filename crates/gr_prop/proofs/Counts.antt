-- counting places in lists of watches
use Rattle.std.proofs.Common.{◌≡◌, ◌≢◌, ◌⊎◌, ℕ, ◌+◌, ◌-◌, ◌*◌, ◌<◌, ◌≤◌, Bool, true, false, ◌||◌, All, List, [], ◌∷◌, ◌++◌, Some, None, IsSome, get_or, set, take, length, refl, sym, ap, ◌∙◌, subst, inl, inr, arith, nat_eq, if◌then◌else◌}
use Rattle.std.proofs.lemmas.Bool.Decides.{nat_tests}
use Rattle.std.proofs.lemmas.List.{get_or-set_same, length-set, take-set, take-take}
use Rattle.std.proofs.lemmas.List.Sums.{get_or-le-sum_by, sum_by-swap_remove, sum_by_push, sum_by_more, sum_by-set}
use Rattle.std.proofs.lemmas.List.Elements.{All-nil, All-push, All-tail, All-weaker}
use Rattle.std.proofs.lemmas.List.Sorted.{All-permutation, IsPermutation-swap_remove}
use Rattle.std.proofs.lemmas.List.Sorted.{length_permutation}
use Rattle.std.specs.List.Sorted.{IsPermutation}
use Rattle.std.specs.List.{swap_remove}
use Rattle.std.specs.Option.{unwrap_or}
use Rattle.std.specs.FinMap as finite
use Rattle.gr_logic.specs.Literals.{Literal, same_literal}
use Rattle.gr_logic.specs.Rup.{members}
use Rattle.gr_logic.specs.Codes.{code_of}
use Rattle.gr_logic.proofs.Sound.{same_literal-is}
use Rattle.gr_logic.proofs.SameLiteral.{same_literal-itself}
use Rattle.gr_arena.specs.Arenas.{no_clause}
use Rattle.gr_watch.specs.declared.lists.Watch.{Watch}
use Rattle.gr_watch.specs.WatchLists.{WatchLists, list_of, with_list}
use Rattle.gr_watch.proofs.Edits.{other_list}
use Rattle.gr_prop.specs.Watching.{Store, lits_at, bit, count_in, watched, is_pair, longer, paired, IsWatching, IsBlocked, AreBlocked}
use Rattle.gr_prop.specs.Visits.{IsWatchedIn, IsReordered, IsTurned}
use Rattle.gr_prop.specs.Additions.{attached}
use Rattle.gr_prop.proofs.Stores.{by_place, lits-other, reordered-members}

one-here : (n : ℕ) → bit (nat_eq n n) ≡ 1
one-here n = let e : nat_eq n n ≡ true = grind (arith, nat_tests) in rw e refl

pub not-same : (a b : Literal) → same_literal a b ≡ false → a ≢ b
not-same a b e is = let f : same_literal b b ≡ false = subst (λ x. same_literal x b ≡ false) is e in let g =
    same_literal-itself b in cc

pub flip-same : (a b : Literal) → same_literal a b ≡ false → same_literal b a ≡ false
flip-same a b e = elim (same_literal b a) as (λ t. same_literal b a ≡ t → t ≡ false) [
  | true ↦ λ same. sym (same_literal-itself b) ∙ subst (λ x. same_literal x b ≡ false)
      (sym (same_literal-is b a same)) e
  | false ↦ λ _. refl
] refl

-- a place that stands in the list is counted
pub count-here : (list : List Watch) (i : ℕ) (w : Watch) → i < length list → w ≡ get_or list i w → 1 ≤ count_in
    w.place.0 list
count-here list i w low at =
    let more = get_or-le-sum_by (λ (x : Watch). bit (nat_eq x.place.0 w.place.0)) list i w low in
    let e : bit (nat_eq (get_or list i w).place.0 w.place.0) ≡ 1 =
    ap (λ (x : Watch). bit (nat_eq x.place.0 w.place.0)) (sym at) ∙ one-here w.place.0 in
    omega arith

pub watched-in : (c : List Literal) (l : Literal) → 1 ≤ watched c l → IsWatchedIn c l
watched-in [] l h = omega arith
watched-in (w ∷ []) l h = omega arith
watched-in (w ∷ o ∷ rest) l h =
    elim (same_literal l w) as (λ b. same_literal l w ≡ b → 1 ≤ bit b + bit (same_literal l o) → (w ≡ l) ⊎ (o ≡ l)) [
      | true ↦ λ same _. inl (sym (same_literal-is l w same))
      | false ↦ λ _.
          elim (same_literal l o) as (λ b. same_literal l o ≡ b → 1 ≤ 0 + bit b → (w ≡ l) ⊎ (o ≡ l)) [
            | true ↦ λ same _. inr (sym (same_literal-is l o same))
            | false ↦ λ _ h. absurd (omega arith)
          ] refl
    ] refl h

-- a literal of a clause is known where all are
pub member-known : {vars : ℕ} (c : List Literal) (l : Literal) → All (λ (q : Literal). q.index < vars) c
    → members c l ≡ true → l.index < vars
member-known [] l all m = absurd (cc)
member-known {vars} (x ∷ xs) l all m =
    elim (same_literal l x) as (λ b. same_literal l x ≡ b → (b || members xs l) ≡ true → l.index < vars) [
      | true ↦ λ is _. subst (λ (q : Literal). q.index < vars) (sym (same_literal-is l x is)) (all 0 x (omega arith))
      | false ↦ λ _ rest. member-known xs l (All-tail (λ (q : Literal). q.index < vars) x xs all) rest
    ] refl m

-- a clause that has literals is there
pub member-there : (k : Store) (place : ℕ) (l : Literal) → members (lits_at k place) l ≡ true
    → IsSome (finite.get k place)
member-there k place l = elim (finite.get k place) as (λ o. members (unwrap_or o no_clause).lits l ≡ true → IsSome o) [
  | None ↦ λ m. absurd (cc)
  | Some s ↦ λ _. refl
]

pub there-in : (k : Store) (place : ℕ) (l : Literal) → IsWatchedIn (lits_at k place) l → IsSome (finite.get k place)
there-in k place l = elim (finite.get k place) as (λ o. IsWatchedIn (unwrap_or o no_clause).lits l → IsSome o) [
  | None ↦ λ w. absurd w
  | Some s ↦ λ _. refl
]

pub code-low : (l : Literal) (vars n : ℕ) → n ≡ 2 * vars → l.index < vars → code_of l < n
code-low l vars n e h = subst (λ m. code_of l < m) (sym e) (grind (arith, h))

pub list-same : (ws : WatchLists) (l : Literal) (list : List Watch) → code_of l < length ws.lists → list_of
    (with_list ws l list) l ≡ list
list-same ws l list room = get_or-set_same ws.lists (code_of l) list [] room

pub list-other : (ws : WatchLists) (l : Literal) (list : List Watch) (q : Literal) → q ≢ l → list_of
    (with_list ws l list) q ≡ list_of ws q
list-other ws l list q apart = other_list ws q l list apart

-- what holds of the new list, and of each other, holds of each list
pub by_list : (P : Literal → List Watch → Type 0) (ws : WatchLists) (l : Literal) (list : List Watch) → code_of l <
    length ws.lists
    → P l list → ((q : Literal) → q ≢ l → P q (list_of ws q)) → (q : Literal) → P q (list_of (with_list ws l list) q)
by_list P ws l list room here there q =
    elim (same_literal q l) as (λ b. same_literal q l ≡ b → P q (list_of (with_list ws l list) q)) [
      | true ↦ λ same.
          subst (λ x. P x (list_of (with_list ws l list) x)) (sym (same_literal-is q l same))
          (subst (P l) (sym (list-same ws l list room)) here)
      | false ↦ λ apart. subst (P q) (sym (list-other ws l list q (not-same q l apart))) (there q (not-same q l apart))
    ] refl

pub count-push : (place : ℕ) (list : List Watch) (w : Watch) → count_in place (list ++ w ∷ []) ≡ count_in place list
    + bit (nat_eq w.place.0 place)
count-push place list w = sum_by_push (λ (x : Watch). bit (nat_eq x.place.0 place)) list w

pub count-more : (place : ℕ) (list : List Watch) (i : ℕ) (w : Watch) → i < length list → w ≡ get_or list i w
    → count_in place (take (i + 1) list) ≡ count_in place (take i list) + bit (nat_eq w.place.0 place)
count-more place list i w low at =
    sum_by_more (λ (x : Watch). bit (nat_eq x.place.0 place)) list i w low
    ∙ ap (λ (x : Watch). count_in place (take i list) + bit (nat_eq x.place.0 place)) (sym at)

pub count-removed : (place : ℕ) (list : List Watch) (i : ℕ) (w : Watch) → i < length list → w ≡ get_or list i w
    → count_in place (swap_remove list i w) + bit (nat_eq w.place.0 place) ≡ count_in place list
count-removed place list i w low at =
    ap (λ (x : Watch). count_in place (swap_remove list i w) + bit (nat_eq x.place.0 place)) at
    ∙ sum_by-swap_remove (λ (x : Watch). bit (nat_eq x.place.0 place)) list i w low

-- a watch of the same place changes no count
pub count-set : (place : ℕ) (list : List Watch) (i : ℕ) (w new : Watch) → i < length list → w ≡ get_or list i w →
    new.place ≡ w.place
    → count_in place (set list i new) ≡ count_in place list
count-set place list i w new low at same =
    let e = sum_by-set (λ (x : Watch). bit (nat_eq x.place.0 place)) list i new w low in
    let f : bit (nat_eq (get_or list i w).place.0 place) ≡ bit (nat_eq w.place.0 place) = ap
    (λ (x : Watch). bit (nat_eq x.place.0 place)) (sym at) in
    let g : bit (nat_eq new.place.0 place) ≡ bit (nat_eq w.place.0 place) = ap (λ p. bit (nat_eq p.0 place)) same in
    omega arith

-- the front of a list from which a watch behind it is taken
pub front-removed : {X : Type 0} (list : List X) (i : ℕ) (w : X) → i < length list → take i (swap_remove list i w) ≡
    take i list
front-removed list i w low = take-take i (length list - 1) _ (omega arith) ∙ take-set list i _

-- ---- blockers
pub blocked-removed : (k : Store) (list : List Watch) (i : ℕ) (w : Watch) → i < length list → w ≡ get_or list i w →
    All (IsBlocked k) list
    → All (IsBlocked k) (swap_remove list i w)
blocked-removed k list i w low at all =
    All-tail (IsBlocked k) w (swap_remove list i w) (All-permutation (IsBlocked k) list (w ∷ swap_remove list i w)
    (IsPermutation-swap_remove list i w low at) all)

pub blocked-reordered : (k n : Store) (place : ℕ) → IsReordered k n place → (list : List Watch) → All (IsBlocked k)
    list → All (IsBlocked n) list
blocked-reordered k n place r list all = All-weaker (IsBlocked k) (IsBlocked n)
    (λ w h. reordered-members k n place r w.place.0 w.blocker ∙ h) list all

-- ---- a watch is attached
pub attached-length : (ws : WatchLists) (a : Literal) (new : Watch) → length (attached ws a new).lists ≡ length ws.lists
attached-length ws a new = length-set ws.lists (code_of a) _

pub attached-count : (ws : WatchLists) (a : Literal) (new : Watch) (q : ℕ) (l : Literal) → code_of a < length ws.lists
    → count_in q (list_of (attached ws a new) l) ≡ count_in q (list_of ws l) +
    (if same_literal l a then bit (nat_eq new.place.0 q) else 0)
attached-count ws a new q l room =
    elim (same_literal l a) as (λ b. same_literal l a ≡ b
    → count_in q (list_of (attached ws a new) l) ≡ count_in q (list_of ws l) +
    (if b then bit (nat_eq new.place.0 q) else 0)) [
      | true ↦ λ same.
          let is : l ≡ a = same_literal-is l a same in
          ap (λ x. count_in q (list_of (attached ws a new) x)) is ∙ ap (count_in q)
          (list-same ws a (list_of ws a ++ new ∷ []) room)
          ∙ ap (λ x. count_in q (list_of ws x ++ new ∷ [])) (sym is) ∙ count-push q (list_of ws l) new
      | false ↦ λ apart.
          let e : count_in q (list_of (attached ws a new) l) ≡ count_in q (list_of ws l) =
          ap (count_in q) (list-other ws a (list_of ws a ++ new ∷ []) l (not-same l a apart)) in
          omega arith
    ] refl

pub attached-blocked : (k : Store) (ws : WatchLists) (a : Literal) (new : Watch) → code_of a < length ws.lists →
    IsBlocked k new → AreBlocked k ws
    → AreBlocked k (attached ws a new)
attached-blocked k ws a new room one all =
    by_list (λ _ x. All (IsBlocked k) x) ws a (list_of ws a ++ new ∷ []) room
    (All-push (IsBlocked k) (list_of ws a) new (all a) one) (λ q apart. all q)

-- ---- kinds of clauses
-- the order of the literals does not matter to the kind
pub pair-permuted : (c d : List Literal) → IsPermutation c d → is_pair c ≡ is_pair d
pair-permuted c d p = ap (λ n. nat_eq n 2) (sym (length_permutation c d p))

pub longer-watched : (c d : List Literal) (l : Literal) → is_pair c ≡ is_pair d → watched c l ≡ watched d l
    → watched (longer c) l ≡ watched (longer d) l
longer-watched c d l kind same = ap (λ b. watched (if b then [] else c) l) kind ∙ go (is_pair d)
  where
    go : (b : Bool) → watched (if b then [] else c) l ≡ watched (if b then [] else d) l
    go true = refl
    go false = same

-- what is among the first two of the clause of a kind is among those of the clause
pub longer-in : (c : List Literal) (l : Literal) → 1 ≤ watched (longer c) l → IsWatchedIn c l
longer-in c l = elim (is_pair c) as (λ b. 1 ≤ watched (if b then [] else c) l → IsWatchedIn c l) [
  | true ↦ λ h. absurd (omega (arith, h))
  | false ↦ watched-in c l
]

-- such a clause has more than two literals
pub longer-is : (c : List Literal) (l : Literal) → 1 ≤ watched (longer c) l → is_pair c ≡ false
longer-is c l = elim (is_pair c) as (λ b. 1 ≤ watched (if b then [] else c) l → b ≡ false) [
  | true ↦ λ h. absurd (omega (arith, h))
  | false ↦ λ _. refl
]

-- what holds of all literals of a clause holds of those of the clause of a kind
pub longer-all : (P : Literal → Type 0) (c : List Literal) → All P c → All P (longer c)
longer-all P c all = elim (is_pair c) as (λ b. All P (if b then [] else c)) [ true ↦ All-nil P | false ↦ all ]

pub paired-all : (P : Literal → Type 0) (c : List Literal) → All P c → All P (paired c)
paired-all P c all = elim (is_pair c) as (λ b. All P (if b then c else [])) [ true ↦ all | false ↦ All-nil P ]

-- where a clause of a kind has literals, it is the clause
pub longer-own : (c xs : List Literal) (x : Literal) → longer c ≡ x ∷ xs → c ≡ x ∷ xs
longer-own c xs x = elim (is_pair c) as (λ b. (if b then [] else c) ≡ x ∷ xs → c ≡ x ∷ xs) [
  | true ↦ λ e. absurd (cc)
  | false ↦ λ e. e
]

pub paired-own : (c xs : List Literal) (x : Literal) → paired c ≡ x ∷ xs → (c ≡ x ∷ xs) × (is_pair c ≡ true)
paired-own c xs x = elim (is_pair c) as (λ b. (if b then c else []) ≡ x ∷ xs → (c ≡ x ∷ xs) × (b ≡ true)) [
  | true ↦ λ e. (e, refl)
  | false ↦ λ e. absurd (cc)
]

-- ---- the second watch turned
pub turned-watched : (c d : List Literal) (gone : Literal) → IsTurned c d gone → (l : Literal) → watched d l ≡
    watched c l
turned-watched c d gone t l = ap (λ x. watched x l) t.is ∙ back t.was
  where
    back : (c ≡ t.first ∷ gone ∷ t.rest) ⊎ (c ≡ gone ∷ t.first ∷ t.rest) → watched (t.first ∷ gone ∷ t.rest) l ≡
        watched c l
    back (inl e) = ap (λ x. watched x l) (sym e)
    back (inr e) =
        let f : bit (same_literal l t.first) + bit (same_literal l gone) ≡ bit (same_literal l gone) + bit
        (same_literal l t.first) = omega arith in
        f ∙ ap (λ x. watched x l) (sym e)

pub turned-watching : (k n : Store) (ws : WatchLists) (place : ℕ) (gone : Literal) → IsReordered k n place
    → IsTurned (lits_at k place) (lits_at n place) gone → IsWatching longer k ws → IsWatching longer n ws
turned-watching k n ws place gone r t all =
    by_place (λ q. (l : Literal) → count_in q (list_of ws l) ≡ watched (longer (lits_at n q)) l) place
    (λ l. all place l ∙ longer-watched _ _ l (pair-permuted _ _ r.lits) (sym (turned-watched _ _ gone t l)))
    (λ q apart l. all q l ∙ ap (λ c. watched (longer c) l) (sym (lits-other k n place r q apart)))
