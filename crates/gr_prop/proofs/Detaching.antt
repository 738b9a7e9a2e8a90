-- the watches of a clause that leaves, for the clauses of either kind
use Rattle.std.proofs.Common.{◌≡◌, ◌≢◌, ℕ, ◌+◌, ◌-◌, ◌*◌, ◌<◌, ◌≤◌, Bool, true, false, not, ◌||◌, All, List, [], ◌∷◌, get_or, set, take, length, refl, sym, ap, ◌∙◌, subst, arith, nat_eq, suc, if◌then◌else◌, cond}
use Rattle.std.proofs.lemmas.Bool.Decides.{nat_tests}
use Rattle.std.proofs.lemmas.List.{length-set, get_or_default}
use Rattle.std.proofs.lemmas.List.Elements.{All-tail}
use Rattle.std.proofs.lemmas.List.Sums.{sum_by-cons, sum_by-swap_remove}
use Rattle.std.proofs.lemmas.List.Sorted.{All-permutation, IsPermutation-swap_remove}
use Rattle.std.specs.List.{list_any, swap_remove}
use Rattle.gr_logic.specs.Literals.{Literal, same_literal}
use Rattle.gr_logic.specs.Codes.{code_of}
use Rattle.gr_logic.specs.declared.places.Place.{Place}
use Rattle.gr_logic.proofs.Sound.{same_literal-is}
use Rattle.gr_logic.proofs.SameLiteral.{same_literal-itself}
use Rattle.gr_watch.specs.declared.lists.Watch.{Watch}
use Rattle.gr_watch.specs.WatchLists.{WatchLists, list_of, no_watch, taken_out, is_at, first_at}
use Rattle.gr_prop.specs.Watching.{Store, lits_at, bit, occurs, count_in, watched, IsWatching}
use Rattle.gr_prop.specs.Additions.{detached, unwatching, IsWatchedByTwo}
use Rattle.gr_prop.proofs.Counts.{code-low, list-same, list-other, by_list, not-same}
use Rattle.gr_prop.proofs.Forcing.{none-apart}

-- ---- the first watch of a place
count-any : (place : Place) (list : List Watch) → 1 ≤ count_in place.0 list → list_any (is_at place) list ≡ true
count-any place [] h = absurd (omega arith)
count-any place (w ∷ ws) h =
    let e : count_in place.0 (w ∷ ws) ≡ bit (nat_eq w.place.0 place.0) + count_in place.0 ws = sum_by-cons
    (λ (x : Watch). bit (nat_eq x.place.0 place.0)) w ws in
    elim (nat_eq w.place.0 place.0) as (λ b. nat_eq w.place.0 place.0 ≡ b → (b || list_any (is_at place) ws) ≡ true) [
      | true ↦ λ _. refl
      | false ↦ λ apart. let f : bit (nat_eq w.place.0 place.0) ≡ 0 = ap bit apart in count-any place ws (omega arith)
    ] refl

-- it is there, and of the place
found-first : (place : Place) (list : List Watch) (d : Watch) → list_any (is_at place) list ≡ true
    → (first_at place list < length list) × ((get_or list (first_at place list) d).place.0 ≡ place.0)
found-first place [] d h = absurd (cc)
found-first place (w ∷ ws) d h =
    elim (is_at place w) as (λ b. is_at place w ≡ b → (b || list_any (is_at place) ws) ≡ true
    → (cond (not b) (1 + first_at place ws) 0 < length (w ∷ ws)) ×
    ((get_or (w ∷ ws) (cond (not b) (1 + first_at place ws) 0) d).place.0 ≡ place.0)) [
      | true ↦ λ same _. (omega arith, grind (arith, nat_tests))
      | false ↦ λ _ later.
          let rest = found-first place ws d later in
          let low = rest.0 in
          let e : 1 + first_at place ws ≡ suc (first_at place ws) = omega arith in
          (omega arith, ap (λ m. (get_or (w ∷ ws) m d).place.0) e ∙ rest.1)
    ] refl h

swap_remove-default : {X : Type 0} (xs : List X) (i : ℕ) (d e : X) → i < length xs → swap_remove xs i d ≡ swap_remove
    xs i e
swap_remove-default xs i d e low = ap (λ z. take (length xs - 1) (set xs i z))
    (get_or_default xs (length xs - 1) d e (omega arith))

-- ---- a watch is taken out
detached-length : (ws : WatchLists) (a : Literal) (place : Place) → length (detached ws a place).lists ≡ length ws.lists
detached-length ws a place = length-set ws.lists (code_of a) _

detached-count : (ws : WatchLists) (a : Literal) (place : Place) (q : ℕ) (l : Literal) → code_of a < length ws.lists
    → list_any (is_at place) (list_of ws a) ≡ true
    → count_in q (list_of (detached ws a place) l) + (if same_literal l a then bit (nat_eq place.0 q) else 0) ≡
    count_in q (list_of ws l)
detached-count ws a place q l room there =
    elim (same_literal l a) as (λ b. same_literal l a ≡ b
    → count_in q (list_of (detached ws a place) l) + (if b then bit (nat_eq place.0 q) else 0) ≡ count_in q
    (list_of ws l)) [
      | true ↦ λ same.
          let is : l ≡ a = same_literal-is l a same in
          let f = found-first place (list_of ws a) no_watch there in
          let e : count_in q (list_of (detached ws a place) l) ≡ count_in q
          (taken_out (list_of ws a) (first_at place (list_of ws a))) =
          ap (λ z. count_in q (list_of (detached ws a place) z)) is ∙ ap (count_in q)
          (list-same ws a (taken_out (list_of ws a) (first_at place (list_of ws a))) room) in
          let g = sum_by-swap_remove (λ (x : Watch). bit (nat_eq x.place.0 q)) (list_of ws a)
          (first_at place (list_of ws a)) no_watch f.0 in
          let h : bit (nat_eq (get_or (list_of ws a) (first_at place (list_of ws a)) no_watch).place.0 q) ≡ bit
          (nat_eq place.0 q) = ap (λ n. bit (nat_eq n q)) f.1 in
          let j : count_in q (list_of ws l) ≡ count_in q (list_of ws a) = ap (λ z. count_in q (list_of ws z)) is in
          omega arith
      | false ↦ λ apart.
          let e : count_in q (list_of (detached ws a place) l) ≡ count_in q (list_of ws l) = ap (count_in q)
          (list-other ws a (taken_out (list_of ws a) (first_at place (list_of ws a))) l (not-same l a apart)) in
          omega arith
    ] refl

-- what holds of the watches of each list still does
detached-all : (P : Literal → Watch → Type 0) (ws : WatchLists) (a : Literal) (place : Place)
    → code_of a < length ws.lists → list_any (is_at place) (list_of ws a) ≡ true
    → ((l : Literal) → All (P l) (list_of ws l)) → (l : Literal) → All (P l) (list_of (detached ws a place) l)
detached-all P ws a place room there all =
    by_list (λ l x. All (P l) x) ws a (taken_out (list_of ws a) (first_at place (list_of ws a))) room
    (let list : List Watch = list_of ws a in
    let i : ℕ = first_at place list in
    let f = found-first place list no_watch there in
    let w : Watch = get_or list i no_watch in
    let at : w ≡ get_or list i w = get_or_default list i no_watch w f.0 in
    subst (All (P a)) (swap_remove-default list i w no_watch f.0)
    (All-tail (P a) w (swap_remove list i w) (All-permutation (P a) list (w ∷ swap_remove list i w)
    (IsPermutation-swap_remove list i w f.0 at) (all a))))
    (λ q apart. all q)

none-left : (f m n : ℕ) (a b : Bool) → f + (if b then 1 else 0) ≡ m → m + (if a then 1 else 0) ≡ n → n ≡ bit a + bit
    b → f ≡ 0
none-left f m n a b d e g = omega arith

same-left : (f m n : ℕ) (a b : Bool) → f + (if b then 0 else 0) ≡ m → m + (if a then 0 else 0) ≡ n → f ≡ n
same-left f m n true true d e = omega arith
same-left f m n true false d e = omega arith
same-left f m n false true d e = omega arith
same-left f m n false false d e = omega arith

-- ---- the lists of the clauses of a kind with one clause less
-- what the lists are without the place
pub record AreLeft (kind : List Literal → List Literal) (k : Store) (ws : WatchLists) (place : Place)
    (P : Literal → Watch → Type 0) (vs : WatchLists) : Type 0 where
  pub none : (l : Literal) → count_in place.0 (list_of vs l) ≡ 0
  pub same : (q : ℕ) → q ≢ place.0 → (l : Literal) → count_in q (list_of vs l) ≡ count_in q (list_of ws l)
  pub all : (l : Literal) → All (P l) (list_of vs l)
  pub even : length vs.lists ≡ length ws.lists
  pub vars : vs.vars ≡ ws.vars

module _ (kind : List Literal → List Literal) (k : Store) (ws : WatchLists) (vars : ℕ) (place : Place)
    (watching : IsWatching kind k ws) (even : length ws.lists ≡ 2 * vars)
    (known : All (λ (l : Literal). l.index < vars) (kind (lits_at k place.0)))
    (distinct : (w o : Literal) (rest : List Literal) → kind (lits_at k place.0) ≡ w ∷ o ∷ rest
    → occurs (w ∷ o ∷ rest) o.index ≤ 1) where
  abbrev own : List Literal
  own = kind (lits_at k place.0)

  room : (l : Literal) → l.index < vars → code_of l < length ws.lists
  room l low = code-low l vars (length ws.lists) even low

  first-there : (w o : Literal) (rest : List Literal) → own ≡ w ∷ o ∷ rest
      → list_any (is_at place) (list_of ws w) ≡ true
  first-there w o rest is = count-any place (list_of ws w)
      (let e : count_in place.0 (list_of ws w) ≡ bit (same_literal w w) + bit (same_literal w o) =
      watching place.0 w ∙ ap (λ z. watched z w) is in
      let f : bit (same_literal w w) ≡ 1 = ap bit (same_literal-itself w) in omega arith)

  second-there : (w o : Literal) (rest : List Literal) → own ≡ w ∷ o ∷ rest
      → list_any (is_at place) (list_of (detached ws w place) o) ≡ true
  second-there w o rest is =
      let low : w.index < vars = subst (All (λ (l : Literal). l.index < vars)) is known 0 w (omega arith) in
      let apart : same_literal o w ≡ false = none-apart w o rest (distinct w o rest is) in
      count-any place (list_of (detached ws w place) o)
      (let e : count_in place.0 (list_of ws o) ≡ bit (same_literal o w) + bit (same_literal o o) =
      watching place.0 o ∙ ap (λ z. watched z o) is in
      let f : bit (same_literal o o) ≡ 1 = ap bit (same_literal-itself o) in
      let g = rw apart at (detached-count ws w place place.0 o (room w low) (first-there w o rest is)) in
      omega arith)

  pub watched-twice : (e : List Literal) → own ≡ e → IsWatchedByTwo ws place e
  watched-twice [] is = tt
  watched-twice (w ∷ []) is = tt
  watched-twice (w ∷ o ∷ rest) is = (first-there w o rest is, second-there w o rest is)

  pub lists-left : (P : Literal → Watch → Type 0) → ((l : Literal) → All (P l) (list_of ws l))
      → (e : List Literal) → own ≡ e → AreLeft kind k ws place P (unwatching ws place e)
  lists-left P all [] is = record {
    none = λ l. watching place.0 l ∙ ap (λ z. watched z l) is;
    same = λ q apart l. refl;
    all = all;
    even = refl;
    vars = refl;
  }
  lists-left P all (w ∷ []) is = record {
    none = λ l. watching place.0 l ∙ ap (λ z. watched z l) is;
    same = λ q apart l. refl;
    all = all;
    even = refl;
    vars = refl;
  }
  lists-left P all (w ∷ o ∷ rest) is =
      let low-w : w.index < vars = subst (All (λ (l : Literal). l.index < vars)) is known 0 w (omega arith) in
      let low-o : o.index < vars = subst (All (λ (l : Literal). l.index < vars)) is known 1 o (omega arith) in
      let room-o : code_of o < length (detached ws w place).lists = subst (λ m. code_of o < m)
      (sym (detached-length ws w place)) (room o low-o) in
      let one = first-there w o rest is in
      let two = second-there w o rest is in
      let here : nat_eq place.0 place.0 ≡ true = grind (arith, nat_tests) in
      record {
        none = λ l. none-left _ _ _ (same_literal l w) (same_literal l o)
            (rw here at (detached-count (detached ws w place) o place place.0 l room-o two))
            (rw here at (detached-count ws w place place.0 l (room w low-w) one))
            (watching place.0 l ∙ ap (λ z. watched z l) is);
        same = λ q apart l.
            let other : nat_eq place.0 q ≡ false = grind (arith, nat_tests) in
            same-left _ _ _ (same_literal l w) (same_literal l o)
            (rw other at (detached-count (detached ws w place) o place q l room-o two))
            (rw other at (detached-count ws w place q l (room w low-w) one));
        all = detached-all P (detached ws w place) o place room-o two
            (detached-all P ws w place (room w low-w) one all);
        even = detached-length (detached ws w place) o place ∙ detached-length ws w place;
        vars = refl;
      }
