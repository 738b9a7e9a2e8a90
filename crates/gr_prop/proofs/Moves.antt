-- a watch moves to another literal
use Rattle.std.proofs.Common.{◌≡◌, ◌≢◌, ◌⊎◌, ℕ, ◌+◌, ◌<◌, ◌≤◌, Bool, true, false, All, List, [], ◌∷◌, ◌++◌, get_or, length, refl, sym, ap, ◌∙◌, subst, inl, inr, arith, nat_eq, if◌then◌else◌}
use Rattle.std.proofs.lemmas.Bool.Decides.{nat_tests}
use Rattle.std.proofs.lemmas.List.Elements.{All-push}
use Rattle.std.specs.List.{swap_remove}
use Rattle.std.specs.List.Sorted.{IsPermutation}
use Rattle.gr_logic.specs.Literals.{Literal, negation, same_literal}
use Rattle.gr_logic.specs.Codes.{code_of}
use Rattle.gr_logic.specs.Rup.{members}
use Rattle.gr_logic.specs.Closure.{IsWithin}
use Rattle.gr_logic.proofs.Sound.{same_literal-is}
use Rattle.gr_logic.proofs.SameLiteral.{members-first}
use Rattle.gr_trail.specs.Trails.{Assigned, TrailState, true_in}
use Rattle.gr_watch.specs.declared.lists.Watch.{Watch}
use Rattle.gr_watch.specs.WatchLists.{WatchLists, list_of, with_list}
use Rattle.gr_prop.specs.Watching.{Store, lits_at, bit, count_in, watched, is_pair, longer, IsWatching, IsBlocked, AreBlocked, AreKnown, IsKept, IsGuarded, IsSound}
use Rattle.gr_prop.specs.Visits.{IsMoved}
use Rattle.gr_prop.specs.Walking.{IsWalking, AreVisited, IsProgress}
use Rattle.gr_prop.specs.Additions.{attached}
use Rattle.gr_prop.proofs.Kept.{kept-order, kept-none}
use Rattle.gr_prop.proofs.Stores.{by_place, lits-other, lits-permuted, there-other, reordered-clauses, reordered-distinct, reordered-known}
use Rattle.gr_prop.proofs.Counts.{code-low, count-here, pair-permuted, longer-is, list-same, list-other, by_list, not-same, count-removed, front-removed, blocked-removed, blocked-reordered, attached-count, attached-length}
use Rattle.gr_prop.proofs.WalkSteps.{has-list, list-blocked, visited-on, visited-front, grown-itself}

-- the lists after the move
abbrev pub after_move : WatchLists → List Watch → Literal → Literal → ℕ → Watch → Watch → WatchLists
after_move ws list gone next i w new = with_list (attached ws next new) gone (swap_remove list i w)

-- what is counted before and after the move
moved-count : (ws : WatchLists) (list : List Watch) (gone next : Literal) (i : ℕ) (w new : Watch) (q : ℕ) (l : Literal)
    → code_of gone < length ws.lists → code_of next < length ws.lists → same_literal gone next ≡ false → i < length
    list → w ≡ get_or list i w
    → count_in q (list_of (after_move ws list gone next i w new) l) +
    (if same_literal l gone then bit (nat_eq w.place.0 q) else 0)
    ≡ count_in q (list_of (with_list ws gone list) l) + (if same_literal l next then bit (nat_eq new.place.0 q) else 0)
moved-count ws list gone next i w new q l room place apart low at =
    elim (same_literal l gone) as (λ b. same_literal l gone ≡ b
    → count_in q (list_of (after_move ws list gone next i w new) l) + (if b then bit (nat_eq w.place.0 q) else 0)
    ≡ count_in q (list_of (with_list ws gone list) l) + (if same_literal l next then bit (nat_eq new.place.0 q) else
    0)) [
      | true ↦ λ same.
          let is : l ≡ gone = same_literal-is l gone same in
          let other : same_literal l next ≡ false = ap (λ x. same_literal x next) is ∙ apart in
          let long : code_of gone < length (attached ws next new).lists = subst (λ n. code_of gone < n)
          (sym (attached-length ws next new)) room in
          let a : count_in q (list_of (after_move ws list gone next i w new) l) ≡ count_in q (swap_remove list i w) =
          ap (λ x. count_in q (list_of (after_move ws list gone next i w new) x)) is ∙ ap (count_in q)
          (list-same (attached ws next new) gone (swap_remove list i w) long) in
          let b : count_in q (list_of (with_list ws gone list) l) ≡ count_in q list =
          ap (λ x. count_in q (list_of (with_list ws gone list) x)) is ∙ ap (count_in q)
          (list-same ws gone list room) in
          let d : count_in q (swap_remove list i w) + bit (nat_eq w.place.0 q) ≡ count_in q list = count-removed q
          list i w low at in
          rw other (omega arith)
      | false ↦ λ no'.
          let n : l ≢ gone = not-same l gone no' in
          let a : count_in q (list_of (after_move ws list gone next i w new) l) ≡ count_in q
          (list_of (attached ws next new) l) =
          ap (count_in q) (list-other (attached ws next new) gone (swap_remove list i w) l n) in
          let b : count_in q (list_of (with_list ws gone list) l) ≡ count_in q (list_of ws l) = ap (count_in q)
          (list-other ws gone list l n) in
          let d = attached-count ws next new q l place in
          omega arith
    ] refl

end-here : (m o w : ℕ) (a b c : Bool) → m + (if a then 1 else 0) ≡ o + (if b then 1 else 0) → o ≡ bit c + bit a → w ≡
    bit c + bit b → m ≡ w
end-here m o w a b c e f g = omega arith

none-if : (b : Bool) (m : ℕ) → m + (if b then 0 else 0) ≡ m
none-if true m = omega arith
none-if false m = omega arith

end-apart : (m o w : ℕ) (a b : Bool) → m + (if a then 0 else 0) ≡ o + (if b then 0 else 0) → o ≡ w → m ≡ w
end-apart m o w a b e f = sym (none-if a m) ∙ e ∙ none-if b o ∙ f

module _ (k n : Store) (t u : TrailState) (ws vs : WatchLists) (list : List Watch) (place : ℕ) (gone : Literal)
    (v : IsMoved k n t u ws vs place gone)
    (walk : IsWalking k t ws list gone) where
  abbrev new : Watch
  new = record { place = record { 0 = place }; blocker = v.first }

  old-watched : (l : Literal) → watched (lits_at k place) l ≡ bit (same_literal l v.first) + bit (same_literal l gone)
  old-watched l = go v.was
    where
      go : (lits_at k place ≡ v.first ∷ gone ∷ v.left) ⊎ (lits_at k place ≡ gone ∷ v.first ∷ v.left)
          → watched (lits_at k place) l ≡ bit (same_literal l v.first) + bit (same_literal l gone)
      go (inl e) = ap (λ c. watched c l) e
      go (inr e) =
          let f : bit (same_literal l gone) + bit (same_literal l v.first) ≡ bit (same_literal l v.first) + bit
          (same_literal l gone) = omega arith in
          ap (λ c. watched c l) e ∙ f

  next-apart : same_literal gone v.next ≡ false
  next-apart = elim (same_literal gone v.next) as (λ b. same_literal gone v.next ≡ b → b ≡ false) [
    | true ↦ λ same. sym walk.falsified ∙ ap (λ l. true_in t.assigned (negation l))
        (same_literal-is gone v.next same) ∙ v.free
    | false ↦ λ _. refl
  ] refl

  known-now : AreKnown n t.vars
  known-now = reordered-known k n t.vars place v.reordered walk.known

  gone-room : code_of gone < length ws.lists
  gone-room = has-list k t ws list gone walk

  next-room : code_of v.next < length ws.lists
  next-room = code-low v.next t.vars (length ws.lists) walk.even
      (subst (All (λ (l : Literal). l.index < t.vars)) v.is (known-now place) 1 v.next (omega arith))

  long : length (attached ws v.next new).lists ≡ length ws.lists
  long = attached-length ws v.next new

  -- a clause that is walked has more than two literals
  was-long : (i : ℕ) (w : Watch) → i < length list → w ≡ get_or list i w → w.place.0 ≡ place → is_pair
      (lits_at k place) ≡ false
  was-long i w low at here = longer-is (lits_at k place) gone
      (subst (λ m. 1 ≤ m) (ap (count_in place) (sym (list-same ws gone list gone-room)) ∙ walk.watching place gone)
      (subst (λ p. 1 ≤ count_in p list) here (count-here list i w low at)))

  still : {c : List Literal} → is_pair c ≡ false → longer c ≡ c
  still {c} e = ap (λ b. if b then [] else c) e

  -- watches stay in step
  moved-watching : (i : ℕ) (w : Watch) → i < length list → w ≡ get_or list i w → w.place.0 ≡ place → IsWatching longer
      n (after_move ws list gone v.next i w new)
  moved-watching i w low at here =
      by_place (λ q. (l : Literal) → count_in q (list_of (after_move ws list gone v.next i w new) l) ≡ watched
      (longer (lits_at n q)) l) place
      (λ l.
      let e = moved-count ws list gone v.next i w new place l gone-room next-room next-apart low at in
      let one : nat_eq w.place.0 place ≡ true = grind (arith, nat_tests) in
      let two : nat_eq place place ≡ true = grind (arith, nat_tests) in
      let f = rw (one, two) at e in
      let g : count_in place (list_of (with_list ws gone list) l) ≡ bit (same_literal l v.first) + bit
      (same_literal l gone) = walk.watching place l ∙ ap (λ c. watched c l) (still (was-long i w low at here)) ∙
      old-watched l in
      let h : watched (longer (lits_at n place)) l ≡ bit (same_literal l v.first) + bit (same_literal l v.next) = ap
      (λ c. watched c l) (still (sym (pair-permuted _ _ v.reordered.lits) ∙ was-long i w low at here) ∙ v.is) in
      end-here _ _ _ (same_literal l gone) (same_literal l v.next) (same_literal l v.first) f g h)
      (λ q apart l.
      let e = moved-count ws list gone v.next i w new q l gone-room next-room next-apart low at in
      let one : nat_eq w.place.0 q ≡ false = grind (arith, nat_tests) in
      let two : nat_eq place q ≡ false = grind (arith, nat_tests) in
      let f = rw (one, two) at e in
      let g : count_in q (list_of (with_list ws gone list) l) ≡ watched (longer (lits_at n q)) l = walk.watching q l
      ∙ ap (λ c. watched (longer c) l) (sym (lits-other k n place v.reordered q apart)) in
      end-apart _ _ _ (same_literal l gone) (same_literal l v.next) f g)

  first-in : IsBlocked n new
  first-in = ap (λ c. members c v.first) v.is ∙ members-first v.first (v.next ∷ v.rest)

  moved-blocked : (i : ℕ) (w : Watch) → i < length list → w ≡ get_or list i w → AreBlocked n
      (after_move ws list gone v.next i w new)
  moved-blocked i w low at =
      by_list (λ _ x. All (IsBlocked n) x) (attached ws v.next new) gone (swap_remove list i w)
      (subst (λ m. code_of gone < m) (sym long) gone-room)
      (blocked-removed n list i w low at (blocked-reordered k n place v.reordered list
      (list-blocked k t ws list gone walk)))
      (λ q apart. by_list (λ x y. x ≢ gone → All (IsBlocked n) y) ws v.next (list_of ws v.next ++ new ∷ []) next-room
      (λ other. All-push (IsBlocked n) (list_of ws v.next) new (old v.next other) first-in)
      (λ r _ other. old r other) q apart)
    where
      old : (q : Literal) → q ≢ gone → All (IsBlocked n) (list_of ws q)
      old q apart = blocked-reordered k n place v.reordered (list_of ws q)
          (subst (All (IsBlocked k)) (list-other ws gone list q apart) (walk.blocked q))

  pub moved-walking : (i : ℕ) (w : Watch) → i < length list → w ≡ get_or list i w → w.place.0 ≡ place → IsWalking n u
      vs (swap_remove list i w) gone
  moved-walking i w low at here =
      let now : IsWalking n t (attached ws v.next new) (swap_remove list i w) gone = record {
        watching = moved-watching i w low at here;
        blocked = moved-blocked i w low at;
        distinct = reordered-distinct k n place v.reordered walk.distinct;
        known = known-now;
        vars = walk.vars;
        even = long ∙ walk.even;
        low = walk.low;
        sound = subst (λ c. IsSound c t) (sym (reordered-clauses k n place v.reordered)) walk.sound;
        falsified = walk.falsified;
      } in
      subst (λ m. IsWalking n u m (swap_remove list i w) gone) (sym v.lists)
      (subst (λ m. IsWalking n m (attached ws v.next new) (swap_remove list i w) gone) (sym v.trail) now)

  -- a literal that is not true was not propagated
  false-in : (done : List Assigned) (q : Literal) → IsWithin (true_in done) (true_in t.assigned) → true_in t.assigned
      q ≡ false → true_in done q ≡ false
  false-in done q within e = elim (true_in done q) as (λ b. true_in done q ≡ b → b ≡ false) [
    | true ↦ λ h. sym (within q h) ∙ e
    | false ↦ λ _. refl
  ] refl

  moved-guarded : (done : List Assigned) → IsWithin (true_in done) (true_in t.assigned) → IsGuarded t.assigned done
      (lits_at k place) → IsGuarded t.assigned done (lits_at n place)
  moved-guarded done within g = subst (IsGuarded t.assigned done) (sym v.is)
      (first v.was, kept-none t.assigned done v.next _ (false-in done (negation v.next) within v.free))
    where
      first : (lits_at k place ≡ v.first ∷ gone ∷ v.left) ⊎ (lits_at k place ≡ gone ∷ v.first ∷ v.left) → IsKept
          t.assigned done v.first (v.first ∷ v.next ∷ v.rest)
      first (inl e) =
          let h : IsGuarded t.assigned done (v.first ∷ gone ∷ v.left) = subst (IsGuarded t.assigned done) e g in
          kept-order t.assigned done v.first _ (v.first ∷ v.next ∷ v.rest)
          (subst (λ x. IsPermutation x (v.first ∷ v.next ∷ v.rest)) e
          (subst (IsPermutation (lits_at k place)) v.is v.reordered.lits)) h.0
      first (inr e) =
          let h : IsGuarded t.assigned done (gone ∷ v.first ∷ v.left) = subst (IsGuarded t.assigned done) e g in
          kept-order t.assigned done v.first _ (v.first ∷ v.next ∷ v.rest)
          (subst (λ x. IsPermutation x (v.first ∷ v.next ∷ v.rest)) e
          (subst (IsPermutation (lits_at k place)) v.is v.reordered.lits)) h.1

  pub moved-progress : IsProgress k n t u
  moved-progress =
      subst (IsProgress k n t) (sym v.trail) record {
        clauses = reordered-clauses k n place v.reordered;
        orders = lits-permuted k n place v.reordered;
        there = there-other k n place v.reordered;
        grown = grown-itself t;
        guards = λ done within q there.
            by_place (λ q. IsGuarded t.assigned done (lits_at k q) → IsGuarded t.assigned done (lits_at n q)) place
            (moved-guarded done within)
            (λ q apart. subst (IsGuarded t.assigned done) (sym (lits-other k n place v.reordered q apart))) q;
      }

  pub moved-visited : (i : ℕ) (w : Watch) → i < length list → AreVisited k t.assigned list i → AreVisited n
      u.assigned (swap_remove list i w) i
  moved-visited i w low all =
      subst (λ m. AreVisited n m.assigned (swap_remove list i w) i) (sym v.trail)
      (visited-front n t.assigned list (swap_remove list i w) i (front-removed list i w low)
      (visited-on k n t.assigned t.assigned list i place v.reordered (λ q e. e) all))
