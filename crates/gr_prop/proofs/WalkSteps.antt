-- what a visit keeps of the walk
use Rattle.std.proofs.Common.{◌≡◌, ◌⊎◌, ℕ, ◌+◌, ◌<◌, ◌≤◌, true, false, All, List, [], ◌∷◌, ◌++◌, Some, IsSome, get_or, set, take, length, refl, sym, ap, ◌∙◌, subst, inl, inr, arith, nat_eq, zero, suc}
use Rattle.std.proofs.lemmas.Bool.Decides.{nat_tests}
use Rattle.std.proofs.lemmas.List.{append-nil, append_assoc, get_or_default}
use Rattle.std.proofs.lemmas.List.Elements.{All-set, All-append, All-nil, All-cons}
use Rattle.std.proofs.lemmas.List.Sorted.{IsPermutation-refl, IsPermutation-trans}
use Rattle.std.specs.List.{list_any}
use Rattle.std.specs.List.Sorted.{IsPermutation}
use Rattle.std.specs.FinMap as finite
use Rattle.gr_logic.specs.Literals.{Literal, negation}
use Rattle.gr_logic.specs.Codes.{code_of}
use Rattle.gr_logic.specs.Rup.{members}
use Rattle.gr_logic.specs.Closure.{IsWithin}
use Rattle.gr_logic.specs.declared.places.Place.{Place}
use Rattle.gr_trail.specs.Trails.{Assigned, TrailState, true_in}
use Rattle.gr_watch.specs.declared.lists.Watch.{Watch}
use Rattle.gr_watch.specs.WatchLists.{WatchLists, list_of, with_list}
use Rattle.gr_prop.specs.Bases.{clauses_in}
use Rattle.gr_prop.specs.BaseChanges.{with_forced, IsForcedAt, IsGrown}
use Rattle.gr_prop.specs.Watching.{Store, lits_at, bit, count_in, watched, longer, IsBlocked, IsGuarded, IsSound}
use Rattle.gr_prop.specs.Visits.{IsWatchedIn, IsReordered, IsTurned, OthersFalse}
use Rattle.gr_prop.specs.Walking.{IsWalking, AreVisited, IsProgress}
use Rattle.gr_prop.proofs.TrailSets.{true_in-more}
use Rattle.gr_prop.proofs.Kept.{any-weaker, any-member, kept-order, guarded-more}
use Rattle.gr_prop.proofs.Stores.{by_place, lits-other, lits-permuted, there-other, reordered-clauses, reordered-distinct, reordered-known, reordered-any, family-there}
use Rattle.gr_prop.proofs.Sound.{sound-forced}
use Rattle.gr_prop.proofs.Counts.{code-low, count-here, longer-in, there-in, list-same, list-other, by_list, count-more, count-set, blocked-reordered, turned-watching}

module _ (k : Store) (t : TrailState) (ws : WatchLists) (list : List Watch) (gone : Literal)
    (walk : IsWalking k t ws list gone) where
  pub has-list : code_of gone < length ws.lists
  has-list = code-low gone t.vars (length ws.lists) walk.even walk.low

  pub list-blocked : All (IsBlocked k) list
  list-blocked = subst (All (IsBlocked k)) (list-same ws gone list has-list) (walk.blocked gone)

  -- a walked place watches the literal
  pub walked-watched : (i : ℕ) (w : Watch) → i < length list → w ≡ get_or list i w → IsWatchedIn
      (lits_at k w.place.0) gone
  walked-watched i w low at =
      longer-in _ gone (subst (λ n. 1 ≤ n) (ap (count_in w.place.0) (sym (list-same ws gone list has-list)) ∙
      walk.watching w.place.0 gone) (count-here list i w low at))

  pub walked-there : (i : ℕ) (w : Watch) → i < length list → w ≡ get_or list i w → IsSome (finite.get k w.place.0)
  walked-there i w low at = there-in k w.place.0 gone (walked-watched i w low at)

  -- only an order changed
  pub turned-walking : (n : Store) (place : ℕ) → IsReordered k n place → IsTurned (lits_at k place) (lits_at n place)
      gone → IsWalking n t ws list gone
  turned-walking n place r turned = record {
    watching = turned-watching k n (with_list ws gone list) place gone r turned walk.watching;
    blocked = λ l. blocked-reordered k n place r (list_of (with_list ws gone list) l) (walk.blocked l);
    distinct = reordered-distinct k n place r walk.distinct;
    known = reordered-known k n t.vars place r walk.known;
    vars = walk.vars;
    even = walk.even;
    low = walk.low;
    sound = subst (λ c. IsSound c t) (sym (reordered-clauses k n place r)) walk.sound;
    falsified = walk.falsified;
  }

  -- a watch has another blocker
  pub renewed-walking : (i : ℕ) (w new : Watch) → i < length list → w ≡ get_or list i w → new.place ≡ w.place →
      IsBlocked k new → IsWalking k t ws (set list i new) gone
  renewed-walking i w new low at same blocked = record {
    watching = λ q. by_list (λ l x. count_in q x ≡ watched (longer (lits_at k q)) l) ws gone (set list i new) has-list
        (count-set q list i w new low at same ∙ ap (count_in q) (sym (list-same ws gone list has-list)) ∙
        walk.watching q gone)
        (λ l apart. ap (count_in q) (sym (list-other ws gone list l apart)) ∙ walk.watching q l);
    blocked = by_list (λ _ x. All (IsBlocked k) x) ws gone (set list i new) has-list
        (All-set (IsBlocked k) list i new blocked list-blocked)
        (λ l apart. subst (All (IsBlocked k)) (list-other ws gone list l apart) (walk.blocked l));
    distinct = walk.distinct;
    known = walk.known;
    vars = walk.vars;
    even = walk.even;
    low = walk.low;
    sound = walk.sound;
    falsified = walk.falsified;
  }

  -- a literal is forced
  pub forced-walking : (l : Literal) (place : Place) → IsSome (finite.get k place.0) → members (lits_at k place.0) l
      ≡ true
      → OthersFalse t.assigned (lits_at k place.0) l → true_in t.assigned (negation l) ≡ false → l.index < t.vars
      → IsWalking k (with_forced t l place) ws list gone
  forced-walking l place there has others free low = record {
    watching = walk.watching;
    blocked = walk.blocked;
    distinct = walk.distinct;
    known = walk.known;
    vars = walk.vars;
    even = walk.even;
    low = walk.low;
    sound = sound-forced (clauses_in k) t l place (members (lits_at k place.0)) walk.sound low free
        (family-there k place.0 there)
        (record { has = has; others = others });
    falsified = true_in-more t.assigned _ (negation gone) walk.falsified;
  }

-- ---- what was visited
-- a watch whose clause has a true literal is visited
pub visited-next : (k : Store) (xs : List Assigned) (list : List Watch) (i : ℕ) (w : Watch) → i < length list → w ≡
    get_or list i w
    → list_any (true_in xs) (lits_at k w.place.0) ≡ true → AreVisited k xs list i → AreVisited k xs list (i + 1)
visited-next k xs list i w low at now all =
    by_place (λ q. 1 ≤ count_in q (take (i + 1) list) → list_any (true_in xs) (lits_at k q) ≡ true) w.place.0
    (λ _. now)
    (λ q apart h. all q (
    let none : nat_eq w.place.0 q ≡ false = grind (arith, nat_tests) in
    let e : count_in q (take (i + 1) list) ≡ count_in q (take i list) + bit (nat_eq w.place.0 q) = count-more q list
    i w low at in
    let f : bit (nat_eq w.place.0 q) ≡ 0 = ap bit none in
    omega arith
    ))

-- a blocker that is true is a literal of its clause
pub blocked-any : (k : Store) (xs : List Assigned) (w : Watch) → IsBlocked k w → true_in xs w.blocker ≡ true →
    list_any (true_in xs) (lits_at k w.place.0) ≡ true
blocked-any k xs w blocked now = any-member (true_in xs) (lits_at k w.place.0) w.blocker blocked now

pub visited-blocked : (k : Store) (xs : List Assigned) (list : List Watch) (i m : ℕ) → i + m ≤ length list → All
    (IsBlocked k) list
    → ((j : ℕ) (d : Watch) → i ≤ j → j < i + m → true_in xs (get_or list j d).blocker ≡ true)
    → AreVisited k xs list i → AreVisited k xs list (i + m)
visited-blocked k xs list i zero low blocked now all = subst (AreVisited k xs list)
    (let e : i ≡ i + 0 = omega arith in e) all
visited-blocked k xs list i (suc m) low blocked now all =
    let before : AreVisited k xs list (i + m) = visited-blocked k xs list i m (omega arith) blocked
    (λ j d from to. now j d from (omega arith)) all in
    go list low refl before
  where
    go : (ls : List Watch) → i + suc m ≤ length ls → ls ≡ list → AreVisited k xs list (i + m) → AreVisited k xs list
        (i + suc m)
    go [] h is before = absurd (omega arith)
    go (d ∷ ds) h is before =
        let w : Watch = get_or list (i + m) d in
        let at : w ≡ get_or list (i + m) w = sym (get_or_default list (i + m) w d (omega arith)) in
        let e : (i + m) + 1 ≡ i + suc m = omega arith in
        subst (AreVisited k xs list) e (visited-next k xs list (i + m) w (omega arith) at
        (blocked-any k xs w (blocked (i + m) d (omega arith)) (now (i + m) d (omega arith) (omega arith))) before)

-- the order of a clause does not matter, nor does what becomes true
pub visited-on : (k n : Store) (xs ys : List Assigned) (list : List Watch) (i place : ℕ) → IsReordered k n place →
    IsWithin (true_in xs) (true_in ys)
    → AreVisited k xs list i → AreVisited n ys list i
visited-on k n xs ys list i place r more all q h =
    reordered-any k n place r q (true_in ys) ∙ any-weaker (true_in xs) (true_in ys) (lits_at k q) more (all q h)

pub visited-front : (k : Store) (xs : List Assigned) (list other : List Watch) (i : ℕ) → take i other ≡ take i list →
    AreVisited k xs list i → AreVisited k xs other i
visited-front k xs list other i same all q h = all q (subst (λ x. 1 ≤ count_in q x) same h)

pub none-visited : (k : Store) (xs : List Assigned) (list : List Watch) → AreVisited k xs list 0
none-visited k xs list q h = absurd (omega arith)

-- ---- progress
pub grown-itself : (t : TrailState) → IsGrown t t
grown-itself t = record {
  vars = refl;
  depth = refl;
  more = [];
  assigned = sym (append-nil t.assigned);
  forced =
      All-nil (IsForcedAt t.depth);
}

pub progress-itself : (k : Store) (t : TrailState) → IsProgress k k t t
progress-itself k t = record {
  clauses = refl;
  orders = λ q. IsPermutation-refl _;
  there = λ q h. h;
  grown = grown-itself t;
  guards = λ done within q there g. g;
}

pub progress-on : (k m n : Store) (t s u : TrailState) → IsProgress k m t s → IsProgress m n s u → IsProgress k n t u
progress-on k m n t s u one two = record {
  clauses = two.clauses ∙ one.clauses;
  orders = λ q. IsPermutation-trans _ _ _ (one.orders q) (two.orders q);
  there = λ q h. one.there q (two.there q h);
  grown = record {
    vars = two.grown.vars ∙ one.grown.vars;
    depth = two.grown.depth ∙ one.grown.depth;
    more = one.grown.more ++ two.grown.more;
    assigned = two.grown.assigned ∙ ap (λ x. x ++ two.grown.more) one.grown.assigned ∙ append_assoc t.assigned
        one.grown.more two.grown.more;
    forced = All-append (IsForcedAt t.depth) one.grown.more two.grown.more one.grown.forced
        (subst (λ d. All (IsForcedAt d) two.grown.more) one.grown.depth two.grown.forced);
  };
  guards = λ done within q there g. two.guards done
      (λ q e. subst (λ x. true_in x q ≡ true) (sym one.grown.assigned)
      (true_in-more t.assigned one.grown.more q (within q e))) q there
      (one.guards done within q (two.there q there) g);
}

-- a turned clause is guarded as before
pub turned-guarded : (xs done : List Assigned) (c d : List Literal) (gone : Literal) → IsPermutation c d → IsTurned c
    d gone → IsGuarded xs done c → IsGuarded xs done d
turned-guarded xs done c d gone p t g = subst (IsGuarded xs done) (sym t.is) (back t.was)
  where
    back : (c ≡ t.first ∷ gone ∷ t.rest) ⊎ (c ≡ gone ∷ t.first ∷ t.rest) → IsGuarded xs done (t.first ∷ gone ∷ t.rest)
    back (inl e) = subst (IsGuarded xs done) e g
    back (inr e) =
        let h : IsGuarded xs done (gone ∷ t.first ∷ t.rest) = subst (IsGuarded xs done) e g in
        let q : IsPermutation (gone ∷ t.first ∷ t.rest) (t.first ∷ gone ∷ t.rest) = subst
        (λ x. IsPermutation x (t.first ∷ gone ∷ t.rest)) e (subst (IsPermutation c) t.is p) in
        (kept-order xs done t.first _ _ q h.1, kept-order xs done gone _ _ q h.0)

pub turned-guards : (k n : Store) (xs done : List Assigned) (gone : Literal) (place : ℕ) → IsReordered k n place
    → IsTurned (lits_at k place) (lits_at n place) gone → (q : ℕ) → IsGuarded xs done (lits_at k q)
    → IsGuarded xs done (lits_at n q)
turned-guards k n xs done gone place r turned =
    by_place (λ q. IsGuarded xs done (lits_at k q) → IsGuarded xs done (lits_at n q)) place
    (turned-guarded xs done _ _ gone r.lits turned)
    (λ q apart. subst (IsGuarded xs done) (sym (lits-other k n place r q apart)))

pub turned-progress : (k n : Store) (t : TrailState) (gone : Literal) (place : ℕ) → IsReordered k n place
    → IsTurned (lits_at k place) (lits_at n place) gone → IsProgress k n t t
turned-progress k n t gone place r turned = record {
  clauses = reordered-clauses k n place r;
  orders = lits-permuted k n place r;
  there = there-other k n place r;
  grown = grown-itself t;
  guards = λ done within q there. turned-guards k n t.assigned done gone place r turned q;
}

pub forced-progress : (k : Store) (t : TrailState) (l : Literal) (place : Place) → IsProgress k k t
    (with_forced t l place)
forced-progress k t l place = record {
  clauses = refl;
  orders = λ q. IsPermutation-refl _;
  there = λ q h. h;
  grown = record {
    vars = refl;
    depth = refl;
    more = _;
    assigned = refl;
    forced = All-cons (IsForcedAt t.depth)
        (record { lit = l; level = t.depth; reason = Some place }) [] (refl, refl) (All-nil (IsForcedAt t.depth));
  };
  guards = λ done within q there g. guarded-more t.assigned _ done (lits_at k q) g;
}
