-- literals that became false pass the lists of their binary clauses
use Rattle.std.proofs.Common.{◌≡◌, ℕ, zero, suc, ◌+◌, ◌*◌, ◌<◌, ◌≤◌, true, All, List, [], ◌∷◌, ◌++◌, None, IsSome, get_or, take, drop, length, refl, sym, ap, ◌∙◌, subst, arith, if◌then◌else◌}
use Rattle.std.proofs.lemmas.List.{take_more, get_or_append_left, take-append-le, drop-append-le, length-append}
use Rattle.std.proofs.lemmas.List.Elements.{All-weaker, All-push}
use Rattle.std.specs.FinMap as finite
use Rattle.gr_logic.specs.Literals.{Literal, negation}
use Rattle.gr_logic.specs.Rup.{members}
use Rattle.gr_logic.proofs.SameLiteral.{negation-negation}
use Rattle.gr_trail.specs.Trails.{Assigned, TrailState, true_in, value_in}
use Rattle.gr_watch.specs.declared.lists.Watch.{Watch}
use Rattle.gr_watch.specs.WatchLists.{WatchLists, list_of}
use Rattle.gr_prop.specs.Bases.{clauses_in}
use Rattle.gr_prop.specs.BaseChanges.{with_forced, IsGrown}
use Rattle.gr_prop.specs.Watching.{Store, lits_at, count_in, watched, paired, IsOther, ArePaired, AreKnown, IsSound, IsReady, IsKept, IsGuarded, AllFalse, AreAt}
use Rattle.gr_prop.specs.Pairing.{IsPassing, ArePassing, ArePassed, AreMet}
use Rattle.gr_prop.specs.Walking.{IsProgress}
use Rattle.gr_prop.proofs.TrailSets.{true_in-more, open-false, true-at, within-at, at-append}
use Rattle.gr_prop.proofs.Kept.{guarded-more}
use Rattle.gr_prop.proofs.Stores.{family-there}
use Rattle.gr_prop.proofs.Sound.{sound-forced}
use Rattle.gr_prop.proofs.Counts.{member-there, member-known, pair-permuted}
use Rattle.gr_prop.proofs.Endings.{all-false}
use Rattle.gr_prop.proofs.Rounds.{guarded-next, at-first, forced-at, none-broken}
use Rattle.gr_prop.proofs.PairLists.{others-are-false, met-any, paired-ordered}

module _ (k : Store) (t : TrailState) (pairs : WatchLists) (gone : Literal) (p : IsPassing k t pairs gone) where
  -- the watch at an index has the other literal of its clause
  pub other-at : (list : List Watch) (i : ℕ) (w : Watch) → list ≡ list_of pairs gone → i < length list
      → w ≡ get_or list i w → IsOther k gone w
  other-at list i w same low at =
      subst (IsOther k gone) (sym at) (subst (All (IsOther k gone)) (sym same) (p.paired.others gone) i w low)

  module _ (w : Watch) (h : IsOther k gone w) where
    pub other-there : IsSome (finite.get k w.place.0)
    other-there = member-there k w.place.0 w.blocker h.other

    pub other-known : w.blocker.index < t.vars
    other-known = member-known (lits_at k w.place.0) w.blocker (p.known w.place.0) h.other

    -- where it is false, so are all
    pub other-false : true_in t.assigned (negation w.blocker) ≡ true → AllFalse t.assigned (lits_at k w.place.0)
    other-false falls = all-false t.assigned (lits_at k w.place.0) w.blocker falls
        (others-are-false k t.assigned gone w h p.falsified)

    -- where it has no value, it is forced
    pub other-forced : value_in t.assigned w.blocker ≡ None
        → IsPassing k (with_forced t w.blocker w.place) pairs gone
    other-forced free = record {
      paired = p.paired;
      known = p.known;
      sound = sound-forced (clauses_in k) t w.blocker w.place (members (lits_at k w.place.0)) p.sound other-known
          (open-false t.assigned w.blocker free) (family-there k w.place.0 other-there)
          (record { has = h.other; others = others-are-false k t.assigned gone w h p.falsified });
      low = p.low;
      falsified = true_in-more t.assigned _ (negation gone) p.falsified;
    }

-- the other literals of the list's front stay true, and that of one more watch is
pub met-more : (xs ys : List Assigned) (list : List Watch) → All (λ w. true_in xs w.blocker ≡ true) list
    → All (λ w. true_in (xs ++ ys) w.blocker ≡ true) list
met-more xs ys list met = All-weaker (λ (w : Watch). true_in xs w.blocker ≡ true)
    (λ (w : Watch). true_in (xs ++ ys) w.blocker ≡ true) (λ w e. true_in-more xs ys w.blocker e) list met

pub met-next : (xs : List Assigned) (list : List Watch) (i : ℕ) (w : Watch) → i < length list → w ≡ get_or list i w
    → true_in xs w.blocker ≡ true → All (λ w. true_in xs w.blocker ≡ true) (take i list)
    → All (λ w. true_in xs w.blocker ≡ true) (take (i + 1) list)
met-next xs list i w low at now met =
    subst (All (λ (w : Watch). true_in xs w.blocker ≡ true))
    (sym (take_more list i w low ∙ ap (λ y. take i list ++ y ∷ []) (sym at)))
    (All-push (λ (w : Watch). true_in xs w.blocker ≡ true) (take i list) w met now)

-- ---- a literal of the trail passes its list
module _ (k : Store) (t : TrailState) (pairs : WatchLists) (i : ℕ) (x : Assigned) (gone : Literal)
    (p : ArePassing k t pairs i) (low : i < length t.assigned) (at : x ≡ get_or t.assigned i x)
    (is : gone ≡ negation x.lit) where
  pub list-begins : IsPassing k t pairs gone
  list-begins = record {
    paired = p.paired;
    known = p.known;
    sound = p.sound;
    low = subst (λ (l : Literal). l.index < t.vars) (sym is)
        (subst (λ (y : Assigned). y.lit.index < t.vars) (sym at) (within-at t.vars t.assigned i x low p.sound.within));
    falsified = ap (λ l. true_in t.assigned (negation l)) is ∙ ap (true_in t.assigned) (negation-negation x.lit)
        ∙ ap (λ (y : Assigned). true_in t.assigned y.lit) at ∙ true-at t.assigned i x low;
  }

  module _ (u : TrailState) (g : IsGrown t u) (q : IsPassing k u pairs gone) (met : AreMet u pairs gone) where
    long : length u.assigned ≡ length t.assigned + length g.more
    long = ap length g.assigned ∙ length-append t.assigned g.more

    front : take i u.assigned ≡ take i t.assigned
    front = ap (take i) g.assigned ∙ take-append-le i t.assigned g.more p.within

    here : x ≡ get_or u.assigned i x
    here = at ∙ sym (ap (λ s. get_or s i x) g.assigned ∙ get_or_append_left t.assigned g.more x i low)

    queue : AreAt u.depth (drop i u.assigned)
    queue = subst (AreAt u.depth) (sym (ap (drop i) g.assigned ∙ drop-append-le i t.assigned g.more p.within))
        (at-append u.depth (drop i t.assigned) g.more
        (subst (λ d. AreAt d (drop i t.assigned)) (sym g.depth) p.queue)
        (forced-at t.depth u.depth g.more g.depth g.forced))

    pub list-ends : ArePassing k u pairs (i + 1)
    list-ends =
        let first = at-first u.depth u.assigned i x (omega (arith, long, low)) here queue in
        record {
          paired = q.paired;
          known = q.known;
          sound = q.sound;
          within = omega (arith, long, low);
          passed = λ place there pair.
              let still : paired (lits_at k place) ≡ lits_at k place =
              ap (λ b. if b then lits_at k place else []) pair in
              let counted : count_in place (list_of pairs gone) ≡ watched (lits_at k place) gone =
              q.paired.watching place gone ∙ ap (λ c. watched c gone) still in
              let before : IsGuarded u.assigned (take i u.assigned) (lits_at k place) =
              subst (λ done. IsGuarded u.assigned done (lits_at k place)) (sym front)
              (subst (λ xs. IsGuarded xs (take i t.assigned) (lits_at k place)) (sym g.assigned)
              (guarded-more t.assigned g.more (take i t.assigned) (lits_at k place) (p.passed place there pair))) in
              subst (λ done. IsGuarded u.assigned done (lits_at k place))
              (sym (take_more u.assigned i x (omega (arith, long, low)) ∙ ap (λ y. take i u.assigned ++ y ∷ [])
              (sym here)))
              (guarded-next u.assigned (take i u.assigned) x u.depth gone (lits_at k place) q.sound.climbs first.0 is
              before (λ h. met-any k u.assigned gone (list_of pairs gone) place (q.paired.others gone) met
              (subst (λ m. 1 ≤ m) (sym counted) h)));
          queue = first.1;
        }

-- ---- between the rounds
at-drop : (depth n : ℕ) (xs : List Assigned) → AreAt depth xs → AreAt depth (drop n xs)
at-drop depth zero xs all = all
at-drop depth (suc n) [] all = tt
at-drop depth (suc n) (x ∷ xs) all = at-drop depth n xs all.1

at-later : (depth n m : ℕ) (xs : List Assigned) → n ≤ m → AreAt depth (drop n xs) → AreAt depth (drop m xs)
at-later depth zero m xs low all = at-drop depth m xs all
at-later depth (suc n) zero xs low all = absurd (omega (arith, low))
at-later depth (suc n) (suc m) [] low all = tt
at-later depth (suc n) (suc m) (x ∷ xs) low all = at-later depth n m xs (omega (arith, low)) all

kept-front : (xs done : List Assigned) (m : ℕ) (w : Literal) (c : List Literal) → IsKept xs done w c
    → IsKept xs (take m done) w c
kept-front xs done zero w c k = tt
kept-front xs [] (suc m) w c k = tt
kept-front xs (x ∷ done) (suc m) w c k = (k.0, kept-front xs done m w c k.1)

-- guarded against fewer literals
guarded-front : (xs done : List Assigned) (m : ℕ) (c : List Literal) → IsGuarded xs done c
    → IsGuarded xs (take m done) c
guarded-front xs done m [] g = g
guarded-front xs done m (w ∷ []) g = g
guarded-front xs done m (w ∷ o ∷ rest) g = (kept-front xs done m w _ g.0, kept-front xs done m o _ g.1)

module _ (k : Store) (t : TrailState) (ws ps : WatchLists) (head : ℕ) (ready : IsReady k t ws head []) where
  -- as many literals passed the binary lists as were propagated
  pub passed-first : ArePassed k t.assigned (take head t.assigned)
  passed-first = λ place there pair. ready.guards place there refl

  pub passing-begins : (ahead : ℕ) → head ≤ ahead → ahead ≤ length t.assigned → ArePaired k t.vars ps
      → ArePassed k t.assigned (take ahead t.assigned) → ArePassing k t ps ahead
  passing-begins ahead low high paired passed = record {
    paired = paired;
    known = ready.known;
    sound = ready.sound;
    within = high;
    passed = passed;
    queue = at-later t.depth head ahead t.assigned low ready.queue;
  }

  module _ (u : TrailState) (g : IsGrown t u) where
    -- the trail has grown by what the binary clauses forced
    pub ready-grown : IsSound (clauses_in k) u → IsReady k u ws head []
    ready-grown sound = record {
      watching = ready.watching;
      blocked = ready.blocked;
      distinct = ready.distinct;
      known = subst (AreKnown k) (sym g.vars) ready.known;
      vars = ready.vars ∙ sym g.vars;
      even = subst (λ n. length ws.lists ≡ 2 * n) (sym g.vars) ready.even;
      sound = sound;
      within = let e = ap length g.assigned ∙ length-append t.assigned g.more in let f = ready.within in
          omega (arith, e, f);
      guards = λ q there free. subst (λ done. IsGuarded u.assigned done (lits_at k q))
          (sym (ap (take head) g.assigned ∙ take-append-le head t.assigned g.more ready.within))
          (subst (λ xs. IsGuarded xs (take head t.assigned) (lits_at k q)) (sym g.assigned)
          (guarded-more t.assigned g.more (take head t.assigned) (lits_at k q) (ready.guards q there free)));
      queue = subst (AreAt u.depth)
          (sym (ap (drop head) g.assigned ∙ drop-append-le head t.assigned g.more ready.within))
          (at-append u.depth (drop head t.assigned) g.more
          (subst (λ d. AreAt d (drop head t.assigned)) (sym g.depth) ready.queue)
          (forced-at t.depth u.depth g.more g.depth g.forced));
      broken' = none-broken k u;
    }

    pub paired-grown : ArePaired k t.vars ps → ArePaired k u.vars ps
    paired-grown p = subst (λ n. ArePaired k n ps) (sym g.vars) p

-- a list of longer clauses was walked
module _ (k n : Store) (t u : TrailState) (ps : WatchLists) (p : IsProgress k n t u) where
  pub paired-walked : ArePaired k t.vars ps → ArePaired n u.vars ps
  paired-walked pairs = subst (λ m. ArePaired n m ps) (sym p.grown.vars) (paired-ordered k n t.vars ps p.orders pairs)

  still-front : (m : ℕ) → m ≤ length t.assigned → take m u.assigned ≡ take m t.assigned
  still-front m low = ap (take m) p.grown.assigned ∙ take-append-le m t.assigned p.grown.more low

  -- what passed the binary lists before still did
  pub passed-walked : (m : ℕ) → m ≤ length t.assigned → ArePassed k t.assigned t.assigned
      → ArePassed n u.assigned (take m u.assigned)
  passed-walked m low passed = λ place there pair.
      subst (λ done. IsGuarded u.assigned done (lits_at n place)) (sym (still-front m low))
      (guarded-front u.assigned t.assigned m (lits_at n place) (p.guards t.assigned (λ q e. e) place there
      (passed place (p.there place there) (pair-permuted _ _ (p.orders place) ∙ pair))))
