-- a clause leaves
use Rattle.std.proofs.Common.{◌≡◌, ◌≢◌, ◌⊎◌, ℕ, ◌<◌, ◌≤◌, Bool, true, false, not, ◌&&◌, ◌||◌, All, List, [], ◌∷◌, Option, Some, None, IsSome, get_or, take, refl, sym, ap, ◌∙◌, subst, inl, inr, arith, nat_eq}
use Rattle.std.proofs.lemmas.Bool.Decides.{nat_tests}
use Rattle.std.proofs.lemmas.List.{get_or_default}
use Rattle.std.proofs.lemmas.List.Elements.{All-head, All-tail, All-nil}
use Rattle.std.specs.Option.{option_map, unwrap_or}
use Rattle.std.specs.FinMap as finite
use Rattle.gr_logic.specs.Literals.{Literal}
use Rattle.gr_logic.specs.Rup.{members}
use Rattle.gr_logic.specs.Closure.{no_literals}
use Rattle.gr_logic.specs.declared.places.Place.{Place}
use Rattle.gr_arena.specs.Arenas.{Stored}
use Rattle.gr_trail.specs.Trails.{Assigned, TrailState}
use Rattle.gr_watch.specs.declared.lists.Watch.{Watch}
use Rattle.gr_watch.specs.WatchLists.{WatchLists, list_of}
use Rattle.gr_prop.specs.Bases.{BaseClause, base_clause, clauses_in, family, HasIdAt}
use Rattle.gr_prop.specs.Watching.{Store, stored_at, lits_at, occurs, count_in, watched, is_pair, longer, paired, IsOther, ArePaired, IsBlocked, AreBlocked, IsGuarded, AllFalse, IsReady, IsIndexed, IsKeptBase, is_in}
use Rattle.gr_prop.specs.Additions.{unwatching, IsWatchedByTwo}
use Rattle.gr_prop.proofs.Closed.{HaveNoReason, founded-with}
use Rattle.gr_prop.proofs.Stores.{by_place, get-remove-same, get-remove-other, lits-remove, lits-remove-other, clauses-remove, family-at, get-clauses_in, some-is}
use Rattle.gr_prop.proofs.Counts.{count-here, longer-all, longer-own, paired-all, paired-own}
use Rattle.gr_prop.proofs.Detaching.{AreLeft, watched-twice, lists-left}

-- ---- places that leave a list
none-in : (places : List Place) → ((q : ℕ) → is_in places q ≡ false) → places ≡ []
none-in [] all = refl
none-in (p ∷ ps) all =
    let h : nat_eq p.0 p.0 ≡ true = grind (arith, nat_tests) in
    let e : (nat_eq p.0 p.0 || is_in ps p.0) ≡ false = all p.0 in
    absurd (cc)

no-reason : (place : Place) (xs : List Assigned) → All (λ a. a.reason ≢ Some place) xs → HaveNoReason
    (λ p. p ≡ place) xs
no-reason place [] all = tt
no-reason place (x ∷ xs) all = (
  (λ p is same. All-head (λ a. a.reason ≢ Some place) x xs all (is ∙ ap Some same)),
  no-reason place xs
      (All-tail (λ a. a.reason ≢ Some place) x xs all),
)

-- ---- the base with one clause less
module _ (k : Store) (t : TrailState) (ws : WatchLists) (places : finite.FinMap _ Place) (head : ℕ)
    (broken : List Place) (quiet : Bool) (conflict : Option Place) (place : Place)
    (kept : IsKeptBase k t ws places head broken quiet conflict) (there : IsSome (finite.get k place.0))
    (free : All (λ a. a.reason ≢ Some place) t.assigned) where
  abbrev n : Store
  n = finite.remove k place.0

  abbrev c : List Literal
  c = lits_at k place.0

  longer-known : All (λ (l : Literal). l.index < t.vars) (longer c)
  longer-known = longer-all (λ (l : Literal). l.index < t.vars) c (kept.ready.known place.0)

  longer-distinct : (w o : Literal) (rest : List Literal) → longer c ≡ w ∷ o ∷ rest → occurs (w ∷ o ∷ rest) o.index ≤ 1
  longer-distinct w o rest is = subst (λ z. occurs z o.index ≤ 1) (longer-own c (o ∷ rest) w is)
      (kept.ready.distinct place.0 o.index)

  -- the lists without the clause
  pub watched-by-two : IsWatchedByTwo ws place (longer c)
  watched-by-two = watched-twice longer k ws t.vars place kept.ready.watching kept.ready.even longer-known
      longer-distinct (longer c) refl

  abbrev left-lists : AreLeft longer k ws place (λ _. IsBlocked k) (unwatching ws place (longer c))
  left-lists = lists-left longer k ws t.vars place kept.ready.watching kept.ready.even longer-known longer-distinct
      (λ _. IsBlocked k) kept.ready.blocked (longer c) refl

  gone : (q : ℕ) → IsSome (finite.get n q) → q ≢ place.0
  gone q h e = let f : finite.get n q ≡ None = ap (finite.get n) e ∙ get-remove-same k place.0 in cc

  -- the lists of the clauses of two literals without the clause
  module _ (ps : WatchLists) (p : ArePaired k t.vars ps) where
    paired-known : All (λ (l : Literal). l.index < t.vars) (paired c)
    paired-known = paired-all (λ (l : Literal). l.index < t.vars) c (kept.ready.known place.0)

    paired-distinct : (w o : Literal) (rest : List Literal) → paired c ≡ w ∷ o ∷ rest → occurs (w ∷ o ∷ rest)
        o.index ≤ 1
    paired-distinct w o rest is = subst (λ z. occurs z o.index ≤ 1) (paired-own c (o ∷ rest) w is).0
        (kept.ready.distinct place.0 o.index)

    pub paired-by-two : IsWatchedByTwo ps place (paired c)
    paired-by-two = watched-twice paired k ps t.vars place p.watching p.even paired-known paired-distinct
        (paired c) refl

    pub paired-removed : (qs : WatchLists) → qs ≡ unwatching ps place (paired c) → ArePaired n t.vars qs
    paired-removed qs is =
        let left : AreLeft paired k ps place (IsOther k) (unwatching ps place (paired c)) =
        lists-left paired k ps t.vars place p.watching p.even paired-known paired-distinct (IsOther k) p.others
        (paired c) refl in
        subst (ArePaired n t.vars) (sym is) record {
          watching = by_place (λ q. (l : Literal) → count_in q (list_of (unwatching ps place (paired c)) l)
              ≡ watched (paired (lits_at n q)) l) place.0
              (λ l. left.none l ∙ sym (ap (λ z. watched (paired z) l) (lits-remove k place.0)))
              (λ q apart l. left.same q apart l ∙ p.watching q l ∙ sym
              (ap (λ z. watched (paired z) l) (lits-remove-other k place.0 q apart)));
          others = λ l i d low.
              let list = list_of (unwatching ps place (paired c)) l in
              let w : Watch = get_or list i d in
              let some : 1 ≤ count_in w.place.0 list = count-here list i w low (get_or_default list i d w low) in
              let apart : w.place.0 ≢ place.0 = λ e. let none = left.none l in
              let more : 1 ≤ count_in place.0 list = subst (λ m. 1 ≤ count_in m list) e some in omega arith in
              let same : lits_at n w.place.0 ≡ lits_at k w.place.0 = lits-remove-other k place.0 w.place.0 apart in
              let h : IsOther k l w = left.all l i d low in
              record {
                two = ap is_pair same ∙ h.two;
                own = ap (λ z. members z l) same ∙ h.own;
                other = ap (λ z. members z w.blocker) same ∙ h.other;
                apart = h.apart;
              };
          vars' = left.vars ∙ p.vars';
          even = left.even ∙ p.even;
        }

  module _ (vs : WatchLists) (lists : vs ≡ unwatching ws place (longer c)) (spots : finite.FinMap _ Place)
      (index : spots ≡ finite.remove places (stored_at k place.0).id)
      (left : List Place) (forgotten : (q : ℕ) → is_in left q ≡ (is_in broken q && not (nat_eq place.0 q))) where
    none-broken-left : broken ≡ [] → left ≡ []
    none-broken-left e = none-in left (λ q. forgotten q ∙ ap (λ xs. is_in xs q && not (nat_eq place.0 q)) e)

    left-old : (q : ℕ) → is_in left q ≡ true → (is_in broken q ≡ true) × (nat_eq place.0 q ≡ false)
    left-old q e = both (is_in broken q) (nat_eq place.0 q) (sym (forgotten q) ∙ e)
      where
        both : (a b : Bool) → (a && not b) ≡ true → (a ≡ true) × (b ≡ false)
        both true true e = absurd (cc)
        both true false e = (refl, refl)
        both false b e = absurd (cc)

    not-left : (q : ℕ) → q ≢ place.0 → is_in left q ≡ false → is_in broken q ≡ false
    not-left q apart e =
        let other : nat_eq place.0 q ≡ false = grind (arith, nat_tests) in
        sym (keeps (is_in broken q)) ∙ sym (forgotten q ∙ ap (λ b. is_in broken q && not b) other) ∙ e
      where
        keeps : (a : Bool) → (a && true) ≡ a
        keeps true = refl
        keeps false = refl

    blocked-after : AreBlocked n (unwatching ws place (longer c))
    blocked-after l i d low =
        let w : Watch = get_or (list_of (unwatching ws place (longer c)) l) i d in
        let at : w ≡ get_or (list_of (unwatching ws place (longer c)) l) i w = get_or_default
        (list_of (unwatching ws place (longer c)) l) i d w low in
        let some : 1 ≤ count_in w.place.0 (list_of (unwatching ws place (longer c)) l) = count-here
        (list_of (unwatching ws place (longer c)) l) i w low at in
        let apart : w.place.0 ≢ place.0 = λ e. let none = left-lists.none l in
        let more : 1 ≤ count_in place.0 (list_of (unwatching ws place (longer c)) l) = subst
        (λ m. 1 ≤ count_in m (list_of (unwatching ws place (longer c)) l)) e some in omega arith in
        ap (λ z. members z w.blocker) (lits-remove-other k place.0 w.place.0 apart) ∙ left-lists.all l i d low

    ready-removed : IsReady n t (unwatching ws place (longer c)) head left
    ready-removed = record {
      watching = by_place (λ q. (l : Literal) → count_in q (list_of (unwatching ws place (longer c)) l) ≡ watched
          (longer (lits_at n q)) l) place.0
          (λ l. left-lists.none l ∙ sym (ap (λ z. watched (longer z) l) (lits-remove k place.0)))
          (λ q apart l. left-lists.same q apart l ∙ kept.ready.watching q l ∙ sym
          (ap (λ z. watched (longer z) l) (lits-remove-other k place.0 q apart)));
      blocked = blocked-after;
      distinct = by_place (λ q. (index : ℕ) → occurs (lits_at n q) index ≤ 1) place.0
          (λ index. subst (λ z. occurs z index ≤ 1) (sym (lits-remove k place.0)) (omega arith))
          (λ q apart index. subst (λ z. occurs z index ≤ 1) (sym (lits-remove-other k place.0 q apart))
          (kept.ready.distinct q index));
      known = by_place (λ q. All (λ (l : Literal). l.index < t.vars) (lits_at n q)) place.0
          (subst (All (λ (l : Literal). l.index < t.vars)) (sym (lits-remove k place.0))
          (All-nil (λ (l : Literal). l.index < t.vars)))
          (λ q apart. subst (All (λ (l : Literal). l.index < t.vars)) (sym (lits-remove-other k place.0 q apart))
          (kept.ready.known q));
      vars = left-lists.vars ∙ kept.ready.vars;
      even = left-lists.even ∙ kept.ready.even;
      sound = record {
        founded = founded-with (family (clauses_in k)) (family (clauses_in n)) (λ p. p ≡ place) no_literals t.assigned
            (λ p e other is. family-at n p.0 ∙ ap (option_map (λ (x : Stored). members x.lits))
            (get-remove-other k place.0 p.0 (λ same. other (λ i. record { 0 = same i }))) ∙ sym (family-at k p.0)
            ∙ is)
            (no-reason place t.assigned free) kept.ready.sound.founded;
        consistent = kept.ready.sound.consistent;
        climbs = kept.ready.sound.climbs;
        within = kept.ready.sound.within;
      };
      within = kept.ready.within;
      guards = λ q h e.
          let apart = gone q h in
          subst (IsGuarded t.assigned (take head t.assigned)) (sym (lits-remove-other k place.0 q apart))
          (kept.ready.guards q (subst IsSome (get-remove-other k place.0 q apart) h) (not-left q apart e));
      queue = kept.ready.queue;
      broken' = record {
        low = elim kept.ready.broken'.low as (λ _. (left ≡ []) ⊎ (t.depth ≡ 0))
            [ inl e ↦ inl (none-broken-left e) | inr e ↦ inr e ];
        false' = λ q e.
            let old = left-old q e in
            let apart : q ≢ place.0 = let f = old.1 in grind (arith, nat_tests) in
            let h = kept.ready.broken'.false' q old.0 in (
              subst IsSome (sym (get-remove-other k place.0 q apart)) h.0,
              subst (AllFalse t.assigned)
                  (sym (lits-remove-other k place.0 q apart)) h.1,
            );
      };
    }

    abbrev own : HasIdAt (clauses_in k) (stored_at k place.0).id place
    own = (
      base_clause (stored_at k place.0),
      get-clauses_in k place.0 ∙ ap (option_map base_clause)
          (some-is k place.0 there),
      refl,
    )

    indexed-removed : IsIndexed (finite.remove (clauses_in k) place.0) (finite.remove places (stored_at k place.0).id)
    indexed-removed = record {
      found = λ id p e. by_place (λ i. finite.get (finite.remove places (stored_at k place.0).id) i ≡ Some p →
          HasIdAt (finite.remove (clauses_in k) place.0) i p) (stored_at k place.0).id
          (λ e. let f = get-remove-same places (stored_at k place.0).id in absurd (cc))
          (λ i apart e.
          let h = kept.indexed.found i p (sym (get-remove-other places (stored_at k place.0).id i apart) ∙ e) in
          let other : p.0 ≢ place.0 = λ same. apart (sym h.2 ∙ ap (λ (b : BaseClause). b.id)
          (ap (λ (o : Option BaseClause). unwrap_or {T = BaseClause} o h.0)
          (sym h.1 ∙ ap (finite.get (clauses_in k)) same ∙ own.1))) in
          (h.0, get-remove-other (clauses_in k) place.0 p.0 other ∙ h.1, h.2)) id e;
      kept = λ p id h.
          let other : p.0 ≢ place.0 = λ same. let f : finite.get (finite.remove (clauses_in k) place.0) p.0 ≡ None =
          ap (finite.get (finite.remove (clauses_in k) place.0)) same ∙ get-remove-same (clauses_in k) place.0
          in let g = h.1 in cc in
          let old : finite.get places id ≡ Some p = kept.indexed.kept p id
          (h.0, sym (get-remove-other (clauses_in k) place.0 p.0 other) ∙ h.1, h.2) in
          let apart : id ≢ (stored_at k place.0).id = λ same. other
          (ap (λ (o : Option Place). (unwrap_or {T = Place} o p).0)
          (sym old ∙ ap (finite.get places) same ∙ kept.indexed.kept place (stored_at k place.0).id own)) in
          get-remove-other places (stored_at k place.0).id id apart ∙ old;
    }

    pub kept-removed : IsKeptBase n t vs spots head left quiet None
    kept-removed = record {
      ready = subst (λ w. IsReady n t w head left) (sym lists) ready-removed;
      indexed = subst (λ x. IsIndexed x spots) (sym (clauses-remove k place.0))
          (subst (IsIndexed (finite.remove (clauses_in k) place.0)) (sym index) indexed-removed);
      ended = record {
        done = λ e. let d = kept.ended.done e in (d.0, none-broken-left d.1);
        falsified = λ p e. absurd (cc);
      };
    }

-- a clause of the base is one of the arena
pub there-in-base : (k : Store) (q : ℕ) → IsSome (finite.get (clauses_in k) q) → IsSome (finite.get k q)
there-in-base k q there = go (finite.get k q) (subst IsSome (get-clauses_in k q) there)
  where
    go : (o : Option Stored) → IsSome (option_map base_clause o) → IsSome o
    go None h = h
    go (Some s) h = refl
