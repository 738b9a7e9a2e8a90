-- a clause comes in: the base with one clause more
use Rattle.std.proofs.Common.{◌≡◌, ◌≢◌, ◌⊎◌, ℕ, ◌<◌, ◌≤◌, true, false, ◌||◌, All, List, [], ◌∷◌, ◌++◌, Some, None, IsSome, take, drop, length, refl, sym, ap, ◌∙◌, subst, inl, inr, arith, nat_eq}
use Rattle.std.proofs.lemmas.Bool.Decides.{nat_tests}
use Rattle.std.proofs.lemmas.List.{length-append, take-append-le, drop-append-le}
use Rattle.std.proofs.lemmas.List.Elements.{All-weaker}
use Rattle.std.proofs.lemmas.List.Folds.{list_any-append}
use Rattle.std.proofs.lemmas.List.Sorted.{All-permutation, sum_by-IsPermutation, list_any-IsPermutation}
use Rattle.std.specs.List.Sorted.{IsPermutation}
use Rattle.std.specs.Option.{option_map}
use Rattle.std.specs.FinMap as finite
use Rattle.gr_logic.specs.Literals.{Literal, negation, same_literal}
use Rattle.gr_logic.specs.Rup.{LiteralSet, members}
use Rattle.gr_logic.specs.declared.places.Place.{Place}
use Rattle.gr_logic.proofs.SameLiteral.{members-first, members-later}
use Rattle.gr_arena.specs.Arenas.{Stored}
use Rattle.gr_trail.specs.Trails.{Assigned, TrailState, true_in, Climbs}
use Rattle.gr_watch.specs.declared.lists.Watch.{Watch}
use Rattle.gr_watch.specs.WatchLists.{WatchLists, list_of}
use Rattle.gr_prop.specs.Bases.{clauses_in, family, base_clause}
use Rattle.gr_prop.specs.BaseChanges.{with_forced, IsLearnt}
use Rattle.gr_prop.specs.Watching.{Store, lits_at, bit, occurs, is_pair, longer, paired, IsOther, ArePaired, IsWatching, IsBlocked, AreBlocked, AllDistinct, AreKnown, IsGuarded, Guards, AllFalse, AreAt, AreBroken, IsSound, IsReady, is_in}
use Rattle.gr_prop.specs.Visits.{IsReordered}
use Rattle.gr_prop.specs.Additions.{watching_too, StandsAs}
use Rattle.gr_prop.specs.declared.additions.Standing.TheVariants.{Forced, Rests}
use Rattle.gr_prop.proofs.TrailSets.{true_in-more, prefix-within, open-false, at-append, or-none, or-first, or-second}
use Rattle.gr_prop.proofs.Kept.{guarded-more}
use Rattle.gr_prop.proofs.Stores.{by_place, get-insert-other, lits-insert, lits-insert-other, lits-other, none-lits, reordered-clauses, clauses-insert, family-there, family-some, family-at}
use Rattle.gr_prop.proofs.Sound.{sound-forced, sound-more}
use Rattle.gr_prop.proofs.Counts.{longer-all, longer-own, paired-all, paired-own, flip-same}
use Rattle.gr_prop.proofs.Attaching.{added-length, added-vars, watching-added, all-added}
use Rattle.gr_prop.proofs.Forcing.{none-apart, rests-zero, broken-zero, guarded-rests, forces-forced, forced-known, guarded-forced}

module _ (k n : Store) (t : TrailState) (ws : WatchLists) (head : ℕ) (broken : List Place) (place : Place) (s : Stored)
    (ready : IsReady k t ws head broken) (fresh : finite.get k place.0 ≡ None)
    (r : IsReordered (finite.insert k place.0 s) n place.0)
    (distinct : (index : ℕ) → occurs s.lits index ≤ 1) (known : All (λ (l : Literal). l.index < t.vars) s.lits) where
  abbrev c : List Literal
  c = lits_at n place.0

  perm : IsPermutation s.lits c
  perm = subst (λ x. IsPermutation x c) (lits-insert k place.0 s) r.lits

  old-lits : (q : ℕ) → q ≢ place.0 → lits_at n q ≡ lits_at k q
  old-lits q apart = lits-other (finite.insert k place.0 s) n place.0 r q apart ∙ lits-insert-other k place.0 s q apart

  old-there : (q : ℕ) → q ≢ place.0 → IsSome (finite.get n q) → IsSome (finite.get k q)
  old-there q apart there = subst IsSome (r.others q apart ∙ get-insert-other k place.0 s q apart) there

  new-there : (q : ℕ) → q ≢ place.0 → IsSome (finite.get k q) → IsSome (finite.get n q)
  new-there q apart there = subst IsSome (sym (r.others q apart ∙ get-insert-other k place.0 s q apart)) there

  pub clause-distinct : (index : ℕ) → occurs c index ≤ 1
  clause-distinct index = subst (λ m. m ≤ 1) (sym (sum_by-IsPermutation (λ (x : Literal). bit (nat_eq x.index index))
      s.lits c perm)) (distinct index)

  pub clause-known : All (λ (l : Literal). l.index < t.vars) c
  clause-known = All-permutation (λ (l : Literal). l.index < t.vars) s.lits c perm known

  pub clause-members : (l : Literal) → members c l ≡ members s.lits l
  clause-members l = sym (list_any-IsPermutation (same_literal l) s.lits c perm)

  pub clauses-added : clauses_in n ≡ finite.insert (clauses_in k) place.0 (base_clause s)
  clauses-added = reordered-clauses (finite.insert k place.0 s) n place.0 r ∙ clauses-insert k place.0 s

  -- no clause was at the place
  none-was : (kind : List Literal → List Literal) → kind [] ≡ [] → kind (lits_at k place.0) ≡ []
  none-was kind is = ap kind (none-lits k place.0 fresh) ∙ is

  -- an old watch is of an old clause
  old-blocked : AreBlocked n ws
  old-blocked l = All-weaker (IsBlocked k) (IsBlocked n) keep (list_of ws l) (ready.blocked l)
    where
      keep : (w : Watch) → IsBlocked k w → IsBlocked n w
      keep w h = go w.place.0 h
        where
          go : (q : ℕ) → members (lits_at k q) w.blocker ≡ true → members (lits_at n q) w.blocker ≡ true
          go = by_place (λ q. members (lits_at k q) w.blocker ≡ true → members (lits_at n q) w.blocker ≡ true) place.0
              (λ h. let e : members (lits_at k place.0) w.blocker ≡ false = ap (λ z. members z w.blocker)
              (none-lits k place.0 fresh) in absurd (cc))
              (λ q apart h. ap (λ z. members z w.blocker) (old-lits q apart) ∙ h)

  longer-known : All (λ (l : Literal). l.index < t.vars) (longer c)
  longer-known = longer-all (λ (l : Literal). l.index < t.vars) c clause-known

  watching-longer : IsWatching longer n (watching_too ws place (longer c))
  watching-longer = watching-added ws t.vars place ready.even longer k n ready.watching (none-was longer refl) old-lits
      (longer c) refl longer-known

  blocked-longer : AreBlocked n (watching_too ws place (longer c))
  blocked-longer = all-added ws t.vars place ready.even (λ _. IsBlocked n) (longer c) longer-known old-blocked
      (λ w o rest is.
      let own = longer-own c (o ∷ rest) w is in (
        ap (λ z. members z o) own ∙ members-later o w (o ∷ rest) (members-first o rest),
        ap (λ z. members z w) own ∙ members-first w (o ∷ rest),
      ))

  distinct-added : AllDistinct n
  distinct-added = by_place (λ q. (index : ℕ) → occurs (lits_at n q) index ≤ 1) place.0 clause-distinct
      (λ q apart index. subst (λ z. occurs z index ≤ 1) (sym (old-lits q apart)) (ready.distinct q index))

  known-added : AreKnown n t.vars
  known-added = by_place (λ q. All (λ (l : Literal). l.index < t.vars) (lits_at n q)) place.0 clause-known
      (λ q apart. subst (All (λ (l : Literal). l.index < t.vars)) (sym (old-lits q apart)) (ready.known q))

  sound-added : IsSound (clauses_in n) t
  sound-added = sound-more (clauses_in k) (clauses_in n) t keep ready.sound
    where
      keep : (p : Place) (e : LiteralSet) → family (clauses_in k) p.0 ≡ Some e → family (clauses_in n) p.0 ≡ Some e
      keep p e is = go p.0 is
        where
          go : (q : ℕ) → family (clauses_in k) q ≡ Some e → family (clauses_in n) q ≡ Some e
          go = by_place (λ q. family (clauses_in k) q ≡ Some e → family (clauses_in n) q ≡ Some e) place.0
              (λ h. let f = family-some k place.0 e h in let g : IsSome (finite.get k place.0) = f.0 in absurd (cc))
              (λ q apart h. family-at n q ∙ ap (option_map (λ (x : Stored). members x.lits))
              (r.others q apart ∙ get-insert-other k place.0 s q apart) ∙ sym (family-at k q) ∙ h)

  -- the clauses that were there are guarded, and the new one is
  guards-added : (xs done : List Assigned) (other : List Place) →
      ((q : ℕ) → is_in other q ≡ false → is_in broken q ≡ false) → Guards k broken xs done
      → (is_in other place.0 ≡ false → IsGuarded xs done c) → Guards n other xs done
  guards-added xs done other fewer all now =
      by_place (λ q. IsSome (finite.get n q) → is_in other q ≡ false → IsGuarded xs done (lits_at n q)) place.0
      (λ _ free. now free)
      (λ q apart there free. subst (IsGuarded xs done) (sym (old-lits q apart))
      (all q (old-there q apart there) (fewer q free)))

  -- clauses that were false when they came in still are
  broken-added : (u : TrailState) → u.depth ≡ t.depth → ((q : Literal) → true_in t.assigned q ≡ true → true_in
      u.assigned q ≡ true) → AreBroken n u broken
  broken-added u same more = record {
    low = elim ready.broken'.low as (λ _. (broken ≡ []) ⊎ (u.depth ≡ 0)) [ inl e ↦ inl e | inr e ↦ inr (same ∙ e) ];
    false' = by_place (λ q. is_in broken q ≡ true → IsSome (finite.get n q) × AllFalse u.assigned (lits_at n q)) place.0
        (λ e. let h = ready.broken'.false' place.0 e in let g : IsSome (finite.get k place.0) = h.0 in absurd (cc))
        (λ q apart e. let h = ready.broken'.false' q e in (
          new-there q apart h.0,
          subst (AllFalse u.assigned) (sym (old-lits q apart))
              (λ y m. more (negation y) (h.1 y m)),
        ));
  }

  -- the base with the clause, over a trail that has grown or not
  ready-added : (xs : List Assigned) (other : List Place) → IsSound (clauses_in n) (record t { assigned = xs }) →
      head ≤ length xs → Guards n other xs (take head xs) → AreAt t.depth (drop head xs)
      → AreBroken n (record t { assigned = xs }) other → IsReady n (record t { assigned = xs })
      (watching_too ws place (longer c)) head other
  ready-added xs other sound within guards queue broken' = record {
    watching = watching-longer;
    blocked = blocked-longer;
    distinct = distinct-added;
    known = known-added;
    vars = added-vars ws place (longer c) ∙ ready.vars;
    even = added-length ws place (longer c) ∙ ready.even;
    sound = sound;
    within = within;
    guards = guards;
    queue = queue;
    broken' = broken';
  }

  -- a clause at rest
  pub ready-rests : (t.depth ≡ 0) ⊎ IsLearnt t c → StandsAs t.assigned c Rests → IsReady n t
      (watching_too ws place (longer c)) head broken
  ready-rests at stands =
      let z : t.depth ≡ 0 = rests-zero t c at stands in
      ready-added t.assigned broken sound-added ready.within
      (guards-added t.assigned (take head t.assigned) broken (λ q e. e) ready.guards
      (λ _. guarded-rests t (take head t.assigned) c (subst (Climbs 0 t.assigned) z ready.sound.climbs)
      ready.sound.consistent (prefix-within t.assigned head) stands))
      ready.queue (broken-added t refl (λ q e. e))

  -- a clause that is false
  pub ready-broken : (t.depth ≡ 0) ⊎ IsLearnt t c → AllFalse t.assigned c → IsReady n t
      (watching_too ws place (longer c)) head (broken ++ place ∷ [])
  ready-broken at falses =
      let old = broken-added t refl (λ q e. e) in
      ready-added t.assigned (broken ++ place ∷ []) sound-added ready.within
      (guards-added t.assigned (take head t.assigned) (broken ++ place ∷ [])
      (λ q e. or-first (is_in broken q) (nat_eq place.0 q || false) (sym (is_in-push q) ∙ e)) ready.guards
      (λ free. let h : nat_eq place.0 place.0 ≡ true = grind (arith, nat_tests) in
      let g = or-first (nat_eq place.0 place.0) false (or-second (is_in broken place.0)
      (nat_eq place.0 place.0 || false) (sym (is_in-push place.0) ∙ free)) in absurd (cc)))
      ready.queue
      (record {
        low = inr (broken-zero t c at falses);
        false' = by_place (λ q. is_in (broken ++ place ∷ []) q ≡ true → IsSome (finite.get n q) × AllFalse
            t.assigned (lits_at n q)) place.0
            (λ _. (r.there, falses))
            (λ q apart e.
            let h : nat_eq place.0 q ≡ false = grind (arith, nat_tests) in
            old.false' q (sym (or-none (is_in broken q)) ∙ sym
            (is_in-push q ∙ ap (λ b. is_in broken q || (b || false)) h) ∙ e));
      })
    where
      is_in-push : (q : ℕ) → is_in (broken ++ place ∷ []) q ≡ (is_in broken q || (nat_eq place.0 q || false))
      is_in-push q = list_any-append (λ p. nat_eq p.0 q) broken (place ∷ [])

  -- a clause that forces
  pub ready-forced : (t.depth ≡ 0) ⊎ IsLearnt t c → (l : Literal) → StandsAs t.assigned c (Forced l) → IsReady n
      (with_forced t l place) (watching_too ws place (longer c)) head broken
  ready-forced at l stands =
      let item : Assigned = record { lit = l; level = t.depth; reason = Some place } in
      let front : take head (t.assigned ++ item ∷ []) ≡ take head t.assigned = take-append-le head t.assigned
      (item ∷ []) ready.within in
      let f = forces-forced t.assigned c l stands in
      ready-added (t.assigned ++ item ∷ []) broken
      (sound-forced (clauses_in n) t l place (members c) sound-added
      (forced-known t.assigned t.vars c l clause-known stands) (open-false t.assigned l f.1)
      (family-there n place.0 r.there) f.0)
      (omega (arith, length-append t.assigned (item ∷ []), ready.within))
      (subst (Guards n broken (t.assigned ++ item ∷ [])) (sym front)
      (guards-added (t.assigned ++ item ∷ []) (take head t.assigned) broken (λ q e. e)
      (λ q there free. guarded-more t.assigned (item ∷ []) (take head t.assigned) (lits_at k q)
      (ready.guards q there free))
      (λ _. guarded-forced t head place c l ready.sound.climbs at stands)))
      (subst (AreAt t.depth) (sym (drop-append-le head t.assigned (item ∷ []) ready.within))
      (at-append t.depth (drop head t.assigned) (item ∷ []) ready.queue (refl, tt)))
      (broken-added (with_forced t l place) refl (true_in-more t.assigned (item ∷ [])))

  -- the lists of the clauses of two literals with the clause
  pub paired-added : (ps : WatchLists) → ArePaired k t.vars ps
      → ArePaired n t.vars (watching_too ps place (paired c))
  paired-added ps p = record {
    watching = watching-added ps t.vars place p.even paired k n p.watching (none-was paired refl) old-lits (paired c)
        refl paired-known;
    others = all-added ps t.vars place p.even (IsOther n) (paired c) paired-known
        (λ l. All-weaker (IsOther k l) (IsOther n l) (λ w h. old-other l w h) (list_of ps l) (p.others l))
        (λ w o rest is. new-others w o rest (paired-own c (o ∷ rest) w is));
    vars' = added-vars ps place (paired c) ∙ p.vars';
    even = added-length ps place (paired c) ∙ p.even;
  }
    where
      paired-known : All (λ (l : Literal). l.index < t.vars) (paired c)
      paired-known = paired-all (λ (l : Literal). l.index < t.vars) c clause-known

      apart-from : (q : ℕ) (b : Literal) → members (lits_at k q) b ≡ true → q ≢ place.0
      apart-from q b m e = let f : members (lits_at k q) b ≡ false = ap (λ z. members (lits_at k z) b) e
          ∙ ap (λ z. members z b) (none-lits k place.0 fresh) in cc

      old-other : (l : Literal) (w : Watch) → IsOther k l w → IsOther n l w
      old-other l w h =
          let same : lits_at k w.place.0 ≡ lits_at n w.place.0 =
          sym (old-lits w.place.0 (apart-from w.place.0 l h.own)) in
          record {
            two = ap is_pair (sym same) ∙ h.two;
            own = ap (λ z. members z l) (sym same) ∙ h.own;
            other = ap (λ z. members z w.blocker) (sym same) ∙ h.other;
            apart = h.apart;
          }

      new-others : (w o : Literal) (rest : List Literal) → (c ≡ w ∷ o ∷ rest) × (is_pair c ≡ true)
          → IsOther n w (record { place = place; blocker = o }) × IsOther n o (record { place = place; blocker = w })
      new-others w o rest is =
          let differ : same_literal o w ≡ false = none-apart w o rest
          (subst (λ z. occurs z o.index ≤ 1) is.0 (clause-distinct o.index)) in
          let first : members c w ≡ true = ap (λ z. members z w) is.0 ∙ members-first w (o ∷ rest) in
          let second : members c o ≡ true =
          ap (λ z. members z o) is.0 ∙ members-later o w (o ∷ rest) (members-first o rest) in (
            record { two = is.1; own = first; other = second; apart = flip-same o w differ },
            record { two = is.1; own = second; other = first; apart = differ },
          )
