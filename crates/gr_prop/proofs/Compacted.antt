-- a base whose clauses were moved together
use Rattle.std.proofs.Common.{◌≡◌, ◌⊎◌, ℕ, ◌<◌, ◌≤◌, Bool, true, ◌||◌, All, List, [], ◌∷◌, map, Option, Some, None, IsSome, get_or, take, drop, length, nat_eq, refl, sym, ap, ◌∙◌, subst, inl, inr, arith}
use Rattle.std.proofs.lemmas.Bool.Decides.{nat_tests}
use Rattle.std.proofs.lemmas.List.{length-map}
use Rattle.std.proofs.lemmas.List.Elements.{All-nil, All-cons}
use Rattle.std.specs.Option.{option_map, unwrap_or, is_some}
use Rattle.std.specs.Ordering.{nat_cmp}
use Rattle.std.specs.FinMap as finite
use Rattle.gr_logic.specs.Literals.{Literal, negation}
use Rattle.gr_logic.specs.Rup.{LiteralSet, with_literal}
use Rattle.gr_logic.specs.Closure.{no_literals}
use Rattle.gr_logic.specs.declared.places.Place.{Place}
use Rattle.gr_arena.specs.Arenas.{Stored, ArenaState, IsCompaction}
use Rattle.gr_trail.specs.Trails.{Assigned, TrailState}
use Rattle.gr_watch.specs.WatchLists.{WatchLists, list_of}
use Rattle.gr_prop.specs.Bases.{BaseClause, base_clause, clauses_in, family, IsFoundedBy, AreFounded, HasIdAt}
use Rattle.gr_prop.specs.BaseChanges.{moved_place, moved_assigned, IsCompacted}
use Rattle.gr_prop.specs.Compactions.{moved_watch, AreMoved, HasMovedReason}
use Rattle.gr_prop.specs.Watching.{lits_at, occurs, count_in, longer, IsBlocked, IsGuarded, Guards, AllFalse, AreAt, IsReady, IsIndexed, IsKeptBase, is_in}
use Rattle.gr_prop.proofs.Mapped.{mapped-true, mapped-guarded, mapped-at, mapped-within, take-mapped, drop-mapped}
use Rattle.gr_logic.proofs.SameLiteral.{or-true}
use Rattle.gr_prop.proofs.Stores.{family-some, get-clauses_in}
use Rattle.gr_prop.proofs.Counts.{member-there}
use Rattle.gr_prop.proofs.MovedPairs.{moved-watching}
use Rattle.gr_prop.proofs.MovedClauses.{moved-lit, moved-level, moved-climbs, moved-some, from-some, place-is, same-lits, there-new, everywhere, moved-all, moved-founded, moved-in, broken-from, some-value}

module _ (old new : ArenaState) (moves : finite.FinMap nat_cmp ℕ) (c : IsCompaction old new moves)
    (t : TrailState) (ws vs : WatchLists) (places spots : finite.FinMap nat_cmp Place) (head : ℕ)
    (broken : List Place) (quiet : Bool) (conflict : Option Place)
    (kept : IsKeptBase old.clauses t ws places head broken quiet conflict) where
  abbrev u : TrailState
  u = record t { assigned = map (moved_assigned moves) t.assigned }

  -- each watch's clause was moved
  pub watches-moved : AreMoved moves ws
  watches-moved l i d low = moved-some old new moves c (get_or (list_of ws l) i d).place.0
      (member-there old.clauses (get_or (list_of ws l) i d).place.0 (get_or (list_of ws l) i d).blocker
      (kept.ready.blocked l i d low))

  -- each reason was
  pub reasons-moved : All (HasMovedReason moves) t.assigned
  reasons-moved = founded-moved no_literals t.assigned kept.ready.sound.founded
    where
      founded-moved : (before : LiteralSet) (xs : List Assigned) → AreFounded (family (clauses_in old.clauses))
          before xs →
          All (HasMovedReason moves) xs
      founded-moved before [] f = All-nil (HasMovedReason moves)
      founded-moved before (x ∷ xs) f = All-cons (HasMovedReason moves) x xs (one x.reason refl f.0)
          (founded-moved (with_literal before x.lit) xs f.1)
        where
          one : (r : Option Place) → x.reason ≡ r → IsFoundedBy (family (clauses_in old.clauses)) before x.lit r →
              HasMovedReason moves x
          one None e g p is = absurd (cc)
          one (Some r) e g p is =
              let same : r ≡ p = ap (λ (o : Option Place). unwrap_or {T = Place} o r) (sym e ∙ is) in
              subst (λ (y : Place). IsSome (finite.get moves y.0)) same
              (moved-some old new moves c r.0 (family-some old.clauses r.0 g.0 g.1.0).0)

  -- and each clause that was false when it came in
  pub broken-moved : All (λ (b : Place). IsSome (finite.get moves b.0)) broken
  broken-moved = each broken (λ q h. moved-some old new moves c q (kept.ready.broken'.false' q h).0)
    where
      each : (bs : List Place) → ((q : ℕ) → is_in bs q ≡ true → IsSome (finite.get moves q)) → All
          (λ (b : Place). IsSome (finite.get moves b.0)) bs
      each [] all = All-nil (λ (b : Place). IsSome (finite.get moves b.0))
      each (b ∷ bs) all = All-cons (λ (x : Place). IsSome (finite.get moves x.0)) b bs
          (all b.0 (let h : nat_eq b.0 b.0 ≡ true = grind (arith, nat_tests) in ap (λ y. y || is_in bs b.0) h))
          (each bs (λ q h. all q (ap (λ y. nat_eq b.0 q || y) h ∙ or-true (nat_eq b.0 q))))

  -- and each indexed place
  pub index-moved : (id : ℕ) (p : Place) → finite.get places id ≡ Some p → IsSome (finite.get moves p.0)
  index-moved id p e =
      let h = kept.indexed.found id p e in
      moved-some old new moves c p.0 (some-base p.0 h.0 h.1)
    where
      some-base : (q : ℕ) (b : BaseClause) → finite.get (clauses_in old.clauses) q ≡ Some b → IsSome (finite.get
          old.clauses q)
      some-base q b is = go (finite.get old.clauses q) (sym (get-clauses_in old.clauses q) ∙ is)
        where
          go : (o : Option Stored) → option_map base_clause o ≡ Some b → IsSome o
          go None f = absurd (cc)
          go (Some s) f = refl

  module _ (vars : vs.vars ≡ ws.vars) (even : length vs.lists ≡ length ws.lists)
      (lists : (l : Literal) → list_of vs l ≡ map (moved_watch moves) (list_of ws l))
      (index : (id : ℕ) → finite.get spots id ≡ option_map (moved_place moves) (finite.get places id)) where
    all-false : (e : List Literal) → AllFalse t.assigned e → AllFalse u.assigned e
    all-false e f q m = mapped-true (moved_assigned moves) (moved-lit moves) (moved-level moves) t.assigned
        (negation q) ∙ f q m

    ready-moved : IsReady new.clauses u vs head (map (moved_place moves) broken)
    ready-moved = record {
      watching = λ q l. ap (count_in q) (lists l)
          ∙ moved-watching old new moves c longer refl ws kept.ready.watching watches-moved q l;
      blocked = λ l. subst (All (IsBlocked new.clauses)) (sym (lists l))
          (moved-all old new moves c (list_of ws l) (kept.ready.blocked l) (watches-moved l));
      distinct = everywhere old new moves c (λ q c'. (i : ℕ) → occurs c' i ≤ 1) (λ p q e i. kept.ready.distinct p i)
          (λ q no' i. omega arith);
      known = everywhere old new moves c (λ q c'. All (λ (l : Literal). l.index < t.vars) c') (λ p q e.
          kept.ready.known p)
          (λ q no'. All-nil (λ (l : Literal). l.index < t.vars));
      vars = vars ∙ kept.ready.vars;
      even = even ∙ kept.ready.even;
      sound = record {
        founded = moved-founded old new moves c no_literals t.assigned kept.ready.sound.founded;
        consistent = λ q one two. kept.ready.sound.consistent q
            (sym (mapped-true (moved_assigned moves) (moved-lit moves) (moved-level moves) t.assigned q) ∙ one)
            (sym (mapped-true (moved_assigned moves) (moved-lit moves) (moved-level moves) t.assigned (negation q))
            ∙ two);
        climbs = moved-climbs moves 0 t.assigned t.depth kept.ready.sound.climbs;
        within = mapped-within (moved_assigned moves) (moved-lit moves) (moved-level moves) t.vars t.assigned
            kept.ready.sound.within;
      };
      within = subst (λ m. head ≤ m) (sym (length-map t.assigned (moved_assigned moves))) kept.ready.within;
      guards = subst (Guards new.clauses (map (moved_place moves) broken) u.assigned)
          (sym (take-mapped (moved_assigned moves) head t.assigned))
          (λ q h free.
          let from = c.onto q h in
          subst (IsGuarded u.assigned (map (moved_assigned moves) (take head t.assigned)))
          (sym (same-lits old new moves c from.0 q from.1))
          (mapped-guarded (moved_assigned moves) (moved-lit moves) (moved-level moves) t.assigned
          (take head t.assigned) (lits_at old.clauses from.0)
          (kept.ready.guards from.0 (from-some old new moves c from.0 q from.1)
          (sym (moved-in old new moves c broken from.0 q from.1 broken-moved) ∙ free))));
      queue = subst (AreAt t.depth) (sym (drop-mapped (moved_assigned moves) head t.assigned))
          (mapped-at (moved_assigned moves) (moved-lit moves) (moved-level moves) t.depth (drop head t.assigned)
          kept.ready.queue);
      broken' = record {
        low = elim kept.ready.broken'.low as (λ _. (map (moved_place moves) broken ≡ []) ⊎ (t.depth ≡ 0))
            [ inl e ↦ inl (ap (map (moved_place moves)) e) | inr e ↦ inr e ];
        false' = λ q h.
            let from = broken-from old new moves c broken q broken-moved h in
            let was = kept.ready.broken'.false' from.0 (sym (moved-in old new moves c broken from.0 q from.1
            broken-moved) ∙ h) in (
              there-new old new moves c from.0 q from.1,
              subst (AllFalse u.assigned) (sym (same-lits old new moves c from.0 q from.1))
                  (all-false (lits_at old.clauses from.0) was.1),
            );
      };
    }

    same-clause : (p q : ℕ) → finite.get moves p ≡ Some q → finite.get (clauses_in new.clauses) q ≡ finite.get
        (clauses_in old.clauses) p
    same-clause p q e = get-clauses_in new.clauses q ∙ ap (option_map base_clause) (c.kept p q e) ∙ sym
        (get-clauses_in old.clauses p)

    indexed-moved : IsIndexed (clauses_in new.clauses) spots
    indexed-moved = record {
      found = λ id p e. found (finite.get places id) refl (sym (index id) ∙ e);
      kept = λ p id h.
          let from = c.onto p.0 (some-of (finite.get new.clauses p.0) (sym (get-clauses_in new.clauses p.0) ∙ h.1)) in
          let was : finite.get places id ≡ Some (record { 0 = from.0 }) = kept.indexed.kept (record { 0 = from.0 })
          id (h.0, sym (same-clause from.0 p.0 from.1) ∙ h.1, h.2) in
          index id ∙ ap (option_map (moved_place moves)) was ∙ ap Some
          (λ i. record { 0 = place-is old new moves c (record { 0 = from.0 }) p.0 from.1 i });
    }
      where
        some-of : {b : BaseClause} (o : Option Stored) → option_map base_clause o ≡ Some b → IsSome o
        some-of None f = absurd (cc)
        some-of (Some s) f = refl

        found : {id : ℕ} {p : Place} (o : Option Place) → finite.get places id ≡ o → option_map (moved_place moves)
            o ≡ Some p → HasIdAt (clauses_in new.clauses) id p
        found None f e = absurd (cc)
        found {id} {p} (Some r) f e =
            let h = kept.indexed.found id r f in
            let is : moved_place moves r ≡ p = ap (λ (o : Option Place). unwrap_or {T = Place} o p) e in
            let own = some-value (finite.get moves r.0) (index-moved id r f) in (
              h.0,
              ap (finite.get (clauses_in new.clauses)) (ap (λ (y : Place). y.0) (sym is) ∙ place-is old new moves c
                  r own.0 own.1) ∙
                  same-clause r.0 own.0 own.1 ∙ h.1,
              h.2,
            )

    pub kept-moved : IsKeptBase new.clauses u vs spots head (map (moved_place moves) broken) quiet None
    kept-moved = record {
      ready = ready-moved;
      indexed = indexed-moved;
      ended = record {
        done = λ e. let d = kept.ended.done e in (
          subst (λ m. m ≤ head) (sym (length-map t.assigned (moved_assigned moves))) d.0,
          ap
              (map (moved_place moves)) d.1,
        );
        falsified = λ p e. absurd (cc);
      };
    }

    pub is-compacted : IsCompacted (record {
      clauses = clauses_in old.clauses;
      trail = t;
      quiet = quiet;
      conflict =
          conflict;
    })
        (record { clauses = clauses_in new.clauses; trail = u; quiet = quiet; conflict = None })
    is-compacted = record {
      moves = moves;
      moved = λ p. c.moved p ∙ same-some (finite.get old.clauses p) ∙ ap is_some (sym (get-clauses_in old.clauses p));
      kept = same-clause;
      apart = c.apart;
      onto = λ q h. c.onto q (same-some (finite.get new.clauses q) ∙ ap is_some (sym (get-clauses_in new.clauses
          q)) ∙ h);
      trail = refl;
      quiet = refl;
      conflict = refl;
    }
      where
        same-some : (o : Option Stored) → is_some o ≡ is_some (option_map base_clause o)
        same-some None = refl
        same-some (Some s) = refl
