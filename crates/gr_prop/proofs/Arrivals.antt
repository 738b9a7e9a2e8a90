-- a clause comes in, as the call has it
use Rattle.std.proofs.Common.{◌≡◌, ◌≢◌, ◌⊎◌, ℕ, ◌<◌, ◌≤◌, Bool, true, false, ◌||◌, All, List, [], ◌∷◌, ◌++◌, Option, Some, None, refl, sym, ap, ◌∙◌, subst, inl, inr, arith, nat_eq, zero, suc}
use Rattle.std.proofs.lemmas.Bool.Decides.{nat_tests}
use Rattle.std.proofs.lemmas.List.Elements.{All-head, All-tail}
use Rattle.std.specs.Option.{option_map, unwrap_or}
use Rattle.std.specs.Ordering.{nat_cmp}
use Rattle.std.specs.FinMap as finite
use Rattle.gr_logic.specs.Literals.{Literal, negation, same_literal}
use Rattle.gr_logic.specs.NormalForms.{IsNormal}
use Rattle.gr_logic.specs.Rup.{members}
use Rattle.gr_logic.specs.Closure.{Forces}
use Rattle.gr_logic.specs.declared.places.Place.{Place}
use Rattle.gr_logic.proofs.Sound.{same_literal-is}
use Rattle.gr_arena.specs.Arenas.{Stored}
use Rattle.gr_trail.specs.Trails.{Assigned, TrailState, true_in, value_in}
use Rattle.gr_watch.specs.WatchLists.{WatchLists}
use Rattle.gr_prop.specs.Bases.{BaseClause, BaseState, Clauses, base_clause, clauses_in, HasIdAt, LacksId}
use Rattle.gr_prop.specs.BaseChanges.{with_forced, IsLearnt, IsAddable, IsAdded}
use Rattle.gr_prop.specs.Watching.{Store, lits_at, longer, paired, ArePaired, occurs, AllFalse, IsReady, IsIndexed, IsKeptBase}
use Rattle.gr_prop.specs.Visits.{IsReordered}
use Rattle.gr_prop.specs.Additions.{IsArranged, watching_too, StandsAs}
use Rattle.gr_prop.specs.declared.additions.Standing.{Standing}
use Rattle.gr_prop.specs.declared.additions.Standing.TheVariants.{Forced, Rests}
use Rattle.gr_prop.proofs.TrailSets.{open-false, false-value}
use Rattle.gr_prop.proofs.Stores.{by_place, get-insert-same, get-insert-other, get-remove-same, get-remove-other, same-map, lits-insert, get-clauses_in}
use Rattle.gr_prop.proofs.Facts.{normal-distinct}
use Rattle.gr_prop.proofs.Keeping.{kept-open}
use Rattle.gr_prop.proofs.Adding.{paired-added, ready-rests, ready-broken, ready-forced, clause-distinct, clause-members, clauses-added}
use Rattle.gr_prop.proofs.Forcing.{forces-forced, rests-forces, stands-false}

-- ---- ids
module _ (k : Clauses) (places : finite.FinMap _ Place) (place : Place) (b : BaseClause) (indexed : IsIndexed k places)
    (fresh : finite.get k place.0 ≡ None) (unused : LacksId k b.id) where
  one-place : (p : Place) → p.0 ≡ place.0 → place ≡ p
  one-place p e = λ i. record { 0 = sym e i }

  pub indexed-insert : IsIndexed (finite.insert k place.0 b) (finite.insert places b.id place)
  indexed-insert = record {
    found = λ id p e. by_place (λ i. finite.get (finite.insert places b.id place) i ≡ Some p → HasIdAt
        (finite.insert k place.0 b) i p) b.id
        (λ e.
        let is : place ≡ p = ap (λ (o : Option Place). unwrap_or {T = Place} o place)
        (sym (get-insert-same places b.id place) ∙ e) in (
          b,
          ap (λ (q : Place). finite.get (finite.insert k place.0 b) q.0) (sym is) ∙ get-insert-same k place.0 b,
          refl,
        ))
        (λ i apart e.
        let h = indexed.found i p (sym (get-insert-other places b.id place i apart) ∙ e) in (
          h.0,
          by_place (λ q. finite.get k q ≡ Some h.0 → finite.get (finite.insert k place.0 b) q ≡ Some h.0) place.0
              (λ bad. absurd (cc)) (λ q other at. get-insert-other k place.0 b q other ∙ at) p.0 h.1,
          h.2,
        )) id e;
    kept = λ p id h. elim (nat_eq p.0 place.0) as (λ t. nat_eq p.0 place.0 ≡ t → finite.get
        (finite.insert places b.id place) id ≡ Some p) [
          | true ↦ λ same.
              let is : p.0 ≡ place.0 = grind (arith, nat_tests) in
              let one : b ≡ h.0 = ap (λ (o : Option BaseClause). unwrap_or {T = BaseClause} o b)
              (sym (get-insert-same k place.0 b) ∙ ap (λ n. finite.get (finite.insert k place.0 b) n) (sym is) ∙ h.1) in
              let own : b.id ≡ id = ap (λ (x : BaseClause). x.id) one ∙ h.2 in
              ap (λ n. finite.get (finite.insert places b.id place) n) (sym own) ∙ get-insert-same places b.id place
              ∙ ap Some (one-place p is)
          | false ↦ λ apart.
              let other : p.0 ≢ place.0 = grind (arith, nat_tests) in
              let at : finite.get k p.0 ≡ Some h.0 = sym (get-insert-other k place.0 b p.0 other) ∙ h.1 in
              get-insert-other places b.id place id (λ e. unused p.0 h.0 at (h.2 ∙ e))
              ∙ indexed.kept p id (h.0, at, h.2)
        ] refl;
  }

-- ---- how the clause stands in the arena
learnt-others : (xs : List Assigned) (c : List Literal) → All (λ q. value_in xs q ≡ Some false) c → AllFalse xs c
learnt-others xs [] all q m = absurd (cc)
learnt-others xs (x ∷ rest) all q m =
    elim (same_literal q x) as (λ b. same_literal q x ≡ b → (b || members rest q) ≡ true → true_in xs (negation q) ≡
    true) [
      | true ↦ λ same _. ap (λ y. true_in xs (negation y)) (same_literal-is q x same) ∙ false-value xs x
          (All-head (λ y. value_in xs y ≡ Some false) x rest all)
      | false ↦ λ _ later. learnt-others xs rest (All-tail (λ y. value_in xs y ≡ Some false) x rest all) q later
    ] refl m

learnt-arranged : (t : TrailState) (c : List Literal) → IsLearnt t c → IsArranged t.assigned c
learnt-arranged t [] h = tt
learnt-arranged t (w ∷ []) h = tt
learnt-arranged t (w ∷ o ∷ rest) h = (
  (λ falls. let e = open-false t.assigned w h.0 in absurd (cc)),
  (λ _ q m apart. learnt-others t.assigned (o ∷ rest) h.1 q (rw apart at m)),
)

pub record IsArrived (k n : Store) (t : TrailState) (place : Place) (s : Stored) : Type 0 where
  pub fresh : finite.get k place.0 ≡ None
  pub reordered : IsReordered (finite.insert k place.0 s) n place.0
  pub at : (t.depth ≡ 0) ⊎ IsLearnt t (lits_at n place.0)
  pub arranged : IsArranged t.assigned (lits_at n place.0)
  pub distinct : (index : ℕ) → occurs s.lits index ≤ 1
  pub known : All (λ (l : Literal). l.index < t.vars) s.lits

pub arrived : (k m n : Store) (t : TrailState) (place : Place) (s : Stored) → finite.get k place.0 ≡ None → m ≡
    finite.insert k place.0 s
    → IsReordered m n place.0 → (t.depth ≡ 0 → IsArranged t.assigned (lits_at n place.0)) →
    (0 < t.depth → lits_at n place.0 ≡ lits_at m place.0)
    → IsNormal s.lits → All (λ (l : Literal). l.index < t.vars) s.lits → IsAddable t s.lits → IsArrived k n t place s
arrived k m n t place s fresh is r arranged still normal known addable = record {
  fresh = fresh;
  reordered = subst (λ x. IsReordered x n place.0) is r;
  at = go addable;
  arranged = order addable;
  distinct = normal-distinct s.lits normal;
  known = known;
}
  where
    same : 0 < t.depth → lits_at n place.0 ≡ s.lits
    same high = still high ∙ ap (λ x. lits_at x place.0) is ∙ lits-insert k place.0 s

    split : (d : ℕ) → (d ≡ 0) ⊎ (0 < d)
    split zero = inl refl
    split (suc d) = inr (omega arith)

    go : IsAddable t s.lits → (t.depth ≡ 0) ⊎ IsLearnt t (lits_at n place.0)
    go (inl z) = inl z
    go (inr h) = elim (split t.depth) as (λ _. (t.depth ≡ 0) ⊎ IsLearnt t (lits_at n place.0)) [
      | inl z ↦ inl z
      | inr high ↦ inr (subst (IsLearnt t) (sym (same high)) h)
    ]

    order : IsAddable t s.lits → IsArranged t.assigned (lits_at n place.0)
    order (inl z) = arranged z
    order (inr h) = elim (split t.depth) as (λ _. IsArranged t.assigned (lits_at n place.0)) [
      | inl z ↦ arranged z
      | inr high ↦ subst (IsArranged t.assigned) (sym (same high)) (learnt-arranged t s.lits h)
    ]

-- the clause is taken back
pub taken-back : (k m n : Store) (place : Place) (s : Stored) → finite.get k place.0 ≡ None → m ≡ finite.insert k
    place.0 s → IsReordered m n place.0
    → finite.remove n place.0 ≡ k
taken-back k m n place s fresh is r = same-map _ _ (by_place (λ q. finite.get (finite.remove n place.0) q ≡
    finite.get k q) place.0
    (get-remove-same n place.0 ∙ sym fresh)
    (λ q apart. get-remove-other n place.0 q apart ∙ r.others q apart ∙ ap (λ x. finite.get x q) is ∙
    get-insert-other k place.0 s q apart))

-- a clause comes to a base, with its watches and its id
pub record IsComing (k n : Store) (t : TrailState) (ws vs : WatchLists) (places spots : finite.FinMap nat_cmp Place)
    (head : ℕ) (broken : List Place) (quiet : Bool) (conflict : Option Place) (place : Place) (s : Stored) : Type 0
  where
    pub kept : IsKeptBase k t ws places head broken quiet conflict
    pub come : IsArrived k n t place s
    pub unused : LacksId (clauses_in k) s.id
    pub lists : vs ≡ watching_too ws place (longer (lits_at n place.0))
    pub index : spots ≡ finite.insert places s.id place

module _ {k n : Store} {t : TrailState} {ws vs : WatchLists} {places spots : finite.FinMap nat_cmp Place} {head : ℕ}
    {broken : List Place} {quiet : Bool} {conflict : Option Place} {place : Place} {s : Stored}
    (c : IsComing k n t ws vs places spots head broken quiet conflict place s) where
  clauses-now : clauses_in n ≡ finite.insert (clauses_in k) place.0 (base_clause s)
  clauses-now = clauses-added k n t ws head broken place s c.kept.ready c.come.fresh c.come.reordered
      c.come.distinct c.come.known

  fresh-clause : finite.get (clauses_in k) place.0 ≡ None
  fresh-clause = get-clauses_in k place.0 ∙ ap (option_map base_clause) c.come.fresh

  indexed-now : IsIndexed (clauses_in n) spots
  indexed-now = subst (λ x. IsIndexed x spots) (sym clauses-now)
      (subst (IsIndexed (finite.insert (clauses_in k) place.0 (base_clause s))) (sym c.index)
      (indexed-insert (clauses_in k) places place (base_clause s) c.kept.indexed fresh-clause c.unused))

  pub kept-rests : StandsAs t.assigned (lits_at n place.0) Rests → IsKeptBase n t vs spots head broken false None
  kept-rests stands = kept-open n t vs spots head broken false None
      (subst (λ w. IsReady n t w head broken) (sym c.lists) (ready-rests k n t ws head broken place s c.kept.ready
      c.come.fresh c.come.reordered c.come.distinct c.come.known c.come.at stands))
      indexed-now refl refl

  pub kept-broken : (broken' : List Place) → broken' ≡ broken ++ place ∷ [] → AllFalse t.assigned (lits_at n place.0)
      → IsKeptBase n t vs spots head broken' false None
  kept-broken broken' is falses = kept-open n t vs spots head broken' false None
      (subst (IsReady n t vs head) (sym is)
      (subst (λ w. IsReady n t w head (broken ++ place ∷ [])) (sym c.lists)
      (ready-broken k n t ws head broken place s c.kept.ready c.come.fresh c.come.reordered c.come.distinct
      c.come.known c.come.at falses)))
      indexed-now refl refl

  pub kept-forced : (u : TrailState) (l : Literal) → u ≡ with_forced t l place → StandsAs t.assigned
      (lits_at n place.0) (Forced l) → IsKeptBase n u vs spots head broken false None
  kept-forced u l is stands = kept-open n u vs spots head broken false None
      (subst (λ x. IsReady n x vs head broken) (sym is)
      (subst (λ w. IsReady n (with_forced t l place) w head broken) (sym c.lists)
      (ready-forced k n t ws head broken place s c.kept.ready c.come.fresh c.come.reordered c.come.distinct
      c.come.known c.come.at l stands)))
      indexed-now refl refl

  -- the lists of the clauses of two literals have it
  pub pairs-come : (ps qs : WatchLists) → ArePaired k t.vars ps
      → qs ≡ watching_too ps place (paired (lits_at n place.0)) → ArePaired n t.vars qs
  pairs-come ps qs p is = subst (ArePaired n t.vars) (sym is)
      (paired-added k n t ws head broken place s c.kept.ready c.come.fresh c.come.reordered c.come.distinct
      c.come.known ps p)

  -- what the clause forces, by its literals in either order
  forces-order : (l : Literal) → Forces (true_in t.assigned) (members s.lits) l → Forces (true_in t.assigned)
      (members (lits_at n place.0)) l
  forces-order l f = subst (λ e. Forces (true_in t.assigned) e l)
      (λ i q. sym (clause-members k n t ws head broken place s c.kept.ready c.come.fresh c.come.reordered
      c.come.distinct c.come.known q) i) f

  forces-back : (l : Literal) → Forces (true_in t.assigned) (members (lits_at n place.0)) l → Forces
      (true_in t.assigned) (members s.lits) l
  forces-back l f = subst (λ e. Forces (true_in t.assigned) e l)
      (λ i q. clause-members k n t ws head broken place s c.kept.ready c.come.fresh c.come.reordered
      c.come.distinct c.come.known q i) f

  abbrev was : BaseState
  was = record { clauses = clauses_in k; trail = t; quiet = quiet; conflict = conflict }

  still-added : ((l : Literal) → Forces (true_in t.assigned) (members (lits_at n place.0)) l → value_in t.assigned l
      ≡ None → ⊥)
      → IsAdded was (record { clauses = clauses_in n; trail = t; quiet = false; conflict = None }) s.id s.lbd s.lits
      place
  still-added none = record {
    fresh = fresh-clause;
    clauses = clauses-now;
    trail = inr ((λ l f. none l (forces-order l f.0) f.1), refl);
    quiet = refl;
    conflict = refl;
  }

  pub added-rests : StandsAs t.assigned (lits_at n place.0) Rests → IsAdded was
      (record { clauses = clauses_in n; trail = t; quiet = false; conflict = None }) s.id s.lbd s.lits place
  added-rests stands = still-added (λ l f e. rests-forces t (lits_at n place.0) l
      (clause-distinct k n t ws head broken place s c.kept.ready c.come.fresh c.come.reordered c.come.distinct
      c.come.known)
      c.kept.ready.sound.consistent stands f e)

  pub added-broken : AllFalse t.assigned (lits_at n place.0) → IsAdded was
      (record { clauses = clauses_in n; trail = t; quiet = false; conflict = None }) s.id s.lbd s.lits place
  added-broken falses = still-added (λ l f e. stands-false t.assigned (lits_at n place.0) l falses f.has e)

  pub added-forced : (u : TrailState) (l : Literal) → u ≡ with_forced t l place → StandsAs t.assigned
      (lits_at n place.0) (Forced l)
      → IsAdded was (record { clauses = clauses_in n; trail = u; quiet = false; conflict = None }) s.id s.lbd s.lits
      place
  added-forced u l is stands =
      let f = forces-forced t.assigned (lits_at n place.0) l stands in
      record {
        fresh = fresh-clause;
        clauses = clauses-now;
        trail = inl (l, ((forces-back l f.0, f.1), is));
        quiet = refl;
        conflict = refl;
      }

-- a base whose parts are as they were
pub kept-same : (k n : Store) (t : TrailState) (ws vs : WatchLists) (places spots : finite.FinMap _ Place) (head : ℕ)
    (broken other : List Place) (quiet : Bool) (conflict : Option Place)
    → n ≡ k → vs ≡ ws → spots ≡ places → other ≡ broken → IsKeptBase k t ws places head broken quiet conflict →
    IsKeptBase n t vs spots head other quiet conflict
kept-same k n t ws vs places spots head broken other quiet conflict a b d e kept =
    subst (λ x. IsKeptBase x t vs spots head other quiet conflict) (sym a)
    (subst (λ x. IsKeptBase k t x spots head other quiet conflict) (sym b)
    (subst (λ x. IsKeptBase k t ws x head other quiet conflict) (sym d)
    (subst (λ x. IsKeptBase k t ws places head x quiet conflict) (sym e) kept)))

pub pairs-back : (k n : Store) (ps qs : WatchLists) (vars : ℕ) → n ≡ k → qs ≡ ps → ArePaired k vars ps
    → ArePaired n vars qs
pairs-back k n ps qs vars a b p = subst (λ x. ArePaired x vars qs) (sym a) (subst (ArePaired k vars) (sym b) p)

pub stands-at : (xs : List Assigned) (c d : List Literal) (a b : Standing) → d ≡ c → a ≡ b → StandsAs xs d a →
    StandsAs xs c b
stands-at xs c d a b e f h = subst (StandsAs xs c) f (subst (λ z. StandsAs xs z a) e h)
