-- a literal of level zero gets a unit clause as its reason
use Rattle.std.proofs.Common.{◌≡◌, ◌⊎◌, ℕ, ◌<◌, ◌≤◌, Bool, true, false, not, ◌&&◌, ◌||◌, All, List, [], ◌∷◌, Option, Some, None, IsSome, take, drop, refl, sym, ap, ◌∙◌, subst, inl, inr, arith, nat_eq, nat_le, zero, suc, if◌then◌else◌, cond}
use Rattle.std.proofs.lemmas.Bool.Decides.{nat_tests}
use Rattle.std.proofs.lemmas.List.{length-map}
use Rattle.std.proofs.lemmas.List.Elements.{All-nil, All-cons, All-tail, All-weaker}
use Rattle.std.specs.List.{list_any, find}
use Rattle.std.specs.Option.{option_map}
use Rattle.std.specs.FinMap as finite
use Rattle.gr_logic.specs.Literals.{Literal, negation, same_literal, same_sign, var_of}
use Rattle.gr_logic.specs.Rup.{LiteralSet, members, with_literal}
use Rattle.gr_logic.specs.Closure.{ClauseFamily, Forces, no_literals}
use Rattle.gr_logic.specs.declared.places.Place.{Place}
use Rattle.gr_logic.proofs.Sound.{same_literal-is}
use Rattle.gr_logic.proofs.SameLiteral.{members-first, or-true}
use Rattle.gr_arena.specs.Arenas.{Stored}
use Rattle.gr_trail.specs.Trails.{Assigned, TrailState, true_in, assigned_to, Climbs, reason_at, with_reason}
use Rattle.gr_trail.proofs.Levels.{climbs-le, climbs-with_reason}
use Rattle.gr_watch.specs.WatchLists.{WatchLists}
use Rattle.gr_prop.specs.Bases.{base_clause, clauses_in, family, IsFoundedBy, AreFounded, LacksId}
use Rattle.gr_prop.specs.BaseChanges.{IsSettled}
use Rattle.gr_prop.specs.Watching.{Store, lits_at, true_by, IsKept, IsGuarded, Guards, AreAt, AreWithin, AllFalse, IsSound, IsReady, IsIndexed, IsKeptBase, longer, paired, ArePaired, occurs}
use Rattle.gr_prop.specs.Additions.{watching_too, StandsAs}
use Rattle.gr_prop.specs.declared.additions.Standing.TheVariants.{Rests}
use Rattle.gr_prop.proofs.Stores.{get-insert-same, lits-insert, reordered-itself, get-clauses_in, clauses-insert, family-there}
use Rattle.gr_prop.proofs.Facts.{normal-distinct}
use Rattle.gr_prop.proofs.Adding.{paired-added, ready-rests}
use Rattle.gr_prop.proofs.Arrivals.{indexed-insert}

-- ---- what another reason leaves as it was
reason-lit : (var : ℕ) (p : Place) (x : Assigned) → (reason_at var p x).lit ≡ x.lit
reason-lit var p x = elim (nat_eq (var_of x.lit) var) as (λ b. (if b then record x { reason = Some p } else x).lit ≡
    x.lit) [ true ↦ refl | false ↦ refl ]

reason-level : (var : ℕ) (p : Place) (x : Assigned) → (reason_at var p x).level ≡ x.level
reason-level var p x = elim (nat_eq (var_of x.lit) var) as (λ b.
    (if b then record x { reason = Some p } else x).level ≡ x.level) [ true ↦ refl | false ↦ refl ]

reason-true : (var : ℕ) (p : Place) (xs : List Assigned) (q : Literal) → true_in (with_reason xs var p) q ≡ true_in xs q
reason-true var p [] q = refl
reason-true var p (x ∷ xs) q = λ i. same_literal q (reason-lit var p x i) || reason-true var p xs q i

reason-by : (var : ℕ) (p : Place) (xs : List Assigned) (level : ℕ) (q : Literal) → true_by (with_reason xs var p)
    level q ≡ true_by xs level q
reason-by var p [] level q = refl
reason-by var p (x ∷ xs) level q = λ i. (same_literal q (reason-lit var p x i) && nat_le (reason-level var p x i)
    level) || reason-by var p xs level q i

reason-any : (var : ℕ) (p : Place) (xs : List Assigned) (level : ℕ) (c : List Literal) → list_any
    (true_by (with_reason xs var p) level) c ≡ list_any (true_by xs level) c
reason-any var p xs level [] = refl
reason-any var p xs level (q ∷ qs) = λ i. reason-by var p xs level q i || reason-any var p xs level qs i

reason-kept : (var : ℕ) (p : Place) (xs done : List Assigned) (w : Literal) (c : List Literal) → IsKept xs done w c →
    IsKept (with_reason xs var p) (with_reason done var p) w c
reason-kept var p xs [] w c k = tt
reason-kept var p xs (x ∷ done) w c k = (
  (λ same. ap (λ n. list_any (true_by (with_reason xs var p) n) c) (reason-level var p x) ∙ reason-any var p xs
      x.level c
      ∙ k.0 (ap (same_literal (negation w)) (sym (reason-lit var p x)) ∙ same)),
  reason-kept var p xs done w c k.1,
)

reason-guarded : (var : ℕ) (p : Place) (xs done : List Assigned) (c : List Literal) → IsGuarded xs done c → IsGuarded
    (with_reason xs var p) (with_reason done var p) c
reason-guarded var p xs done [] g = g
reason-guarded var p xs done (w ∷ []) g = reason-by var p xs 0 w ∙ g
reason-guarded var p xs done (w ∷ o ∷ rest) g = (reason-kept var p xs done w _ g.0, reason-kept var p xs done o _ g.1)

reason-take : (var : ℕ) (p : Place) (n : ℕ) (xs : List Assigned) → take n (with_reason xs var p) ≡ with_reason
    (take n xs) var p
reason-take var p zero xs = refl
reason-take var p (suc n) [] = refl
reason-take var p (suc n) (x ∷ xs) = ap (λ z. reason_at var p x ∷ z) (reason-take var p n xs)

reason-drop : (var : ℕ) (p : Place) (n : ℕ) (xs : List Assigned) → drop n (with_reason xs var p) ≡ with_reason
    (drop n xs) var p
reason-drop var p zero xs = refl
reason-drop var p (suc n) [] = refl
reason-drop var p (suc n) (x ∷ xs) = reason-drop var p n xs

reason-at : (var : ℕ) (p : Place) (depth : ℕ) (xs : List Assigned) → AreAt depth xs → AreAt depth (with_reason xs var p)
reason-at var p depth [] all = tt
reason-at var p depth (x ∷ xs) all = (reason-level var p x ∙ all.0, reason-at var p depth xs all.1)

reason-within : (var : ℕ) (p : Place) (n : ℕ) (xs : List Assigned) → AreWithin n xs → AreWithin n (with_reason xs var p)
reason-within var p n [] all = tt
reason-within var p n (x ∷ xs) all = (
  subst (λ (l : Literal). l.index < n) (sym (reason-lit var p x)) all.0,
  reason-within var p n xs all.1,
)

-- ---- the literal's own assignment
-- the assignment of the literal's variable is the literal's
abbrev pub AreOwn : Literal → List Assigned → Type 0
AreOwn l [] = Unit {0}
AreOwn l (x ∷ xs) = (nat_eq (var_of x.lit) (var_of l) ≡ true → x.lit ≡ l) × AreOwn l xs

signs : (s t : Bool) → (same_sign s t ≡ true) ⊎ (same_sign (not s) t ≡ true)
signs true true = inl refl
signs true false = inr refl
signs false true = inr refl
signs false false = inl refl

own-all : (l : Literal) (xs : List Assigned) (whole : LiteralSet) →
    ((q : Literal) → true_in xs q ≡ true → whole q ≡ true) → (whole (negation l) ≡ true → ⊥) → AreOwn l xs
own-all l [] whole within other = tt
own-all l (x ∷ xs) whole within other = (
  here,
  own-all l xs whole (λ q e. within q (ap (λ b. same_literal q x.lit || b) e ∙ or-true
      (same_literal q x.lit))) other,
)
  where
    here : nat_eq (var_of x.lit) (var_of l) ≡ true → x.lit ≡ l
    here same =
        let one : nat_eq l.index x.lit.index ≡ true = grind (arith, nat_tests) in
        elim (signs l.positive x.lit.positive) as (λ _. x.lit ≡ l) [
          | inl yes' ↦ sym (same_literal-is l x.lit (ap (λ t. t && same_sign l.positive x.lit.positive) one ∙ yes'))
          | inr no' ↦
              let is : same_literal (negation l) x.lit ≡ true = ap
              (λ t. t && same_sign (not l.positive) x.lit.positive) one ∙ no' in
              absurd (other (within (negation l) (ap (λ b. b || true_in xs (negation l)) is)))
        ]

reason-founded : (k : ClauseFamily) (l : Literal) (p : Place) (before : LiteralSet) (xs : List Assigned) → k p.0 ≡
    Some (members (l ∷ [])) → AreOwn l xs
    → AreFounded k before xs → AreFounded k before (with_reason xs (var_of l) p)
reason-founded k l p before [] unit own f = tt
reason-founded k l p before (x ∷ xs) unit own f = (
  head,
  subst (λ q. AreFounded k (with_literal before q) (with_reason xs (var_of l) p)) (sym (reason-lit (var_of l) p x))
      (reason-founded k l p (with_literal before x.lit) xs unit own.1 f.1),
)
  where
    forces : x.lit ≡ l → Forces before (members (l ∷ [])) x.lit
    forces is = subst (Forces before (members (l ∷ []))) (sym is) (record {
      has = members-first l [];
      others = λ q m apart. absurd (let e : (same_literal q l || false) ≡ false = ap (λ b. b || false) apart in cc);
    })

    head : IsFoundedBy k before (reason_at (var_of l) p x).lit (reason_at (var_of l) p x).reason
    head = elim (nat_eq (var_of x.lit) (var_of l)) as (λ b. nat_eq (var_of x.lit) (var_of l) ≡ b
        → IsFoundedBy k before (if b then record x { reason = Some p } else x).lit
        (if b then record x { reason = Some p } else x).reason) [
          | true ↦ λ same. (members (l ∷ []), (unit, forces (own.0 same)))
          | false ↦ λ _. f.0
        ] refl

pub levels-zero : (level : ℕ) (xs : List Assigned) (depth : ℕ) → depth ≡ 0 → Climbs level xs depth → All
    (λ x. x.level ≡ 0) xs
levels-zero level [] depth z c = All-nil (λ (x : Assigned). x.level ≡ 0)
levels-zero level (x ∷ xs) depth z c =
    let high = climbs-le x.level xs depth c.1 in
    let e : x.level ≡ 0 = let h = high.0 in omega arith in
    All-cons (λ (y : Assigned). y.level ≡ 0) x xs e (levels-zero x.level xs depth z c.1)

-- a true literal's level is zero
pub found-zero : (xs : List Assigned) (l : Literal) → All (λ x. x.level ≡ 0) xs → true_in xs l ≡ true → option_map
    (λ a. a.level) (assigned_to xs (var_of l)) ≡ Some 0
found-zero [] l all e = absurd (cc)
found-zero (x ∷ xs) l all e =
    elim (nat_eq (var_of x.lit) (var_of l)) as (λ b. nat_eq (var_of x.lit) (var_of l) ≡ b
    → option_map (λ a. a.level) (cond b (Some x) (find (λ a. nat_eq (var_of a.lit) (var_of l)) xs)) ≡ Some 0) [
      | true ↦ λ _. ap Some (all 0 x (omega arith))
      | false ↦ λ apart.
          let other : nat_eq l.index x.lit.index ≡ false = grind (arith, nat_tests) in
          let no' : same_literal l x.lit ≡ false = ap (λ t. t && same_sign l.positive x.lit.positive) other in
          found-zero xs l (All-tail (λ (y : Assigned). y.level ≡ 0) x xs all) (rw no' at e)
    ] refl

pub true-zero : (t : TrailState) (l : Literal) → Climbs 0 t.assigned t.depth → t.depth ≡ 0 → true_in t.assigned l ≡ true
    → option_map (λ a. a.level) (assigned_to t.assigned (var_of l)) ≡ Some 0
true-zero t l c z e = found-zero t.assigned l (levels-zero 0 t.assigned t.depth z c) e

-- ---- the base
module _ (k : Store) (t : TrailState) (ws : WatchLists) (places : finite.FinMap _ Place) (head : ℕ)
    (broken : List Place) (quiet : Bool) (conflict : Option Place)
    (place : Place) (l : Literal) (id : ℕ) (kept : IsKeptBase k t ws places head broken quiet conflict)
    (fresh : finite.get k place.0 ≡ None)
    (zero' : t.depth ≡ 0) (holds : true_in t.assigned l ≡ true) (known : l.index < t.vars)
    (unused : LacksId (clauses_in k) id) where
  abbrev s : Stored
  s = record { id = id; lbd = 1; lits = l ∷ [] }

  abbrev n : Store
  n = finite.insert k place.0 s

  abbrev u : TrailState
  u = record t { assigned = with_reason t.assigned (var_of l) place }

  there : IsSome (finite.get n place.0)
  there = subst IsSome (sym (get-insert-same k place.0 s)) refl

  distinct-unit : (index : ℕ) → occurs (l ∷ []) index ≤ 1
  distinct-unit = normal-distinct (l ∷ []) ((λ q m. absurd (cc)), tt)

  known-unit : All (λ (q : Literal). q.index < t.vars) (l ∷ [])
  known-unit = All-cons (λ (q : Literal). q.index < t.vars) l [] known (All-nil (λ (q : Literal). q.index < t.vars))

  ready : IsReady n t ws head broken
  ready = subst (λ c. IsReady n t (watching_too ws place (longer c)) head broken) (lits-insert k place.0 s)
      (ready-rests k n t ws head broken place s kept.ready fresh (reordered-itself n place.0 there) distinct-unit
      known-unit (inl zero') (subst (λ c. StandsAs t.assigned c Rests) (sym (lits-insert k place.0 s)) holds))

  -- the lists of the clauses of two literals are as they were
  pub paired-settled : (ps : WatchLists) → ArePaired k t.vars ps → ArePaired n t.vars ps
  paired-settled ps p = subst (λ c. ArePaired n t.vars (watching_too ps place (paired c))) (lits-insert k place.0 s)
      (paired-added k n t ws head broken place s kept.ready fresh (reordered-itself n place.0 there) distinct-unit
      known-unit ps p)

  unit : family (clauses_in n) place.0 ≡ Some (members (l ∷ []))
  unit = family-there n place.0 there ∙ ap (λ c. Some (members c)) (lits-insert k place.0 s)

  sound : IsSound (clauses_in n) u
  sound = record {
    founded = reason-founded (family (clauses_in n)) l place no_literals t.assigned unit
        (own-all l t.assigned (true_in t.assigned) (λ q e. e) (λ e. ready.sound.consistent l holds e))
        ready.sound.founded;
    consistent = λ q one two. ready.sound.consistent q (sym (reason-true (var_of l) place t.assigned q) ∙ one)
        (sym (reason-true (var_of l) place t.assigned (negation q)) ∙ two);
    climbs = climbs-with_reason 0 t.assigned t.depth (var_of l) place
        (All-weaker (λ (x : Assigned). x.level ≡ 0) (λ (x : Assigned). nat_eq (var_of x.lit) (var_of l) ≡ true →
        x.level ≡ 0) (λ x h _. h) t.assigned (levels-zero 0 t.assigned t.depth zero' ready.sound.climbs))
        ready.sound.climbs;
    within = reason-within (var_of l) place t.vars t.assigned ready.sound.within;
  }

  all-false : (c : List Literal) → AllFalse t.assigned c → AllFalse u.assigned c
  all-false c f q m = reason-true (var_of l) place t.assigned (negation q) ∙ f q m

  ready-settled : IsReady n u ws head broken
  ready-settled = record {
    watching = ready.watching;
    blocked = ready.blocked;
    distinct = ready.distinct;
    known = ready.known;
    vars = ready.vars;
    even = ready.even;
    sound = sound;
    within = subst (λ m. head ≤ m) (sym (length-map t.assigned (reason_at (var_of l) place))) ready.within;
    guards = subst (Guards n broken u.assigned) (sym (reason-take (var_of l) place head t.assigned))
        (λ q h e. reason-guarded (var_of l) place t.assigned (take head t.assigned) (lits_at n q) (ready.guards q h e));
    queue = subst (AreAt t.depth) (sym (reason-drop (var_of l) place head t.assigned))
        (reason-at (var_of l) place t.depth (drop head t.assigned) ready.queue);
    broken' = record {
      low = ready.broken'.low;
      false' = λ q e. let h = ready.broken'.false' q e
          in (h.0, all-false (lits_at n q) h.1);
    };
  }

  fresh-clause : finite.get (clauses_in k) place.0 ≡ None
  fresh-clause = get-clauses_in k place.0 ∙ ap (option_map base_clause) fresh

  pub kept-settled : IsKeptBase n u ws (finite.insert places id place) head broken quiet None
  kept-settled = record {
    ready = ready-settled;
    indexed = subst (λ x. IsIndexed x (finite.insert places id place)) (sym (clauses-insert k place.0 s))
        (indexed-insert (clauses_in k) places place (base_clause s) kept.indexed fresh-clause unused);
    ended = record {
      done = λ e. let d = kept.ended.done e in (
        subst (λ m. m ≤ head)
            (sym (length-map t.assigned (reason_at (var_of l) place))) d.0,
        d.1,
      );
      falsified = λ p e. absurd (cc);
    };
  }

  pub is-settled : IsSettled (record { clauses = clauses_in k; trail = t; quiet = quiet; conflict = conflict })
      (record { clauses = clauses_in n; trail = u; quiet = quiet; conflict = None }) l id place
  is-settled = record {
    fresh = fresh-clause;
    changed = λ i. record { clauses = clauses-insert k place.0 s i; trail = u; quiet = quiet; conflict = None };
  }

  -- as the call has it
  pub kept-settled-at : (n' : Store) (u' : TrailState) (spots : finite.FinMap _ Place) → n' ≡ n → u' ≡ u → spots ≡
      finite.insert places id place
      → IsKeptBase n' u' ws spots head broken quiet None
  kept-settled-at n' u' spots a b e =
      subst (λ x. IsKeptBase x u' ws spots head broken quiet None) (sym a)
      (subst (λ x. IsKeptBase n x ws spots head broken quiet None) (sym b)
      (subst (λ x. IsKeptBase n u ws x head broken quiet None) (sym e) kept-settled))

  pub is-settled-at : (n' : Store) (u' : TrailState) → n' ≡ n → u' ≡ u
      → IsSettled (record { clauses = clauses_in k; trail = t; quiet = quiet; conflict = conflict })
      (record { clauses = clauses_in n'; trail = u'; quiet = quiet; conflict = None }) l id place
  is-settled-at n' u' a b =
      subst (λ x. IsSettled (record { clauses = clauses_in k; trail = t; quiet = quiet; conflict = conflict })
      (record { clauses = clauses_in x; trail = u'; quiet = quiet; conflict = None }) l id place) (sym a)
      (subst (λ x. IsSettled (record { clauses = clauses_in k; trail = t; quiet = quiet; conflict = conflict })
      (record { clauses = clauses_in n; trail = x; quiet = quiet; conflict = None }) l id place) (sym b) is-settled)

-- a true literal is known
pub true-known : (t : TrailState) (l : Literal) → AreWithin t.vars t.assigned → true_in t.assigned l ≡ true → l.index
    < t.vars
true-known t l within e = go t.assigned within e
  where
    go : (xs : List Assigned) → AreWithin t.vars xs → true_in xs l ≡ true → l.index < t.vars
    go [] all e = absurd (cc)
    go (x ∷ xs) all e = elim (same_literal l x.lit) as (λ b. same_literal l x.lit ≡ b → (b || true_in xs l) ≡ true →
        l.index < t.vars) [
          | true ↦ λ same _. subst (λ (q : Literal). q.index < t.vars) (sym (same_literal-is l x.lit same)) all.0
          | false ↦ λ _ rest. go xs all.1 rest
        ] refl e
