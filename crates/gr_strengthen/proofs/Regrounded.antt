-- a base that stands at level zero gets other reasons, other places or fewer clauses
use Rattle.std.proofs.Common.{◌≡◌, ◌⊎◌, inl, inr, ℕ, zero, suc, Bool, true, false, ◌||◌, List, [], ◌∷◌, map, take, Option, Some, None, refl, sym, ap, ◌∙◌, subst, arith, nat_eq, is_none, if◌then◌else◌}
use Rattle.std.specs.Prelude.{All, slice_get}
use Rattle.std.specs.Option.{option_map, unwrap_or}
use Rattle.std.specs.FinMap as finite
use Rattle.std.specs.FinSet as set
use Rattle.std.proofs.lemmas.Bool.Decides.{nat_tests}
use Rattle.std.proofs.lemmas.List.{length-map}
use Rattle.std.proofs.lemmas.List.Elements.{All-cons, All-nil, All-head, All-tail, All-weaker}
use Rattle.gr_logic.specs.Literals.{Literal, negation, same_literal, var_of}
use Rattle.gr_logic.specs.Formulas.{Cnf}
use Rattle.gr_logic.specs.Rup.{members}
use Rattle.gr_logic.specs.declared.places.Place.{Place}
use Rattle.gr_logic.proofs.SameLiteral.{members-first}
use Rattle.gr_trail.specs.Trails.{Assigned, TrailState, IsTrail, true_in, with_reason, reason_at}
use Rattle.gr_trail.proofs.Climbing.{some-is}
use Rattle.gr_trail.proofs.Standing.{true-at, one-place}
use Rattle.gr_prop.specs.Bases.{BaseClause, BaseState, Clauses, family}
use Rattle.gr_prop.specs.BaseChanges.{IsForcedAt, IsCompacted, moved_place, moved_assigned}
use Rattle.gr_prop.proofs.Stores.{get-insert-other, get-remove-other}
use Rattle.gr_strengthen.specs.Families.{HasTwoLiterals}
use Rattle.gr_hints.specs.Graphs.{IsFalse}
use Rattle.gr_strengthen.specs.Holding.{HasUnitReason, IsSettled, IsGrounded}
use Rattle.gr_strengthen.proofs.Agreement.{clause-there}
use Rattle.gr_strengthen.proofs.KeptMaps.{by-eq, remove-there, moved-to, moved-from}
use Rattle.gr_strengthen.proofs.UnitFacts.{one-member}
use Rattle.gr_strengthen.proofs.Cited.{some-set}
use Rattle.gr_strengthen.proofs.Grounded.{family-here, unit-more, settled-more}

-- ---- a unit clause becomes its literal's reason
slice-map : (g : Assigned → Assigned) (xs : List Assigned) (k : ℕ) (a : Assigned) → slice_get xs k ≡ Some a
    → slice_get (map g xs) k ≡ Some (g a)
slice-map g [] k a e = absurd (cc)
slice-map g (x ∷ xs) zero a e = ap (λ o. Some (g (unwrap_or o a))) e
slice-map g (x ∷ xs) (suc k) a e = slice-map g xs k a e

true-map : (g : Assigned → Assigned) → ((a : Assigned) → (g a).lit ≡ a.lit) → (xs : List Assigned) (q : Literal)
    → true_in (map g xs) q ≡ true_in xs q
true-map g same [] q = refl
true-map g same (x ∷ xs) q = λ i. same_literal q (same x i) || true-map g same xs q i

take-map : (g : Assigned → Assigned) (n : ℕ) (xs : List Assigned) → take n (map g xs) ≡ map g (take n xs)
take-map g zero [] = refl
take-map g (suc n) [] = refl
take-map g zero (x ∷ xs) = refl
take-map g (suc n) (x ∷ xs) = ap (λ l. g x ∷ l) (take-map g n xs)

all-map : (P Q : Assigned → Type 0) (g : Assigned → Assigned) → ((a : Assigned) → P a → Q (g a)) → (xs : List Assigned)
    → All P xs → All Q (map g xs)
all-map P Q g keep [] all = All-nil Q
all-map P Q g keep (x ∷ xs) all =
    All-cons Q (g x) (map g xs) (keep x (All-head P x xs all)) (all-map P Q g keep xs (All-tail P x xs all))

-- the assignments change, each to one of the same literal and level, and those that had unit clauses as reasons
-- still do
pub grounded-mapped : (f : Cnf) (old new : Clauses) (t : TrailState) (settled : ℕ) (g : Assigned → Assigned)
    → ((a : Assigned) → (g a).lit ≡ a.lit) → ((a : Assigned) → IsForcedAt 0 a → IsForcedAt 0 (g a))
    → ((k : ℕ) (a : Assigned) → slice_get t.assigned k ≡ Some a → HasUnitReason old a → HasUnitReason new (g a))
    → ((place : ℕ) (l : Literal) → family new place ≡ Some (members (l ∷ []))
    → (IsFalse t.assigned l ⊎ IsSettled old t.assigned l) ⊎ IsSettled new (map g t.assigned) l)
    → IsGrounded f old t settled → IsGrounded f new (record t { assigned = map g t.assigned }) settled
grounded-mapped f old new t settled g same low keep units grounded = record {
  ground = grounded.ground;
  vars = grounded.vars;
  low = all-map (IsForcedAt 0) (IsForcedAt 0) g low t.assigned grounded.low;
  units = λ place l e. go l (units place l e);
  within = (let e = length-map t.assigned g in let w = grounded.within in omega (arith, e, w));
  done = subst (All (HasUnitReason new)) (sym (take-map g settled t.assigned))
      (each settled t.assigned (λ k a e. keep k a e) grounded.done);
}
  where
    go : (l : Literal) → (IsFalse t.assigned l ⊎ IsSettled old t.assigned l) ⊎ IsSettled new (map g t.assigned) l
        → IsFalse (map g t.assigned) l ⊎ IsSettled new (map g t.assigned) l
    go l (inl (inl gone)) = inl (true-map g same t.assigned (negation l) ∙ gone)
    go l (inl (inr s)) =
        inr (s.0, g s.1, slice-map g t.assigned s.0 s.1 s.2, same s.1 ∙ s.3, keep s.0 s.1 s.2 s.4)
    go l (inr s) = inr s

    each : (n : ℕ) (xs : List Assigned)
        → ((k : ℕ) (a : Assigned) → slice_get xs k ≡ Some a → HasUnitReason old a → HasUnitReason new (g a))
        → All (HasUnitReason old) (take n xs) → All (HasUnitReason new) (map g (take n xs))
    each zero [] keep all = All-nil (HasUnitReason new)
    each (suc n) [] keep all = All-nil (HasUnitReason new)
    each zero (x ∷ xs) keep all = All-nil (HasUnitReason new)
    each (suc n) (x ∷ xs) keep all =
        All-cons (HasUnitReason new) (g x) (map g (take n xs))
        (keep 0 x refl (All-head (HasUnitReason old) x (take n xs) all))
        (each n xs (λ k a. keep (suc k) a) (All-tail (HasUnitReason old) x (take n xs) all))

module _ (f : Cnf) (old : BaseState) (id : ℕ) (l : Literal) (place : Place) (settled : ℕ)
    (fresh : finite.get old.clauses place.0 ≡ None) (trail : IsTrail old.trail)
    (holds : true_in old.trail.assigned l ≡ true) (g : IsGrounded f old.clauses old.trail settled) where
  abbrev with-unit : Clauses
  with-unit = finite.insert old.clauses place.0 (record { id = id; lbd = 1; literals = set.from_list (l ∷ []) })

  abbrev turned : Assigned → Assigned
  turned = reason_at (var_of l) place

  turned-lit : (a : Assigned) → (turned a).lit ≡ a.lit
  turned-lit a = go (nat_eq (var_of a.lit) (var_of l))
    where
      go : (b : Bool) → (let x : Assigned = if b then record a { reason = Some place } else a in x.lit) ≡ a.lit
      go true = refl
      go false = refl

  turned-low : (a : Assigned) → IsForcedAt 0 a → IsForcedAt 0 (turned a)
  turned-low a low = go (nat_eq (var_of a.lit) (var_of l))
    where
      go : (b : Bool) → IsForcedAt 0 (if b then record a { reason = Some place } else a)
      go true = (low.0, refl)
      go false = low

  -- the literal's own assignment
  own : (k : ℕ) (a : Assigned) → slice_get old.trail.assigned k ≡ Some a → nat_eq (var_of a.lit) (var_of l) ≡ true
      → HasUnitReason with-unit (record a { reason = Some place })
  own k a at e =
      let w = true-at old.trail.assigned l holds in
      let v : a.lit.index ≡ l.index = grind (arith, nat_tests, e) in
      let same : k ≡ w.0 = one-place old.trail k w.0 a w.1 trail at w.2
      (v ∙ ap (λ (q : Literal). q.index) (sym w.3)) in
      let is : a ≡ w.1 = some-is a w.1 (sym at ∙ ap (slice_get old.trail.assigned) same ∙ w.2) in
      let lit : a.lit ≡ l = ap (λ (x : Assigned). x.lit) is ∙ w.3 in
      (place, refl, family-here old.clauses place.0 id 1 (l ∷ []) ∙ ap (λ q. Some (members (q ∷ []))) (sym lit))

  turned-keeps : (k : ℕ) (a : Assigned) → slice_get old.trail.assigned k ≡ Some a → HasUnitReason old.clauses a
      → HasUnitReason with-unit (turned a)
  turned-keeps k a at h = go (nat_eq (var_of a.lit) (var_of l)) refl
    where
      go : (b : Bool) → nat_eq (var_of a.lit) (var_of l) ≡ b
          → HasUnitReason with-unit (if b then record a { reason = Some place } else a)
      go true e = own k a at e
      go false e = unit-more old.clauses place.0 _ a fresh h

  turned-units : (p : ℕ) (q : Literal) → family with-unit p ≡ Some (members (q ∷ []))
      → (IsFalse old.trail.assigned q ⊎ IsSettled old.clauses old.trail.assigned q)
      ⊎ IsSettled with-unit (map turned old.trail.assigned) q
  turned-units p q e =
      by-eq ((IsFalse old.trail.assigned q ⊎ IsSettled old.clauses old.trail.assigned q)
      ⊎ IsSettled with-unit (map turned old.trail.assigned) q) p place.0
      (λ is. inr (here (some-set (members (l ∷ [])) (members (q ∷ []))
      (sym (family-here old.clauses place.0 id 1 (l ∷ [])) ∙ ap (family with-unit) (sym is) ∙ e))))
      (λ apart. inl (g.units p q (sym (ap (option_map (λ (y : BaseClause). set.contains y.literals))
      (get-insert-other old.clauses place.0 _ p apart)) ∙ e)))
    where
      here : members (l ∷ []) ≡ members (q ∷ []) → IsSettled with-unit (map turned old.trail.assigned) q
      here m =
          let lq : l ≡ q = one-member q l (ap (λ s. s l) (sym m) ∙ members-first l []) in
          let w = true-at old.trail.assigned l holds in
          let e : nat_eq (var_of w.1.lit) (var_of l) ≡ true =
          ap (λ (x : Literal). nat_eq (var_of x) (var_of l)) w.3 ∙ (grind (arith, nat_tests)) in (
            w.0,
            turned w.1,
            slice-map turned old.trail.assigned w.0 w.1 w.2,
            turned-lit w.1 ∙ w.3 ∙ lq,
            subst (λ b. HasUnitReason with-unit (if b then record w.1 { reason = Some place } else w.1)) (sym e)
                (own w.0 w.1 w.2 e),
          )

  pub settle-grounded : IsGrounded f with-unit
      (record old.trail { assigned = with_reason old.trail.assigned (var_of l) place }) settled
  settle-grounded = grounded-mapped f old.clauses with-unit old.trail settled turned turned-lit turned-low turned-keeps
      turned-units g

-- ---- a long clause is removed
pub remove-grounded : (f : Cnf) (clauses : Clauses) (t : TrailState) (settled p : ℕ) (c : BaseClause)
    → finite.get clauses p ≡ Some c → HasTwoLiterals c.literals → IsGrounded f clauses t settled
    → IsGrounded f (finite.remove clauses p) t settled
remove-grounded f clauses t settled p c at two g = record {
  ground = g.ground;
  vars = g.vars;
  low = g.low;
  units = λ place l e. go l (g.units place l (there place l e));
  within = g.within;
  done = All-weaker (HasUnitReason clauses) (HasUnitReason (finite.remove clauses p)) keep
      (take settled t.assigned) g.done;
}
  where
    not-unit : (l : Literal) → set.contains c.literals ≡ members (l ∷ []) → ⊥
    not-unit l e =
        two.4 (one-member l two.0 (ap (λ s. s two.0) (sym e) ∙ two.2)
        ∙ sym (one-member l two.1 (ap (λ s. s two.1) (sym e) ∙ two.3)))

    keep : (a : Assigned) → HasUnitReason clauses a → HasUnitReason (finite.remove clauses p) a
    keep a h = (
      h.0,
      h.1,
      by-eq (family (finite.remove clauses p) h.0.0 ≡ Some (members (a.lit ∷ []))) h.0.0 p
          (λ same. absurd (not-unit a.lit (some-set (set.contains c.literals) (members (a.lit ∷ []))
          (sym (ap (option_map (λ (y : BaseClause). set.contains y.literals))
          (ap (finite.get clauses) same ∙ at)) ∙ h.2))))
          (λ apart. ap (option_map (λ (y : BaseClause). set.contains y.literals))
          (get-remove-other clauses p h.0.0 apart)
          ∙ h.2),
    )

    there : (place : ℕ) (l : Literal) → family (finite.remove clauses p) place ≡ Some (members (l ∷ []))
        → family clauses place ≡ Some (members (l ∷ []))
    there place l e =
        let x = clause-there (finite.get (finite.remove clauses p) place) (members (l ∷ [])) e in
        ap (option_map (λ (y : BaseClause). set.contains y.literals)) (remove-there clauses p place x.0 x.1.0)
        ∙ ap Some x.1.1

    go : (l : Literal) → IsFalse t.assigned l ⊎ IsSettled clauses t.assigned l
        → IsFalse t.assigned l ⊎ IsSettled (finite.remove clauses p) t.assigned l
    go l (inl gone) = inl gone
    go l (inr s) = inr (settled-more clauses (finite.remove clauses p) t.assigned l keep s)

-- ---- the clauses are moved together
pub moved-grounded : (f : Cnf) (old new : BaseState) (settled : ℕ) → IsCompacted old new
    → IsGrounded f old.clauses old.trail settled → IsGrounded f new.clauses new.trail settled
moved-grounded f old new settled moved g =
    subst (λ t. IsGrounded f new.clauses t settled) (sym moved.trail)
    (grounded-mapped f old.clauses new.clauses old.trail settled (moved_assigned moved.moves) (λ a. refl) low
    (λ k a at. keep a) units g)
  where
    low : (a : Assigned) → IsForcedAt 0 a → IsForcedAt 0 (moved_assigned moved.moves a)
    low a h = (h.0, forced a.reason h.1)
      where
        forced : (o : Option Place) → is_none o ≡ false → is_none (option_map (moved_place moved.moves) o) ≡ false
        forced None e = e
        forced (Some place) e = refl

    keep : (a : Assigned) → HasUnitReason old.clauses a → HasUnitReason new.clauses (moved_assigned moved.moves a)
    keep a h =
        let x = clause-there (finite.get old.clauses h.0.0) (members (a.lit ∷ [])) h.2 in
        let to = moved-to old new moved h.0.0 x.0 x.1.0 in (
          moved_place moved.moves h.0,
          ap (option_map (moved_place moved.moves)) h.1,
          ap (λ n. family new.clauses n) (ap (λ o. unwrap_or o h.0.0) to.1.0)
              ∙ ap (option_map (λ (y : BaseClause). set.contains y.literals)) to.1.1 ∙ ap Some x.1.1,
        )

    units : (place : ℕ) (l : Literal) → family new.clauses place ≡ Some (members (l ∷ []))
        → (IsFalse old.trail.assigned l ⊎ IsSettled old.clauses old.trail.assigned l)
        ⊎ IsSettled new.clauses (map (moved_assigned moved.moves) old.trail.assigned) l
    units place l e =
        let x = clause-there (finite.get new.clauses place) (members (l ∷ [])) e in
        let from = moved-from old new moved place x.0 x.1.0 in
        inl (g.units from.0 l (ap (option_map (λ (y : BaseClause). set.contains y.literals)) from.1.1 ∙ ap Some x.1.1))
