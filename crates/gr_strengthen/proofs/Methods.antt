-- the calls of a strengthener
use Rattle.std.proofs.Common.{◌≡◌, inl, inr, ℕ, ◌<◌, ◌≤◌, true, false, List, [], ◌∷◌, length, take, get_or, Some, None, sym, ap, ◌∙◌, subst, arith}
use Rattle.std.specs.Prelude.{All}
use Rattle.std.specs.FinMap as finite
use Rattle.std.specs.FinSet as set
use Rattle.std.proofs.lemmas.Option.{get_or_from_slice_get, slice_get_within}
use Rattle.gr_logic.specs.Literals.{Literal}
use Rattle.gr_logic.specs.Formulas.{Cnf}
use Rattle.gr_logic.specs.Rup.{members}
use Rattle.gr_logic.specs.Closure.{ClauseFamily, InClosure, DerivesConflict, no_literals}
use Rattle.gr_logic.specs.declared.places.Place.{Place}
use Rattle.gr_trail.specs.Trails.{Assigned, TrailState, true_in}
use Rattle.gr_trail.proofs.Standing.{true-at}
use Rattle.gr_prop.specs.Bases.{BaseState, Clauses, LacksId, decisions, IsUnitClosure}
use Rattle.gr_prop.specs.BaseChanges.{IsForcedAt, IsGrown, IsCompacted, Ends}
use Rattle.gr_prop.specs.declared.bases.Propagated.TheVariants.{Quiet, Conflict}
use Rattle.gr_strengthen.specs.Families.{cited_family, clauses_above}
use Rattle.gr_strengthen.specs.Holding.{HasUnitReason, IsGrounded, HasFormula, IsHolding}
use Rattle.gr_strengthen.specs.LettingGo.{HasUniqueIds, AreLetGo, IsMoved}
use Rattle.gr_strengthen.specs.Loading.{IsEntered, IsLoaded}
use Rattle.gr_logic.specs.declared.items.Strengthened.{Strengthened}
use Rattle.gr_strengthen.specs.declared.units.Derived.{Derived}
use Rattle.gr_strengthen.specs.Outcomes.{HasUnit, HasItsUnits, IsMissingUnit, IsStrengthened}
use Rattle.gr_strengthen.specs.Strengtheners.{StrengthenerState}
use Rattle.gr_strengthen.specs.Walking.{Represents}
use Rattle.gr_strengthen.proofs.Agreement.{part, conflict-too, same-closure}
use Rattle.gr_strengthen.proofs.Cited.{represents, uncited}
use Rattle.gr_strengthen.proofs.Grounded.{grounded-grown}
use Rattle.gr_strengthen.proofs.Regrounded.{moved-grounded}
use Rattle.gr_strengthen.proofs.Loaded.{formula-insert, formula-moved}
use Rattle.gr_strengthen.proofs.KeptMaps.{above-insert, above-none, above-moved}
use Rattle.gr_strengthen.proofs.Rests.{take-all}
use Rattle.gr_strengthen.proofs.WalkTrails.{no-decisions}

-- what contracts see
abbrev pub seen : Cnf → Clauses → StrengthenerState
seen f clauses = record { formula = f; kept = clauses_above (length f.clauses) clauses }

-- ---- a clause is kept
pub keep-holding : (f : Cnf) (old new : BaseState) (settled x y id : ℕ) (c : List Literal)
    → IsHolding f old.clauses old.trail settled x y → IsEntered old new id c → length f.clauses < id
    → LacksId old.clauses id → IsHolding f new.clauses new.trail settled x y
keep-holding f old new settled x y id c h entered high lacks = record {
  formula = subst (λ k. HasFormula f k (length f.clauses)) (sym entered.clauses)
      (formula-insert f old.clauses entered.place (record { id = id; lbd = entered.lbd; literals = set.from_list c })
      entered.fresh lacks high h.formula);
  grounded = entered.grounded f settled h.grounded;
  forced' = h.forced';
  decided' = h.decided';
}

pub keep-kept : (f : Cnf) (old new : BaseState) (id : ℕ) (c : List Literal) → HasUniqueIds old.clauses
    → IsEntered old new id c → length f.clauses < id → LacksId old.clauses id
    → clauses_above (length f.clauses) new.clauses
    ≡ finite.insert (clauses_above (length f.clauses) old.clauses) id (set.from_list c)
keep-kept f old new id c unique entered high lacks =
    ap (clauses_above (length f.clauses)) entered.clauses
    ∙ above-insert (length f.clauses) old.clauses entered.place
    (record { id = id; lbd = entered.lbd; literals = set.from_list c }) unique lacks entered.fresh high

-- ---- a new strengthener
pub new-holding : (f : Cnf) (b : BaseState) (x y : ℕ) → IsLoaded f b (length f.clauses) → x ≡ f.vars → y ≡ f.vars
    → IsHolding f b.clauses b.trail 0 x y
new-holding f b x y loaded forced decided = record {
  formula = loaded.formula;
  grounded = loaded.grounded;
  forced' = forced;
  decided' = decided;
}

pub new-kept : (f : Cnf) (b : BaseState) → IsLoaded f b (length f.clauses)
    → clauses_above (length f.clauses) b.clauses ≡ finite.empty
new-kept f b loaded = above-none (length f.clauses) b.clauses loaded.low

-- ---- the trail grows at level zero
pub grown-holding : (f : Cnf) (old new : Clauses) (t u : TrailState) (settled x y v w : ℕ)
    → IsHolding f old t settled x y → new ≡ old → IsGrown t u → v ≡ f.vars → w ≡ f.vars → IsHolding f new u settled v w
grown-holding f old new t u settled x y v w h same grown forced decided =
    subst (λ k. IsHolding f k u settled v w) (sym same) (record {
      formula = h.formula;
      grounded = grounded-grown f old t u settled grown h.grounded;
      forced' = forced;
      decided' = decided;
    })

pub propagated : {f : Cnf} {settled x y : ℕ} (old new : BaseState) → IsHolding f old.clauses old.trail settled x y
    → new.clauses ≡ old.clauses → IsGrown old.trail new.trail → IsHolding f new.clauses new.trail settled x y
propagated {f = f} {settled = settled} {x = x} {y = y} old new h same grown =
    grown-holding f old.clauses new.clauses old.trail new.trail settled x y x y h same grown h.forced' h.decided'

-- more literals at the front of the trail have their unit clauses as reasons
pub settled-holding : {f : Cnf} {settled x y : ℕ} (b : BaseState) (more v w : ℕ)
    → IsHolding f b.clauses b.trail settled x y → more ≤ length b.trail.assigned
    → All (HasUnitReason b.clauses) (take more b.trail.assigned) → v ≡ f.vars → w ≡ f.vars
    → IsHolding f b.clauses b.trail more v w
settled-holding b more v w h within done forced decided = record {
  formula = h.formula;
  grounded = record {
    ground = h.grounded.ground;
    vars = h.grounded.vars;
    low = h.grounded.low;
    units = h.grounded.units;
    within = within;
    done = done;
  };
  forced' = forced;
  decided' = decided;
}

-- ---- units
none-given : (t : TrailState) → All (IsForcedAt 0) t.assigned → members (decisions t.assigned) ≡ no_literals
none-given t low = ap members (no-decisions 0 t.assigned low) ∙ (λ i q. false)

pub conflict-units : (f : Cnf) (b : BaseState) (place : Place) (settled : ℕ) → HasFormula f b.clauses (length f.clauses)
    → IsGrounded f b.clauses b.trail settled → Ends (Conflict place) b
    → HasItsUnits (cited_family f (clauses_above (length f.clauses) b.clauses))
conflict-units f b place settled formula g ends =
    inl (subst (DerivesConflict (cited_family f (clauses_above (length f.clauses) b.clauses)))
    (none-given b.trail g.low)
    (conflict-too (cited_family f (clauses_above (length f.clauses) b.clauses)) b.clauses
    (represents f b.clauses formula)
    (members (decisions b.trail.assigned)) ends.3))

pub all-units : (f : Cnf) (b : BaseState) (settled : ℕ) → HasFormula f b.clauses (length f.clauses)
    → IsGrounded f b.clauses b.trail settled → settled ≡ length b.trail.assigned → Ends Quiet b
    → HasItsUnits (cited_family f (clauses_above (length f.clauses) b.clauses))
all-units f b settled formula g all ends = inr (λ l derived. unit l ((same.closure l).1
    (subst (λ s. InClosure k s l) (sym (none-given b.trail g.low)) derived)))
  where
    k : ClauseFamily
    k = cited_family f (clauses_above (length f.clauses) b.clauses)

    is : Represents k b.clauses
    is = represents f b.clauses formula

    same : IsUnitClosure k (decisions b.trail.assigned) b.trail.assigned
    same = same-closure k b.clauses is (decisions b.trail.assigned) b.trail.assigned ends.2

    unit : (l : Literal) → true_in b.trail.assigned l ≡ true → HasUnit k l
    unit l holds =
        let at = true-at b.trail.assigned l holds in
        let inside = slice_get_within b.trail.assigned at.0 at.1 at.2 in
        let r : HasUnitReason b.clauses (get_or (take settled b.trail.assigned) at.0 at.1) =
        g.done at.0 at.1 (subst (λ xs. at.0 < length xs) (sym (whole b.trail.assigned settled all)) inside) in
        let e : get_or (take settled b.trail.assigned) at.0 at.1 ≡ at.1 =
        ap (λ xs. get_or xs at.0 at.1) (whole b.trail.assigned settled all)
        ∙ get_or_from_slice_get b.trail.assigned at.0 at.1 at.1 at.2 in
        let h : HasUnitReason b.clauses at.1 = subst (HasUnitReason b.clauses) e r in
        let p = part k b.clauses is h.0.0 (members (at.1.lit ∷ [])) h.2 in
        (p.0, p.1 ∙ ap (λ q. Some (members (q ∷ []))) at.3)
      where
        whole : (xs : List Assigned) (n : ℕ) → n ≡ length xs → take n xs ≡ xs
        whole xs n e = take-all xs n (omega (arith, e))

-- ---- the clauses are moved together
pub moved-holding : (f : Cnf) (old new : BaseState) (settled x y : ℕ) → IsCompacted old new
    → IsHolding f old.clauses old.trail settled x y → IsHolding f new.clauses new.trail settled x y
moved-holding f old new settled x y moved h = record {
  formula = formula-moved f old new (length f.clauses) moved h.formula;
  grounded = moved-grounded f old new settled moved h.grounded;
  forced' = h.forced';
  decided' = h.decided';
}

pub moved-kept : (f : Cnf) (old new : BaseState) (start : Clauses) (ids : List ℕ) → IsCompacted old new
    → HasUniqueIds old.clauses
    → AreLetGo (clauses_above (length f.clauses) start) (clauses_above (length f.clauses) old.clauses) ids
    → AreLetGo (clauses_above (length f.clauses) start) (clauses_above (length f.clauses) new.clauses) ids
moved-kept f old new start ids moved unique gone =
    subst (λ kept. AreLetGo (clauses_above (length f.clauses) start) kept ids)
    (sym (above-moved old new moved (length f.clauses) unique)) gone

pub still-holding : (f : Cnf) (old new : BaseState) (settled x y : ℕ) → IsMoved old new
    → IsHolding f old.clauses old.trail settled x y → IsHolding f new.clauses new.trail settled x y
still-holding f old new settled x y (inl same) h =
    subst (λ (b : BaseState). IsHolding f b.clauses b.trail settled x y) (sym same) h
still-holding f old new settled x y (inr moved) h = moved-holding f old new settled x y moved h

pub still-kept : (f : Cnf) (old new : BaseState) (start : Clauses) (ids : List ℕ) → IsMoved old new
    → HasUniqueIds old.clauses
    → AreLetGo (clauses_above (length f.clauses) start) (clauses_above (length f.clauses) old.clauses) ids
    → AreLetGo (clauses_above (length f.clauses) start) (clauses_above (length f.clauses) new.clauses) ids
still-kept f old new start ids (inl same) unique gone =
    subst (λ (b : BaseState). AreLetGo (clauses_above (length f.clauses) start)
    (clauses_above (length f.clauses) b.clauses) ids) (sym same) gone
still-kept f old new start ids (inr moved) unique gone = moved-kept f old new start ids moved unique gone

-- ---- what is seen
pub outcome-seen : (f : Cnf) (old new : BaseState) (v : StrengthenerState) (settled x y id : ℕ) (clause : List Literal)
    (outcome : Strengthened) → IsHolding f old.clauses old.trail settled x y → new.clauses ≡ old.clauses
    → new.trail.vars ≡ old.trail.vars → seen f old.clauses ≡ v → length v.formula.clauses < id
    → finite.get v.kept id ≡ None
    → ((k : ClauseFamily) → Represents k new.clauses → k id ≡ None → IsStrengthened k new.trail.vars id clause outcome)
    → IsStrengthened (cited_family v.formula v.kept) v.formula.vars id clause outcome
outcome-seen f old new v settled x y id clause outcome h same vars is high none all =
    subst (λ (w : StrengthenerState). IsStrengthened (cited_family w.formula w.kept)
    w.formula.vars id clause outcome) is
    (subst (λ n. IsStrengthened k n id clause outcome) (vars ∙ h.grounded.vars)
    (all k (subst (Represents k) (sym same) (represents f old.clauses h.formula))
    (uncited f (clauses_above (length f.clauses) old.clauses) id
    (subst (λ (w : StrengthenerState). length w.formula.clauses < id) (sym is) high)
    (subst (λ (w : StrengthenerState). finite.get w.kept id ≡ None) (sym is) none))))
  where
    k : ClauseFamily
    k = cited_family f (clauses_above (length f.clauses) old.clauses)

pub stays-seen : (f : Cnf) (old new : Clauses) (v : StrengthenerState) → new ≡ old → seen f old ≡ v → seen f new ≡ v
stays-seen f old new v same is = ap (seen f) same ∙ is

-- a unit, or that there is none
pub unit-seen : (f : Cnf) (old new : BaseState) (v : StrengthenerState) (settled x y : ℕ) (unit : Derived)
    → IsHolding f old.clauses old.trail settled x y → new.clauses ≡ old.clauses → new.trail.vars ≡ old.trail.vars
    → seen f old.clauses ≡ v
    → ((k : ClauseFamily) → Represents k new.clauses → IsMissingUnit k new.trail.vars unit)
    → IsMissingUnit (cited_family v.formula v.kept) v.formula.vars unit
unit-seen f old new v settled x y unit h same vars is all =
    subst (λ (w : StrengthenerState). IsMissingUnit (cited_family w.formula w.kept) w.formula.vars unit) is
    (subst (λ n. IsMissingUnit k n unit) (vars ∙ h.grounded.vars)
    (all k (subst (Represents k) (sym same) (represents f old.clauses h.formula))))
  where
    k : ClauseFamily
    k = cited_family f (clauses_above (length f.clauses) old.clauses)

pub none-seen : (f : Cnf) (old new : Clauses) (v : StrengthenerState) → new ≡ old → seen f old ≡ v
    → HasItsUnits (cited_family f (clauses_above (length f.clauses) new)) → HasItsUnits (cited_family v.formula v.kept)
none-seen f old new v same is units =
    subst (λ (w : StrengthenerState). HasItsUnits (cited_family w.formula w.kept)) is
    (subst (λ k. HasItsUnits (cited_family f (clauses_above (length f.clauses) k))) same units)
