-- literals of the trail and their unit clauses
use Rattle.std.proofs.Common.{◌≡◌, ◌≢◌, ◌⊎◌, inl, inr, ℕ, zero, suc, ◌+◌, ◌<◌, Bool, true, false, ◌||◌, List, [], ◌∷◌, ◌++◌, length, take, get_or, Option, Some, None, IsSome, refl, sym, ap, ◌∙◌, subst, arith, is_none}
use Rattle.std.specs.Prelude.{All, slice_get}
use Rattle.std.specs.Option.{option_map}
use Rattle.std.proofs.lemmas.List.{length-map}
use Rattle.std.proofs.lemmas.List.Elements.{All-cons, All-nil, All-get_or, All-more}
use Rattle.std.proofs.lemmas.Option.{get_or_from_slice_get, slice_get_within}
use Rattle.gr_logic.specs.Literals.{Literal, negation, same_literal, var_of}
use Rattle.gr_logic.specs.NormalForms.{IsNormal}
use Rattle.gr_logic.specs.Rup.{LiteralSet, members, negated}
use Rattle.gr_logic.specs.Closure.{ClauseFamily, InClosure, DerivesConflict, no_literals}
use Rattle.gr_logic.specs.declared.places.Place.{Place}
use Rattle.gr_logic.proofs.Sound.{same_literal-is}
use Rattle.gr_logic.proofs.SameLiteral.{members-first, members-later, negated-is, negation-negation}
use Rattle.gr_arena.specs.Arenas.{ArenaState, Has, at}
use Rattle.gr_trail.specs.Trails.{Assigned, TrailState, IsTrail, true_in, assigned_to, lits_of}
use Rattle.gr_trail.proofs.Climbing.{some-is}
use Rattle.gr_trail.proofs.Standing.{at-true, assigned-at, not-both, one-place, stands-at}
use Rattle.gr_hints.specs.Gathering.{literals_at, Lead, reason_ids}
use Rattle.gr_prop.specs.Bases.{BaseState, clauses_in, family, decisions, IsUnitClosure}
use Rattle.gr_prop.specs.BaseChanges.{IsForcedAt}
use Rattle.gr_prop.proofs.Stores.{family-there}
use Rattle.gr_hints.specs.Graphs.{IsGraph, IsFalse}
use Rattle.gr_strengthen.specs.Holding.{HasUnitReason, IsSettled, AreSettled}
use Rattle.gr_strengthen.specs.Outcomes.{HasUnit, IsJustified, IsMissingUnit}
use Rattle.gr_strengthen.specs.Reaching.{Reach, IsReached, Falsifies}
use Rattle.gr_strengthen.specs.Unsettled.{IsUnsettledAt}
use Rattle.gr_strengthen.specs.Walking.{Represents, HasBothSigns}
use Rattle.gr_strengthen.specs.declared.units.Derived.{Derived}
use Rattle.gr_strengthen.proofs.Accepting.{justified, cites-at}
use Rattle.gr_strengthen.proofs.Agreement.{same-closure, two-signs}
use Rattle.gr_hints.proofs.Graphs.{reasoned-at}
use Rattle.gr_strengthen.proofs.Graphing.{others-false}
use Rattle.gr_strengthen.proofs.Reached.{reason-assigned}
use Rattle.gr_strengthen.proofs.WalkTrails.{no-decisions, decision-there}

-- ---- the literal at an index
at-lit : (xs : List Assigned) (i : ℕ) (d : Literal) → i < length xs
    → (a : Assigned) × (slice_get xs i ≡ Some a) × (get_or (lits_of xs) i d ≡ a.lit)
at-lit [] i d low = absurd (omega arith)
at-lit (x ∷ xs) zero d low = (x, refl, refl)
at-lit (x ∷ xs) (suc i) d low = at-lit xs i d (omega arith)

pub record StandsAt (t : TrailState) (index : ℕ) (l : Literal) : Type 0 where
  pub is : Assigned
  pub there : slice_get t.assigned index ≡ Some is
  pub makes : is.lit ≡ l
  pub to : assigned_to t.assigned (var_of l) ≡ Some is

pub stands : (t : TrailState) (lits : List Literal) (index : ℕ) (l : Literal) → IsTrail t → lits ≡ lits_of t.assigned
    → index < length t.assigned → l ≡ get_or lits index l → StandsAt t index l
stands t lits index l trail are low is =
    let f = at-lit t.assigned index l low in
    let e : f.0.lit ≡ l = sym (is ∙ ap (λ ls. get_or ls index l) are ∙ f.2) in
    record {
      is = f.0;
      there = f.1;
      makes = e;
      to = ap (assigned_to t.assigned) (ap var_of (sym e)) ∙ assigned-at t index f.0 trail f.1;
    }

-- read with any default
pub read-is : (t : TrailState) (index : ℕ) (l : Literal) (s : StandsAt t index l) (d : Assigned)
    → get_or t.assigned index d ≡ s.is
read-is t index l s d = get_or_from_slice_get t.assigned index s.is d s.there

pub stands-some : (t : TrailState) (index : ℕ) (l : Literal) (v : ℕ) → StandsAt t index l → v ≡ var_of l
    → IsSome (assigned_to t.assigned v)
stands-some t index l v s e = subst IsSome (sym (ap (assigned_to t.assigned) e ∙ s.to)) refl

pub stands-by : (t : TrailState) (index : ℕ) (l : Literal) (v : ℕ) (o : Option Place) → (s : StandsAt t index l)
    → v ≡ var_of l → option_map (λ (a : Assigned). a.reason) (assigned_to t.assigned v) ≡ Some o → s.is.reason ≡ o
stands-by t index l v o s e r =
    some-is s.is.reason o (sym (ap (option_map (λ (a : Assigned). a.reason))
    (ap (assigned_to t.assigned) e ∙ s.to)) ∙ r)

-- ---- clauses of one literal
pub one-member : (x q : Literal) → members (x ∷ []) q ≡ true → q ≡ x
one-member x q m = go (same_literal q x) refl m
  where
    go : (b : Bool) → same_literal q x ≡ b → (b || members [] q) ≡ true → q ≡ x
    go true e m = same_literal-is q x e
    go false e m = absurd (cc)

pub only-one : (ls : List Literal) (l : Literal) → length ls ≡ 1 → members ls l ≡ true → ls ≡ l ∷ []
only-one [] l e m = absurd (omega arith)
only-one (x ∷ []) l e m = let is : l ≡ x = one-member x l m in λ i. sym is i ∷ []
only-one (x ∷ y ∷ rest) l e m = absurd (omega arith)

pub unit-long : (ls : List Literal) (l : Literal) → IsNormal ls → members ls ≡ members (l ∷ []) → length ls ≡ 1
unit-long [] l normal e =
    let f : members [] l ≡ true = ap (λ s. s l) e ∙ members-first l [] in absurd (cc)
unit-long (x ∷ []) l normal e = omega arith
unit-long (x ∷ y ∷ rest) l normal e =
    let a : x ≡ l = one-member l x (ap (λ s. s x) (sym e) ∙ members-first x (y ∷ rest)) in
    let b : y ≡ l = one-member l y (ap (λ s. s y) (sym e) ∙ members-later y x (y ∷ rest) (members-first y rest)) in
    absurd (normal.0 y (members-first y rest) (ap (λ (q : Literal). q.index) (b ∙ sym a)))

-- what has no reason has no unit clause as one
pub no-unit-reason : (b : BaseState) (t : TrailState) (index : ℕ) (l : Literal) → t ≡ b.trail → (s : StandsAt t index l)
    → (d : Assigned) → s.is.reason ≡ None → HasUnitReason b.clauses (get_or b.trail.assigned index d) → ⊥
no-unit-reason b t index l trail s d none h =
    let e : get_or b.trail.assigned index d ≡ s.is =
    ap (λ (u : TrailState). get_or u.assigned index d) (sym trail) ∙ read-is t index l s d in
    let f : Some h.0 ≡ None = sym h.1 ∙ ap (λ (x : Assigned). x.reason) e ∙ none in
    cc

-- the reason is a clause of the base, with its literal
module _ (b : BaseState) (arena : ArenaState) (t : TrailState) (index : ℕ) (l : Literal) (g : IsGraph arena t)
    (same : clauses_in arena.clauses ≡ b.clauses) (trail : t ≡ b.trail) (s : StandsAt t index l) where
  module _ (place : Place) (by : s.is.reason ≡ Some place) where
    pub reason-there : Has arena place
    reason-there = (reasoned-at arena no_literals t.assigned index s.is place g.reasoned s.there by).0

    pub reason-of-lit : literals_at arena place l ≡ true
    reason-of-lit = ap (literals_at arena place) (sym s.makes)
        ∙ (reasoned-at arena no_literals t.assigned index s.is place g.reasoned s.there by).1.has

    pub reason-family : family b.clauses place.0 ≡ Some (literals_at arena place)
    reason-family = ap (λ k. family k place.0) (sym same) ∙ family-there arena.clauses place.0 reason-there

    read : (d : Assigned) → s.is ≡ get_or b.trail.assigned index d
    read d = sym (ap (λ (u : TrailState). get_or u.assigned index d) (sym trail) ∙ read-is t index l s d)

    pub has-unit : (d : Assigned) → length (at arena place).lits ≡ 1
        → HasUnitReason b.clauses (get_or b.trail.assigned index d)
    has-unit d long = subst (HasUnitReason b.clauses) (read d) (
      place,
      by,
      reason-family ∙ ap (λ ls. Some (members ls)) (only-one (at arena place).lits l long reason-of-lit)
          ∙ ap (λ q. Some (members (q ∷ []))) (sym s.makes),
    )

    pub has-no-unit : (d : Assigned) → length (at arena place).lits ≢ 1
        → HasUnitReason b.clauses (get_or b.trail.assigned index d) → ⊥
    has-no-unit d long h = go (subst (HasUnitReason b.clauses) (sym (read d)) h)
      where
        go : HasUnitReason b.clauses s.is → ⊥
        go (p, r, f) =
            let e : p ≡ place = some-is p place (sym r ∙ by) in
            let m : literals_at arena place ≡ members (s.is.lit ∷ []) =
            some-set (literals_at arena place) (members (s.is.lit ∷ []))
            (sym reason-family ∙ ap (λ (x : Place). family b.clauses x.0) (sym e) ∙ f) in
            long (unit-long (at arena place).lits s.is.lit (g.normal place reason-there) m)
          where
            some-set : (x y : LiteralSet) → Some x ≡ Some y → x ≡ y
            some-set x y e = cc

  -- ---- a missing unit
  module _ (place : Place) (by : s.is.reason ≡ Some place) (low : All (IsForcedAt 0) b.trail.assigned)
      (u : IsUnitClosure (family b.clauses) (decisions b.trail.assigned) b.trail.assigned)
      (settled : AreSettled b.clauses b.trail.assigned) (unsettled : IsUnsettledAt b.clauses b.trail.assigned index)
      (within : index < length b.trail.assigned) (k : ClauseFamily) (is : Represents k b.clauses) where
    none : decisions b.trail.assigned ≡ []
    none = no-decisions 0 b.trail.assigned low

    given : members (decisions b.trail.assigned) ≡ no_literals
    given = ap members none ∙ (λ i q. false)

    all : IsUnitClosure k (decisions b.trail.assigned) b.trail.assigned
    all = same-closure k b.clauses is (decisions b.trail.assigned) b.trail.assigned u

    holds-t : true_in t.assigned l ≡ true
    holds-t = subst (λ (q : Literal). true_in t.assigned q ≡ true) s.makes (at-true t.assigned index s.is s.there)

    holds : true_in b.trail.assigned l ≡ true
    holds = ap (λ (u : TrailState). true_in u.assigned l) (sym trail) ∙ holds-t

    calm : ¬ DerivesConflict k no_literals
    calm c = all.no_conflict (subst (DerivesConflict k) (sym given) c)

    derived : InClosure k no_literals l
    derived = subst (λ s. InClosure k s l) given ((all.closure l).0 holds)

    missing : ¬ HasUnit k l
    missing h = go (is.others h.0 (members (l ∷ [])) h.1)
      where
        at-place : (place : ℕ) → IsFalse b.trail.assigned l ⊎ IsSettled b.clauses b.trail.assigned l → ⊥
        at-place p (inl gone) =
            let n = not-both t l g.trail (ap (λ (u : TrailState). true_in u.assigned (negation l)) trail ∙ gone) in
            let h = holds-t in cc
        at-place p (inr x) =
            let stood : slice_get t.assigned x.0 ≡ Some x.1 =
            ap (λ (u : TrailState). slice_get u.assigned x.0) trail ∙ x.2 in
            let place : x.0 ≡ index = one-place t x.0 index x.1 s.is g.trail stood s.there
            (ap (λ (q : Literal). q.index) (x.3 ∙ sym s.makes)) in
            let a : x.1 ≡ s.is = some-is x.1 s.is (sym stood ∙ ap (slice_get t.assigned) place ∙ s.there) in
            let e : x.1 ≡ get_or b.trail.assigned index s.is =
            a ∙ sym (ap (λ (u : TrailState). get_or u.assigned index s.is) (sym trail) ∙ read-is t index l s s.is) in
            unsettled s.is within (subst (HasUnitReason b.clauses) e x.4)

        go : ((place : ℕ) × (family b.clauses place ≡ Some (members (l ∷ [])))) ⊎ HasBothSigns (members (l ∷ [])) → ⊥
        go (inl p) = at-place p.0 (settled p.0 l p.1)
        go (inr two) = two-signs two.0 l (one-member l two.0 two.1) (one-member l (negation two.0) two.2)

    -- each literal of the reason but its own is false
    valued : (q : Literal) → literals_at arena place q ≡ true → (q ≡ l) ⊎ IsFalse t.assigned q
    valued q m = go (same_literal q s.is.lit) refl
      where
        go : (b : Bool) → same_literal q s.is.lit ≡ b → (q ≡ l) ⊎ IsFalse t.assigned q
        go true e = inl (same_literal-is q s.is.lit e ∙ s.makes)
        go false e =
            inr (others-false arena t.assigned index s.is place g.reasoned s.there by q m e)

    pub source-assigned : All (λ (q : Literal). IsSome (assigned_to t.assigned (var_of q))) (at arena place).lits
    source-assigned = reason-assigned arena t (var_of l) s.is place g s.to by

    module _ (r : Reach) (reached : IsReached arena t.assigned (at arena place).lits r) where
      falsified : Falsifies t.assigned r (at arena place).lits (negated (l ∷ []))
      falsified = record {
        decided = λ q gone mark.
            let f = reached.ofs.decided (var_of q) mark in
            absurd (undecided f.0 (var_of q) f.1 f.2);
        true' = λ q m yes'. own q (valued q m) yes';
      }
        where
          undecided : (a : Assigned) (v : ℕ) → assigned_to t.assigned v ≡ Some a → a.reason ≡ None → ⊥
          undecided a v to free =
              let at = stands-at t.assigned v a to in
              let m : members (decisions b.trail.assigned) a.lit ≡ true =
              ap (λ (u : TrailState). members (decisions u.assigned) a.lit) (sym trail)
              ∙ decision-there t.assigned at.0 a at.1.0 free in
              let e : members (decisions b.trail.assigned) a.lit ≡ false = ap (λ ls. members ls a.lit) none in
              cc

          own : (q : Literal) → (q ≡ l) ⊎ IsFalse t.assigned q → true_in t.assigned q ≡ true
              → negated (l ∷ []) (negation q) ≡ true
          own q (inl e) h =
              negated-is (l ∷ []) (negation q) ∙ ap (members (l ∷ [])) (negation-negation q ∙ e) ∙ members-first l []
          own q (inr gone) h = absurd (let n = not-both t q g.trail gone in cc)

      pub is-missing : (unit : Derived) → unit.lit ≡ l
          → Lead arena r.forced t.assigned (reason_ids arena r.forced t.assigned)
          → unit.hints ≡ reason_ids arena r.forced t.assigned ++ (at arena place).id ∷ []
          → IsMissingUnit k b.trail.vars unit
      is-missing unit e lead gathered = record {
        calm = calm;
        derived = subst (InClosure k no_literals) (sym e) derived;
        missing = subst (λ q. ¬ HasUnit k q) (sym e) missing;
        justified = subst (λ q. IsJustified k b.trail.vars (q ∷ []) unit.hints) (sym e)
            (justified k b.clauses arena t (at arena place).lits r (l ∷ [])
            (at arena place).id unit.hints is.cites same g
            reached falsified lead gathered (cites-at k b.clauses arena place is.cites same reason-there')
            (λ q m. both q (valued q m)) b.trail.vars ((λ q m. absurd (cc)), tt)
            (All-cons (λ (q : Literal). q.index < b.trail.vars) l [] known
            (All-nil (λ (q : Literal). q.index < b.trail.vars))));
      }
        where
          reason-there' : Has arena place
          reason-there' = reason-there place by

          both : (q : Literal) → (q ≡ l) ⊎ IsFalse t.assigned q → IsFalse t.assigned q ⊎ (true_in t.assigned q ≡ true)
          both q (inl e) = inr (ap (true_in t.assigned) e ∙ holds-t)
          both q (inr gone) = inl gone

          known : l.index < b.trail.vars
          known =
              let inside = slice_get_within t.assigned index s.is s.there in
              let w : (get_or t.assigned index s.is).lit.index < t.vars =
              All-get_or (λ (a : Assigned). a.lit.index < t.vars) t.assigned index s.is inside g.trail.within in
              let v : l.index < t.vars = subst (λ (q : Literal). q.index < t.vars)
              (ap (λ (a : Assigned). a.lit) (read-is t index l s s.is) ∙ s.makes) w in
              subst (λ (u : TrailState). l.index < u.vars) trail v

-- what was forced at level zero has a reason
pub low-reason : (b : BaseState) (t : TrailState) (index : ℕ) (l : Literal) (o : Option Place) → t ≡ b.trail
    → (s : StandsAt t index l) → All (IsForcedAt 0) b.trail.assigned → s.is.reason ≡ o → IsSome o
low-reason b t index l (Some place) trail s low by = refl
low-reason b t index l None trail s low by =
    let inside = slice_get_within t.assigned index s.is s.there in
    let f : IsForcedAt 0 (get_or t.assigned index s.is) =
    subst (λ (u : TrailState). IsForcedAt 0 (get_or u.assigned index s.is)) (sym trail)
    (low index s.is (subst (λ (u : TrailState). index < length u.assigned) trail inside)) in
    let e : is_none s.is.reason ≡ false = ap (λ (a : Assigned). is_none a.reason)
    (sym (read-is t index l s s.is)) ∙ f.1 in
    let g : is_none s.is.reason ≡ true = ap is_none by in
    absurd (cc)

-- the trail is as long as its literals
pub lits-long : (t : TrailState) (lits : List Literal) → lits ≡ lits_of t.assigned → length lits ≡ length t.assigned
lits-long t lits is = ap length is ∙ each t.assigned
  where
    each : (xs : List Assigned) → length (lits_of xs) ≡ length xs
    each xs = length-map xs (λ (a : Assigned). a.lit)

-- one more element has a property, whichever default it is read with
pub one-more : (P : Assigned → Type 0) (xs : List Assigned) (i : ℕ) → i < length xs → All P (take i xs)
    → ((d : Assigned) → P (get_or xs i d)) → All P (take (i + 1) xs)
one-more P [] i low all next = absurd (omega arith)
one-more P (x ∷ xs) i low all next = All-more P (x ∷ xs) i x low all (next x)
