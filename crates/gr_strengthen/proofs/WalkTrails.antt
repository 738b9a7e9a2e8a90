-- the trail along a walk
use Rattle.std.proofs.Common.{◌≡◌, ◌⊎◌, inl, inr, ℕ, zero, suc, ◌+◌, ◌<◌, Bool, true, false, not, ◌||◌, cond, List, [], ◌∷◌, ◌++◌, map, Option, Some, None, IsSome, refl, sym, ap, ◌∙◌, subst, arith, if◌then◌else◌, nat_eq, nat_le, is_none}
use Rattle.std.specs.Prelude.{All, slice_get}
use Rattle.std.specs.List.{filter}
use Rattle.std.specs.Option.{option_map}
use Rattle.std.proofs.lemmas.Bool.Decides.{nat_tests}
use Rattle.std.proofs.lemmas.List.{append-nil}
use Rattle.std.proofs.lemmas.List.Elements.{All-head, All-tail}
use Rattle.gr_logic.specs.Literals.{Literal, negation, same_literal, var_of}
use Rattle.gr_logic.specs.Rup.{members}
use Rattle.gr_logic.specs.Closure.{no_literals}
use Rattle.gr_logic.specs.declared.places.Place.{Place}
use Rattle.gr_logic.proofs.Members.{members-push_at}
use Rattle.gr_logic.proofs.Sound.{same_literal-is}
use Rattle.gr_logic.proofs.SameLiteral.{same_literal-itself, members-first, members-later, negation-negation, negated-is, or-true}
use Rattle.gr_trail.specs.Trails.{Assigned, TrailState, true_in, value_in, assigned_to, up_to}
use Rattle.gr_trail.proofs.Climbing.{some-is, mapped}
use Rattle.gr_trail.proofs.Standing.{at-true, stands-at}
use Rattle.gr_prop.specs.Bases.{BaseState, family, decisions, IsBase, IsUnitClosure}
use Rattle.gr_prop.specs.BaseChanges.{IsForcedAt, IsGrown, with_decision}
use Rattle.gr_prop.proofs.TrailSets.{true_in-append, true_in-more, up_to-append}
use Rattle.gr_prop.proofs.Founded.{founded-at, Before}
use Rattle.gr_hints.specs.Graphs.{IsFalse}
use Rattle.gr_strengthen.specs.Walking.{AreKeptDecisions, IsSpentAt}

-- what is forced is no decision
pub no-decisions : (level : ℕ) (xs : List Assigned) → All (IsForcedAt level) xs → decisions xs ≡ []
no-decisions level [] all = refl
no-decisions level (x ∷ xs) all =
    let here = All-head (IsForcedAt level) x xs all in
    let rest = no-decisions level xs (All-tail (IsForcedAt level) x xs all) in
    ap (λ b. map (λ (a : Assigned). a.lit) (if b then x ∷ filter (λ a. is_none a.reason) xs else
    filter (λ a. is_none a.reason) xs)) here.1 ∙ rest

-- what is forced at level zero stays there
pub all-low : (xs : List Assigned) → All (IsForcedAt 0) xs → up_to 0 xs ≡ xs
all-low [] all = refl
all-low (x ∷ xs) all =
    let here = All-head (IsForcedAt 0) x xs all in
    let rest = all-low xs (All-tail (IsForcedAt 0) x xs all) in
    let t : nat_le x.level 0 ≡ true = let e = here.0 in grind (arith, nat_tests, e) in
    ap (λ b. if b then x ∷ up_to 0 xs else up_to 0 xs) t ∙ ap (λ l. x ∷ l) rest

-- and what is forced above it does not
pub none-low : (level : ℕ) (xs : List Assigned) → 0 < level → All (IsForcedAt level) xs → up_to 0 xs ≡ []
none-low level [] high all = refl
none-low level (x ∷ xs) high all =
    let here = All-head (IsForcedAt level) x xs all in
    let rest = none-low level xs high (All-tail (IsForcedAt level) x xs all) in
    let t : nat_le x.level 0 ≡ false = let e = here.0 in grind (arith, nat_tests, e, high) in
    ap (λ b. if b then x ∷ up_to 0 xs else up_to 0 xs) t ∙ rest

-- a decision and what is forced behind it leave level zero as it is
pub low-stays : (old decided new : TrailState) (l : Literal) → decided ≡ with_decision old l → IsGrown decided new
    → up_to 0 new.assigned ≡ up_to 0 old.assigned
low-stays old decided new l is grown =
    let e : decided.assigned ≡ old.assigned ++ record { lit = l; level = old.depth + 1; reason = None } ∷ []
    = ap (λ (t : TrailState). t.assigned) is in
    let d : decided.depth ≡ old.depth + 1 = ap (λ (t : TrailState). t.depth) is in
    ap (up_to 0) grown.assigned ∙ up_to-append 0 decided.assigned grown.more
    ∙ ap (λ xs. up_to 0 decided.assigned ++ xs) (none-low decided.depth grown.more (omega arith) grown.forced)
    ∙ append-nil (up_to 0 decided.assigned)
    ∙ ap (up_to 0) e ∙ up_to-append 0 old.assigned (record { lit = l; level = old.depth + 1; reason = None } ∷ [])
    ∙ ap (λ xs. up_to 0 old.assigned ++ xs) (one (nat_le (old.depth + 1) 0) (grind (arith, nat_tests)))
    ∙ append-nil (up_to 0 old.assigned)
  where
    none-left : List Assigned
    none-left = []

    one : (b : Bool) → b ≡ false → (if b then (record { lit = l; level = old.depth + 1; reason = None }) ∷ none-left
        else none-left) ≡ none-left
    one true e = absurd (cc)
    one false e = refl

-- a decision comes behind the others
pub decisions-push : (xs : List Assigned) (l : Literal) (level : ℕ)
    → decisions (xs ++ record { lit = l; level = level; reason = None } ∷ []) ≡ decisions xs ++ l ∷ []
decisions-push [] l level = refl
decisions-push (x ∷ xs) l level = go (is_none x.reason) (decisions-push xs l level)
  where
    go : (b : Bool) → decisions (xs ++ record { lit = l; level = level; reason = None } ∷ []) ≡ decisions xs ++ l ∷ []
        → map (λ (a : Assigned). a.lit) (if b then x ∷ filter (λ a. is_none a.reason)
        (xs ++ record { lit = l; level = level; reason = None } ∷ [])
        else filter (λ a. is_none a.reason) (xs ++ record { lit = l; level = level; reason = None } ∷ []))
        ≡ map (λ (a : Assigned). a.lit) (if b then x ∷ filter (λ a. is_none a.reason) xs
        else filter (λ a. is_none a.reason) xs) ++ l ∷ []
    go true e = ap (λ ls. x.lit ∷ ls) e
    go false e = e

pub negation-push : (kept : List Literal) (l : Literal)
    → map negation (kept ++ l ∷ []) ≡ map negation kept ++ negation l ∷ []
negation-push [] l = refl
negation-push (x ∷ xs) l = ap (λ ls. negation x ∷ ls) (negation-push xs l)

pub decided-push : (old decided new : TrailState) (kept : List Literal) (l : Literal)
    → decided ≡ with_decision old (negation l) → decisions new.assigned ≡ decisions decided.assigned
    → decisions old.assigned ≡ map negation kept → decisions new.assigned ≡ map negation (kept ++ l ∷ [])
decided-push old decided new kept l is same before =
    same ∙ ap (λ (t : TrailState). decisions t.assigned) is
    ∙ decisions-push old.assigned (negation l) (old.depth + 1) ∙ ap (λ ls. ls ++ negation l ∷ []) before
    ∙ sym (negation-push kept l)

-- the decided literal is true
pub decided-true : (old decided new : TrailState) (l : Literal) → decided ≡ with_decision old l → IsGrown decided new
    → true_in new.assigned l ≡ true
decided-true old decided new l is grown =
    ap (λ xs. true_in xs l) (grown.assigned ∙ ap (λ (t : TrailState). t.assigned ++ grown.more) is)
    ∙ true_in-append (old.assigned ++ record { lit = l; level = old.depth + 1; reason = None } ∷ []) grown.more l
    ∙ ap (λ b. b || true_in grown.more l)
    (true_in-append old.assigned (record { lit = l; level = old.depth + 1; reason = None } ∷ []) l
    ∙ ap (λ b. true_in old.assigned l || (b || false)) (same_literal-itself l) ∙ or-true (true_in old.assigned l))

pub more-true : (old decided new : TrailState) (l : Literal) → decided ≡ with_decision old l → IsGrown decided new
    → (q : Literal) → true_in old.assigned q ≡ true → true_in new.assigned q ≡ true
more-true old decided new l is grown q e =
    ap (λ xs. true_in xs q) (grown.assigned ∙ ap (λ (t : TrailState). t.assigned ++ grown.more) is)
    ∙ true_in-more (old.assigned ++ record { lit = l; level = old.depth + 1; reason = None } ∷ []) grown.more q
    (true_in-more old.assigned (record { lit = l; level = old.depth + 1; reason = None } ∷ []) q e)

-- decisions are negations of kept literals
pub kept-decisions : (assigned : List Assigned) (kept : List Literal) → decisions assigned ≡ map negation kept
    → AreKeptDecisions assigned kept
kept-decisions assigned kept is q m =
    ap (members kept) (sym (negation-negation q)) ∙ sym (negated-is kept (negation q))
    ∙ ap (λ ls. members ls (negation q)) (sym is) ∙ m

pub kept-more : (assigned : List Assigned) (kept : List Literal) (l : Literal) → AreKeptDecisions assigned kept
    → AreKeptDecisions assigned (kept ++ l ∷ [])
kept-more assigned kept l all q m =
    members-push_at q kept l ∙ ap (λ b. same_literal q l || b) (all q m) ∙ or-true (same_literal q l)

-- a decision is among the decisions
pub decision-there : (xs : List Assigned) (n : ℕ) (a : Assigned) → slice_get xs n ≡ Some a → a.reason ≡ None
    → members (decisions xs) a.lit ≡ true
decision-there [] n a e none = absurd (cc)
decision-there (x ∷ xs) zero a e none =
    let is : x ≡ a = some-is x a e in
    let t : is_none x.reason ≡ true = ap (λ (y : Assigned). is_none y.reason) is ∙ ap is_none none in
    ap (λ b. members (map (λ (y : Assigned). y.lit) (if b then x ∷ filter (λ y. is_none y.reason) xs
    else filter (λ y. is_none y.reason) xs)) a.lit) t
    ∙ subst (λ (y : Assigned). members (x.lit ∷ decisions xs) y.lit ≡ true) is (members-first x.lit (decisions xs))
decision-there (x ∷ xs) (suc n) a e none = go (is_none x.reason) (decision-there xs n a e none)
  where
    go : (b : Bool) → members (decisions xs) a.lit ≡ true
        → members (map (λ (y : Assigned). y.lit) (if b then x ∷ filter (λ y. is_none y.reason) xs
        else filter (λ y. is_none y.reason) xs)) a.lit ≡ true
    go true m = members-later a.lit x.lit (decisions xs) m
    go false m = m

-- a true literal's variable has an assignment
pub true-some : (xs : List Assigned) (l : Literal) → true_in xs l ≡ true → IsSome (assigned_to xs (var_of l))
true-some [] l e = absurd (cc)
true-some (x ∷ xs) l e = go (same_literal l x.lit) refl (nat_eq (var_of x.lit) (var_of l)) refl (true-some xs l) e
  where
    go : (s : Bool) → same_literal l x.lit ≡ s → (b : Bool) → nat_eq (var_of x.lit) (var_of l) ≡ b
        → (true_in xs l ≡ true → IsSome (assigned_to xs (var_of l)))
        → (s || true_in xs l) ≡ true → IsSome (cond b (Some x) (assigned_to xs (var_of l)))
    go s is true e rest h = refl
    go true is false e rest h =
        absurd (let i : l.index ≡ x.lit.index = ap (λ (q : Literal). q.index) (same_literal-is l x.lit is) in
        let t : nat_eq (var_of x.lit) (var_of l) ≡ true = grind (arith, nat_tests, i) in cc)
    go false is false e rest h = rest h

-- the literal of a variable that has one is the true one
pub one-of-two : (p q : Literal) → p.index ≡ q.index → (p ≡ q) ⊎ (p ≡ negation q)
one-of-two p q e = signs p.positive refl q.positive refl
  where
    signs : (a : Bool) → p.positive ≡ a → (b : Bool) → q.positive ≡ b → (p ≡ q) ⊎ (p ≡ negation q)
    signs true s true t = inl (λ i. record { index = e i; positive = (s ∙ sym t) i })
    signs false s false t = inl (λ i. record { index = e i; positive = (s ∙ sym t) i })
    signs true s false t = inr (λ i. record { index = e i; positive = (s ∙ sym (ap not t)) i })
    signs false s true t = inr (λ i. record { index = e i; positive = (s ∙ sym (ap not t)) i })

-- a true literal of a quiet base: what is assigned to its variable makes it true
pub record HasLiteral (xs : List Assigned) (l : Literal) (reason : Option Place) : Type 0 where
  pub is : Assigned
  pub at : ℕ
  pub there : slice_get xs at ≡ Some is
  pub makes : is.lit ≡ l
  pub by : is.reason ≡ reason

pub has-literal : (xs : List Assigned) (l : Literal) (reason : Option Place)
    → (true_in xs l ≡ true → true_in xs (negation l) ≡ true → ⊥) → true_in xs l ≡ true
    → option_map (λ (a : Assigned). a.reason) (assigned_to xs (var_of l)) ≡ Some reason → HasLiteral xs l reason
has-literal xs l reason apart is r =
    let a = mapped (λ (x : Assigned). x.reason) (assigned_to xs (var_of l)) reason r in
    let at = stands-at xs (var_of l) a.0 a.1.0 in
    let v = at.1.1 in
    let i : a.0.lit.index ≡ l.index = omega (arith, v) in
    elim (one-of-two a.0.lit l i) as (λ _. HasLiteral xs l reason) [
      | inl e ↦ record { is = a.0; at = at.0; there = at.1.0; makes = e; by = a.1.1 }
      | inr e ↦ absurd (apart is (subst (λ (q : Literal). true_in xs q ≡ true) e (at-true xs at.0 a.0 at.1.0)))
    ]

-- it is no decision where it is no negation of a kept literal
pub not-decided : (xs : List Assigned) (kept : List Literal) (l : Literal) → decisions xs ≡ map negation kept
    → members kept (negation l) ≡ false → HasLiteral xs l None → ⊥
not-decided xs kept l decided fresh h =
    let m : members (decisions xs) l ≡ true =
    subst (λ (q : Literal). members (decisions xs) q ≡ true) h.makes (decision-there xs h.at h.is h.there h.by) in
    let n : members kept (negation l) ≡ true =
    kept-decisions xs kept decided (negation l) (ap (members (decisions xs)) (negation-negation l) ∙ m) in
    cc

-- the other literals of its reason are false
pub reason-spent : (b : BaseState) (kept : List Literal) (l : Literal) (place : Place) → IsBase b
    → HasLiteral b.trail.assigned l (Some place) → true_in b.trail.assigned l ≡ true
    → IsSpentAt b (kept ++ l ∷ []) [] (Some place)
reason-spent b kept l place base h is =
    let f = founded-at (family b.clauses) no_literals b.trail.assigned h.at h.is place base.founded h.there h.by in
    (f.clause, f.there, λ q c. go q (same_literal q h.is.lit) refl (λ s. f.others q c s))
  where
    xs : List Assigned
    xs = b.trail.assigned

    earlier : (q : Literal) → Before xs h.at (negation q) → IsFalse xs q
    earlier q w = subst (λ (p : Literal). true_in xs p ≡ true) w.makes (at-true xs w.at w.is w.there)

    go : (q : Literal) → (s : Bool) → same_literal q h.is.lit ≡ s
        → (same_literal q h.is.lit ≡ false → (no_literals (negation q) ≡ true) ⊎ Before xs h.at (negation q))
        → IsFalse xs q ⊎ ((true_in xs q ≡ true) × (members (kept ++ l ∷ []) q ≡ true))
    go q true s others =
        let e : q ≡ l = same_literal-is q h.is.lit s ∙ h.makes in
        inr (
          ap (true_in xs) e ∙ is,
          ap (members (kept ++ l ∷ [])) e ∙ members-push_at l kept l
              ∙ ap (λ b. b || members kept l) (same_literal-itself l),
        )
    go q false s others = elim (others s) as
        (λ _. IsFalse xs q ⊎ ((true_in xs q ≡ true) × (members (kept ++ l ∷ []) q ≡ true))) [
          | inl w ↦ absurd (cc)
          | inr w ↦ inl (earlier q w)
        ]

-- so it has a reason
pub some-reason : (b : BaseState) (kept : List Literal) (l : Literal) (reason : Option Place) → IsBase b
    → b.quiet ≡ true → decisions b.trail.assigned ≡ map negation kept → members kept (negation l) ≡ false
    → true_in b.trail.assigned l ≡ true
    → option_map (λ (a : Assigned). a.reason) (assigned_to b.trail.assigned (var_of l)) ≡ Some reason → IsSome reason
some-reason b kept l (Some place) base quiet decided fresh is r = refl
some-reason b kept l None base quiet decided fresh is r =
    let u : IsUnitClosure (family b.clauses) (decisions b.trail.assigned) b.trail.assigned = base.closed quiet in
    absurd (not-decided b.trail.assigned kept l decided fresh (has-literal b.trail.assigned l None
    (λ x y. u.no_conflict (inl (l, ((u.closure l).0 x, (u.closure (negation l)).0 y)))) is r))

-- a literal of value true is true
pub true-value : (xs : List Assigned) (l : Literal) → value_in xs l ≡ Some true → true_in xs l ≡ true
true-value xs l e = go (true_in xs l) (true_in xs (negation l)) e
  where
    go : (a b : Bool) → (if a then Some true else (if b then Some false else None)) ≡ Some true → a ≡ true
    go true b e = refl
    go false true e = absurd (cc)
    go false false e = absurd (cc)
