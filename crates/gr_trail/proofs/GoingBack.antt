-- what stays when a trail goes back
use Rattle.std.proofs.Common.{◌≡◌, ◌≢◌, ℕ, zero, suc, ◌<◌, ◌≤◌, Bool, true, false, ◌||◌, List, [], ◌∷◌, Option, Some, None, refl, sym, ap, ◌∙◌, subst, arith, if◌then◌else◌, nat_le, nat_eq, cond}
use Rattle.std.specs.Prelude.{slice_get}
use Rattle.std.specs.List.{find}
use Rattle.std.proofs.lemmas.Bool.{le-leb, leb-true}
use Rattle.gr_logic.specs.Literals.{Literal, negation, same_literal, var_of}
use Rattle.gr_logic.proofs.Sound.{same_literal-is}
use Rattle.gr_logic.proofs.SameLiteral.{same_literal-itself, or-true}
use Rattle.gr_trail.specs.Trails.{Assigned, TrailState, IsTrail, true_in, value_in, assigned_to, up_to}
use Rattle.gr_trail.proofs.Climbing.{some-is}
use Rattle.gr_trail.proofs.Standing.{true-at, at-true, one-place, stands-at}

-- what is true afterwards was assigned at the level or below
stays-at : (b : ℕ) (xs : List Assigned) (q : Literal) → true_in (up_to b xs) q ≡ true
    → (n : ℕ) × (a : Assigned) × (slice_get xs n ≡ Some a) × (a.lit ≡ q) × (a.level ≤ b)
stays-at b [] q e = absurd (cc)
stays-at b (x ∷ xs) q e =
    elim (nat_le x.level b) as (λ k. nat_le x.level b ≡ k → true_in (if k then x ∷ up_to b xs else up_to b xs) q ≡ true
    → (n : ℕ) × (a : Assigned) × (slice_get (x ∷ xs) n ≡ Some a) × (a.lit ≡ q) × (a.level ≤ b)) [
      | false ↦ λ _ f. let r = stays-at b xs q f in (suc r.0, r.1, r.2, r.3, r.4)
      | true ↦ λ low f. elim (same_literal q x.lit) as (λ s. same_literal q x.lit ≡ s → (s || true_in
          (up_to b xs) q) ≡ true
          → (n : ℕ) × (a : Assigned) × (slice_get (x ∷ xs) n ≡ Some a) × (a.lit ≡ q) × (a.level ≤ b)) [
            | true ↦ λ same _. (0, x, refl, sym (same_literal-is q x.lit same), leb-true x.level b low)
            | false ↦ λ _ g. let r = stays-at b xs q g in (suc r.0, r.1, r.2, r.3, r.4)
          ] refl f
    ] refl e

-- what was assigned at the level or below is true afterwards
stays : (b : ℕ) (xs : List Assigned) (n : ℕ) (a : Assigned) → slice_get xs n ≡ Some a → a.level ≤ b
    → true_in (up_to b xs) a.lit ≡ true
stays b [] n a e low = absurd (cc)
stays b (x ∷ xs) zero a e low =
    let is : a ≡ x = sym (some-is x a e) in
    let f : nat_le x.level b ≡ true = le-leb x.level b (subst (λ (y : Assigned). y.level ≤ b) is low) in
    subst (λ (y : Assigned). true_in (up_to b (x ∷ xs)) y.lit ≡ true) (some-is x a e)
    (ap (λ k. true_in (if k then x ∷ up_to b xs else up_to b xs) x.lit) f
    ∙ ap (λ s. s || true_in (up_to b xs) x.lit) (same_literal-itself x.lit))
stays b (x ∷ xs) (suc n) a e low = later (nat_le x.level b) (stays b xs n a e low)
  where
    later : (k : Bool) → true_in (up_to b xs) a.lit ≡ true → true_in
        (if k then x ∷ up_to b xs else up_to b xs) a.lit ≡ true
    later false h = h
    later true h = ap (λ s. same_literal a.lit x.lit || s) h ∙ or-true (same_literal a.lit x.lit)

-- what is assigned to a variable at the level or below stays so
pub assigned-stays : (b : ℕ) (xs : List Assigned) (var : ℕ) (a : Assigned) → assigned_to xs var ≡ Some a → a.level ≤ b
    → assigned_to (up_to b xs) var ≡ Some a
assigned-stays b [] var a e low = absurd (cc)
assigned-stays b (x ∷ xs) var a e low =
    elim (nat_eq (var_of x.lit) var) as (λ v. nat_eq (var_of x.lit) var ≡ v
    → cond v (Some x) (assigned_to xs var) ≡ Some a → assigned_to (up_to b (x ∷ xs)) var ≡ Some a) [
      | true ↦ λ v f.
          let is : x ≡ a = some-is x a f in
          let k : nat_le x.level b ≡ true = le-leb x.level b (subst (λ (y : Assigned). y.level ≤ b) (sym is) low) in
          ap (λ k. assigned_to (if k then x ∷ up_to b xs else up_to b xs) var) k
          ∙ ap (λ v. cond v (Some x) (assigned_to (up_to b xs) var)) v ∙ f
      | false ↦ λ v f. later (nat_le x.level b) v (assigned-stays b xs var a f low)
    ] refl e
  where
    later : (k : Bool) → nat_eq (var_of x.lit) var ≡ false → assigned_to (up_to b xs) var ≡ Some a
        → assigned_to (if k then x ∷ up_to b xs else up_to b xs) var ≡ Some a
    later false v h = h
    later true v h = ap (λ v. cond v (Some x) (assigned_to (up_to b xs) var)) v ∙ h

-- a literal that was assigned above the level has no value afterwards
pub opens-again : (t : TrailState) (b : ℕ) (q : Literal) (a : Assigned) → IsTrail t
    → assigned_to t.assigned (var_of q) ≡ Some a → b < a.level → value_in (up_to b t.assigned) q ≡ None
opens-again t b q a is e high =
    ap (λ k. if k then Some true else (if true_in (up_to b t.assigned) (negation q) then Some false else None))
    (gone q refl)
    ∙ ap (λ k. if k then Some false else None) (gone (negation q) refl)
  where
    gone : (l : Literal) → l.index ≡ q.index → true_in (up_to b t.assigned) l ≡ false
    gone l same = elim (true_in (up_to b t.assigned) l) as (λ k. true_in (up_to b t.assigned) l ≡ k → k ≡ false) [
      | false ↦ λ _. refl
      | true ↦ λ h.
          let r = stays-at b t.assigned l h in
          let at = stands-at t.assigned (var_of q) a e in
          let v = at.1.1 in
          let i : r.1.lit.index ≡ a.lit.index = ap (λ (y : Literal). y.index) r.3 ∙ same ∙ omega (arith, v) in
          let p = one-place t r.0 at.0 r.1 a is r.2 at.1.0 i in
          let one : r.1 ≡ a = some-is r.1 a (sym r.2 ∙ ap (slice_get t.assigned) p ∙ at.1.0) in
          let low : a.level ≤ b = subst (λ (y : Assigned). y.level ≤ b) one r.4 in
          absurd (omega (arith, low, high))
    ] refl

-- a literal that was false at the level or below is so afterwards
pub false-stays : (t : TrailState) (b : ℕ) (q : Literal) (a : Assigned) → IsTrail t
    → value_in t.assigned q ≡ Some false → assigned_to t.assigned (var_of q) ≡ Some a → a.level ≤ b
    → value_in (up_to b t.assigned) q ≡ Some false
false-stays t b q a is v e low =
    let f = falls (true_in t.assigned q) (true_in t.assigned (negation q)) v in
    let r = true-at t.assigned (negation q) f.1 in
    let at = stands-at t.assigned (var_of q) a e in
    let w = at.1.1 in
    let i : r.1.lit.index ≡ a.lit.index = ap (λ (y : Literal). y.index) r.3 ∙ omega (arith, w) in
    let p = one-place t r.0 at.0 r.1 a is r.2 at.1.0 i in
    let one : r.1 ≡ a = some-is r.1 a (sym r.2 ∙ ap (slice_get t.assigned) p ∙ at.1.0) in
    let now : true_in (up_to b t.assigned) (negation q) ≡ true =
    subst (λ (l : Literal). true_in (up_to b t.assigned) l ≡ true) r.3
    (stays b t.assigned r.0 r.1 r.2 (subst (λ (y : Assigned). y.level ≤ b) (sym one) low)) in
    ap (λ k. if k then Some true else (if true_in (up_to b t.assigned) (negation q) then Some false else None))
    (none f.0)
    ∙ ap (λ k. if k then Some false else None) now
  where
    falls : (x y : Bool) → (if x then Some true else (if y then Some false else None)) ≡ Some false
        → (x ≡ false) × (y ≡ true)
    falls true y e = absurd (cc)
    falls false true e = (refl, refl)
    falls false false e = absurd (cc)

    none : true_in t.assigned q ≡ false → true_in (up_to b t.assigned) q ≡ false
    none f = elim (true_in (up_to b t.assigned) q) as (λ k. true_in (up_to b t.assigned) q ≡ k → k ≡ false) [
      | false ↦ λ _. refl
      | true ↦ λ h.
          let r = stays-at b t.assigned q h in
          absurd (let g = at-true t.assigned r.0 r.1 r.2 in let s = ap (true_in t.assigned) r.3 in cc)
    ] refl
