-- the literals of a trail, by their places
use Rattle.std.proofs.Common.{◌≡◌, ℕ, zero, suc, ◌+◌, ◌<◌, ◌≤◌, List, [], ◌∷◌, length, Some, None, is_some, IsSome, refl, sym, ap, ◌∙◌, subst, arith, get_or, inl, inr, Bool, true, false, not, ◌||◌, ◌&&◌, nat_eq, cond, if◌then◌else◌}
use Rattle.std.specs.Prelude.{slice_get}
use Rattle.std.specs.Option.{option_map}
use Rattle.std.proofs.lemmas.Bool.{cases_eq, eq-eqb, ne_eqb}
use Rattle.std.proofs.lemmas.Option.{slice_get_within, get_or_from_slice_get}
use Rattle.gr_logic.specs.Literals.{Literal, var_of, negation, same_literal, same_sign}
use Rattle.gr_trail.specs.Trails.{Assigned, TrailState, IsTrail, assigned_to, lits_of, true_in, value_in}
use Rattle.gr_trail.proofs.Climbing.{some-is, level-order}
use Rattle.gr_trail.proofs.Standing.{assigned-at}

-- the literal stands there
pub record StandsAt (xs : List Assigned) (i : ℕ) (l : Literal) : Type 0 where
  pub is : Assigned
  pub there : slice_get xs i ≡ Some is
  pub literal : is.lit ≡ l

entry-at : (xs : List Assigned) (i : ℕ) (d : Literal) → i < length (lits_of xs)
    → StandsAt xs i (get_or (lits_of xs) i d)
entry-at [] i d low = absurd (omega (arith, low))
entry-at (x ∷ xs) zero d low = record { is = x; there = refl; literal = refl }
entry-at (x ∷ xs) (suc i) d low =
    let rest = entry-at xs i d (omega (arith, low)) in
    record { is = rest.is; there = rest.there; literal = rest.literal }

pub stands : (xs : List Assigned) (ls : List Literal) (i : ℕ) (l : Literal) → ls ≡ lits_of xs → i < length ls
    → l ≡ get_or ls i l → StandsAt xs i l
stands xs ls i l same low is =
    let low' : i < length (lits_of xs) = subst (λ ns. i < length ns) same low in
    let e : get_or (lits_of xs) i l ≡ l = sym (is ∙ ap (λ ns. get_or ns i l) same) in
    subst (StandsAt xs i) e (entry-at xs i l low')

-- it is what its variable has
pub has-value : (t : TrailState) (i : ℕ) (l : Literal) → IsTrail t → (at : StandsAt t.assigned i l)
    → assigned_to t.assigned (var_of l) ≡ Some at.is
has-value t i l trail at =
    subst (λ q. assigned_to t.assigned (var_of q) ≡ Some at.is) at.literal
    (assigned-at t i at.is trail at.there)

pub is-assigned : (t : TrailState) (i : ℕ) (l : Literal) (var : ℕ) → IsTrail t → StandsAt t.assigned i l
    → var ≡ var_of l → IsSome (assigned_to t.assigned var)
is-assigned t i l var trail at same =
    subst (λ n. IsSome (assigned_to t.assigned n)) (sym same) (ap is_some (has-value t i l trail at))

pub is-known : (t : TrailState) (i : ℕ) (l : Literal) → IsTrail t → StandsAt t.assigned i l → l.index < t.vars
is-known t i l trail at =
    let low : i < length t.assigned = slice_get_within t.assigned i at.is at.there in
    let known = trail.within i at.is low in
    let same : get_or t.assigned i at.is ≡ at.is = get_or_from_slice_get t.assigned i at.is at.is at.there in
    subst (λ q. q.index < t.vars) at.literal (subst (λ (a : Assigned). a.lit.index < t.vars) same known)

pub known-at : (t : TrailState) (ls : List Literal) (i : ℕ) (l : Literal) → IsTrail t → ls ≡ lits_of t.assigned
    → i < length ls → l ≡ get_or ls i l → l.index < t.vars
known-at t ls i l trail same low is = is-known t i l trail (stands t.assigned ls i l same low is)

-- where it was assigned at a level or below, so was what stands before it
pub low-before : (t : TrailState) (i : ℕ) (l : Literal) (var level b : ℕ) → IsTrail t → StandsAt t.assigned i l
    → var ≡ var_of l → option_map (λ a. a.level) (assigned_to t.assigned var) ≡ Some level → level ≤ b
    → (k : ℕ) (a : Assigned) → k < i + 1 → slice_get t.assigned k ≡ Some a → a.level ≤ b
low-before t i l var level b trail at same told low k a before here =
    let value = ap (λ n. assigned_to t.assigned n) same ∙ has-value t i l trail at in
    let own : at.is.level ≡ level = some-is at.is.level level
    (sym (ap (option_map (λ (x : Assigned). x.level)) value) ∙ told) in
    elim (cases_eq k i) as (λ _. a.level ≤ b) [
      | inl one ↦
          let is : a ≡ at.is = some-is a at.is (sym here ∙ ap (slice_get t.assigned) one ∙ at.there) in
          omega (arith, own, low, ap (λ (x : Assigned). x.level) is)
      | inr apart ↦
          let order = level-order 0 t.assigned t.depth k i a at.is trail.climbs here at.there
          (grind (arith, before, apart)) in
          omega (arith, order.0, own, low)
    ]

-- a literal that has a value is of an assigned variable
pub value-assigned : (xs : List Assigned) (l : Literal) → is_some (value_in xs l) ≡ true
    → IsSome (assigned_to xs (var_of l))
value-assigned [] l some = absurd (cc)
value-assigned (x ∷ xs) l some =
    elim (cases_eq x.lit.index l.index) as (λ _. IsSome (assigned_to (x ∷ xs) (var_of l))) [
      | inl same ↦
          let e : nat_eq (var_of x.lit) (var_of l) ≡ true = eq-eqb (var_of x.lit) (var_of l) (omega (arith, same)) in
          subst (λ (b : Bool). IsSome (cond b (Some x) (assigned_to xs (var_of l)))) (sym e) refl
      | inr apart ↦
          let e : nat_eq (var_of x.lit) (var_of l) ≡ false =
          ne_eqb (var_of x.lit) (var_of l) (λ s. apart (omega (arith, s))) in
          let one : same_literal l x.lit ≡ false =
          ap (λ b. b && same_sign l.positive x.lit.positive) (ne_eqb l.index x.lit.index (λ s. apart (sym s))) in
          let other : same_literal (negation l) x.lit ≡ false =
          ap (λ b. b && same_sign (not l.positive) x.lit.positive) (ne_eqb l.index x.lit.index (λ s. apart (sym s))) in
          let rest : is_some (value_in xs l) ≡ true =
          sym ((λ i. is_some (if one i || true_in xs l then Some true
          else (if other i || true_in xs (negation l) then Some false else None)))) ∙ some in
          subst (λ (b : Bool). IsSome (cond b (Some x) (assigned_to xs (var_of l)))) (sym e) (value-assigned xs l rest)
    ]
