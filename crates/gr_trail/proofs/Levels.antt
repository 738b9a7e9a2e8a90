-- levels climb along the trail by its decisions
use Rattle.std.proofs.Common.{◌≡◌, ℕ, suc, ◌+◌, ◌≤◌, ◌<◌, true, false, List, [], ◌∷◌, ◌++◌, length, All, Option, Some, None, nat_le, nat_eq, refl, sym, ap, ◌∙◌, subst, arith, if◌then◌else◌}
use Rattle.std.proofs.lemmas.Bool.{leb-true, leb-false, le-leb, lt-leb}
use Rattle.std.proofs.lemmas.List.Elements.{All-head, All-tail}
use Rattle.gr_logic.specs.Literals.{var_of}
use Rattle.gr_logic.specs.declared.places.Place.{Place}
use Rattle.gr_trail.specs.Trails.{Assigned, Climbs, level_after, up_to, reason_at, with_reason}

pub after-le : (level : ℕ) (reason : Option Place) → (level ≤ level_after level reason)
    × (level_after level reason ≤ level + 1)
after-le level None = (omega arith, omega arith)
after-le level (Some p) = (omega arith, omega arith)

pub climbs-le : (level : ℕ) (xs : List Assigned) (depth : ℕ) → Climbs level xs depth
    → (level ≤ depth) × (depth ≤ level + length xs)
climbs-le level [] depth c = (omega (arith, c), omega (arith, c))
climbs-le level (x ∷ xs) depth c =
    let rest = climbs-le x.level xs depth c.1 in
    let step = after-le level x.reason in
    (omega (arith, c.0, rest.0, step.0), omega (arith, c.0, rest.1, step.1))

pub climbs-push : (level : ℕ) (xs : List Assigned) (depth : ℕ) (x : Assigned)
    → Climbs level xs depth → x.level ≡ level_after depth x.reason
    → Climbs level (xs ++ x ∷ []) x.level
climbs-push level [] depth x c e = (e ∙ ap (λ n. level_after n x.reason) (sym c), refl)
climbs-push level (y ∷ ys) depth x c e = (c.0, climbs-push y.level ys depth x c.1 e)

-- nothing stays of what comes above the level
none_up_to : (b level : ℕ) (xs : List Assigned) (depth : ℕ) → b < level → Climbs level xs depth
    → up_to b xs ≡ []
none_up_to b level [] depth high c = refl
none_up_to b level (x ∷ xs) depth high c =
    let step = after-le level x.reason in
    let above : b < x.level = omega (arith, c.0, step.0) in
    ap (λ t. if t then x ∷ up_to b xs else up_to b xs) (lt-leb x.level b above)
    ∙ none_up_to b x.level xs depth above c.1

-- all stays where the level is not below the last
pub all_up_to : (level : ℕ) (xs : List Assigned) (depth : ℕ) → Climbs level xs depth
    → up_to depth xs ≡ xs
all_up_to level [] depth c = refl
all_up_to level (x ∷ xs) depth c =
    let rest = climbs-le x.level xs depth c.1 in
    ap (λ t. if t then x ∷ up_to depth xs else up_to depth xs) (le-leb x.level depth rest.0)
    ∙ ap (λ z. x ∷ z) (all_up_to x.level xs depth c.1)

pub climbs-up_to : (b level : ℕ) (xs : List Assigned) (depth : ℕ) → level ≤ b → b ≤ depth
    → Climbs level xs depth → Climbs level (up_to b xs) b
climbs-up_to b level [] depth low high c = omega (arith, c)
climbs-up_to b level (x ∷ xs) depth low high c =
    elim (nat_le x.level b) as (λ t. nat_le x.level b ≡ t
    → Climbs level (if t then x ∷ up_to b xs else up_to b xs) b) [
      | true ↦ λ e. (c.0, climbs-up_to b x.level xs depth (leb-true x.level b e) high c.1)
      | false ↦ λ e.
          let above : b < x.level = leb-false x.level b e in
          let step = after-le level x.reason in
          subst (λ z. Climbs level z b) (sym (none_up_to b x.level xs depth above c.1))
          (omega (arith, c.0, step.1))
    ] refl

pub up_to-up_to : (b level : ℕ) (xs : List Assigned) → b ≤ level → up_to b (up_to level xs)
    ≡ up_to b xs
up_to-up_to b level [] low = refl
up_to-up_to b level (x ∷ xs) low =
    elim (nat_le x.level level) as (λ t. nat_le x.level level ≡ t
    → up_to b (if t then x ∷ up_to level xs else up_to level xs)
    ≡ (if nat_le x.level b then x ∷ up_to b xs else up_to b xs)) [
      | true ↦ λ e. ap (λ z. if nat_le x.level b then x ∷ z else z) (up_to-up_to b level xs low)
      | false ↦ λ e.
          let above : level < x.level = leb-false x.level level e in
          up_to-up_to b level xs low ∙ ap (λ t. if t then x ∷ up_to b xs else up_to b xs)
          (sym (lt-leb x.level b (omega arith)))
    ] refl

pub length-up_to : (b level : ℕ) (xs : List Assigned) → b ≤ level
    → length (up_to b xs) ≤ length (up_to level xs)
length-up_to b level [] low = omega arith
length-up_to b level (x ∷ xs) low =
    let rest = length-up_to b level xs low in
    elim (nat_le x.level b) as (λ t. nat_le x.level b ≡ t
    → length (if t then x ∷ up_to b xs else up_to b xs) ≤ length
    (if nat_le x.level level then x ∷ up_to level xs else up_to level xs)) [
      | true ↦ λ e.
          let at : x.level ≤ b = leb-true x.level b e in
          subst (λ t. suc (length (up_to b xs)) ≤ length
          (if t then x ∷ up_to level xs else up_to level xs))
          (sym (le-leb x.level level (omega arith))) (omega (arith, rest))
      | false ↦ λ e. elim (nat_le x.level level) as (λ t. length (up_to b xs) ≤ length
          (if t then x ∷ up_to level xs else up_to level xs)) [
            | true ↦ omega (arith, rest)
            | false ↦ rest
          ]
    ] refl

-- ---- another reason at level zero
reason_at-level : (var : ℕ) (place : Place) (b : ℕ) (x : Assigned) → (reason_at var place x).level
    ≡ x.level
reason_at-level var place b x = elim (nat_eq (var_of x.lit) var) as (λ t.
    (if t then record x { reason = Some place } else x).level ≡ x.level) [
      | true ↦ refl
      | false ↦
          refl
    ]

pub up_to-with_reason : (b : ℕ) (xs : List Assigned) (var : ℕ) (place : Place)
    → up_to b (with_reason xs var place) ≡ with_reason (up_to b xs) var place
up_to-with_reason b [] var place = refl
up_to-with_reason b (x ∷ xs) var place =
    ap (λ n. if nat_le n b then reason_at var place x ∷ up_to b
    (with_reason xs var place) else up_to b (with_reason xs var place))
    (reason_at-level var place b x)
    ∙ elim (nat_le x.level b) as (λ t. (if t then reason_at var place x ∷ up_to b
    (with_reason xs var place) else up_to b (with_reason xs var place))
    ≡ with_reason (if t then x ∷ up_to b xs else up_to b xs) var place) [
      | true ↦ ap (λ z. reason_at var place x ∷ z) (up_to-with_reason b xs var place)
      | false ↦ up_to-with_reason b xs var place
    ]

-- at level zero there are no decisions
forced_at_zero : (level : ℕ) (x : Assigned) (place : Place) → x.level ≡ 0 → x.level
    ≡ level_after level x.reason → x.level ≡ level
forced_at_zero level x place low is =
    elim x.reason as (λ r. x.level ≡ level_after level r → x.level ≡ level) [
      | None ↦
          λ e. absurd (omega (arith, low, e))
      | Some p ↦ λ e. e
    ] is

pub climbs-with_reason : (level : ℕ) (xs : List Assigned) (depth var : ℕ) (place : Place)
    → All (λ x. nat_eq (var_of x.lit) var ≡ true → x.level ≡ 0) xs → Climbs level xs depth
    → Climbs level (with_reason xs var place) depth
climbs-with_reason level [] depth var place low c = c
climbs-with_reason level (x ∷ xs) depth var place low c =
    let rest = climbs-with_reason x.level xs depth var place
    (All-tail (λ a. nat_eq (var_of a.lit) var ≡ true → a.level ≡ 0) x xs low) c.1 in
    elim (nat_eq (var_of x.lit) var) as (λ t. nat_eq (var_of x.lit) var ≡ t
    → Climbs level ((if t then record x { reason = Some place } else x) ∷ with_reason xs var
    place) depth) [
      | true ↦ λ e. (
        forced_at_zero level x place (All-head (λ a. nat_eq (var_of a.lit) var ≡ true
            → a.level ≡ 0) x xs low e) c.0,
        rest,
      )
      | false ↦ λ e. (c.0, rest)
    ] refl
