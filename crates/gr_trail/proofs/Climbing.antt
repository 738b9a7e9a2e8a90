-- levels along a trail
use Rattle.std.proofs.Common.{◌≡◌, ℕ, zero, suc, ◌+◌, ◌≤◌, ◌<◌, Bool, true, false, cond, nat_eq, List, [], ◌∷◌, Option, Some, None, refl, sym, ap, ◌∙◌, subst, arith}
use Rattle.std.specs.Prelude.{slice_get, IsSome}
use Rattle.std.specs.List.{find}
use Rattle.std.specs.Option.{option_map, unwrap_or}
use Rattle.gr_logic.specs.declared.places.Place.{Place}
use Rattle.gr_logic.specs.Literals.{var_of}
use Rattle.gr_trail.specs.Trails.{Assigned, TrailState, IsTrail, Climbs, level_after, assigned_to}
use Rattle.gr_trail.proofs.Levels.{after-le, climbs-le}

-- what two equal options hold
pub some-is : {X : Type 0} (a b : X) → Some a ≡ Some b → a ≡ b
some-is a b e = ap (λ o. unwrap_or o a) e

-- an assignment's level is between those of the ends
pub level-between : (level : ℕ) (xs : List Assigned) (depth n : ℕ) (a : Assigned) → Climbs level xs depth
    → slice_get xs n ≡ Some a → (level_after level a.reason ≤ a.level) × (level ≤ a.level) × (a.level ≤ depth)
level-between level [] depth n a c e = absurd (cc)
level-between level (x ∷ xs) depth zero a c e =
    let is : x ≡ a = some-is x a e in
    subst (λ (y : Assigned). (level_after level y.reason ≤ y.level) × (level ≤ y.level) × (y.level ≤ depth)) is (
      omega (arith, c.0),
      (let s = (after-le level x.reason).0 in omega (arith, c.0, s)),
      (climbs-le x.level xs depth c.1).0,
    )
level-between level (x ∷ xs) depth (suc n) a c e =
    let rest = level-between x.level xs depth n a c.1 e in
    let s = (after-le level x.reason).0 in
    let low : level ≤ x.level = omega (arith, c.0, s) in
    (later a.reason low rest.0 rest.1, omega (arith, low, rest.1), rest.2)
  where
    later : (r : Option Place) → level ≤ x.level → level_after x.level r ≤ a.level → x.level ≤ a.level
        → level_after level r ≤ a.level
    later None low one two = omega (arith, low, one)
    later (Some p) low one two = omega (arith, low, two)

-- what comes earlier has no higher level, and a lower one than a decision
pub level-order : (level : ℕ) (xs : List Assigned) (depth i j : ℕ) (a b : Assigned) → Climbs level xs depth
    → slice_get xs i ≡ Some a → slice_get xs j ≡ Some b → i < j
    → (a.level ≤ b.level) × (b.reason ≡ None → a.level < b.level)
level-order level [] depth i j a b c e f low = absurd (cc)
level-order level (x ∷ xs) depth i zero a b c e f low = absurd (omega (arith, low))
level-order level (x ∷ xs) depth zero (suc j) a b c e f low =
    let is : x ≡ a = some-is x a e in
    let rest = level-between x.level xs depth j b c.1 f in
    subst (λ (y : Assigned). (y.level ≤ b.level) × (b.reason ≡ None → y.level < b.level)) is (
      rest.1,
      λ r. let g : level_after x.level None ≤ b.level = subst (λ q. level_after x.level q ≤ b.level) r rest.0 in
          omega (arith, g),
    )
level-order level (x ∷ xs) depth (suc i) (suc j) a b c e f low =
    level-order x.level xs depth i j a b c.1 e f (omega (arith, low))

-- a literal of level zero has a reason
pub zero-forced : (xs : List Assigned) (depth n : ℕ) (a : Assigned) → Climbs 0 xs depth → slice_get xs n ≡ Some a
    → a.level ≡ 0 → IsSome a.reason
zero-forced xs depth n a c e low =
    let f = (level-between 0 xs depth n a c e).0 in
    go a.reason f
  where
    go : (r : Option Place) → level_after 0 r ≤ a.level → IsSome r
    go None g = absurd (omega (arith, g, low))
    go (Some p) g = grind arith

-- what an option holds that was mapped
pub mapped : {X Y : Type 0} (f : X → Y) (o : Option X) (y : Y) → option_map f o ≡ Some y
    → (x : X) × ((o ≡ Some x) × (f x ≡ y))
mapped f None y e = absurd (cc)
mapped f (Some x) y e = (x, (refl, some-is (f x) y e))

-- what is assigned to a variable stands somewhere
found-at : (xs : List Assigned) (var : ℕ) (a : Assigned) → assigned_to xs var ≡ Some a
    → (n : ℕ) × (slice_get xs n ≡ Some a)
found-at [] var a e = absurd (cc)
found-at (x ∷ xs) var a e =
    elim (nat_eq (var_of x.lit) var) as (λ b. cond b (Some x) (find (λ y. nat_eq (var_of y.lit) var) xs) ≡ Some a
    → (n : ℕ) × (slice_get (x ∷ xs) n ≡ Some a)) [
      | true ↦ λ f. (0, f)
      | false ↦ λ f. let rest = found-at xs var a f in (suc rest.0, rest.1)
    ] e

-- of two literals, by what the trail tells of them: the earlier has no higher level
pub orders : (t : TrailState) (one other i j r s : ℕ) → IsTrail t
    → slice_get t.assigned i ≡ assigned_to t.assigned one → slice_get t.assigned j ≡ assigned_to t.assigned other
    → option_map (λ a. a.level) (assigned_to t.assigned one) ≡ Some r
    → option_map (λ a. a.level) (assigned_to t.assigned other) ≡ Some s → i < j → r ≤ s
orders t one other i j r s is p q f g low =
    let a = mapped (λ (x : Assigned). x.level) (assigned_to t.assigned one) r f in
    let b = mapped (λ (x : Assigned). x.level) (assigned_to t.assigned other) s g in
    let o = level-order 0 t.assigned t.depth i j a.0 b.0 is.climbs (p ∙ a.1.0) (q ∙ b.1.0) low in
    omega (arith, o.0, a.1.1, b.1.1)

-- and lower than that of a decision
pub opens : (t : TrailState) (one other i j r s : ℕ) → IsTrail t
    → slice_get t.assigned i ≡ assigned_to t.assigned one → slice_get t.assigned j ≡ assigned_to t.assigned other
    → option_map (λ a. a.level) (assigned_to t.assigned one) ≡ Some r
    → option_map (λ a. a.level) (assigned_to t.assigned other) ≡ Some s
    → option_map (λ a. a.reason) (assigned_to t.assigned other) ≡ Some None → i < j → r < s
opens t one other i j r s is p q f g n low =
    let a = mapped (λ (x : Assigned). x.level) (assigned_to t.assigned one) r f in
    let b = mapped (λ (x : Assigned). x.level) (assigned_to t.assigned other) s g in
    let o = level-order 0 t.assigned t.depth i j a.0 b.0 is.climbs (p ∙ a.1.0) (q ∙ b.1.0) low in
    let d : b.0.reason ≡ None = some-is b.0.reason None
    (sym (ap (option_map (λ (x : Assigned). x.reason)) b.1.0) ∙ n) in
    let l = o.1 d in
    omega (arith, l, a.1.1, b.1.1)

-- no level is above the depth, and what was assigned at level zero has a reason
pub level-ends : (t : TrailState) (var : ℕ) (a : Assigned) → IsTrail t
    → assigned_to t.assigned var ≡ Some a
    → (a.level ≤ t.depth) × (a.level ≡ 0 → IsSome a.reason)
level-ends t var a is e =
    let n = found-at t.assigned var a e in (
      (level-between 0 t.assigned t.depth n.0 a is.climbs n.1).2,
      λ low. zero-forced t.assigned t.depth n.0 a is.climbs n.1 low,
    )

-- no level that is told is above the depth
pub ends : (t : TrailState) (var r : ℕ) → IsTrail t
    → option_map (λ a. a.level) (assigned_to t.assigned var) ≡ Some r → r ≤ t.depth
ends t var r is f =
    let a = mapped (λ (x : Assigned). x.level) (assigned_to t.assigned var) r f in
    let o = level-ends t var a.0 is a.1.0 in
    omega (arith, o.0, a.1.1)

-- a reason that is told of level zero is one
pub forced : (t : TrailState) (var : ℕ) (reason : Option Place) → IsTrail t
    → option_map (λ a. a.level) (assigned_to t.assigned var) ≡ Some 0
    → option_map (λ a. a.reason) (assigned_to t.assigned var) ≡ Some reason → IsSome reason
forced t var reason is f g =
    let a = mapped (λ (x : Assigned). x.level) (assigned_to t.assigned var) 0 f in
    let o = (level-ends t var a.0 is a.1.0).1 a.1.1 in
    subst (λ q. IsSome q) (some-is a.0.reason reason
    (sym (ap (option_map (λ (x : Assigned). x.reason)) a.1.0) ∙ g)) o
