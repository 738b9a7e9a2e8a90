-- how a clause stands that comes in, and what it forces
use Rattle.std.proofs.Common.{◌≡◌, ◌⊎◌, ℕ, ◌+◌, ◌<◌, ◌≤◌, Bool, true, false, ◌&&◌, ◌||◌, All, List, [], ◌∷◌, Option, Some, None, take, refl, sym, ap, ◌∙◌, subst, inl, inr, arith, nat_eq, nat_le, zero, suc, cond}
use Rattle.std.proofs.lemmas.Bool.Decides.{nat_tests}
use Rattle.std.proofs.lemmas.List.Elements.{All-head}
use Rattle.std.proofs.lemmas.List.Sums.{sum_by-cons}
use Rattle.std.specs.List.{list_any, find}
use Rattle.std.specs.Option.{option_map, unwrap_or}
use Rattle.gr_logic.specs.Literals.{Literal, negation, same_literal, var_of}
use Rattle.gr_logic.specs.Rup.{members}
use Rattle.gr_logic.specs.Closure.{Forces}
use Rattle.gr_logic.specs.declared.places.Place.{Place}
use Rattle.gr_logic.proofs.Sound.{same_literal-is}
use Rattle.gr_logic.proofs.SameLiteral.{members-first, members-later, or-true}
use Rattle.gr_trail.specs.Trails.{Assigned, TrailState, true_in, value_in, assigned_to, Climbs, level_after}
use Rattle.gr_prop.specs.BaseChanges.{with_forced, IsLearnt}
use Rattle.gr_prop.specs.Watching.{bit, occurs, true_by, IsKept, IsGuarded, AllFalse}
use Rattle.gr_prop.specs.Additions.{StandsAs}
use Rattle.gr_prop.specs.declared.additions.Standing.TheVariants.{Forced, Rests}
use Rattle.gr_prop.proofs.TrailSets.{prefix-within, open-true, open-false, false-value, true_by-last, true_by-zero}
use Rattle.gr_prop.proofs.Kept.{any-member, kept-none, kept-any}

-- ---- what made a literal false since the present level began
-- the literal became true at this level or later
abbrev pub IsLate : ℕ → Literal → List Assigned → Type 0
IsLate depth q [] = Unit {0}
IsLate depth q (x ∷ xs) = (same_literal q x.lit ≡ true → depth ≤ x.level) × IsLate depth q xs

late-take : (depth : ℕ) (q : Literal) (xs : List Assigned) (n : ℕ) → IsLate depth q xs → IsLate depth q (take n xs)
late-take depth q xs zero all = tt
late-take depth q [] (suc n) all = tt
late-take depth q (x ∷ xs) (suc n) all = (all.0, late-take depth q xs n all.1)

after-le : (level : ℕ) (reason : Option Place) → level ≤ level_after level reason
after-le level None = omega arith
after-le level (Some p) = omega arith

late-above : (b level : ℕ) (q : Literal) (xs : List Assigned) (depth : ℕ) → b ≤ level → Climbs level xs depth →
    IsLate b q xs
late-above b level q [] depth low c = tt
late-above b level q (x ∷ xs) depth low c =
    let step = after-le level x.reason in
    let at = c.0 in
    let here : b ≤ x.level = omega arith in
    ((λ _. here), late-above b x.level q xs depth here c.1)

pub late-found : (b level : ℕ) (q : Literal) (xs : List Assigned) (depth : ℕ) → Climbs level xs depth
    → option_map (λ a. a.level) (assigned_to xs (var_of q)) ≡ Some b → IsLate b q xs
late-found b level q [] depth c e = tt
late-found b level q (x ∷ xs) depth c e =
    elim (nat_eq (var_of x.lit) (var_of q)) as (λ t. nat_eq (var_of x.lit) (var_of q) ≡ t
    → option_map (λ a. a.level) (cond t (Some x) (find (λ a. nat_eq (var_of a.lit) (var_of q)) xs)) ≡ Some b → IsLate
    b q (x ∷ xs)) [
      | true ↦ λ _ f.
          let is : x.level ≡ b = ap (λ (o : Option ℕ). unwrap_or {T = ℕ} o x.level) f in
          let low : b ≤ x.level = omega arith in
          ((λ _. low), late-above b x.level q xs depth low c.1)
      | false ↦ λ apart f. (
        (λ same.
            let y : q.index ≡ x.lit.index = ap (λ (l : Literal). l.index) (same_literal-is q x.lit same) in
            absurd (let e : nat_eq (var_of x.lit) (var_of q) ≡ true = grind (arith, nat_tests) in cc)),
        late-found b x.level q xs depth c.1 f,
      )
    ] refl e

true_by-raise : (xs : List Assigned) (a b : ℕ) (q : Literal) → a ≤ b → true_by xs a q ≡ true → true_by xs b q ≡ true
true_by-raise [] a b q low e = e
true_by-raise (x ∷ xs) a b q low e = step (same_literal q x.lit) (nat_le x.level a) (nat_le x.level b)
    (true_by xs a q) (true_by xs b q)
    (λ h. let v : x.level ≤ a = grind (arith, nat_tests) in let w : x.level ≤ b = omega arith in grind
    (arith, nat_tests)) e (true_by-raise xs a b q low)
  where
    step : (s m n t u : Bool) → (m ≡ true → n ≡ true) → ((s && m) || t) ≡ true → (t ≡ true → u ≡ true) →
        ((s && n) || u) ≡ true
    step true true n t u f e g = ap (λ z. z || u) (f refl)
    step true false n t u f e g = ap (λ z. n || z) (g e) ∙ or-true n
    step false m n t u f e g = g e

-- the watch became false late, and some literal of the clause is true from the level on
kept-late : (xs done : List Assigned) (o : Literal) (c : List Literal) (depth : ℕ) → IsLate depth (negation o) done
    → ((level : ℕ) → depth ≤ level → list_any (true_by xs level) c ≡ true) → IsKept xs done o c
kept-late xs [] o c depth late now = tt
kept-late xs (x ∷ done) o c depth late now = (
  (λ same. now x.level (late.0 same)),
  kept-late xs done o c depth late.1
      now,
)

-- ---- how a clause stands, and what it forces
pub stands-false : (xs : List Assigned) (c : List Literal) (l : Literal) → AllFalse xs c → members c l ≡ true →
    value_in xs l ≡ None → ⊥
stands-false xs c l falses m none = let a = falses l m in let b = open-false xs l none in cc

-- an arranged clause that forces forces its first literal
pub forced-first : (xs : List Assigned) (w : Literal) (rest : List Literal) (l : Literal) → value_in xs w ≡ None →
    Forces (true_in xs) (members (w ∷ rest)) l → l ≡ w
forced-first xs w rest l none f =
    elim (same_literal w l) as (λ b. same_literal w l ≡ b → l ≡ w) [
      | true ↦ λ same. sym (same_literal-is w l same)
      | false ↦ λ apart. absurd (let a = f.others w (members-first w rest) apart in let b = open-false xs w none in cc)
    ] refl

pub none-apart : (w o : Literal) (rest : List Literal) → occurs (w ∷ o ∷ rest) o.index ≤ 1 → same_literal o w ≡ false
none-apart w o rest low =
    let e : occurs (w ∷ o ∷ rest) o.index ≡ bit (nat_eq w.index o.index) + occurs (o ∷ rest) o.index = sum_by-cons
    (λ (x : Literal). bit (nat_eq x.index o.index)) w (o ∷ rest) in
    let f : occurs (o ∷ rest) o.index ≡ bit (nat_eq o.index o.index) + occurs rest o.index = sum_by-cons
    (λ (x : Literal). bit (nat_eq x.index o.index)) o rest in
    let one : nat_eq o.index o.index ≡ true = grind (arith, nat_tests) in
    let g : bit (nat_eq o.index o.index) ≡ 1 = ap bit one in
    elim (same_literal o w) as (λ t. same_literal o w ≡ t → t ≡ false) [
      | true ↦ λ same.
          let is : o ≡ w = same_literal-is o w same in
          let two : bit (nat_eq w.index o.index) ≡ 1 = ap (λ (y : Literal). bit (nat_eq y.index o.index)) (sym is) ∙
          g in
          absurd (omega arith)
      | false ↦ λ _. refl
    ] refl

-- a clause at rest forces nothing that has no value
pub rests-forces : (t : TrailState) (c : List Literal) (l : Literal) → ((index : ℕ) → occurs c index ≤ 1)
    → ((q : Literal) → true_in t.assigned q ≡ true → true_in t.assigned (negation q) ≡ true → ⊥)
    → StandsAs t.assigned c Rests → Forces (true_in t.assigned) (members c) l → value_in t.assigned l ≡ None → ⊥
rests-forces t [] l distinct consistent s f none = s
rests-forces t (w ∷ []) l distinct consistent s f none =
    elim (same_literal w l) as (λ b. same_literal w l ≡ b → ⊥) [
      | true ↦ λ same. let a = ap (true_in t.assigned) (sym (same_literal-is w l same)) ∙ s in let b = open-true
          t.assigned l none in cc
      | false ↦ λ apart. consistent w s (f.others w (members-first w []) apart)
    ] refl
rests-forces t (w ∷ o ∷ rest) l distinct consistent (inl now) f none =
    elim (same_literal w l) as (λ b. same_literal w l ≡ b → ⊥) [
      | true ↦ λ same. let a = ap (true_in t.assigned) (sym (same_literal-is w l same)) ∙ now in let b = open-true
          t.assigned l none in cc
      | false ↦ λ apart. consistent w now (f.others w (members-first w (o ∷ rest)) apart)
    ] refl
rests-forces t (w ∷ o ∷ rest) l distinct consistent (inr two) f none =
    elim (same_literal w l) as (λ b. same_literal w l ≡ b → ⊥) [
      | true ↦ λ same.
          let apart : same_literal o l ≡ false = subst (λ y. same_literal o y ≡ false) (same_literal-is w l same)
          (none-apart w o rest (distinct o.index)) in
          let a = f.others o (members-later o w (o ∷ rest) (members-first o rest)) apart in
          let b = two.1 in cc
      | false ↦ λ apart. let a = f.others w (members-first w (o ∷ rest)) apart in let b = two.0 in cc
    ] refl

-- a clause at rest came in at level zero
pub rests-zero : (t : TrailState) (e : List Literal) → (t.depth ≡ 0) ⊎ IsLearnt t e → StandsAs t.assigned e Rests →
    t.depth ≡ 0
rests-zero t e (inl z) s = z
rests-zero t [] (inr h) s = absurd h
rests-zero t (w ∷ []) (inr h) s = absurd h
rests-zero t (w ∷ o ∷ rest) (inr h) (inl now) = absurd (let a = open-true t.assigned w h.0 in cc)
rests-zero t (w ∷ o ∷ rest) (inr h) (inr two) =
    absurd (let a = false-value t.assigned o (All-head (λ q. value_in t.assigned q ≡ Some false) o rest h.1) in let b
    = two.1 in cc)

-- and so did one that is false
pub broken-zero : (t : TrailState) (e : List Literal) → (t.depth ≡ 0) ⊎ IsLearnt t e → AllFalse t.assigned e →
    t.depth ≡ 0
broken-zero t e (inl z) s = z
broken-zero t [] (inr h) s = absurd h
broken-zero t (w ∷ []) (inr h) s = absurd h
broken-zero t (w ∷ o ∷ rest) (inr h) s = absurd (stands-false t.assigned (w ∷ o ∷ rest) w s
    (members-first w (o ∷ rest)) h.0)

not-in : (a b : Bool) → (a ≡ true → b ≡ true) → b ≡ false → a ≡ false
not-in true b f e = sym (f refl) ∙ e
not-in false b f e = refl

pub guarded-rests : (t : TrailState) (done : List Assigned) (e : List Literal) → Climbs 0 t.assigned 0
    → ((q : Literal) → true_in t.assigned q ≡ true → true_in t.assigned (negation q) ≡ true → ⊥)
    → ((q : Literal) → true_in done q ≡ true → true_in t.assigned q ≡ true) → StandsAs t.assigned e Rests → IsGuarded
    t.assigned done e
guarded-rests t done [] climbs consistent within s = s
guarded-rests t done (w ∷ []) climbs consistent within s = true_by-zero t.assigned 0 w climbs s
guarded-rests t done (w ∷ o ∷ rest) climbs consistent within (inl now) =
    let any : (level : ℕ) → list_any (true_by t.assigned level) (w ∷ o ∷ rest) ≡ true =
    λ level. any-member (true_by t.assigned level) (w ∷ o ∷ rest) w (members-first w (o ∷ rest))
    (true_by-zero t.assigned level w climbs now) in
    (kept-any t.assigned done w (w ∷ o ∷ rest) any, kept-any t.assigned done o (w ∷ o ∷ rest) any)
guarded-rests t done (w ∷ o ∷ rest) climbs consistent within (inr two) = (
  kept-none t.assigned done w (w ∷ o ∷ rest) (not-in (true_in done (negation w)) (true_in t.assigned (negation w))
      (within (negation w)) two.0),
  kept-none t.assigned done o (w ∷ o ∷ rest) (not-in (true_in done (negation o)) (true_in t.assigned (negation o))
      (within (negation o)) two.1),
)

pub forces-forced : (xs : List Assigned) (e : List Literal) (l : Literal) → StandsAs xs e (Forced l) → Forces
    (true_in xs) (members e) l × (value_in xs l ≡ None)
forces-forced xs [] l s = absurd s
forces-forced xs (w ∷ rest) l s = (
  subst (Forces (true_in xs) (members (w ∷ rest))) (sym s.0) (record { has = members-first w rest; others = s.2 }),
  ap (value_in xs) s.0 ∙ s.1,
)

pub forced-only : (xs : List Assigned) (e : List Literal) (l m : Literal) → StandsAs xs e (Forced l) → Forces
    (true_in xs) (members e) m → m ≡ l
forced-only xs [] l m s f = absurd s
forced-only xs (w ∷ rest) l m s f = forced-first xs w rest m s.1 f ∙ sym s.0

pub forced-known : (xs : List Assigned) (vars : ℕ) (e : List Literal) (l : Literal) → All
    (λ (q : Literal). q.index < vars) e → StandsAs xs e (Forced l) → l.index < vars
forced-known xs vars [] l all s = absurd s
forced-known xs vars (w ∷ rest) l all s = subst (λ (q : Literal). q.index < vars) (sym s.0) (all 0 w (omega arith))

pub guarded-forced : (t : TrailState) (head : ℕ) (place : Place) (e : List Literal) (l : Literal) → Climbs 0 t.assigned
    t.depth
    → (t.depth ≡ 0) ⊎ IsLearnt t e → StandsAs t.assigned e (Forced l) → IsGuarded (with_forced t l place).assigned
    (take head t.assigned) e
guarded-forced t head place [] l climbs at s = absurd s
guarded-forced t head place (w ∷ []) l climbs (inr h) s = absurd h
guarded-forced t head place (w ∷ []) l climbs (inl z) s =
    let last : true_by (with_forced t l place).assigned t.depth l ≡ true = true_by-last t.assigned
    (record { lit = l; level = t.depth; reason = Some place }) in
    subst (λ q. true_by (with_forced t l place).assigned 0 q ≡ true) s.0
    (subst (λ b. true_by (with_forced t l place).assigned b l ≡ true) z last)
guarded-forced t head place (w ∷ o ∷ rest) l climbs at s = (
  kept-none (with_forced t l place).assigned (take head t.assigned) w (w ∷ o ∷ rest)
      (not-in (true_in (take head t.assigned) (negation w)) (true_in t.assigned (negation w))
      (prefix-within t.assigned head (negation w)) (open-false t.assigned w s.1)),
  kept-late (with_forced t l place).assigned (take head t.assigned) o (w ∷ o ∷ rest) t.depth
      (late-take t.depth (negation o) t.assigned head (late at)) now,
)
  where
    late : (t.depth ≡ 0) ⊎ IsLearnt t (w ∷ o ∷ rest) → IsLate t.depth (negation o) t.assigned
    late (inl z) = late-above t.depth 0 (negation o) t.assigned t.depth (omega (arith, z)) climbs
    late (inr h) = late-found t.depth 0 (negation o) t.assigned t.depth climbs h.2

    now : (level : ℕ) → t.depth ≤ level → list_any (true_by (with_forced t l place).assigned level) (w ∷ o ∷ rest) ≡
        true
    now level low = any-member (true_by (with_forced t l place).assigned level) (w ∷ o ∷ rest) w
        (members-first w (o ∷ rest))
        (true_by-raise (with_forced t l place).assigned t.depth level w low
        (subst (λ q. true_by (with_forced t l place).assigned t.depth q ≡ true) s.0
        (true_by-last t.assigned (record { lit = l; level = t.depth; reason = Some place }))))
