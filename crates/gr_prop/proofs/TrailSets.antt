-- the literals of a trail that grows or goes back
use Rattle.std.proofs.Common.{◌≡◌, ℕ, ◌-◌, ◌≤◌, ◌<◌, Bool, true, false, ◌||◌, ◌&&◌, List, [], ◌∷◌, ◌++◌, length, get_or, take, Option, Some, None, zero, suc, refl, sym, ap, ◌∙◌, subst, arith, nat_le, if◌then◌else◌}
use Rattle.std.proofs.lemmas.Bool.Decides.{nat_tests}
use Rattle.std.proofs.lemmas.List.{append-nil, take-append-drop}
use Rattle.gr_logic.specs.Literals.{Literal, negation, same_literal}
use Rattle.gr_logic.specs.Closure.{IsWithin}
use Rattle.gr_logic.proofs.Sound.{same_literal-is}
use Rattle.gr_logic.proofs.SameLiteral.{same_literal-itself, negation-negation, negation-apart, or-true}
use Rattle.gr_trail.specs.Trails.{Assigned, true_in, value_in, up_to, Climbs, level_after}
use Rattle.gr_trail.proofs.Levels.{climbs-le}
use Rattle.gr_prop.specs.Bases.{decisions}
use Rattle.gr_prop.specs.Watching.{true_by, IsConsistent, AreAt, AreWithin}

or-assoc : (a b c : Bool) → (a || (b || c)) ≡ ((a || b) || c)
or-assoc true b c = refl
or-assoc false b c = refl

pub or-none : (b : Bool) → (b || false) ≡ b
or-none true = refl
or-none false = refl

pub or-first : (a b : Bool) → (a || b) ≡ false → a ≡ false
or-first true b e = e
or-first false b e = refl

pub or-second : (a b : Bool) → (a || b) ≡ false → b ≡ false
or-second true b e = absurd (cc)
or-second false b e = e

pub true_in-append : (xs ys : List Assigned) (q : Literal) → true_in (xs ++ ys) q ≡ (true_in xs q || true_in ys q)
true_in-append [] ys q = refl
true_in-append (x ∷ xs) ys q =
    ap (λ b. same_literal q x.lit || b) (true_in-append xs ys q)
    ∙ or-assoc (same_literal q x.lit) (true_in xs q) (true_in ys q)

pub true_in-more : (xs ys : List Assigned) → IsWithin (true_in xs) (true_in (xs ++ ys))
true_in-more xs ys q e = true_in-append xs ys q ∙ ap (λ b. b || true_in ys q) e

pub true_in-last : (xs : List Assigned) (x : Assigned) → true_in (xs ++ x ∷ []) x.lit ≡ true
true_in-last xs x =
    true_in-append xs (x ∷ []) x.lit
    ∙ ap (λ b. true_in xs x.lit || (b || false)) (same_literal-itself x.lit)
    ∙ or-true (true_in xs x.lit)

pub prefix-within : (xs : List Assigned) (n : ℕ) → IsWithin (true_in (take n xs)) (true_in xs)
prefix-within xs n q e =
    subst (λ ys. true_in ys q ≡ true) (take-append-drop n xs) (true_in-more (take n xs) _ q e)

-- what has no value is neither true nor false
pub open-true : (xs : List Assigned) (l : Literal) → value_in xs l ≡ None → true_in xs l ≡ false
open-true xs l e = go (true_in xs l) (true_in xs (negation l)) e
  where
    go : (a b : Bool) → (if a then Some true else (if b then Some false else None)) ≡ None → a ≡ false
    go true b e = absurd (cc)
    go false b e = refl

pub open-false : (xs : List Assigned) (l : Literal) → value_in xs l ≡ None → true_in xs (negation l) ≡ false
open-false xs l e = go (true_in xs l) (true_in xs (negation l)) e
  where
    go : (a b : Bool) → (if a then Some true else (if b then Some false else None)) ≡ None → b ≡ false
    go true b e = absurd (cc)
    go false true e = absurd (cc)
    go false false e = refl

pub open-value : (xs : List Assigned) (l : Literal) → true_in xs l ≡ false → true_in xs (negation l) ≡ false →
    value_in xs l ≡ None
open-value xs l a b =
    ap (λ t. if t then Some true else (if true_in xs (negation l) then Some false else None)) a
    ∙ ap (λ t. if t then Some false else None) b

pub true-value : (xs : List Assigned) (l : Literal) → value_in xs l ≡ Some true → true_in xs l ≡ true
true-value xs l = go (true_in xs l) (true_in xs (negation l))
  where
    go : (a b : Bool) → (if a then Some true else (if b then Some false else None)) ≡ Some true → a ≡ true
    go true b e = refl
    go false true e = absurd (cc)
    go false false e = absurd (cc)

pub false-value : (xs : List Assigned) (l : Literal) → value_in xs l ≡ Some false → true_in xs (negation l) ≡ true
false-value xs l e = go (true_in xs l) (true_in xs (negation l)) e
  where
    go : (a b : Bool) → (if a then Some true else (if b then Some false else None)) ≡ Some false → b ≡ true
    go true b e = absurd (cc)
    go false true e = refl
    go false false e = absurd (cc)

-- consistent with one literal more that had no value
pub consistent-push : (xs : List Assigned) (x : Assigned) → IsConsistent xs → true_in xs (negation x.lit) ≡ false
    → IsConsistent (xs ++ x ∷ [])
consistent-push xs x all none l one two =
    elim (same_literal l x.lit) as (λ b. same_literal l x.lit ≡ b → ⊥) [
      | true ↦ λ same.
          let is : l ≡ x.lit = same_literal-is l x.lit same in
          let bad : (true_in xs (negation l) || (same_literal (negation l) x.lit || false)) ≡ true =
          sym (true_in-append xs (x ∷ []) (negation l)) ∙ two in
          let f : true_in xs (negation l) ≡ false = ap (λ y. true_in xs (negation y)) is ∙ none in
          let g : same_literal (negation l) x.lit ≡ false = ap (same_literal (negation l)) (sym is) ∙ negation-apart
          l in
          let h = rw (f, g) at bad in cc
      | false ↦ λ apart.
          let a : (true_in xs l || (same_literal l x.lit || false)) ≡ true = sym (true_in-append xs (x ∷ []) l) ∙ one in
          let was : true_in xs l ≡ true = sym (or-none _) ∙ rw apart at a in
          elim (same_literal (negation l) x.lit) as (λ b. same_literal (negation l) x.lit ≡ b → ⊥) [
            | true ↦ λ same.
                let is : negation l ≡ x.lit = same_literal-is (negation l) x.lit same in
                let back : l ≡ negation x.lit = sym (negation-negation l) ∙ ap negation is in
                let h : true_in xs l ≡ false = ap (true_in xs) back ∙ none in
                cc
            | false ↦ λ other.
                let b : (true_in xs (negation l) || (same_literal (negation l) x.lit || false)) ≡ true =
                sym (true_in-append xs (x ∷ []) (negation l)) ∙ two in
                all l was (sym (or-none _) ∙ rw other at b)
          ] refl
    ] refl

either : (s m t : Bool) → (s || m) ≡ true → (m ≡ true → t ≡ true) → (s || t) ≡ true
either true m t e f = refl
either false m t e f = f e

pub up_to-within : (b : ℕ) (xs : List Assigned) → IsWithin (true_in (up_to b xs)) (true_in xs)
up_to-within b [] q e = e
up_to-within b (x ∷ xs) q e = step (nat_le x.level b) (same_literal q x.lit) (up_to-within b xs q) e
  where
    step : (t s : Bool) → (true_in (up_to b xs) q ≡ true → true_in xs q ≡ true)
        → true_in (if t then x ∷ up_to b xs else up_to b xs) q ≡ true → (same_literal q x.lit || true_in xs q) ≡ true
    step true s rest e = either (same_literal q x.lit) _ _ e rest
    step false s rest e = ap (λ b. same_literal q x.lit || b) (rest e) ∙ or-true (same_literal q x.lit)

pub consistent-up_to : (b : ℕ) (xs : List Assigned) → IsConsistent xs → IsConsistent (up_to b xs)
consistent-up_to b xs all l one two = all l (up_to-within b xs l one) (up_to-within b xs (negation l) two)

pub within-up_to : (n b : ℕ) (xs : List Assigned) → AreWithin n xs → AreWithin n (up_to b xs)
within-up_to n b [] all = tt
within-up_to n b (x ∷ xs) all = elim (nat_le x.level b) as (λ t. AreWithin n
    (if t then x ∷ up_to b xs else up_to b xs)) [
      | true ↦ (all.0, within-up_to n b xs all.1)
      | false ↦ within-up_to n b xs all.1
    ]

pub within-push : (n : ℕ) (xs : List Assigned) (x : Assigned) → AreWithin n xs → x.lit.index < n → AreWithin n
    (xs ++ x ∷ [])
within-push n [] x all low = (low, tt)
within-push n (y ∷ ys) x all low = (all.0, within-push n ys x all.1 low)

pub within-at : (n : ℕ) (xs : List Assigned) (i : ℕ) (d : Assigned) → i < length xs → AreWithin n xs →
    (get_or xs i d).lit.index < n
within-at n [] i d low all = absurd (omega arith)
within-at n (y ∷ ys) zero d low all = all.0
within-at n (y ∷ ys) (suc i) d low all = within-at n ys i d (omega arith) all.1

pub true-at : (xs : List Assigned) (i : ℕ) (d : Assigned) → i < length xs → true_in xs (get_or xs i d).lit ≡ true
true-at [] i d low = absurd (omega arith)
true-at (y ∷ ys) zero d low = ap (λ b. b || true_in ys y.lit) (same_literal-itself y.lit)
true-at (y ∷ ys) (suc i) d low =
    ap (λ b. same_literal (get_or ys i d).lit y.lit || b) (true-at ys i d (omega arith))
    ∙ or-true (same_literal (get_or ys i d).lit y.lit)

-- levels are at most the last
after-le : (level : ℕ) (reason : Option _) → level ≤ level_after level reason
after-le level None = omega arith
after-le level (Some p) = omega arith

-- what is true is so by the present level
pub true_by-depth : (level depth : ℕ) (xs : List Assigned) (q : Literal) → Climbs level xs depth → true_in xs q ≡ true
    → true_by xs depth q ≡ true
true_by-depth level depth [] q c e = e
true_by-depth level depth (x ∷ xs) q c e =
    let high = climbs-le x.level xs depth c.1 in
    let low : nat_le x.level depth ≡ true = let h : x.level ≤ depth = high.0 in grind (arith, nat_tests) in
    step (same_literal q x.lit) (nat_le x.level depth) (true_in xs q) (true_by xs depth q) low e
    (true_by-depth x.level depth xs q c.1)
  where
    step : (s n t b : Bool) → n ≡ true → (s || t) ≡ true → (t ≡ true → b ≡ true) → ((s && n) || b) ≡ true
    step true n t b low e f = ap (λ x. x || b) low
    step false n t b low e f = f e

-- true by a level is true
pub true_by-true : (xs : List Assigned) (level : ℕ) → IsWithin (true_by xs level) (true_in xs)
true_by-true [] level q e = e
true_by-true (x ∷ xs) level q e =
    step (same_literal q x.lit) (nat_le x.level level) (true_by xs level q) (true_in xs q) e (true_by-true xs level q)
  where
    step : (s n b t : Bool) → ((s && n) || b) ≡ true → (b ≡ true → t ≡ true) → (s || t) ≡ true
    step true n b t e f = refl
    step false n b t e f = f e

pub true_by-up_to : (b level : ℕ) (xs : List Assigned) (q : Literal) → level ≤ b → true_by xs level q ≡ true
    → true_by (up_to b xs) level q ≡ true
true_by-up_to b level [] q low e = e
true_by-up_to b level (x ∷ xs) q low e =
    elim (nat_le x.level b) as (λ t. nat_le x.level b ≡ t
    → true_by (if t then x ∷ up_to b xs else up_to b xs) level q ≡ true) [
      | true ↦ λ _. step (same_literal q x.lit && nat_le x.level level) (true_by xs level q)
          (true_by (up_to b xs) level q) e
          (true_by-up_to b level xs q low)
      | false ↦ λ high. true_by-up_to b level xs q low (drop-first (same_literal q x.lit) (nat_le x.level level)
          (true_by xs level q) (let v : nat_le x.level level ≡ false = grind (arith, nat_tests) in v) e)
    ] refl
  where
    step : (s t u : Bool) → (s || t) ≡ true → (t ≡ true → u ≡ true) → (s || u) ≡ true
    step true t u e f = refl
    step false t u e f = f e

    drop-first : (s n t : Bool) → n ≡ false → ((s && n) || t) ≡ true → t ≡ true
    drop-first true true t zero' e = absurd (cc)
    drop-first true false t zero' e = e
    drop-first false n t zero' e = e

pub true_by-more : (xs more : List Assigned) (level : ℕ) (q : Literal) → true_by xs level q ≡ true
    → true_by (xs ++ more) level q ≡ true
true_by-more [] more level q e = absurd (cc)
true_by-more (x ∷ xs) more level q e =
    step (same_literal q x.lit && nat_le x.level level) (true_by xs level q) (true_by (xs ++ more) level q) e
    (true_by-more xs more level q)
  where
    step : (s t u : Bool) → (s || t) ≡ true → (t ≡ true → u ≡ true) → (s || u) ≡ true
    step true t u e f = refl
    step false t u e f = f e

pub true_by-last : (xs : List Assigned) (x : Assigned) → true_by (xs ++ x ∷ []) x.level x.lit ≡ true
true_by-last [] x =
    let e : nat_le x.level x.level ≡ true = grind (arith, nat_tests) in
    ap (λ b. (b && nat_le x.level x.level) || false) (same_literal-itself x.lit) ∙ ap (λ b. b || false) e
true_by-last (y ∷ ys) x =
    ap (λ b. (same_literal x.lit y.lit && nat_le y.level x.level) || b) (true_by-last ys x)
    ∙ or-true (same_literal x.lit y.lit && nat_le y.level x.level)

-- at level zero, what is true is so by any level
pub true_by-zero : (xs : List Assigned) (level : ℕ) (q : Literal) → Climbs 0 xs 0 → true_in xs q ≡ true
    → true_by xs level q ≡ true
true_by-zero xs level q c e = raise xs level q (true_by-depth 0 0 xs q c e)
  where
    raise : (xs : List Assigned) (level : ℕ) (q : Literal) → true_by xs 0 q ≡ true → true_by xs level q ≡ true
    raise [] level q e = e
    raise (x ∷ xs) level q e = step (same_literal q x.lit) (nat_le x.level 0) (nat_le x.level level) (true_by xs 0 q)
        (true_by xs level q)
        (λ h. let v : x.level ≤ 0 = grind (arith, nat_tests) in let w : x.level ≤ level = omega arith in grind
        (arith, nat_tests)) e (raise xs level q)
      where
        step : (s m n b t : Bool) → (m ≡ true → n ≡ true) → ((s && m) || b) ≡ true → (b ≡ true → t ≡ true) →
            ((s && n) || t) ≡ true
        step true true n b t f e g = ap (λ z. z || t) (f refl)
        step true false n b t f e g = ap (λ z. n || z) (g e) ∙ or-true n
        step false m n b t f e g = g e

-- what comes above a level does not stay
pub none-up_to : (b level : ℕ) (xs : List Assigned) (depth : ℕ) → b < level → Climbs level xs depth → up_to b xs ≡ []
none-up_to b level [] depth high c = refl
none-up_to b level (x ∷ xs) depth high c =
    let step = after-le level x.reason in
    let above : b < x.level = omega (arith, c.0, step) in
    let no' : nat_le x.level b ≡ false = grind (arith, nat_tests) in
    ap (λ t. if t then x ∷ up_to b xs else up_to b xs) no' ∙ none-up_to b x.level xs depth above c.1

pub up_to-append : (b : ℕ) (xs ys : List Assigned) → up_to b (xs ++ ys) ≡ up_to b xs ++ up_to b ys
up_to-append b [] ys = refl
up_to-append b (x ∷ xs) ys = elim (nat_le x.level b) as (λ t. (if t then x ∷ up_to b (xs ++ ys) else up_to b (xs ++ ys))
    ≡ (if t then x ∷ up_to b xs else up_to b xs) ++ up_to b ys) [
      | true ↦ ap (λ l. x ∷ l) (up_to-append b xs ys)
      | false ↦ up_to-append b xs ys
    ]

at-none : (b depth : ℕ) (xs : List Assigned) → b < depth → AreAt depth xs → up_to b xs ≡ []
at-none b depth [] low all = refl
at-none b depth (x ∷ xs) low all =
    let e : x.level ≡ depth = all.0 in
    let no' : nat_le x.level b ≡ false = grind (arith, nat_tests) in
    rw no' (at-none b depth xs low all.1)

-- what is behind has a higher level, so what stays was propagated
pub up_to-done : (b depth : ℕ) (done queue : List Assigned) → b < depth → AreAt depth queue → up_to b (done ++ queue)
    ≡ up_to b done
up_to-done b depth done queue low all =
    up_to-append b done queue ∙ ap (λ l. up_to b done ++ l) (at-none b depth queue low all) ∙ append-nil (up_to b done)

pub at-append : (depth : ℕ) (xs ys : List Assigned) → AreAt depth xs → AreAt depth ys → AreAt depth (xs ++ ys)
at-append depth [] ys a b = b
at-append depth (x ∷ xs) ys a b = (a.0, at-append depth xs ys a.1 b)

take-none : {X : Type 0} (n : ℕ) (xs : List X) → xs ≡ [] → xs ≡ take n xs
take-none zero xs e = e
take-none (suc n) xs e = e ∙ sym (ap (take (suc n)) e)

take-zero : {X : Type 0} (n : ℕ) (xs : List X) → n ≡ 0 → take n xs ≡ []
take-zero n xs e = ap (λ m. take m xs) e

-- the decisions of a level and those below it are the first
pub decisions-up_to : (b level : ℕ) (xs : List Assigned) (depth : ℕ) → level ≤ b → Climbs level xs depth
    → decisions (up_to b xs) ≡ take (b - level) (decisions xs)
decisions-up_to b level [] depth low c = take-none (b - level) [] refl
decisions-up_to b level (x ∷ xs) depth low c =
    elim x.reason as (λ r. x.reason ≡ r → x.level ≡ level_after level r
    → decisions (up_to b (x ∷ xs)) ≡ take (b - level) (decisions (x ∷ xs))) [
      | None ↦ λ none at.
          elim (nat_le x.level b) as (λ k. nat_le x.level b ≡ k
          → decisions (if k then x ∷ up_to b xs else up_to b xs) ≡ take (b - level) (decisions (x ∷ xs))) [
            | true ↦ λ keeps.
                let under : x.level ≤ b = grind (arith, nat_tests) in
                let rest = decisions-up_to b x.level xs depth under c.1 in
                let more : b - level ≡ suc (b - x.level) = omega (arith, at, under) in
                rw (none, more) (ap (λ ls. x.lit ∷ ls) rest)
            | false ↦ λ drops.
                let over : b < x.level = grind (arith, nat_tests) in
                let least : b - level ≡ 0 = omega (arith, at, over, low) in
                ap decisions (none-up_to b x.level xs depth over c.1)
                ∙ sym (take-zero (b - level) (decisions (x ∷ xs)) least)
          ] refl
      | Some p ↦ λ some at.
          let under : x.level ≤ b = omega (arith, at, low) in
          let keeps : nat_le x.level b ≡ true = grind (arith, nat_tests) in
          let rest = decisions-up_to b x.level xs depth under c.1 in
          let same : b - level ≡ b - x.level = omega (arith, at) in
          rw (keeps, some, same) rest
    ] refl c.0
