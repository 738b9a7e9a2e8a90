-- what is true of every base
use Rattle.std.proofs.Common.{◌≡◌, ◌⊎◌, ℕ, ◌+◌, ◌-◌, ◌<◌, ◌≤◌, Bool, true, false, not, ◌&&◌, ◌||◌, List, [], ◌∷◌, Option, Some, IsSome, take, refl, sym, ap, ◌∙◌, subst, inl, inr, arith, nat_eq, nat_le, if◌then◌else◌, cond}
use Rattle.std.specs.List.{find}
use Rattle.std.specs.Option.{option_map, unwrap_or}
use Rattle.std.proofs.lemmas.Bool.Decides.{nat_tests}
use Rattle.std.proofs.lemmas.List.Sums.{sum_by-cons}
use Rattle.std.specs.FinMap as finite
use Rattle.gr_logic.specs.Literals.{Literal, negation, same_literal, same_sign, var_of}
use Rattle.gr_logic.specs.NormalForms.{IsNormal}
use Rattle.gr_logic.specs.Rup.{LiteralSet, members}
use Rattle.gr_logic.specs.Closure.{DerivesConflict, no_literals}
use Rattle.gr_logic.specs.declared.places.Place.{Place}
use Rattle.gr_logic.proofs.Sound.{same_literal-is}
use Rattle.gr_logic.proofs.SameLiteral.{members-first, members-later}
use Rattle.gr_trail.specs.Trails.{Assigned, TrailState, true_in, up_to, assigned_to, Climbs}
use Rattle.gr_trail.proofs.Levels.{climbs-le}
use Rattle.gr_watch.specs.WatchLists.{WatchLists}
use Rattle.gr_prop.specs.Bases.{clauses_in, family, decisions, IsBase}
use Rattle.gr_prop.specs.Watching.{Store, lits_at, bit, occurs, AllFalse, IsReady, IsKeptBase}
use Rattle.gr_prop.proofs.TrailSets.{or-first, or-second, decisions-up_to}
use Rattle.gr_prop.proofs.Closed.{falsified-derives, founded-up_to}
use Rattle.gr_prop.proofs.Stores.{family-there}
use Rattle.gr_prop.proofs.Rounds.{levels-closed, ready-closed}

-- the level of a literal that is true, but not at this level or below
found-level : (xs : List Assigned) (l : Literal) (b level depth : ℕ) → Climbs level xs depth → true_in xs l ≡ true →
    true_in xs (negation l) ≡ false
    → true_in (up_to b xs) l ≡ false → (high : ℕ) × ((option_map (λ a. a.level) (assigned_to xs (var_of l)) ≡ Some
    high) × ((b < high) × (high ≤ depth)))
found-level [] l b level depth c now other gone = absurd (cc)
found-level (x ∷ xs) l b level depth c now other gone =
    elim (nat_eq (var_of x.lit) (var_of l)) as (λ e. nat_eq (var_of x.lit) (var_of l) ≡ e
    → (high : ℕ) × ((option_map (λ a. a.level) (cond e (Some x) (find (λ a. nat_eq (var_of a.lit) (var_of l)) xs)) ≡
    Some high) × ((b < high) × (high ≤ depth)))) [
      | true ↦ λ same. (x.level, (refl, (above same, (climbs-le x.level xs depth c.1).0)))
      | false ↦ λ apart.
          let no' : same_literal l x.lit ≡ false = not-here l x.lit apart in
          let no'' : same_literal (negation l) x.lit ≡ false = not-here (negation l) x.lit apart in
          found-level xs l b x.level depth c.1 (rw no' at now)
          (or-second (same_literal (negation l) x.lit) (true_in xs (negation l)) other)
          (rest (nat_le x.level b) no' gone)
    ] refl
  where
    not-here : (l y : Literal) → nat_eq (var_of y) (var_of l) ≡ false → same_literal l y ≡ false
    not-here l y apart = let e : nat_eq l.index y.index ≡ false = grind (arith, nat_tests) in ap
        (λ t. t && same_sign l.positive y.positive) e

    signs : (s t : Bool) → (same_sign s t ≡ true) ⊎ (same_sign (not s) t ≡ true)
    signs true true = inl refl
    signs true false = inr refl
    signs false true = inr refl
    signs false false = inl refl

    rest : (k : Bool) → same_literal l x.lit ≡ false → true_in (if k then x ∷ up_to b xs else up_to b xs) l ≡ false →
        true_in (up_to b xs) l ≡ false
    rest true no' e = or-second (same_literal l x.lit) (true_in (up_to b xs) l) e
    rest false no' e = e

    above : nat_eq (var_of x.lit) (var_of l) ≡ true → b < x.level
    above same =
        let one : nat_eq l.index x.lit.index ≡ true = grind (arith, nat_tests) in
        elim (signs l.positive x.lit.positive) as (λ _. b < x.level) [
          | inl yes' ↦
              let is : same_literal l x.lit ≡ true = ap (λ t. t && same_sign l.positive x.lit.positive) one ∙ yes' in
              elim (nat_le x.level b) as (λ k. nat_le x.level b ≡ k → true_in
              (if k then x ∷ up_to b xs else up_to b xs) l ≡ false → b < x.level) [
                | true ↦ λ _ e. absurd (let f = or-first (same_literal l x.lit) (true_in (up_to b xs) l) e in cc)
                | false ↦ λ over _. grind (arith, nat_tests)
              ] refl gone
          | inr no' ↦
              let is : same_literal (negation l) x.lit ≡ true = ap
              (λ t. t && same_sign (not l.positive) x.lit.positive) one ∙ no' in
              absurd (let f = or-first (same_literal (negation l) x.lit) (true_in xs (negation l)) other in cc)
        ]

-- a literal of the clause whose negation is not in the set, or all are false
seek : (set : LiteralSet) (c : List Literal)
    → ((q : Literal) × ((members c q ≡ true) × (set (negation q) ≡ false))) ⊎
    ((q : Literal) → members c q ≡ true → set (negation q) ≡ true)
seek set [] = inr (λ q m. absurd (cc))
seek set (x ∷ xs) =
    elim (set (negation x)) as (λ b. set (negation x) ≡ b
    → ((q : Literal) × ((members (x ∷ xs) q ≡ true) × (set (negation q) ≡ false))) ⊎
    ((q : Literal) → members (x ∷ xs) q ≡ true → set (negation q) ≡ true)) [
      | false ↦ λ free. inl (x, (members-first x xs, free))
      | true ↦ λ falls.
          elim (seek set xs) as (λ _. ((q : Literal) × ((members (x ∷ xs) q ≡ true) × (set (negation q) ≡ false))) ⊎
          ((q : Literal) → members (x ∷ xs) q ≡ true → set (negation q) ≡ true)) [
            | inl one ↦ inl (one.0, (members-later one.0 x xs one.1.0, one.1.1))
            | inr all ↦ inr (λ q m. each q m falls all)
          ]
    ] refl
  where
    each : (q : Literal) → members (x ∷ xs) q ≡ true → set (negation x) ≡ true →
        ((q : Literal) → members xs q ≡ true → set (negation q) ≡ true) → set (negation q) ≡ true
    each q m falls all = elim (same_literal q x) as (λ b. same_literal q x ≡ b → (b || members xs q) ≡ true → set
        (negation q) ≡ true) [
          | true ↦ λ same _. ap (λ y. set (negation y)) (same_literal-is q x same) ∙ falls
          | false ↦ λ _ n. all q n
        ] refl m

-- a false clause has a literal of the present level: else the level below were a conflict
present-at : (k : Store) (t : TrailState) (ws : WatchLists) (head : ℕ) (broken : List Place) (p : ℕ) → IsReady k t ws
    head broken
    → IsSome (finite.get k p) → AllFalse t.assigned (lits_at k p) → 0 < t.depth
    → (q : Literal) × ((members (lits_at k p) q ≡ true) × (option_map (λ a. a.level)
    (assigned_to t.assigned (var_of q)) ≡ Some t.depth))
present-at k t ws head broken p ready there falses high =
    let b : ℕ = t.depth - 1 in
    let low : b < t.depth = omega arith in
    elim (seek (true_in (up_to b t.assigned)) (lits_at k p)) as
    (λ _. (q : Literal) × ((members (lits_at k p) q ≡ true) ×
    (option_map (λ a. a.level) (assigned_to t.assigned (var_of q)) ≡ Some t.depth))) [
      | inl one ↦
          let now : true_in t.assigned (negation one.0) ≡ true = falses one.0 one.1.0 in
          let other : true_in t.assigned (negation (negation one.0)) ≡ false =
          elim (true_in t.assigned (negation (negation one.0))) as
          (λ e. true_in t.assigned (negation (negation one.0)) ≡ e → e ≡ false) [
            | true ↦ λ h. absurd (ready.sound.consistent (negation one.0) now h)
            | false ↦ λ _. refl
          ] refl in
          let found = found-level t.assigned (negation one.0) b 0 t.depth ready.sound.climbs now other one.1.1 in
          let is : found.0 ≡ t.depth = let f = found.1.1.0 in let g = found.1.1.1 in omega arith in
          (one.0, (one.1.0, found.1.0 ∙ ap Some is))
      | inr all ↦
          let closed = levels-closed k t ws head b broken ready low in
          absurd (closed.no_conflict (subst (λ ds. DerivesConflict (family (clauses_in k)) (members ds)) (decided b low)
          (falsified-derives (family (clauses_in k)) (up_to b t.assigned) p (lits_at k p)
          (founded-up_to (family (clauses_in k)) b 0 no_literals t.assigned t.depth ready.sound.climbs
          ready.sound.founded) (family-there k p there) all)))
    ]
  where
    decided : (b : ℕ) → b < t.depth → decisions (up_to b t.assigned) ≡ take b (decisions t.assigned)
    decided b low = decisions-up_to b 0 t.assigned t.depth (omega arith) ready.sound.climbs ∙ ap
        (λ n. take n (decisions t.assigned)) (let e : b - 0 ≡ b = omega arith in e)

-- what is true of every base
pub base-is : (k : Store) (t : TrailState) (ws : WatchLists) (places : finite.FinMap _ Place) (head : ℕ)
    (broken : List Place) (quiet : Bool) (conflict : Option Place)
    → IsKeptBase k t ws places head broken quiet conflict → IsBase
    (record { clauses = clauses_in k; trail = t; quiet = quiet; conflict = conflict })
base-is k t ws places head broken quiet conflict kept = record {
  founded = kept.ready.sound.founded;
  finished = λ level low. levels-closed k t ws head level broken kept.ready low;
  closed = λ done.
      let end = kept.ended.done done in
      ready-closed k t ws head (subst (IsReady k t ws head) end.1 kept.ready) end.0;
  conflict = λ place is.
      let f = kept.ended.falsified place is in
      (members (lits_at k place.0), (family-there k place.0 f.0, f.1));
  present = λ place is high.
      let f = kept.ended.falsified place is in (
        members (lits_at k place.0),
        (
          family-there k place.0 f.0,
          present-at k t ws head broken place.0 kept.ready f.0
              f.1 high,
        ),
      );
  ids = λ p q c d at-p at-q same.
      let one = kept.indexed.kept (record { 0 = p }) c.id (c, at-p, refl) in
      let two = kept.indexed.kept (record { 0 = q }) d.id (d, at-q, refl) in
      ap (λ (o : Option Place). (unwrap_or {T = Place} o (record { 0 = p })).0)
      (sym one ∙ ap (finite.get places) same ∙ two);
}

-- ---- a clause without a variable twice is normal
one-variable : (c : List Literal) (q : Literal) → members c q ≡ true → 1 ≤ occurs c q.index
one-variable [] q m = absurd (cc)
one-variable (x ∷ xs) q m =
    let e : occurs (x ∷ xs) q.index ≡ bit (nat_eq x.index q.index) + occurs xs q.index = sum_by-cons
    (λ (y : Literal). bit (nat_eq y.index q.index)) x xs in
    elim (same_literal q x) as (λ b. same_literal q x ≡ b → (b || members xs q) ≡ true → 1 ≤ occurs (x ∷ xs) q.index) [
      | true ↦ λ same _.
          let is : x.index ≡ q.index = sym (ap (λ (y : Literal). y.index) (same_literal-is q x same)) in
          let one : nat_eq x.index q.index ≡ true = grind (arith, nat_tests) in
          let f : bit (nat_eq x.index q.index) ≡ 1 = ap bit one in
          omega arith
      | false ↦ λ _ n. let rest = one-variable xs q n in omega arith
    ] refl m

pub distinct-normal : (c : List Literal) → ((index : ℕ) → occurs c index ≤ 1) → IsNormal c
distinct-normal [] all = tt
distinct-normal (x ∷ xs) all = (
  (λ q m is.
      let rest = one-variable xs q m in
      let e : occurs (x ∷ xs) q.index ≡ bit (nat_eq x.index q.index) + occurs xs q.index = sum_by-cons
      (λ (y : Literal). bit (nat_eq y.index q.index)) x xs in
      let one : nat_eq x.index q.index ≡ true = grind (arith, nat_tests) in
      let f : bit (nat_eq x.index q.index) ≡ 1 = ap bit one in
      let g = all q.index in
      omega arith),
  distinct-normal xs (λ index.
      let e : occurs (x ∷ xs) index ≡ bit (nat_eq x.index index) + occurs xs index = sum_by-cons
      (λ (y : Literal). bit (nat_eq y.index index)) x xs in
      let g = all index in
      omega arith),
)

pub normal-distinct : (c : List Literal) → IsNormal c → (index : ℕ) → occurs c index ≤ 1
normal-distinct [] n index = omega arith
normal-distinct (x ∷ xs) n index =
    let e : occurs (x ∷ xs) index ≡ bit (nat_eq x.index index) + occurs xs index = sum_by-cons
    (λ (y : Literal). bit (nat_eq y.index index)) x xs in
    let rest = normal-distinct xs n.1 index in
    elim (nat_eq x.index index) as (λ b. nat_eq x.index index ≡ b → occurs (x ∷ xs) index ≤ 1) [
      | false ↦ λ other. let f : bit (nat_eq x.index index) ≡ 0 = ap bit other in omega arith
      | true ↦ λ same.
          let is : x.index ≡ index = grind (arith, nat_tests) in
          let none : occurs xs index ≡ 0 = absent xs (λ q m j. n.0 q m (j ∙ sym is)) in
          let f : bit (nat_eq x.index index) ≡ 1 = ap bit same in
          omega arith
    ] refl
  where
    absent : (ys : List Literal) → ((q : Literal) → members ys q ≡ true → q.index ≡ index → ⊥) → occurs ys index ≡ 0
    absent [] none = refl
    absent (y ∷ ys) none =
        let e : occurs (y ∷ ys) index ≡ bit (nat_eq y.index index) + occurs ys index = sum_by-cons
        (λ (z : Literal). bit (nat_eq z.index index)) y ys in
        let rest = absent ys (λ q m. none q (members-later q y ys m)) in
        elim (nat_eq y.index index) as (λ b. nat_eq y.index index ≡ b → occurs (y ∷ ys) index ≡ 0) [
          | true ↦ λ same. absurd (none y (members-first y ys) (grind (arith, nat_tests)))
          | false ↦ λ other. let f : bit (nat_eq y.index index) ≡ 0 = ap bit other in omega arith
        ] refl
