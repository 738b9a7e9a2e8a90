-- where propagation is quiet
use Rattle.std.proofs.Common.{◌≡◌, ◌≢◌, ◌⊎◌, inl, inr, ℕ, ◌<◌, true, false, ◌||◌, List, [], ◌∷◌, Some, None, refl, ap, ◌∙◌, if◌then◌else◌}
use Rattle.std.specs.Prelude.{All}
use Rattle.std.proofs.lemmas.List.Elements.{All-head, All-tail}
use Rattle.gr_logic.specs.Literals.{Literal, negation, same_literal}
use Rattle.gr_logic.specs.Rup.{LiteralSet, members}
use Rattle.gr_logic.specs.Closure.{ClauseFamily, InClosure, DerivesConflict}
use Rattle.gr_logic.proofs.Sound.{same_literal-is}
use Rattle.gr_logic.proofs.SameLiteral.{members-first, members-later}
use Rattle.gr_trail.specs.Trails.{Assigned, true_in, value_in}
use Rattle.gr_prop.specs.Bases.{BaseState, IsBase, family, decisions, IsUnitClosure}

-- where a literal has a value and is not true, its negation is
other : (xs : List Assigned) (l : Literal) → value_in xs l ≢ None → true_in xs l ≡ false → true_in xs
    (negation l) ≡ true
other xs l some f = elim (true_in xs (negation l)) as (λ b. true_in xs (negation l) ≡ b → b ≡ true) [
  | true ↦ λ _. refl
  | false ↦ λ g. absurd (some (ap (λ b. if b then Some true else (if true_in xs
      (negation l) then Some false else None)) f
      ∙ ap (λ b. if b then Some false else None) g))
] refl

-- a true literal, or all are false
seek : (xs : List Assigned) (vars : ℕ) (c : List Literal) → All (λ l. l.index < vars) c
    → ((l : Literal) → l.index < vars → value_in xs l ≢ None)
    → ((q : Literal) × (members c q ≡ true) × (true_in xs q ≡ true))
    ⊎ ((q : Literal) → members c q ≡ true → true_in xs (negation q) ≡ true)
seek xs vars [] known total = inr (λ q m. absurd (cc))
seek xs vars (x ∷ c) known total =
    elim (true_in xs x) as (λ b. true_in xs x ≡ b
    → ((q : Literal) × (members (x ∷ c) q ≡ true) × (true_in xs q ≡ true))
    ⊎ ((q : Literal) → members (x ∷ c) q ≡ true → true_in xs (negation q) ≡ true)) [
      | true ↦ λ f. inl (x, members-first x c, f)
      | false ↦ λ f.
          elim (seek xs vars c (All-tail (λ l. l.index < vars) x c known) total) as
          (λ _. ((q : Literal) × (members (x ∷ c) q ≡ true) × (true_in xs q ≡ true))
          ⊎ ((q : Literal) → members (x ∷ c) q ≡ true → true_in xs (negation q) ≡ true)) [
            | inl one ↦ inl (one.0, members-later one.0 x c one.1, one.2)
            | inr all ↦ inr (λ q m. each q m (other xs x (total x (All-head (λ l. l.index < vars) x c known)) f) all)
          ]
    ] refl
  where
    each : (q : Literal) → members (x ∷ c) q ≡ true → true_in xs (negation x) ≡ true
        → ((q : Literal) → members c q ≡ true → true_in xs (negation q) ≡ true) → true_in xs (negation q) ≡ true
    each q m f all = elim (same_literal q x) as (λ b. same_literal q x ≡ b → (b || members c q) ≡ true
        → true_in xs (negation q) ≡ true) [
          | true ↦ λ same _. ap (λ y. true_in xs (negation y)) (same_literal-is q x same) ∙ f
          | false ↦ λ _ n. all q n
        ] refl m

-- a clause that is false is a conflict
conflicts : (k : ClauseFamily) (given : LiteralSet) (place : ℕ) (c : List Literal) → k place ≡ Some (members c)
    → ((q : Literal) → members c q ≡ true → InClosure k given (negation q)) → DerivesConflict k given
conflicts k given place [] there all = inr (place, there)
conflicts k given place (x ∷ c) there all =
    inl (
      x,
      (
        (λ set within closed. closed place (members (x ∷ c)) x there
            (record { has = members-first x c; others = λ q m _. all q m set within closed })),
        all x (members-first x c),
      ),
    )

pub model : (b : BaseState) (place : ℕ) (c : List Literal) → IsBase b → b.quiet ≡ true
    → family b.clauses place ≡ Some (members c) → All (λ l. l.index < b.trail.vars) c
    → ((l : Literal) → l.index < b.trail.vars → value_in b.trail.assigned l ≢ None)
    → (q : Literal) × (members c q ≡ true) × (true_in b.trail.assigned q ≡ true)
model b place c base quiet there known total =
    let u : IsUnitClosure (family b.clauses) (decisions b.trail.assigned) b.trail.assigned = base.closed quiet in
    elim (seek b.trail.assigned b.trail.vars c known total) as
    (λ _. (q : Literal) × (members c q ≡ true) × (true_in b.trail.assigned q ≡ true)) [
      | inl one ↦ one
      | inr all ↦ absurd (u.no_conflict (conflicts (family b.clauses) (members
          (decisions b.trail.assigned)) place c there
          (λ q m. (u.closure (negation q)).0 (all q m))))
    ]
