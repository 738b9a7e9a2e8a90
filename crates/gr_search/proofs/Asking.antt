-- what an ask owes once it is remembered
use Rattle.std.proofs.Common.{◌≡◌, ℕ, ◌+◌, ◌*◌, ◌≤◌, Bool, true, false, ◌||◌, List, [], ◌∷◌, length, get_or, All, refl, sym, ap, ◌∙◌, subst}
use Rattle.std.specs.List.{list_any}
use Rattle.std.proofs.lemmas.Option.{slice_get_within, get_or_from_slice_get}
use Rattle.gr_logic.specs.Literals.{Literal, same_literal}
use Rattle.gr_logic.specs.Rup.{members}
use Rattle.gr_logic.specs.Truth.{literal_true}
use Rattle.gr_logic.proofs.Sound.{same_literal-is}
use Rattle.gr_logic.proofs.SameLiteral.{or-true}
use Rattle.gr_logic.specs.Formulas.{VarsUpTo}
use Rattle.gr_logic.specs.NormalForms.{IsNormal}
use Rattle.gr_trail.specs.Trails.{Assigned, IsTrail}
use Rattle.gr_trail.proofs.Standing.{true-at}
use Rattle.gr_prop.specs.Bases.{BaseState, IsBase}
use Rattle.gr_prop.specs.BaseChanges.{IsAddable, back_to}
use Rattle.gr_prop.proofs.Models.{model}
use Rattle.gr_analyze.specs.Learning.{IsTaught}
use Rattle.gr_analyze.specs.declared.analyzers.Learnt.{Learnt}
use Rattle.gr_search.specs.declared.asks.Ask.TheVariants as ask
use Rattle.gr_search.specs.declared.solving.Request.{Request}
use Rattle.gr_search.specs.declared.solving.Request.TheVariants.{Learning}
use Rattle.gr_search.specs.declared.solving.Solver.{Solver}
use Rattle.gr_search.specs.Deciding.{HasAllValues}
use Rattle.gr_search.specs.Keeping.{IsProved, IsNewTo, IsModelOf, MakesTrue}
use Rattle.gr_search.specs.Solvers.{IsGrounded, IsForgettable, MayForget, IsReadyToLearn}
use Rattle.gr_search.specs.SolverTurns.{IsAsking}
use Rattle.gr_search.proofs.Learnt.{lbd-short, taught-within, taught-addable, taught-new, taught-proved}

pub may-forget : (s : Solver) (ids : List ℕ) (r : Request) → IsGrounded s
    → 2_000 * (s.counts.tally.forgets + 1) ≤ s.counts.tally.learns_since → s.counts.tally.waits ≡ false
    → All (IsForgettable s.base.clauses s.first_learnt) ids → MayForget (record s { request = r }) ids
may-forget s ids r grounded due free each = record {
  grounded = record { ground = grounded.ground; all = grounded.all };
  due = due;
  free = free;
  each = each;
}

-- a base in conflict taught the clause, and the search went back and keeps it
module _ (b : BaseState) (learnt : Learnt) (vars : ℕ) (trail : IsTrail b.trail) (taught : IsTaught b learnt)
    (known : b.trail.vars ≡ vars) (s : Solver) (alike : s.vars ≡ vars) (same : s.learnt ≡ learnt.clause) where
  pub ready-to-learn : s.base.trail ≡ back_to b.trail learnt.back_to → IsReadyToLearn s learnt.lbd
  ready-to-learn back = record {
    normal = subst IsNormal (sym same) taught.normal;
    within = subst (VarsUpTo s.vars) (sym same)
        (subst (λ n. VarsUpTo n learnt.clause) (known ∙ sym alike) (taught-within b learnt trail taught));
    short = subst (λ c. learnt.lbd ≤ length c) (sym same) (lbd-short b learnt trail taught);
    addable = λ some. subst (λ t. IsAddable t s.learnt) (sym back)
        (subst (IsAddable (back_to b.trail learnt.back_to)) (sym same)
        (taught-addable b learnt trail taught (λ none. some (same ∙ none))));
  }

  pub asks-to-learn : s.base.clauses ≡ b.clauses → s.counts.tally.waits ≡ false → s.request ≡ Learning learnt.lbd
      → IsAsking s (ask.Learn learnt.clause learnt.hints learnt.lbd false)
  asks-to-learn clauses free request = (
    request,
    same,
    refl,
    free,
    subst (λ k. IsProved k s.vars learnt.clause learnt.hints) (sym clauses)
        (subst (λ n. IsProved b.clauses n learnt.clause learnt.hints) (known ∙ sym alike)
        (taught-proved b learnt trail taught)),
    lbd-short b learnt trail taught,
    λ some. subst (λ k. IsNewTo k learnt.clause) (sym clauses) (taught-new b learnt trail taught some),
  )

some-true : (values : List Bool) (c : List Literal) (q : Literal) → members c q ≡ true → literal_true values q ≡ true
    → list_any (literal_true values) c ≡ true
some-true values [] q there holds = absurd (cc)
some-true values (x ∷ c) q there holds =
    elim (same_literal q x) as (λ b. same_literal q x ≡ b → (b || members c q) ≡ true
    → (literal_true values x || list_any (literal_true values) c) ≡ true) [
      | true ↦ λ same _. ap (λ b. b || list_any (literal_true values) c)
          (subst (λ (l : Literal). literal_true values l ≡ true) (same_literal-is q x same) holds)
      | false ↦ λ _ rest. ap (λ b. literal_true values x || b) (some-true values c q rest holds)
          ∙ or-true (literal_true values x)
    ] refl there

-- where a quiet base gives each variable a value, its literals satisfy each clause
pub is-model-of : (b : BaseState) (vars : ℕ) (values : List Bool) → IsBase b → b.quiet ≡ true → b.trail.vars ≡ vars
    → HasAllValues vars b.trail.assigned → length values ≡ vars → MakesTrue values b.trail.assigned
    → IsModelOf b.clauses vars values
is-model-of b vars values base quiet known all sized makes = record {
  sized = sized;
  meets = λ place c at within.
      let m = model b place c base quiet at (subst (λ n. VarsUpTo n c) (sym known) within)
      (subst (λ n. HasAllValues n b.trail.assigned) (sym known) all) in
      let on = true-at b.trail.assigned m.0 m.2 in
      let here : get_or b.trail.assigned on.0 on.1 ≡ on.1 =
      get_or_from_slice_get b.trail.assigned on.0 on.1 on.1 on.2 in
      some-true values c m.0 m.1
      (subst (λ (q : Literal). literal_true values q ≡ true) (ap (λ (a : Assigned). a.lit) here ∙ on.3)
      (makes on.0 on.1 (slice_get_within b.trail.assigned on.0 on.1 on.2)));
}
