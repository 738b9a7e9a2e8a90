-- finite maps with one more entry
use Rattle.std.proofs.Common.{◌≡◌, ◌≢◌, ℕ, true, false, cond, Some, refl, ap, ◌∙◌, subst, arith, ◌==◌}
use Rattle.std.proofs.lemmas.Bool.Decides.{nat_tests}
use Rattle.std.specs.Ordering.{nat_cmp, eq_by_cmp}
use Rattle.std.specs.Cmp.{nat_cmp_total, unsigned_tied}
use Rattle.std.specs.FinMap as finite

-- what holds at this place, and at each other, holds everywhere
pub by_place : (P : ℕ → Type 0) (place : ℕ) → P place → ((q : ℕ) → q ≢ place → P q) → (q : ℕ) → P q
by_place P place here there q =
    elim (q == place) as (λ b. (q == place) ≡ b → P q) [
      | true ↦ λ is. let v : place ≡ q = grind (arith, nat_tests) in subst P v here
      | false ↦ λ is. there q (λ w. let t : (q == place) ≡ true = grind (arith, nat_tests) in cc)
    ] refl

module _ {X : Type 0} (k : finite.FinMap nat_cmp X) (p : ℕ) (x : X) where
  -- the new entry
  pub get-new : finite.get (finite.insert k p x) p ≡ Some x
  get-new = finite.get-insert nat_cmp_total k p x p
      ∙ ap (λ b. cond b (Some x) (finite.get k p)) tied
    where
      tied : eq_by_cmp nat_cmp p p ≡ true
      tied = unsigned_tied p p ∙ grind (arith, nat_tests)

  -- the other entries
  pub get-other : (q : ℕ) → q ≢ p → finite.get (finite.insert k p x) q ≡ finite.get k q
  get-other q apart = finite.get-insert nat_cmp_total k p x q
      ∙ ap (λ b. cond b (Some x) (finite.get k q)) untied
    where
      untied : eq_by_cmp nat_cmp q p ≡ false
      untied = unsigned_tied q p ∙ grind (arith, nat_tests)
