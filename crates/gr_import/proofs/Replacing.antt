-- a clause that comes in for another one
use Rattle.std.proofs.Common.{◌≡◌, ◌⊎◌, ℕ, Bool, true, false, cond, List, length, Option, Some, None, inl, inr, sym, ap, ◌∙◌, subst}
use Rattle.std.specs.Ordering.{nat_cmp, eq_by_cmp}
use Rattle.std.specs.Cmp.{nat_cmp_total}
use Rattle.std.specs.FinMap as finite
use Rattle.gr_logic.specs.Literals.{Literal}
use Rattle.gr_logic.specs.declared.places.Place.{Place}
use Rattle.gr_trail.specs.Trails.{TrailState}
use Rattle.gr_prop.specs.Bases.{BaseState, BaseClause, Clauses, LacksId}
use Rattle.gr_prop.specs.BaseChanges.{ForcesOpen, IsAdded, with_forced}
use Rattle.gr_import.specs.Imports.{Leaves, IsImported}

-- what is left after a removal was there before
was-there : (k : Clauses) (q p : ℕ) (c : BaseClause) → finite.get (finite.remove k q) p ≡ Some c
    → finite.get k p ≡ Some c
was-there k q p c is = go (eq_by_cmp nat_cmp p q) (sym (finite.get-remove nat_cmp_total k q p) ∙ is)
  where
    go : (b : Bool) → cond b None (finite.get k p) ≡ Some c → finite.get k p ≡ Some c
    go true e = absurd (cc)
    go false e = e

-- an id that no clause has is no id of what is left
pub leaves-lack : (k : Clauses) (old : Option ℕ) (len : ℕ) (left : Clauses) (lbd new : ℕ)
    → Leaves k old len left lbd → LacksId k new → LacksId left new
leaves-lack k None len left lbd new leaves lacks = subst (λ x. LacksId x new) (sym leaves.0) lacks
leaves-lack k (Some id) len left lbd new (inr other) lacks = subst (λ x. LacksId x new) (sym other.1.0) lacks
leaves-lack k (Some id) len left lbd new (inl gone) lacks =
    λ p c is. lacks p c (was-there k gone.0.0 p c (ap (λ x. finite.get x p) (sym gone.4) ∙ is))

-- what comes of the trail where a clause comes in
abbrev Comes : TrailState → TrailState → List Literal → Place → Type 0
Comes t u c place =
    ((l : Literal) × (ForcesOpen t.assigned c l × (u ≡ with_forced t l place)))
    ⊎ (((l : Literal) → ForcesOpen t.assigned c l → ⊥) × (u ≡ t))

-- a clause that came in where one was let go before
pub imported : (b m d : BaseState) (old : Option ℕ) (id len lbd : ℕ) (c : List Literal) (place : Place)
    → Leaves b.clauses old len m.clauses lbd → m.trail ≡ b.trail → len ≡ length c → IsAdded m d id lbd c place
    → IsImported b d old id c
imported b m d old id len lbd c place leaves trail is added = record {
  left = m.clauses;
  lbd = lbd;
  place = place;
  leaves = subst (λ n. Leaves b.clauses old n m.clauses lbd) is leaves;
  added = record {
    fresh = added.fresh;
    clauses = added.clauses;
    trail = subst (λ t. Comes t d.trail c place) trail added.trail;
    quiet = added.quiet;
    conflict = added.conflict;
  };
}
