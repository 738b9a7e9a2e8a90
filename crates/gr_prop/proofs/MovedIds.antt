-- clauses by ids after they were moved
use Rattle.std.proofs.Common.{◌≡◌, ℕ, Option, Some, None, refl, sym, ap, ◌∙◌}
use Rattle.std.specs.Prelude.{IfSome, IfNone}
use Rattle.std.specs.Option.{is_some}
use Rattle.std.specs.FinMap as finite
use Rattle.gr_logic.specs.declared.places.Place.{Place}
use Rattle.gr_prop.specs.Bases.{BaseState, BaseClause, LacksId, HasIdAt}
use Rattle.gr_prop.specs.BaseChanges.{IsCompacted}

pub there : (old new : BaseState) (id : ℕ) (found : Option Place) → IsCompacted old new
    → IfSome found (HasIdAt new.clauses id)
    → IfSome found (λ place. (p : ℕ) × (c : BaseClause)
    × (finite.get old.clauses p ≡ Some c) × (c.id ≡ id) × (finite.get new.clauses place.0 ≡ Some c))
there old new id None moved h = tt
there old new id (Some place) moved h =
    let from = moved.onto place.0 (ap is_some h.1) in
    (from.0, h.0, sym (moved.kept from.0 place.0 from.1) ∙ h.1, h.2, h.1)

pub lacks : (old new : BaseState) (id : ℕ) (found : Option Place) → IsCompacted old new
    → IfNone found (LacksId new.clauses id) → IfNone found (LacksId old.clauses id)
lacks old new id (Some place) moved h = tt
lacks old new id None moved h = λ p c at is.
    elim (finite.get moved.moves p) as (λ o. finite.get moved.moves p ≡ o → ⊥) [
      | Some q ↦ λ e. h q c (moved.kept p q e ∙ at) is
      | None ↦ λ e. (let f = sym (ap is_some e) ∙ moved.moved p ∙ ap is_some at in cc)
    ] refl
