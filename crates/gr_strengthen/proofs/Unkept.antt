-- ids that nothing is kept under stay so
use Rattle.std.proofs.Common.{◌≡◌, ◌≢◌, ℕ, ◌<◌, List, [], ◌∷◌, None, ap, ◌∙◌, arith}
use Rattle.std.specs.FinMap as finite
use Rattle.gr_logic.specs.LiteralSets.{FiniteSet}
use Rattle.gr_prop.proofs.Stores.{get-insert-other, get-remove-same, get-remove-other}
use Rattle.gr_strengthen.specs.Families.{KeptClauses, without_ids}
use Rattle.gr_strengthen.proofs.KeptMaps.{by-eq}

pub unkept-insert : (kept : KeptClauses) (id j : ℕ) (c : FiniteSet) → id < j → finite.get kept j ≡ None
    → finite.get (finite.insert kept id c) j ≡ None
unkept-insert kept id j c low none =
    let apart : j ≢ id = omega arith in
    get-insert-other kept id c j apart ∙ none

unkept-remove : (kept : KeptClauses) (id j : ℕ) → finite.get kept j ≡ None → finite.get (finite.remove kept id) j ≡ None
unkept-remove kept id j none =
    by-eq (finite.get (finite.remove kept id) j ≡ None) j id
    (λ same. ap (finite.get (finite.remove kept id)) same ∙ get-remove-same kept id)
    (λ apart. get-remove-other kept id j apart ∙ none)

pub unkept-without : (kept : KeptClauses) (ids : List ℕ) (j : ℕ) → finite.get kept j ≡ None
    → finite.get (without_ids kept ids) j ≡ None
unkept-without kept [] j none = none
unkept-without kept (id ∷ ids) j none = unkept-without (finite.remove kept id) ids j (unkept-remove kept id j none)
