-- ids and the places they lead to
use Rattle.std.proofs.Common.{◌≡◌, ℕ, Option, Some, None, refl, sym, ap, List, IsSome, Result, Ok, Err}
use Rattle.std.specs.Option.{IfSome, IfNone, is_some}
use Rattle.std.specs.Result.{IfOk}
use Rattle.std.specs.FinMap as finite
use Rattle.gr_logic.specs.declared.places.Place.{Place}
use Rattle.gr_prop.specs.Bases.{Clauses, HasIdAt, HasId, LacksId}
use Rattle.gr_prop.specs.BaseChanges.{AreIdsOf}
use Rattle.gr_prop.specs.Ascending.{AreKeysOf}
use Rattle.gr_prop.specs.Watching.{IsIndexed}

pub found-some : (k : Clauses) (places : finite.FinMap _ Place) (id : ℕ) (r : Option Place) → IsIndexed k places → r
    ≡ finite.get places id
    → IfSome r (λ place. HasIdAt k id place)
found-some k places id None indexed is = tt
found-some k places id (Some p) indexed is = indexed.found id p (sym is)

pub found-none : (k : Clauses) (places : finite.FinMap _ Place) (id : ℕ) (r : Option Place) → IsIndexed k places → r
    ≡ finite.get places id
    → IfNone r (LacksId k id)
found-none k places id None indexed is = λ p c at same.
    let e : finite.get places id ≡ Some (record { 0 = p }) = indexed.kept (record { 0 = p }) id (c, at, same) in
    cc
found-none k places id (Some p) indexed is = tt

-- an id that leads nowhere is no clause's, and the other way round
pub unused-none : (k : Clauses) (places : finite.FinMap _ Place) (id : ℕ) → IsIndexed k places → LacksId k id →
    finite.get places id ≡ None
unused-none k places id indexed lacks = go (finite.get places id) refl
  where
    go : (o : Option Place) → finite.get places id ≡ o → o ≡ None
    go None e = refl
    go (Some p) e = let h = indexed.found id p e in absurd (lacks p.0 h.0 h.1 h.2)

-- the keys of the index are the ids of the clauses
pub keys-ids : (k : Clauses) (places : finite.FinMap _ Place) (ids : List ℕ) → IsIndexed k places → AreKeysOf places
    ids → AreIdsOf k ids
keys-ids k places ids indexed keys = record {
  rising = keys.rising;
  each = λ id. (
    (λ c. there id (finite.get places id) refl ((keys.each id).0 c)),
    (λ h. (keys.each id).1 (ap is_some (indexed.kept h.0 id h.1))),
  );
}
  where
    there : (id : ℕ) (o : Option Place) → finite.get places id ≡ o → IsSome o → HasId k id
    there id None e h = absurd (cc)
    there id (Some p) e h = (p, indexed.found id p e)

pub ids-are : {E : Type 0} (k : Clauses) (places : finite.FinMap _ Place) (r : Result (List ℕ) E) → IsIndexed k places
    → IfOk r (λ ids. AreKeysOf places ids) → IfOk r (λ ids. AreIdsOf k ids)
ids-are k places (Ok ids) indexed keys = keys-ids k places ids indexed keys
ids-are k places (Err e) indexed keys = tt
