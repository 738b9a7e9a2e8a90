use Rattle.std.proofs.Common.{◌≡◌, ◌++◌, [], ap, sym, ◌∙◌, subst, IsPermutation}
use Rattle.std.proofs.lemmas.List.{append-nil}
use Rattle.std.specs.Map.{keys_of}
use Rattle.std.specs.Map.Iter.{deref}
use Rattle.std.proofs.lemmas.Map.Iter.{rest_all}
use Rattle.gr_prop.specs.Ascending.{AreKeysOf}
use Rattle.gr_prop.proofs.IdOrder.{keys-are, ok-equal}
use Rattle.gr_prop.proofs.id_maps.IdMap.ids.Goals as goal

pub returns : goal.returns
returns c =
    let done : c.loop-id.id-iterator ≡ [] = rest_all deref c.loop-id.id-iterator c.next.new.self c.next.result
    c.in-None.is c.next.ensures.steps in
    let all : c.loop-id.keys.items ≡ keys_of c.self.inside.places.entries =
    sym (append-nil c.loop-id.keys.items) ∙ ap (λ xs. c.loop-id.keys.items ++ xs) (sym done) ∙ c.loop-id.invariant in
    ok-equal c.copied.result c.as_slice.result.now (AreKeysOf c.args.self.now) c.copied.ensures
    (subst (AreKeysOf c.args.self.now) (sym c.as_slice.ensures.value)
    (subst (λ m. AreKeysOf m c.sort.new.self.items) c.self.view_is
    (keys-are c.self.inside.places.entries c.sort.new.self.items c.keys-id-items.ensures.unique
    (subst (λ xs. IsPermutation xs c.sort.new.self.items) all c.in_ok-sort.ensures.permutation)
    c.in_ok-sort.ensures.sorted)))
