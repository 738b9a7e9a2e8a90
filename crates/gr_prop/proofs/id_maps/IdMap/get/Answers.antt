use Rattle.std.proofs.Common.{ap, sym, ◌∙◌}
use Rattle.std.specs.FinMap as finite
use Rattle.gr_prop.proofs.IdEntries.{get-entries}
use Rattle.gr_prop.proofs.id_maps.IdMap.get.Goals as goal

pub returns : goal.returns
returns c =
    c.copied.ensures ∙ c.get.ensures.value ∙ sym (get-entries c.self.inside.places.entries c.args.id)
    ∙ ap (λ m. finite.get m c.args.id) c.self.view_is
