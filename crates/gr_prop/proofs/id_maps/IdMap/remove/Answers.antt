use Rattle.std.proofs.Common.{ap, ◌∙◌}
use Rattle.std.specs.FinMap as finite
use Rattle.gr_prop.proofs.IdEntries.{entries-remove}
use Rattle.gr_prop.proofs.id_maps.IdMap.remove.Goals as goal

pub returns : goal.returns
returns c =
    entries-remove c.self.inside.places.entries c.remove.new.self.entries c.args.id c.remove.ensures.updates.0
    ∙ ap (λ m. finite.remove m c.args.id) c.self.view_is
