use Rattle.std.proofs.Common.{ap, ◌∙◌}
use Rattle.std.specs.FinMap as finite
use Rattle.gr_prop.proofs.IdEntries.{entries-insert}
use Rattle.gr_prop.proofs.id_maps.IdMap.insert.Goals as goal

pub returns-clause-ok : goal.returns-clause-ok
returns-clause-ok c =
    entries-insert c.self.inside.places.entries c.insert.new.self.entries c.args.id c.args.place
    c.in_ok-insert.ensures.updates.0
    ∙ ap (λ m. finite.insert m c.args.id c.args.place) c.self.view_is
