use Rattle.std.proofs.Common.{IsSome, ap, sym, ◌∙◌, subst}
use Rattle.std.specs.FinMap as finite
use Rattle.std.specs.Map.{lookup}
use Rattle.std.proofs.Common.{nat_eq}
use Rattle.gr_prop.proofs.IdEntries.{entries-insert, get-entries, none-some}
use Rattle.gr_prop.proofs.id_maps.IdMap.replace.Goals as goal

pub unreachable-requires : goal.unreachable-requires
unreachable-requires c =
    let there : IsSome (lookup (nat_eq c.args.id) c.self.inside.places.entries) =
    subst IsSome (ap (λ m. finite.get m c.args.id) (sym c.self.view_is) ∙ get-entries c.self.inside.places.entries
    c.args.id) c.requires in
    none-some (lookup (nat_eq c.args.id) c.self.inside.places.entries) there c.in-Err.ensures.absent

pub returns : goal.returns
returns c =
    entries-insert c.self.inside.places.entries c.insert.new.self.entries c.args.id c.args.place
    c.in-Ok.ensures.updates.0
    ∙ ap (λ m. finite.insert m c.args.id c.args.place) c.self.view_is
