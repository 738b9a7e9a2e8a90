-- the map has the id
use Rattle.std.proofs.Common.{ap, sym, ◌∙◌}
use Rattle.std.specs.Prelude.{is_some}
use Rattle.gr_check.specs.Entries.{entries_of}
use Rattle.gr_check.proofs.RunMaps.{get-clauses_of, is_some-option_map}
use Rattle.gr_check.proofs.pool.Pool.contains.Goals as goal

pub returns : goal.returns
returns c =
    rw (← c.self.view_is)
    (c.is_some.ensures ∙ ap is_some c.get.ensures ∙ sym (is_some-option_map _ _)
    ∙ ap is_some (sym (get-clauses_of c.self.inside.lits.items (entries_of c.self.inside.runs)
    c.args.id)))
