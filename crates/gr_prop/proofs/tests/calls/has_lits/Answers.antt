use Rattle.std.proofs.Common.{◌≡◌, Option, Some, None, IsSome, ap, sym, ◌∙◌, refl}
use Rattle.std.specs.Option.{option_map}
use Rattle.std.specs.FinMap as finite
use Rattle.gr_arena.specs.Arenas.{Stored}
use Rattle.gr_prop.specs.Bases.{BaseClause, base_clause}
use Rattle.gr_prop.proofs.Stores.{get-clauses_in}
use Rattle.gr_prop.proofs.tests.calls.has_lits.Goals as goal

is-there : (b : BaseClause) (o : Option Stored) → option_map base_clause o ≡ Some b → IsSome o
is-there b None e = absurd (cc)
is-there b (Some s) e = refl

pub lits-requires : goal.lits-requires
lits-requires c =
    let k = c.arena.result.now.clauses in
    let h = c.in-Some.ensures.some in
    is-there h.0 (finite.get k c.in-Some.place.0) (sym (get-clauses_in k c.in-Some.place.0)
    ∙ ap (λ x. finite.get x c.in-Some.place.0) c.arena.ensures.clauses ∙ h.1)
