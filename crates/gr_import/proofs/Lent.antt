-- clauses that an arena lends
use Rattle.std.proofs.Common.{◌≡◌, ℕ, Option, Some, None, refl, sym, ap, ◌∙◌}
use Rattle.std.specs.Option.{option_map}
use Rattle.std.specs.FinMap as finite
use Rattle.gr_arena.specs.Arenas.{Stored}
use Rattle.gr_prop.specs.Bases.{BaseClause, Clauses, base_clause, clauses_in}
use Rattle.gr_prop.specs.Watching.{Store}
use Rattle.gr_prop.proofs.Stores.{get-clauses_in}

-- a clause of the base is stored in the arena, without the order of its literals
pub stored-as : (k : Store) (clauses : Clauses) (p : ℕ) (c : BaseClause) → clauses_in k ≡ clauses
    → finite.get clauses p ≡ Some c → (s : Stored) × ((finite.get k p ≡ Some s) × (base_clause s ≡ c))
stored-as k clauses p c is there =
    go (finite.get k p) (sym (get-clauses_in k p) ∙ ap (λ x. finite.get x p) is ∙ there)
  where
    go : (o : Option Stored) → option_map base_clause o ≡ Some c → (s : Stored) × ((o ≡ Some s) × (base_clause s ≡ c))
    go None e = absurd (cc)
    go (Some s) e = (s, (refl, cc))
