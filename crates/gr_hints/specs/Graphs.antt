-- the implication graph of a trail: each literal with a reason is forced by it from the literals
-- before it
use Rattle.std.specs.Prelude.{◌≡◌, ◌<◌, true, List, [], ◌∷◌, All, Option, Some, None}
use Rattle.gr_logic.specs.Literals.{Literal, negation}
use Rattle.gr_logic.specs.NormalForms.{IsNormal}
use Rattle.gr_logic.specs.Rup.{LiteralSet, with_literal}
use Rattle.gr_logic.specs.Closure.{no_literals, Forces}
use Rattle.gr_logic.specs.declared.places.Place.{Place}
use Rattle.gr_arena.specs.Arenas.{ArenaState, Has, at}
use Rattle.gr_trail.specs.Trails.{Assigned, TrailState, IsTrail, true_in}
use Rattle.gr_hints.specs.Gathering.{literals_at}

-- a decision, or forced by its reason from the literals before it
abbrev pub IsReasoned : ArenaState → LiteralSet → Literal → Option Place → Type 0
IsReasoned arena before l None = Unit {0}
IsReasoned arena before l (Some place) = Has arena place × Forces before (literals_at arena place) l

-- so is each literal
abbrev pub AreReasoned : ArenaState → LiteralSet → List Assigned → Type 0
AreReasoned arena before [] = Unit {0}
AreReasoned arena before (a ∷ rest) =
    IsReasoned arena before a.lit a.reason × AreReasoned arena (with_literal before a.lit) rest

-- the trail and its reasons
pub record IsGraph (arena : ArenaState) (t : TrailState) : Type 0 where
  pub trail : IsTrail t
  pub reasoned : AreReasoned arena no_literals t.assigned
  pub known : (place : Place) → Has arena place → All (λ l. l.index < t.vars) (at arena place).lits
  pub normal : (place : Place) → Has arena place → IsNormal (at arena place).lits

-- the literal is false
abbrev pub IsFalse : List Assigned → Literal → Type 0
IsFalse assigned l = true_in assigned (negation l) ≡ true
