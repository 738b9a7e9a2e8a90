-- the places of an arena to which a clause is added
use Rattle.std.specs.Prelude.{◌≡◌, List, [], ◌∷◌, ◌++◌, All, IsSome, is_some}
use Rattle.std.proofs.Common.{ap}
use Rattle.std.proofs.lemmas.List.Elements.{All-push}
use Rattle.std.specs.FinMap as map
use Rattle.gr_arena.specs.Arenas.{Stored}
use Rattle.gr_arena.proofs.Places.{Clauses, still, own}
use Rattle.gr_logic.specs.declared.places.Place.{Place}

-- each place still has a clause, and so has the new one
pub pushed : (m n : Clauses) (place : Place) (s : Stored) (ps qs : List Place)
    → n ≡ map.insert m place.0 s → All (λ p. IsSome (map.get m p.0)) ps → qs ≡ ps ++ place ∷ []
    → All (λ p. IsSome (map.get n p.0)) qs
pushed m n place s ps qs is held grown =
    rw grown
    (All-push (λ p. IsSome (map.get n p.0)) ps place
    (λ k d below. still m n place.0 s _ is (held k d below)) (ap is_some (own m n place.0 s is)))
