-- a source that gives a piece again and again, round after round
use Rattle.std.specs.Prelude.{◌≡◌, ◌+◌, ℕ, List, [], ◌∷◌, take, drop}

-- the piece that is given, the bytes of it that its present round has left, and how many bytes were
-- taken in all rounds
pub record Repeated : Type 0 where
  pub piece : List ℕ
  pub rest : List ℕ
  pub taken : ℕ

-- what comes next: the rest of a round, and the whole piece again where nothing is left of it
abbrev pub next_round : List ℕ → List ℕ → List ℕ
next_round piece [] = piece
next_round piece (byte ∷ rest) = byte ∷ rest

-- the next n bytes of the round were passed
pub record IsFurther (n : ℕ) (old new : Repeated) : Type 0 where
  pub piece : new.piece ≡ old.piece
  pub rest : new.rest ≡ next_round old.piece (drop n old.rest)
  pub taken : new.taken ≡ old.taken + n

-- the next n bytes of the round were given
pub record Repeats (n : ℕ) (buffer : List ℕ) (old new : Repeated) : Type 0 where
  pub given : take n buffer ≡ take n old.rest
  pub further : IsFurther n old new
