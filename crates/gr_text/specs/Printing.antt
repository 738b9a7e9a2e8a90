-- what a printer has printed, handed on and kept
use Rattle.std.specs.Prelude.{◌≡◌, ◌++◌, ℕ, List, Option}
use Rattle.gr_io.specs.Pieces.{Gains}

-- a piece was printed: of the bytes that were pending, and then the piece, a front part was handed
-- on to the sink, and the rest is pending now
pub record Prints (piece : List ℕ) (old : Option (List ℕ)) (pending : List ℕ)
    (new : Option (List ℕ)) (pending' : List ℕ) : Type 0 where
  pub sent : List ℕ
  pub whole : sent ++ pending' ≡ pending ++ piece
  pub sink : Gains sent old new
