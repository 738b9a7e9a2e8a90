-- where a piece that is given again and again stands after some bytes of a round
use Rattle.std.proofs.Common.{◌≡◌, ◌<◌, ◌∙◌, ◌+◌, sym, ap, ℕ, List, [], ◌∷◌, length, drop, arith, refl}
use Rattle.std.proofs.lemmas.List.{drop-drop, drop_all, length-drop}
use Rattle.gr_io.specs.Repeats.{next_round}

-- a round that has bytes left goes on
going_on : (piece rest : List ℕ) → 0 < length rest → rest ≡ next_round piece rest
going_on piece [] some = absurd (omega (arith, some))
going_on piece (byte ∷ rest) some = refl

-- a place within the piece shows what its round has left
pub within_round : (piece : List ℕ) (at n : ℕ) → at + n < length piece
    → drop (at + n) piece ≡ next_round piece (drop n (drop at piece))
within_round piece at n within =
    going_on piece (drop (at + n) piece) (omega (arith, length-drop (at + n) piece))
    ∙ ap (next_round piece) (sym (drop-drop n at piece))

-- at the end of a round the whole piece comes next
pub round_over : (piece : List ℕ) (at n : ℕ) → at + n ≡ length piece
    → piece ≡ next_round piece (drop n (drop at piece))
round_over piece at n over =
    ap (next_round piece)
    (sym (drop-drop n at piece ∙ drop_all (at + n) piece (omega (arith, over))))
