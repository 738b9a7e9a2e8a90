-- a move is read where the id was
use Rattle.std.specs.Prelude.{◌≡◌, ℕ, ◌+◌, ◌*◌, ◌≤◌, List, length, Some, IsSome, refl}
use Rattle.std.proofs.Common.{ap, sym, subst, ◌∙◌, arith}
use Rattle.std.specs.Ordering.{nat_cmp}
use Rattle.std.specs.FinMap as map'
use Rattle.gr_logic.specs.declared.words.Word.{Word}
use Rattle.gr_arena.specs.Blocks.{Laid, arena_in, moves_in, bits_at}
use Rattle.gr_arena.proofs.Runs.{Found, found, total, id_is}
use Rattle.gr_arena.proofs.Compactions.{has_clause, move_is}

module _ (ws : List Word) (m : map'.FinMap nat_cmp ℕ) (x : ℕ) (is : moves_in ws
    ≡ m) (laid : Laid ws) (some : IsSome (map'.get m x)) where
  there : IsSome (map'.get (moves_in ws) x)
  there = subst (λ n. IsSome (map'.get n x)) (sym is) some

  f : Found ws (arena_in ws) x
  f = found ws (arena_in ws) x refl laid (has_clause ws laid x there)

  pub long : x + 4 ≤ length ws
  long = omega (arith, total f)

  pub move_read : map'.get m x ≡ Some (bits_at ws (x + 1) * 4_294_967_296 + bits_at ws (x + 0))
  move_read = ap (λ n. map'.get n x) (sym is) ∙ move_is ws laid x there ∙ ap Some (sym (id_is f))
