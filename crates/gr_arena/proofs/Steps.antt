-- blocks are read one after another
use Rattle.std.specs.Prelude.{◌≡◌, ℕ, ◌+◌, ◌<◌, ◌≤◌, nat_lt, List, [], ◌∷◌, ◌++◌, length, take, drop}
use Rattle.std.proofs.Common.{ap, sym, ◌∙◌, arith, get_or}
use Rattle.std.proofs.lemmas.List.{length-append, length-drop, drop-drop, drop_at, take_at, get_or-drop}
use Rattle.std.proofs.Math.Nat.{le_refl}
use Rattle.gr_logic.specs.declared.words.Word.{Word}
use Rattle.gr_arena.specs.Arenas.{size}
use Rattle.gr_arena.specs.Blocks.{Block, word, count_in, count_word, words_of, flat, AllFit, Laid, blocks_in, bits_at}
use Rattle.gr_arena.proofs.Runs.{round, size_is, count_back, live_back}

-- blocks are read from their words as they were written
pub blocks_of : (ws : List Word) (bs : List Block) → ws ≡ flat bs → AllFit bs → blocks_in ws ≡ bs
blocks_of ws bs are fit = ap blocks_in are ∙ round (length (flat bs)) bs fit
    (le_refl (length (flat bs)))

-- the block at a place, and those behind it
pub record Next (ws : List Word) (p : ℕ) : Type 0 where
  pub block : Block
  pub rest : List Block
  pub are : drop p ws ≡ words_of block ++ flat rest
  pub fit : AllFit (block ∷ rest)

pub next : (ws : List Word) (p : ℕ) → Laid (drop p ws) → p < length ws → Next ws p
next ws p laid lt = at laid.blocks laid.are laid.fit
  where
    at : (bs : List Block) → drop p ws ≡ flat bs → AllFit bs → Next ws p
    at [] are fit = absurd (omega (arith, lt, length-drop p ws, ap length are))
    at (b ∷ bs) are fit = record { block = b; rest = bs; are = are; fit = fit }

module _ {ws : List Word} {p : ℕ} (n : Next ws p) (lt : p < length ws) where
  abbrev pub step : ℕ
  step = size n.block.stored

  pub total : length ws ≡ p + step + length (flat n.rest)
  total = omega (
    arith,
    lt,
    length-drop p ws,
    ap length n.are,
    length-append (words_of n.block) (flat n.rest),
    size_is n.block,
  )

  pub count_read : bits_at ws (p + 3) ≡ count_word n.block
  count_read = ap (λ (w : Word). w.bits) (sym (get_or-drop p ws 3 (word 0))
      ∙ ap (λ z. get_or z 3 (word 0)) n.are)

  pub size_read : 4 + count_in (bits_at ws (p + 3)) ≡ step
  size_read = ap (λ k. 4 + count_in k) count_read
      ∙ ap (λ k. 4 + k) (count_back n.block.live (length n.block.stored.lits) n.fit.0.0)

  -- the words have the block whole
  pub whole : (read : ℕ) → read ≡ 4 + count_in (bits_at ws (p + 3)) → p + read ≤ length ws
  whole read is = omega (arith, total, is ∙ size_read)

  pub live_read : nat_lt (bits_at ws (p + 3)) 2_147_483_648 ≡ n.block.live
  live_read = ap (λ k. nat_lt k 2_147_483_648) count_read
      ∙ live_back n.block.live (length n.block.stored.lits) n.fit.0.0

  pub here : blocks_in (drop p ws) ≡ n.block ∷ n.rest
  here = blocks_of (drop p ws) (n.block ∷ n.rest) n.are n.fit

  pub behind : drop (p + step) ws ≡ flat n.rest
  behind = sym (drop-drop step p ws) ∙ ap (drop step) n.are
      ∙ drop_at (words_of n.block) (flat n.rest) step (size_is n.block)

  pub laid_behind : Laid (drop (p + step) ws)
  laid_behind = record { blocks = n.rest; are = behind; fit = n.fit.1 }

  pub blocks_behind : blocks_in (drop (p + step) ws) ≡ n.rest
  blocks_behind = blocks_of (drop (p + step) ws) n.rest behind n.fit.1

  -- the words of the block
  pub block_words : take step (drop p ws) ≡ words_of n.block
  block_words = ap (take step) n.are ∙ take_at (words_of n.block) (flat n.rest) step
      (size_is n.block)
