-- clauses as blocks of words: two for the id, one for the LBD, one for the number of literals, and one for each literal
use Rattle.std.specs.Prelude.{◌≡◌, ℕ, zero, suc, ◌+◌, ◌-◌, ◌*◌, ◌/◌, ◌%◌, ◌<◌, Bool, if◌then◌else◌, nat_lt, List, [], ◌∷◌, ◌++◌, length, map, take, drop, All, slice_index_or}
use Rattle.std.specs.Ordering.{nat_cmp}
use Rattle.std.specs.FinMap as map'
use Rattle.gr_logic.specs.Words.{literal_in, word_of, IsNumbered}
use Rattle.gr_logic.specs.declared.words.Word.{Word}
use Rattle.gr_arena.specs.Arenas.{Stored, ArenaState, size}

-- a clause in place, or one that was removed
pub record Block : Type 0 where
  pub live : Bool
  pub stored : Stored

-- the word of a number
abbrev pub word : ℕ → Word
word n = record { bits = n }

-- how many literals a counting word tells: it is raised where the clause was removed
abbrev pub count_in : ℕ → ℕ
count_in n = if nat_lt n 2_147_483_648 then n else n - 2_147_483_648

-- the word that counts a block's literals
abbrev pub count_word : Block → ℕ
count_word b = if b.live then length b.stored.lits else length b.stored.lits + 2_147_483_648

-- the words of a block
abbrev pub words_of : Block → List Word
words_of b =
    word (b.stored.id % 4_294_967_296) ∷ word (b.stored.id / 4_294_967_296) ∷ word b.stored.lbd
    ∷ word (count_word b) ∷ map word_of b.stored.lits

-- the words of blocks, one after another
abbrev pub flat : List Block → List Word
flat [] = []
flat (b ∷ bs) = words_of b ++ flat bs

-- the block of four words and those behind
abbrev pub block_in : ℕ → ℕ → ℕ → ℕ → List Word → Block
block_in low high lbd count ws = record {
  live = nat_lt count 2_147_483_648;
  stored = record {
    id = high * 4_294_967_296 + low;
    lbd = lbd;
    lits = map literal_in (take (count_in count) ws);
  };
}

-- what the words say, for so many blocks at most
abbrev pub parse : ℕ → List Word → List Block
parse zero ws = []
parse (suc f) [] = []
parse (suc f) (a ∷ []) = []
parse (suc f) (a ∷ b ∷ []) = []
parse (suc f) (a ∷ b ∷ c ∷ []) = []
parse (suc f) (a ∷ b ∷ c ∷ d ∷ ws) =
    block_in a.bits b.bits c.bits d.bits ws ∷ parse f (drop (count_in d.bits) ws)

-- what the words say
abbrev pub blocks_in : List Word → List Block
blocks_in ws = parse (length ws) ws

-- the block may be written: its literals are known, and can be counted with room for the mark
abbrev pub Fits : Block → Type 0
Fits b = (length b.stored.lits < 2_147_483_648) × All IsNumbered b.stored.lits

-- each block may be written
abbrev pub AllFit : List Block → Type 0
AllFit [] = Unit {0}
AllFit (b ∷ bs) = Fits b × AllFit bs

-- the words are those of blocks
pub record Laid (ws : List Word) : Type 0 where
  pub blocks : List Block
  pub are : ws ≡ flat blocks
  pub fit : AllFit blocks

-- the clauses of blocks from a place on, by their places
abbrev pub table : ℕ → List Block → List (ℕ × Stored)
table p [] = []
table p (b ∷ bs) =
    if b.live then (p, b.stored) ∷ table (p + size b.stored) bs
    else table (p + size b.stored) bs

-- what is seen of the words
abbrev pub arena_in : List Word → ArenaState
arena_in ws = record { clauses = map'.from_entries (table 0 (blocks_in ws)); words = length ws }

-- the blocks that were not removed
abbrev pub live : List Block → List Block
live [] = []
live (b ∷ bs) = if b.live then b ∷ live bs else live bs

-- the blocks that were not removed have in place of their ids where they are once they are moved together
abbrev pub forwarded : ℕ → List Block → List Block
forwarded q [] = []
forwarded q (b ∷ bs) =
    if b.live then record b { stored = record b.stored { id = q } } ∷ forwarded (q + size b.stored) bs
    else b ∷ forwarded q bs

-- the ids of blocks from a place on, by their places
abbrev pub id_table : ℕ → List Block → List (ℕ × ℕ)
id_table p [] = []
id_table p (b ∷ bs) =
    if b.live then (p, b.stored.id) ∷ id_table (p + size b.stored) bs
    else id_table (p + size b.stored) bs

-- the moves that words tell whose ids are new places
abbrev pub moves_in : List Word → map'.FinMap nat_cmp ℕ
moves_in ws = map'.from_entries (id_table 0 (blocks_in ws))

-- the number at a place
abbrev pub bits_at : List Word → ℕ → ℕ
bits_at ws k = (slice_index_or ws k (word 0)).bits

-- the words of the literals of the block at a place
abbrev pub body_at : List Word → ℕ → List Word
body_at ws p = take (bits_at ws (p + 3)) (drop (p + 4) ws)
