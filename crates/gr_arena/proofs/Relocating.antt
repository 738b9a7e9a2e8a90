-- blocks are copied and written over one after another
use Rattle.std.specs.Prelude.{◌≡◌, ℕ, ◌+◌, ◌/◌, ◌%◌, ◌<◌, ◌≤◌, true, false, if◌then◌else◌, List, [], ◌∷◌, ◌++◌, length, map, take, drop, refl, ◌-◌}
use Rattle.std.proofs.Common.{ap, sym, subst, ◌∙◌, arith, set}
use Rattle.std.proofs.lemmas.List.{length-append, length-set, length-take-le, append_assoc, append-nil, take-append-drop, take_at, drop_at, take_all, drop_all, set_at}
use Rattle.gr_logic.specs.Words.{word_of}
use Rattle.gr_logic.specs.declared.words.Word.{Word}
use Rattle.gr_arena.specs.Arenas.{size}
use Rattle.gr_arena.specs.Blocks.{Block, word, words_of, count_word, flat, Laid, blocks_in, live, forwarded}
use Rattle.gr_arena.proofs.Runs.{size_is}
use Rattle.gr_arena.proofs.Steps.{Next, here, laid_behind, blocks_behind, blocks_of, block_words}

-- what is left of the words from a place on, where the first ones were kept, and written over
pub record Left (first ws ks : List Word) (p : ℕ) : Type 0 where
  pub long : length ws ≡ length first
  pub laid : Laid (drop p ws)
  pub copied : ks ++ flat (live (blocks_in (drop p ws))) ≡ flat (live (blocks_in first))
  pub written : take p ws ++ flat (forwarded (length ks) (blocks_in (drop p ws)))
      ≡ flat (forwarded 0 (blocks_in first))

pub all_left : (ws ks : List Word) → Laid ws → ks ≡ [] → Left ws ws ks 0
all_left ws ks laid none = record {
  long = refl;
  laid = laid;
  copied = ap (λ z. z ++ flat (live (blocks_in ws))) none;
  written = ap (λ z. flat (forwarded (length z) (blocks_in ws))) none;
}

-- the block with another number where its id was
abbrev pub told : ℕ → Block → Block
told q b = record b { stored = record b.stored { id = q } }

module _ {ws : List Word} {p : ℕ} (n : Next ws p) (lt : p < length ws) (to : ℕ) (at : to
    ≡ p + size n.block.stored) where
  abbrev b : Block
  b = n.block

  parts : ws ≡ take p ws ++ (words_of b ++ flat n.rest)
  parts = sym (take-append-drop p ws) ∙ ap (λ z. take p ws ++ z) n.are

  pub block_copied : take (to - p) (drop p ws) ≡ words_of b
  block_copied = ap (λ k. take k (drop p ws)) {y = size b.stored} (omega (arith, at)) ∙ block_words n lt

  before : length (take p ws) ≡ p
  before = length-take-le p ws (omega (arith, lt))

  pub next_laid : Laid (drop to ws)
  next_laid = subst (λ k. Laid (drop k ws)) (sym at) (laid_behind n lt)

  next_blocks : blocks_in (drop to ws) ≡ n.rest
  next_blocks = ap (λ k. blocks_in (drop k ws)) at ∙ blocks_behind n lt

  taken : take to ws ≡ take p ws ++ words_of b
  taken =
      (λ i. take (at i) (parts i)) ∙ ap (take (p + size b.stored))
      (sym (append_assoc (take p ws) (words_of b) (flat n.rest)))
      ∙ take_at (take p ws ++ words_of b) (flat n.rest) (p + size b.stored)
      (omega (arith, length-append (take p ws) (words_of b), before, size_is b))

  pub live_counted : b.live ≡ true → flat (live (blocks_in (drop p ws))) ≡ words_of b
      ++ flat (live (blocks_in (drop to ws)))
  live_counted e =
      ap (λ z. flat (live z)) (here n lt) ∙ ap (λ v. flat
      (if v then b ∷ live n.rest else live n.rest)) e
      ∙ ap (λ z. words_of b ++ flat (live z)) (sym next_blocks)

  pub dead_counted : b.live ≡ false → flat (live (blocks_in (drop p ws)))
      ≡ flat (live (blocks_in (drop to ws)))
  dead_counted e =
      ap (λ z. flat (live z)) (here n lt) ∙ ap (λ v. flat
      (if v then b ∷ live n.rest else live n.rest)) e
      ∙ ap (λ z. flat (live z)) (sym next_blocks)

  live_told : (q : ℕ) → b.live ≡ true → flat (forwarded q (blocks_in (drop p ws)))
      ≡ words_of (told q b) ++ flat (forwarded (q + size b.stored) n.rest)
  live_told q e =
      ap (λ z. flat (forwarded q z)) (here n lt)
      ∙ ap (λ v. flat (if v then told q b ∷ forwarded (q + size b.stored)
      n.rest else b ∷ forwarded q n.rest)) e

  dead_told : (q : ℕ) → b.live ≡ false → flat (forwarded q (blocks_in (drop p ws))) ≡ words_of b
      ++ flat (forwarded q (blocks_in (drop to ws)))
  dead_told q e =
      ap (λ z. flat (forwarded q z)) (here n lt)
      ∙ ap (λ v. flat (if v then told q b ∷ forwarded (q + size b.stored)
      n.rest else b ∷ forwarded q n.rest)) e
      ∙ ap (λ z. words_of b ++ flat (forwarded q z)) (sym next_blocks)

  -- a removed block is passed over
  pub passed : {first ks : List Word} → Left first ws ks p → b.live ≡ false → Left first ws ks to
  passed {first = first} {ks = ks} l e = record {
    long = l.long;
    laid = next_laid;
    copied = ap (λ z. ks ++ z) (sym (dead_counted e)) ∙ l.copied;
    written =
        ap (λ z. z ++ flat (forwarded (length ks) (blocks_in (drop to ws)))) taken
        ∙ append_assoc (take p ws) (words_of b) (flat
        (forwarded (length ks) (blocks_in (drop to ws))))
        ∙ ap (λ z. take p ws ++ z) (sym (dead_told (length ks) e)) ∙ l.written;
  }

  module _ (q : ℕ) where
    abbrev pub over : List Word
    over = set (set ws p (word (q % 4_294_967_296))) (p + 1) (word (q / 4_294_967_296))

    abbrev rest_words : List Word
    rest_words = word b.stored.lbd ∷ word (count_word b) ∷ (map word_of b.stored.lits
        ++ flat n.rest)

    over_parts : over ≡ take p ws ++ (words_of (told q b) ++ flat n.rest)
    over_parts =
        let low : Word = word (b.stored.id % 4_294_967_296) in
        let high : Word = word (b.stored.id / 4_294_967_296) in
        let low' : Word = word (q % 4_294_967_296) in
        let high' : Word = word (q / 4_294_967_296) in
        ap (λ z. set (set z p low') (p + 1) high') parts
        ∙ ap (λ z. set z (p + 1) high') (set_at (take p ws) low (high ∷ rest_words) low' p before)
        ∙ ap (λ z. set z (p + 1) high') (sym (append_assoc (take p ws) (low' ∷ [])
        (high ∷ rest_words)))
        ∙ set_at (take p ws ++ low' ∷ []) high rest_words high' (p + 1)
        (omega (arith, length-append (take p ws) (low' ∷ []), before))
        ∙ append_assoc (take p ws) (low' ∷ []) (high' ∷ rest_words)

    pub long_over : length over ≡ length ws
    long_over = length-set (set ws p (word (q % 4_294_967_296))) (p + 1) (word (q / 4_294_967_296))
        ∙ length-set ws p (word (q % 4_294_967_296))

    over_front : over ≡ (take p ws ++ words_of (told q b)) ++ flat n.rest
    over_front = over_parts ∙ sym (append_assoc (take p ws) (words_of (told q b)) (flat n.rest))

    front_long : length (take p ws ++ words_of (told q b)) ≡ p + size b.stored
    front_long = omega (
      arith,
      length-append (take p ws) (words_of (told q b)),
      before,
      size_is (told q b),
    )

    over_taken : take to over ≡ take p ws ++ words_of (told q b)
    over_taken = (λ i. take (at i) (over_front i))
        ∙ take_at (take p ws ++ words_of (told q b)) (flat n.rest) (p + size b.stored) front_long

    over_behind : drop to over ≡ flat n.rest
    over_behind = (λ i. drop (at i) (over_front i))
        ∙ drop_at (take p ws ++ words_of (told q b)) (flat n.rest) (p + size b.stored) front_long

    over_blocks : blocks_in (drop to over) ≡ n.rest
    over_blocks = blocks_of (drop to over) n.rest over_behind n.fit.1

    -- a block is copied, and written over
    pub copied_over : {first ks ks' : List Word} → q ≡ length ks → ks' ≡ ks ++ words_of b
        → Left first ws ks p → b.live ≡ true → Left first over ks' to
    copied_over {first = first} {ks = ks} {ks' = ks'} count more l e =
        let longer : length ks' ≡ q + size b.stored =
        omega (arith, ap length more, length-append ks (words_of b), size_is b, count) in
        record {
          long = long_over ∙ l.long;
          laid = record { blocks = n.rest; are = over_behind; fit = n.fit.1 };
          copied =
              (λ i. more i ++ flat (live (over_blocks i)))
              ∙ append_assoc ks (words_of b) (flat (live n.rest))
              ∙ ap (λ z. ks ++ (words_of b ++ flat (live z))) (sym next_blocks)
              ∙ ap (λ z. ks ++ z) (sym (live_counted e)) ∙ l.copied;
          written =
              (λ i. over_taken i ++ flat (forwarded (longer i) (over_blocks i)))
              ∙ append_assoc (take p ws) (words_of (told q b))
              (flat (forwarded (q + size b.stored) n.rest))
              ∙ ap (λ z. take p ws ++ z) (sym (live_told q e))
              ∙ ap (λ k. take p ws ++ flat (forwarded k (blocks_in (drop p ws)))) count
              ∙ l.written;
        }

-- all is copied where nothing is left
pub none_left : {first ws ks : List Word} {p : ℕ} → Left first ws ks p → length ws ≤ p
    → (ws ≡ flat (forwarded 0 (blocks_in first))) × (ks ≡ flat (live (blocks_in first)))
none_left {first = first} {ws = ws} {ks = ks} {p = p} l le =
    let none : drop p ws ≡ [] = drop_all p ws le in (
      sym (take_all p ws le) ∙ sym (append-nil (take p ws))
          ∙ ap (λ z. take p ws ++ flat (forwarded (length ks) (blocks_in z))) (sym none) ∙ l.written,
      sym (append-nil ks) ∙ ap (λ z. ks ++ flat (live (blocks_in z))) (sym none) ∙ l.copied,
    )

live_short : (bs : List Block) → length (flat (live bs)) ≤ length (flat bs)
live_short [] = omega arith
live_short (b ∷ bs) =
    let rest = live_short bs in
    let all = length-append (words_of b) (flat bs) in
    elim b.live as (λ v. length (flat (if v then b ∷ live bs else live bs)) ≤ length
    (flat (b ∷ bs))) [
      | true ↦ omega (arith, rest, all, length-append (words_of b) (flat (live bs)))
      | false ↦ omega (arith, rest, all)
    ]

-- what is kept is no longer than what there was
pub short : (ws : List Word) → Laid ws → length (flat (live (blocks_in ws))) ≤ length ws
short ws laid = omega (
  arith,
  live_short laid.blocks,
  ap (λ z. length (flat (live z)))
      (blocks_of ws laid.blocks laid.are laid.fit),
  ap length laid.are,
)
