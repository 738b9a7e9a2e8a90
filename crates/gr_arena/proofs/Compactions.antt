-- the blocks that are moved together are the same clauses at new places
use Rattle.std.specs.Prelude.{◌≡◌, ℕ, ◌+◌, ◌<◌, true, false, ◌&&◌, if◌then◌else◌, nat_eq, List, [], ◌∷◌, length, map, Option, Some, None, IsSome, is_some, option_map, unwrap_or, refl, cond}
use Rattle.std.specs.List.{sum_by}
use Rattle.std.proofs.Common.{ap, sym, ◌∙◌, arith}
use Rattle.std.proofs.lemmas.Bool.{lt-ltb}
use Rattle.std.proofs.lemmas.List.{length-append, nil_from_length}
use Rattle.std.proofs.lemmas.List.Sums.{sum_by-cons}
use Rattle.std.specs.Ordering.{nat_cmp}
use Rattle.std.specs.declared.cmp.Ordering.TheVariants.{Less, Equal, Greater}
use Rattle.std.specs.Cmp.{nat_cmp_total, unsigned_tied}
use Rattle.std.specs.FinMap as map'
use Rattle.gr_logic.specs.declared.words.Word.{Word}
use Rattle.gr_arena.specs.Arenas.{Stored, ArenaState, IsCompaction, size, no_clause}
use Rattle.gr_arena.specs.Blocks.{Block, words_of, flat, AllFit, Laid, table, id_table, live, forwarded, blocks_in, arena_in, moves_in}
use Rattle.gr_arena.proofs.Runs.{clause_at, at_place, arena_is, size_is}
use Rattle.gr_arena.proofs.Steps.{blocks_of}
use Rattle.gr_arena.proofs.Moved.{moved_at, old_at, new_at, id_at, old_is, new_is, moved_is, kept, domain, apart, onto}

find_ids : (p : ℕ) (bs : List Block) (x : ℕ) → map'.find nat_cmp x (id_table p bs) ≡ id_at p bs x
find_ids p [] x = refl
find_ids p (b ∷ bs) x =
    elim b.live as (λ v. map'.find nat_cmp x (if v then ((p, b.stored.id) ∷ id_table
    (p + size b.stored) bs) else id_table (p + size b.stored) bs)
    ≡ (if v && nat_eq x p then Some b.stored.id else id_at (p + size b.stored) bs x)) [
      | true ↦ ap (λ t. cond t (Some b.stored.id) (map'.find nat_cmp x
          (id_table (p + size b.stored) bs))) (unsigned_tied x p)
          ∙ ap (cond (nat_eq x p) (Some b.stored.id)) (find_ids (p + size b.stored) bs x)
      | false ↦ find_ids (p + size b.stored) bs x
    ]

pub moves_are : (us : List Word) (bs : List Block) (x : ℕ) → blocks_in us ≡ bs
    → map'.get (moves_in us) x ≡ id_at 0 bs x
moves_are us bs x e = ap (λ z. map'.get (map'.from_entries {R = nat_cmp} (id_table 0 z)) x) e
    ∙ map'.get-from_entries nat_cmp_total (id_table 0 bs) x ∙ find_ids 0 bs x

-- ---- what is kept may be written
pub live_fit : (bs : List Block) → AllFit bs → AllFit (live bs)
live_fit [] fit = fit
live_fit (b ∷ bs) fit = elim b.live as (λ v. AllFit (if v then b ∷ live bs else live bs)) [
  | true ↦
      (fit.0, live_fit bs fit.1)
  | false ↦ live_fit bs fit.1
]

pub forwarded_fit : (q : ℕ) (bs : List Block) → AllFit bs → AllFit (forwarded q bs)
forwarded_fit q [] fit = fit
forwarded_fit q (b ∷ bs) fit =
    elim b.live as (λ v. AllFit (if v then record b {
      stored = record b.stored
          { id = q };
    } ∷ forwarded (q + size b.stored) bs else b ∷ forwarded q bs)) [
      | true ↦ (fit.0, forwarded_fit (q + size b.stored) bs fit.1)
      | false ↦ (fit.0, forwarded_fit q bs fit.1)
    ]

-- ---- how many words there are
abbrev FirstAbove : ℕ → List (ℕ × Stored) → Type 0
FirstAbove k [] = Unit {0}
FirstAbove k (e ∷ es) = k < e.0

first_above : (k p : ℕ) (bs : List Block) → k < p → FirstAbove k (table p bs)
first_above k p [] lt = tt
first_above k p (b ∷ bs) lt =
    elim b.live as (λ v. FirstAbove k (if v then ((p, b.stored) ∷ table (p + size b.stored)
    bs) else table (p + size b.stored) bs)) [
      | true ↦ lt
      | false ↦ first_above k (p + size b.stored) bs (omega (arith, lt))
    ]

less : (a b : ℕ) → a < b → nat_cmp a b ≡ Less
less a b lt = ap (λ t. cond t Less (cond (nat_eq a b) Equal Greater)) (lt-ltb a b lt)

put_first : (k : ℕ) (s : Stored) (es : List (ℕ × Stored)) → FirstAbove k es
    → map'.put nat_cmp k s es ≡ (k, s) ∷ es
put_first k s [] above = refl
put_first k s (e ∷ es) above = rw (less k e.0 above) refl

entries_empty : map'.entries (map'.empty {X = Stored} {R = nat_cmp}) ≡ []
entries_empty = nil_from_length _ (sym (map'.len-entries (map'.empty {X = Stored} {R = nat_cmp}))
    ∙ map'.len-empty nat_cmp Stored)

entries_table : (p : ℕ) (bs : List Block) → map'.entries
    (map'.from_entries {R = nat_cmp} (table p bs)) ≡ table p bs
entries_table p [] = entries_empty
entries_table p (b ∷ bs) =
    let s : ℕ = size b.stored in
    elim b.live as (λ v. map'.entries (map'.from_entries {R = nat_cmp}
    (if v then ((p, b.stored) ∷ table (p + s) bs) else table (p + s) bs))
    ≡ (if v then ((p, b.stored) ∷ table (p + s) bs) else table (p + s) bs)) [
      | true ↦ map'.entries-insert nat_cmp_total (map'.from_entries {R = nat_cmp}
          (table (p + s) bs)) p b.stored
          ∙ ap (map'.put nat_cmp p b.stored) (entries_table (p + s) bs)
          ∙ put_first p b.stored (table (p + s) bs) (first_above p (p + s) bs (omega arith))
      | false ↦ entries_table (p + s) bs
    ]

abbrev clauses_of : List (ℕ × Stored) → List Stored
clauses_of es = map (λ e. e.1) es

words_live : (q : ℕ) (bs : List Block) → length (flat (live bs))
    ≡ sum_by size (clauses_of (table q (live bs)))
words_live q [] = refl
words_live q (b ∷ bs) =
    let s : ℕ = size b.stored in
    elim b.live as (λ v. b.live ≡ v → length (flat (if v then b ∷ live bs else live bs))
    ≡ sum_by size (clauses_of (table q (if v then b ∷ live bs else live bs)))) [
      | true ↦ λ e.
          length-append (words_of b) (flat (live bs)) ∙ (λ i. size_is b i + words_live (q + s) bs i)
          ∙ sym (sum_by-cons size b.stored (clauses_of (table (q + s) (live bs))))
          ∙ ap (λ v. sum_by size (clauses_of (if v then ((q, b.stored) ∷ table (q + s)
          (live bs)) else table (q + s) (live bs)))) (sym e)
      | false ↦ λ e. words_live q bs
    ] refl

abbrev clauses_sum : List (ℕ × Stored) → ℕ
clauses_sum es = sum_by size (clauses_of es)

-- ---- the compaction
module _ {ws vs us : List Word} {old : ArenaState} (is : arena_in ws
    ≡ old) (laid : Laid ws) (copied : vs ≡ flat (live (blocks_in ws))) (written : us
    ≡ flat (forwarded 0 (blocks_in ws))) where
  abbrev bs : List Block
  bs = laid.blocks

  read : blocks_in ws ≡ bs
  read = blocks_of ws bs laid.are laid.fit

  new_words : vs ≡ flat (live bs)
  new_words = copied ∙ ap (λ z. flat (live z)) read

  old_words : us ≡ flat (forwarded 0 bs)
  old_words = written ∙ ap (λ z. flat (forwarded 0 z)) read

  pub laid_new : Laid vs
  laid_new = record { blocks = live bs; are = new_words; fit = live_fit bs laid.fit }

  pub laid_moves : Laid us
  laid_moves = record {
    blocks = forwarded 0 bs;
    are = old_words;
    fit =
        forwarded_fit 0 bs laid.fit;
  }

  was : (x : ℕ) → map'.get old.clauses x ≡ old_at 0 bs x
  was x =
      ap (λ (a : ArenaState). map'.get a.clauses x) (sym is)
      ∙ ap (λ z. map'.get (arena_in z).clauses x) laid.are
      ∙ arena_is bs x laid.fit ∙ old_is 0 bs x

  now_is : (y : ℕ) → map'.get (arena_in vs).clauses y ≡ new_at 0 bs y
  now_is y = ap (λ z. map'.get (arena_in z).clauses y) new_words
      ∙ arena_is (live bs) y (live_fit bs laid.fit) ∙ new_is 0 bs y

  told : (x : ℕ) → map'.get (moves_in us) x ≡ moved_at 0 0 bs x
  told x = moves_are us (forwarded 0 bs) x (blocks_of us (forwarded 0 bs) old_words
      (forwarded_fit 0 bs laid.fit)) ∙ moved_is 0 0 bs x

  count : length vs ≡ sum_by size (map'.values (arena_in vs).clauses)
  count =
      ap length new_words ∙ words_live 0 bs ∙ ap clauses_sum (sym (entries_table 0 (live bs)))
      ∙ ap (λ z. clauses_sum (map'.entries (map'.from_entries {R = nat_cmp} (table 0 z))))
      (sym (blocks_of vs (live bs) new_words (live_fit bs laid.fit)))

  pub compaction : IsCompaction old (arena_in vs) (moves_in us)
  compaction = record {
    moved = λ x. ap is_some (told x) ∙ domain 0 0 bs x ∙ ap is_some (sym (was x));
    kept = λ x y e. now_is y ∙ kept 0 0 bs x y (sym (told x) ∙ e) ∙ sym (was x);
    apart = λ x r y e f. apart 0 0 bs x r y (sym (told x) ∙ e) (sym (told r) ∙ f);
    onto = λ y h. (let r = onto 0 0 bs y (ap is_some (sym (now_is y)) ∙ h) in
        (r.0, told r.0 ∙ r.1));
    words = count;
  }

-- ---- a move is read
ids_of : (p : ℕ) (bs : List Block) (x : ℕ) → id_at p bs x
    ≡ option_map (λ (s : Stored). s.id) (at_place p bs x)
ids_of p [] x = refl
ids_of p (b ∷ bs) x =
    elim (b.live && nat_eq x p) as (λ t. (if t then Some b.stored.id else id_at (p + size b.stored)
    bs x) ≡ option_map (λ (s : Stored). s.id) (if t then Some b.stored else at_place
    (p + size b.stored) bs x)) [
      | true ↦ refl
      | false ↦ ids_of (p + size b.stored) bs x
    ]

is_some_map : (o : Option Stored) → is_some (option_map (λ (s : Stored). s.id) o) ≡ is_some o
is_some_map None = refl
is_some_map (Some s) = refl

map_some : (o : Option Stored) → IsSome o → option_map (λ (s : Stored). s.id) o
    ≡ Some (unwrap_or o no_clause).id
map_some None h = absurd (grind (arith, h))
map_some (Some s) h = refl

module _ (ws : List Word) (laid : Laid ws) (x : ℕ) where
  told_id : map'.get (moves_in ws) x ≡ option_map (λ (s : Stored). s.id)
      (map'.get (arena_in ws).clauses x)
  told_id =
      moves_are ws laid.blocks x (blocks_of ws laid.blocks laid.are laid.fit)
      ∙ ids_of 0 laid.blocks x
      ∙ ap (option_map (λ (s : Stored). s.id)) (sym (ap (λ z. map'.get (arena_in z).clauses x)
      laid.are ∙ arena_is laid.blocks x laid.fit))

  pub has_clause : IsSome (map'.get (moves_in ws) x) → IsSome (map'.get (arena_in ws).clauses x)
  has_clause h = sym (is_some_map (map'.get (arena_in ws).clauses x)) ∙ ap is_some (sym told_id) ∙ h

  pub move_is : IsSome (map'.get (moves_in ws) x) → map'.get (moves_in ws) x
      ≡ Some (clause_at (arena_in ws) x).id
  move_is h = told_id ∙ map_some (map'.get (arena_in ws).clauses x) (has_clause h)
