-- blocks are read from their words as they were written, and each stands where its place says
use Rattle.std.specs.Prelude.{◌≡◌, ℕ, zero, suc, ◌+◌, ◌*◌, ◌/◌, ◌%◌, ◌<◌, ◌≤◌, Bool, true, false, ◌&&◌, if◌then◌else◌, nat_lt, nat_eq, List, [], ◌∷◌, ◌++◌, length, map, take, drop, All, Option, Some, None, IsSome, get_or, unwrap_or, refl, cond}
use Rattle.std.proofs.Common.{ap, sym, subst, ◌∙◌, arith}
use Rattle.std.proofs.lemmas.List.{length-map, length-append, take_at, drop_at, get_or-append-add, drop-drop, append_assoc}
use Rattle.gr_logic.specs.Codes.{code_of}
use Rattle.std.proofs.Math.Nat.{le_refl}
use Rattle.std.specs.Ordering.{nat_cmp}
use Rattle.std.specs.Cmp.{nat_cmp_total, unsigned_tied}
use Rattle.std.specs.FinMap as map'
use Rattle.gr_logic.specs.Literals.{Literal}
use Rattle.gr_logic.specs.Codes.{literal_of-code_of}
use Rattle.gr_logic.specs.Words.{literal_in, word_of, IsCode, IsNumbered}
use Rattle.gr_logic.specs.declared.words.Word.{Word}
use Rattle.gr_arena.specs.Arenas.{Stored, ArenaState, size, no_clause}
use Rattle.gr_arena.specs.Blocks.{Block, word, count_in, parse, count_word, words_of, flat, Fits, AllFit, table, arena_in, Laid, bits_at, body_at}

back : (ls : List Literal) → map literal_in (map word_of ls) ≡ ls
back [] = refl
back (l ∷ ls) = λ i. literal_of-code_of l i ∷ back ls i

pub count_back : (live : Bool) (n : ℕ) → n < 2_147_483_648
    → count_in (if live then n else n + 2_147_483_648) ≡ n
count_back true n h = grind arith
count_back false n h = grind arith

pub live_back : (live : Bool) (n : ℕ) → n < 2_147_483_648
    → nat_lt (if live then n else n + 2_147_483_648) 2_147_483_648 ≡ live
live_back true n h = grind arith
live_back false n h = grind arith

id_back : (id : ℕ) → id / 4_294_967_296 * 4_294_967_296 + id % 4_294_967_296 ≡ id
id_back id = omega arith

pub size_is : (b : Block) → length (words_of b) ≡ size b.stored
size_is b = omega (arith, length-map b.stored.lits word_of)

pub round : (f : ℕ) (bs : List Block) → AllFit bs → length (flat bs) ≤ f → parse f (flat bs) ≡ bs
round zero [] fit le = refl
round (suc f) [] fit le = refl
round zero (b ∷ bs) fit le = absurd (omega (arith, le))
round (suc f) (b ∷ bs) fit le =
    let ls : List Literal = b.stored.lits in
    let ws : List Word = map word_of ls ++ flat bs in
    let long : length (map word_of ls) ≡ length ls = length-map ls word_of in
    let count : count_in (count_word b) ≡ length ls = count_back b.live (length ls) fit.0.0 in
    let lits : map literal_in (take (count_in (count_word b)) ws) ≡ ls =
    ap (λ k. map literal_in (take k ws)) count
    ∙ ap (map literal_in) (take_at (map word_of ls) (flat bs) (length ls) long) ∙ back ls in
    let less : length (flat bs) ≤ f = omega (arith, le, length-append (map word_of ls) (flat bs)) in
    let tail : parse f (drop (count_in (count_word b)) ws) ≡ bs =
    ap (λ k. parse f (drop k ws)) count ∙ ap (parse f)
    (drop_at (map word_of ls) (flat bs) (length ls) long) ∙ round f bs fit.1 less in
    λ i. record {
      live = live_back b.live (length ls) fit.0.0 i;
      stored =
          record { id = id_back b.stored.id i; lbd = b.stored.lbd; lits = lits i };
    } ∷ tail i

-- the clause at a place, where the blocks begin at p
abbrev pub at_place : ℕ → List Block → ℕ → Option Stored
at_place p [] q = None
at_place p (b ∷ bs) q = if b.live && nat_eq q p then Some b.stored else at_place (p + size b.stored)
    bs q

find_table : (p : ℕ) (bs : List Block) (q : ℕ) → map'.find nat_cmp q (table p bs) ≡ at_place p bs q
find_table p [] q = refl
find_table p (b ∷ bs) q =
    elim b.live as (λ v. map'.find nat_cmp q (if v then ((p, b.stored) ∷ table (p + size b.stored)
    bs) else table (p + size b.stored) bs)
    ≡ (if v && nat_eq q p then Some b.stored else at_place (p + size b.stored) bs q)) [
      | true ↦ ap (λ t. cond t (Some b.stored) (map'.find nat_cmp q (table (p + size b.stored) bs)))
          (unsigned_tied q p) ∙ ap (cond (nat_eq q p) (Some b.stored))
          (find_table (p + size b.stored) bs q)
      | false ↦ find_table (p + size b.stored) bs q
    ]

pub get_table : (bs : List Block) (q : ℕ) → map'.get (map'.from_entries {R = nat_cmp} (table 0 bs))
    q ≡ at_place 0 bs q
get_table bs q = map'.get-from_entries nat_cmp_total (table 0 bs) q ∙ find_table 0 bs q

pub record Located (p : ℕ) (bs : List Block) (q : ℕ) (s : Stored) : Type 0 where
  pub before : List Block
  pub block : Block
  pub after : List Block
  pub is : bs ≡ before ++ block ∷ after
  pub place : q ≡ p + length (flat before)
  pub live : block.live ≡ true
  pub stored : block.stored ≡ s

some_one : {X : Type 0} (x y : X) → Some x ≡ Some y → x ≡ y
some_one x y e = ap (λ o. unwrap_or o x) e

none_some : {X : Type 0} (x : X) → None ≡ Some x → ⊥
none_some x e = grind arith

shift_located : (p : ℕ) (b : Block) (bs : List Block) (q : ℕ) (s : Stored)
    → Located (p + size b.stored) bs q s → Located p (b ∷ bs) q s
shift_located p b bs q s l = record {
  before = b ∷ l.before;
  block = l.block;
  after = l.after;
  is = ap (λ z. b ∷ z) l.is;
  place = omega (arith, l.place, length-append (words_of b) (flat l.before), size_is b);
  live = l.live;
  stored = l.stored;
}

pub located : (p : ℕ) (bs : List Block) (q : ℕ) (s : Stored) → at_place p bs q ≡ Some s
    → Located p bs q s
located p [] q s e = absurd (none_some s e)
located p (b ∷ bs) q s e =
    elim b.live as (λ v. b.live ≡ v → (if v && nat_eq q p then Some b.stored else at_place
    (p + size b.stored) bs q) ≡ Some s → Located p (b ∷ bs) q s) [
      | false ↦ λ v e'. shift_located p b bs q s (located (p + size b.stored) bs q s e')
      | true ↦ λ v. elim (nat_eq q p) as (λ t. nat_eq q p ≡ t
          → (if t then Some b.stored else at_place (p + size b.stored) bs q) ≡ Some s
          → Located p (b ∷ bs) q s) [
            | true ↦ λ t e'. record {
              before = [];
              block = b;
              after = bs;
              is = refl;
              place =
                  grind (arith, t);
              live = v;
              stored = some_one b.stored s e';
            }
            | false ↦ λ t e'. shift_located p b bs q s (located (p + size b.stored) bs q s e')
          ] refl
    ] refl e

pub flat-append : (xs ys : List Block) → flat (xs ++ ys) ≡ flat xs ++ flat ys
flat-append [] ys = refl
flat-append (x ∷ xs) ys = ap (λ z. words_of x ++ z) (flat-append xs ys)
    ∙ sym (append_assoc (words_of x) (flat xs) (flat ys))

-- the clause at a place
abbrev pub clause_at : ArenaState → ℕ → Stored
clause_at h q = unwrap_or (map'.get h.clauses q) no_clause

-- what stands at a place where a clause is
pub record Found (ws : List Word) (h : ArenaState) (q : ℕ) : Type 0 where
  pub before : List Block
  pub block : Block
  pub after : List Block
  pub are : ws ≡ flat before ++ (words_of block ++ flat after)
  pub place : q ≡ length (flat before)
  pub live : block.live ≡ true
  pub stored : clause_at h q ≡ block.stored
  pub fit : AllFit (before ++ block ∷ after)

some_of : {X : Type 0} (o : Option X) (d : X) → IsSome o → o ≡ Some (unwrap_or o d)
some_of None d h = absurd (grind (arith, h))
some_of (Some x) d h = refl

pub arena_is : (bs : List Block) (q : ℕ) → AllFit bs → map'.get (arena_in (flat bs)).clauses q
    ≡ at_place 0 bs q
arena_is bs q fit = ap (λ z. map'.get (map'.from_entries {R = nat_cmp} (table 0 z)) q)
    (round (length (flat bs)) bs fit (le_refl (length (flat bs)))) ∙ get_table bs q

pub found : (ws : List Word) (h : ArenaState) (q : ℕ) → arena_in ws ≡ h → Laid ws
    → IsSome (map'.get h.clauses q) → Found ws h q
found ws h q e laid some =
    let here : map'.get h.clauses q ≡ at_place 0 laid.blocks q =
    ap (λ z. map'.get z.clauses q) (sym e ∙ ap arena_in laid.are)
    ∙ arena_is laid.blocks q laid.fit in
    let l : Located 0 laid.blocks q (clause_at h q) =
    located 0 laid.blocks q (clause_at h q) (sym here
    ∙ some_of (map'.get h.clauses q) no_clause some) in
    record {
      before = l.before;
      block = l.block;
      after = l.after;
      are = laid.are ∙ ap flat l.is ∙ flat-append l.before (l.block ∷ l.after);
      place = omega (arith, l.place);
      live = l.live;
      stored = sym l.stored;
      fit = subst AllFit l.is laid.fit;
    }

fit_within : (before : List Block) (b : Block) (after : List Block) → AllFit (before ++ b ∷ after)
    → Fits b
fit_within [] b after fit = fit.0
fit_within (x ∷ xs) b after fit = fit_within xs b after fit.1

code_below : (l : Literal) → l.index < 1_000_000 → code_of l < 2_000_000
code_below l h = grind (arith, h)

codes_of : (ls : List Literal) → All IsNumbered ls → All IsCode (map word_of ls)
codes_of [] h k d lt = absurd (omega (arith, lt))
codes_of (l ∷ ls) h zero d lt = code_below l (h 0 l (omega arith))
codes_of (l ∷ ls) h (suc k) d lt = codes_of ls (λ j e lt'. h (suc j) e (omega (arith, lt'))) k d
    (omega (arith, lt))

module _ {ws : List Word} {h : ArenaState} {q : ℕ} (f : Found ws h q) where
  abbrev rest : List Word
  rest = words_of f.block ++ flat f.after

  abbrev pub lits : List Literal
  lits = f.block.stored.lits

  pub total : length ws ≡ q + (4 + length lits) + length (flat f.after)
  total = ap length f.are ∙ omega (
    arith,
    length-append (flat f.before) rest,
    length-append (words_of f.block) (flat f.after),
    size_is f.block,
    f.place,
  )

  pub word_at : (k : ℕ) (d : Word) → get_or ws (q + k) d ≡ get_or rest k d
  word_at k d = ap (λ z. get_or z (q + k) d) f.are
      ∙ ap (λ z. get_or (flat f.before ++ rest) (z + k) d) f.place
      ∙ get_or-append-add (flat f.before) rest k d

  pub count_is : count_word f.block ≡ length lits
  count_is = ap (λ v. if v then length lits else length lits + 2_147_483_648) f.live

  pub body : take (length lits) (drop (q + 4) ws) ≡ map word_of lits
  body =
      let there : drop q ws ≡ rest = ap (drop q) f.are
      ∙ drop_at (flat f.before) rest q (sym f.place) in
      let past : drop (q + 4) ws ≡ map word_of lits ++ flat f.after = sym (drop-drop 4 q ws)
      ∙ ap (drop 4) there in
      ap (take (length lits)) past ∙ take_at (map word_of lits) (flat f.after) (length lits)
      (length-map lits word_of)

  pub low_is : bits_at ws (q + 0) ≡ f.block.stored.id % 4_294_967_296
  low_is = ap (λ w. w.bits) (word_at 0 (word 0))

  pub high_is : bits_at ws (q + 1) ≡ f.block.stored.id / 4_294_967_296
  high_is = ap (λ w. w.bits) (word_at 1 (word 0))

  pub lbd_is : bits_at ws (q + 2) ≡ f.block.stored.lbd
  lbd_is = ap (λ w. w.bits) (word_at 2 (word 0))

  pub count_at : bits_at ws (q + 3) ≡ length lits
  count_at = ap (λ w. w.bits) (word_at 3 (word 0)) ∙ count_is

  pub body_is : body_at ws q ≡ map word_of lits
  body_is = ap (λ n. take n (drop (q + 4) ws)) count_at ∙ body

  pub fits : Fits f.block
  fits = fit_within f.before f.block f.after f.fit

  pub lits_are : map literal_in (body_at ws q) ≡ (clause_at h q).lits
  lits_are = ap (map literal_in) body_is ∙ back lits ∙ ap (λ s. s.lits) (sym f.stored)

  pub id_is : bits_at ws (q + 1) * 4_294_967_296 + bits_at ws (q + 0) ≡ (clause_at h q).id
  id_is = omega (arith, low_is, high_is, id_back f.block.stored.id) ∙ ap (λ s. s.id) (sym f.stored)

  pub codes : All IsCode (body_at ws q)
  codes = subst (All IsCode) (sym body_is) (codes_of lits fits.1)
