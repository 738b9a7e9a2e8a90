-- what a changed block, or one more, does to the map
use Rattle.std.specs.Prelude.{◌≡◌, ℕ, ◌+◌, ◌/◌, ◌%◌, ◌<◌, ◌≤◌, Bool, true, false, ◌&&◌, if◌then◌else◌, nat_eq, List, [], ◌∷◌, ◌++◌, length, map, All, Option, Some, None, get_or, refl, cond}
use Rattle.std.proofs.Common.{ap, sym, subst, ◌∙◌, arith, set}
use Rattle.std.proofs.lemmas.List.{length-map, length-append, append_assoc, get_or-append-add, get_or-map, get_or_append_left, set-append_left, set-append_right, map-set, length-set, set_at, append-nil}
use Rattle.std.proofs.lemmas.List.Elements.{All-set}
use Rattle.std.proofs.lemmas.List.Edits.{swap_is, length-swap}
use Rattle.std.specs.List.{swap}
use Rattle.std.specs.Ordering.{nat_cmp}
use Rattle.std.specs.Cmp.{nat_cmp_total, unsigned_tied}
use Rattle.std.specs.FinMap as map'
use Rattle.std.specs.FinMap.{nat_cmp-IsAntisymmetric}
use Rattle.gr_logic.specs.Literals.{Literal}
use Rattle.gr_logic.specs.Words.{word_of, IsNumbered}
use Rattle.gr_logic.specs.declared.words.Word.{Word}
use Rattle.gr_arena.specs.Arenas.{Stored, ArenaState, size}
use Rattle.gr_arena.specs.Blocks.{Block, word, count_word, words_of, flat, Fits, AllFit, arena_in, Laid, bits_at}
use Rattle.gr_arena.proofs.Runs.{clause_at, at_place, arena_is, flat-append, size_is, Found, count_at, fits}

pub none_below : (p : ℕ) (bs : List Block) (q : ℕ) → q < p → at_place p bs q ≡ None
none_below p [] q h = refl
none_below p (b ∷ bs) q h =
    let later : at_place (p + size b.stored) bs q ≡ None =
    none_below (p + size b.stored) bs q (omega (arith, h)) in
    elim (b.live && nat_eq q p) as (λ t. (b.live && nat_eq q p) ≡ t
    → (if t then Some b.stored else at_place (p + size b.stored) bs q) ≡ None) [
      | true ↦ λ e. absurd (grind (arith, e, h))
      | false ↦ λ e. later
    ] refl

-- what is seen of a block
abbrev pub seen : Block → Option Stored
seen b = if b.live then Some b.stored else None

at_head : (live t : Bool) (s : Stored) (o : Option Stored) → (t ≡ true → o ≡ None)
    → (if live && t then Some s else o) ≡ cond t (if live then Some s else None) o
at_head true true s o h = refl
at_head true false s o h = refl
at_head false true s o h = h refl
at_head false false s o h = refl

head_is : (p : ℕ) (b : Block) (bs : List Block) (q : ℕ) → at_place p (b ∷ bs) q
    ≡ cond (nat_eq q p) (seen b) (at_place (p + size b.stored) bs q)
head_is p b bs q = at_head b.live (nat_eq q p) b.stored (at_place (p + size b.stored) bs q)
    (λ t. none_below (p + size b.stored) bs q (grind (arith, t)))

cond_swap : {X : Type 0} (t u : Bool) (x y z : X) → (t ≡ true → u ≡ true → ⊥)
    → cond t x (cond u y z) ≡ cond u y (cond t x z)
cond_swap true true x y z h = absurd (h refl refl)
cond_swap true false x y z h = refl
cond_swap false true x y z h = refl
cond_swap false false x y z h = refl

cond_over : {X : Type 0} (t : Bool) (x y z : X) → cond t x z ≡ cond t x (cond t y z)
cond_over true x y z = refl
cond_over false x y z = refl

pub replaced : (p : ℕ) (before : List Block) (b b' : Block) (after : List Block) → size b.stored
    ≡ size b'.stored → (q : ℕ)
    → at_place p (before ++ b' ∷ after) q ≡ cond (nat_eq q (p + length (flat before))) (seen b')
    (at_place p (before ++ b ∷ after) q)
replaced p [] b b' after e q =
    head_is p b' after q ∙ ap (λ n. cond (nat_eq q p) (seen b') (at_place (p + n) after q)) (sym e)
    ∙ cond_over (nat_eq q p) (seen b') (seen b) (at_place (p + size b.stored) after q)
    ∙ ap (cond (nat_eq q p) (seen b')) (sym (head_is p b after q))
    ∙ ap (λ n. cond (nat_eq q n) (seen b') (at_place p (b ∷ after) q)) {y = p + 0} (omega arith)
replaced p (x ∷ xs) b b' after e q =
    let on : p + size x.stored + length (flat xs) ≡ p + length (flat (x ∷ xs)) =
    omega (arith, length-append (words_of x) (flat xs), size_is x) in
    head_is p x (xs ++ b' ∷ after) q ∙ ap (cond (nat_eq q p) (seen x))
    (replaced (p + size x.stored) xs b b' after e q)
    ∙ cond_swap (nat_eq q p) (nat_eq q (p + size x.stored + length (flat xs))) (seen x) (seen b')
    (at_place (p + size x.stored) (xs ++ b ∷ after) q) (λ t u. grind (arith, t, u))
    ∙ ap (cond (nat_eq q (p + size x.stored + length (flat xs))) (seen b'))
    (sym (head_is p x (xs ++ b ∷ after) q))
    ∙ ap (λ n. cond (nat_eq q n) (seen b') (at_place p (x ∷ (xs ++ b ∷ after)) q)) on

replace_fit : (before : List Block) (b b' : Block) (after : List Block) → Fits b'
    → AllFit (before ++ b ∷ after) → AllFit (before ++ b' ∷ after)
replace_fit [] b b' after new fit = (new, fit.1)
replace_fit (x ∷ xs) b b' after new fit = (fit.0, replace_fit xs b b' after new fit.1)

-- the map with a new value at a key, or with none there
abbrev pub put : map'.FinMap nat_cmp Stored → ℕ → Option Stored → map'.FinMap nat_cmp Stored
put m q None = map'.remove m q
put m q (Some s) = map'.insert m q s

get-put : (m : map'.FinMap nat_cmp Stored) (k : ℕ) (o : Option Stored) (q : ℕ)
    → map'.get (put m k o) q ≡ cond (nat_eq q k) o (map'.get m q)
get-put m k None q = map'.get-remove nat_cmp_total m k q
    ∙ ap (λ t. cond t None (map'.get m q)) (unsigned_tied q k)
get-put m k (Some s) q = map'.get-insert nat_cmp_total m k s q
    ∙ ap (λ t. cond t (Some s) (map'.get m q)) (unsigned_tied q k)

module _ (ws : List Word) (h : ArenaState) (q : ℕ) (e : arena_in ws
    ≡ h) (f : Found ws h q) (b' : Block) (new : Fits b') (same : size f.block.stored
    ≡ size b'.stored) (vs : List Word) (are : vs ≡ flat f.before
    ++ (words_of b' ++ flat f.after)) where
  abbrev bs : List Block
  bs = f.before ++ f.block ∷ f.after

  abbrev cs : List Block
  cs = f.before ++ b' ∷ f.after

  cs_fit : AllFit cs
  cs_fit = replace_fit f.before f.block b' f.after new f.fit

  cs_are : vs ≡ flat cs
  cs_are = are ∙ sym (flat-append f.before (b' ∷ f.after))

  pub laid_again : Laid vs
  laid_again = record { blocks = cs; are = cs_are; fit = cs_fit }

  was : (k : ℕ) → map'.get h.clauses k ≡ at_place 0 bs k
  was k = ap (λ z. map'.get z.clauses k) (sym e)
      ∙ ap (λ z. map'.get (arena_in z).clauses k) (f.are
      ∙ sym (flat-append f.before (f.block ∷ f.after))) ∙ arena_is bs k f.fit

  is : (k : ℕ) → map'.get (arena_in vs).clauses k ≡ map'.get (put h.clauses q (seen b')) k
  is k = ap (λ z. map'.get (arena_in z).clauses k) cs_are ∙ arena_is cs k cs_fit
      ∙ replaced 0 f.before f.block b' f.after same k
      ∙ ap (λ n. cond (nat_eq k n) (seen b') (at_place 0 bs k)) {y = q} (omega (arith, f.place))
      ∙ ap (cond (nat_eq k q) (seen b')) (sym (was k)) ∙ sym (get-put h.clauses q (seen b') k)

  long : length vs ≡ length ws
  long = omega (
    arith,
    ap length are,
    ap length f.are,
    length-append (flat f.before) (words_of b' ++ flat f.after),
    length-append (words_of b') (flat f.after),
    size_is b',
    length-append (flat f.before) (words_of f.block ++ flat f.after),
    length-append (words_of f.block) (flat f.after),
    size_is f.block,
    same,
  )

  pub arena_again : arena_in vs ≡ record h { clauses = put h.clauses q (seen b') }
  arena_again =
      let clauses : (arena_in vs).clauses ≡ put h.clauses q (seen b') =
      map'.same_map nat_cmp_total nat_cmp-IsAntisymmetric (arena_in vs).clauses
      (put h.clauses q (seen b')) is in
      let words : length vs ≡ h.words = long ∙ ap (λ z. z.words) e in
      λ i. record { clauses = clauses i; words = words i }

-- ---- words of the literals
module _ (pre : List Word) (aft : List Word) (n : ℕ) (long : length pre ≡ n) where
  abbrev all : List Literal → List Word
  all ls = pre ++ (map word_of ls ++ aft)

  set_lit : (ls : List Literal) (i : ℕ) (l : Literal) → i < length ls
      → set (all ls) (n + i) (word_of l) ≡ all (set ls i l)
  set_lit ls i l lt =
      set-append_right pre (map word_of ls ++ aft) n (n + i) (word_of l) long (omega arith)
      ∙ ap (λ k. pre ++ set (map word_of ls ++ aft) k (word_of l)) {y = i} (omega arith)
      ∙ ap (λ z. pre ++ z) (set-append_left (map word_of ls) aft i (word_of l)
      (omega (arith, lt, length-map ls word_of)))
      ∙ ap (λ z. pre ++ (z ++ aft)) (sym (map-set word_of ls i l))

  get_lit : (ls : List Literal) (i : ℕ) (d : Literal) → i < length ls
      → get_or (all ls) (n + i) (word_of d) ≡ word_of (get_or ls i d)
  get_lit ls i d lt =
      ap (λ k. get_or (all ls) (k + i) (word_of d)) (sym long)
      ∙ get_or-append-add pre (map word_of ls ++ aft) i (word_of d)
      ∙ get_or_append_left (map word_of ls) aft (word_of d) i
      (omega (arith, lt, length-map ls word_of)) ∙ get_or-map word_of ls i d (word_of d) lt

  swap_lit : (ls : List Literal) (i j : ℕ) → i < length ls → j < length ls
      → swap (all ls) (n + i) (n + j) ≡ all (swap ls i j)
  swap_lit ls i j lti ltj =
      let d : Literal = record { index = 0; positive = true } in
      let W : List Word = all ls in
      let size : length W ≡ n + (length ls + length aft) =
      omega (
        arith,
        length-append pre (map word_of ls ++ aft),
        length-append (map word_of ls) aft,
        length-map ls word_of,
        long,
      ) in
      sym (swap_is W (n + i) (n + j) (word_of d) (omega (arith, size, lti))
      (omega (arith, size, ltj)))
      ∙ ap (λ x. set (set W (n + i) x) (n + j) (get_or W (n + i) (word_of d))) (get_lit ls j d ltj)
      ∙ ap (λ y. set (set W (n + i) (word_of (get_or ls j d))) (n + j) y) (get_lit ls i d lti)
      ∙ ap (λ z. set z (n + j) (word_of (get_or ls i d))) (set_lit ls i (get_or ls j d) lti)
      ∙ set_lit (set ls i (get_or ls j d)) j (get_or ls i d)
      (omega (arith, ltj, length-set ls i (get_or ls j d)))
      ∙ ap all (swap_is ls i j d lti ltj)

all_swap : {X : Type 0} (P : X → Type 0) (xs : List X) (i j : ℕ) → i < length xs → j < length xs
    → All P xs → All P (swap xs i j)
all_swap P [] i j lti ltj h = h
all_swap P (x ∷ xs) i j lti ltj h = All-set P (set (x ∷ xs) i (get_or (x ∷ xs) j x)) j
    (get_or (x ∷ xs) i x) (h i x lti) (All-set P (x ∷ xs) i (get_or (x ∷ xs) j x) (h j x ltj) h)

abbrev three : Block → List Word
three b = word (b.stored.id % 4_294_967_296) ∷ word (b.stored.id / 4_294_967_296) ∷ word
    b.stored.lbd ∷ []

abbrev head : Block → List Word
head b = word (b.stored.id % 4_294_967_296) ∷ word (b.stored.id / 4_294_967_296) ∷ word
    b.stored.lbd ∷ word (count_word b) ∷ []

module _ {ws : List Word} {h : ArenaState} {q : ℕ} (f : Found ws h q) where
  abbrev lits : List Literal
  lits = f.block.stored.lits

  abbrev pub swapped : ℕ → ℕ → Block
  swapped i j = record {
    live = f.block.live;
    stored = record
        { id = f.block.stored.id; lbd = f.block.stored.lbd; lits = swap lits i j };
  }

  abbrev pub removed : Block
  removed = record { live = false; stored = f.block.stored }

  pub swap_fits : (i j : ℕ) → i < length lits → j < length lits → Fits (swapped i j)
  swap_fits i j lti ltj = (
    subst (λ n. n < 2_147_483_648) (sym (length-swap lits i j)) (fits f).0,
    all_swap IsNumbered lits i j lti ltj (fits f).1,
  )

  pub swap_are : (i j : ℕ) → i < length lits → j < length lits → swap ws (q + 4 + i) (q + 4 + j)
      ≡ flat f.before ++ (words_of (swapped i j) ++ flat f.after)
  swap_are i j lti ltj =
      let pre : List Word = flat f.before ++ head f.block in
      let long : length pre ≡ q + 4 = omega (
        arith,
        length-append (flat f.before) (head f.block),
        f.place,
      ) in
      ap (λ z. swap z (q + 4 + i) (q + 4 + j)) (f.are ∙ sym
      (append_assoc (flat f.before) (head f.block) (map word_of lits ++ flat f.after)))
      ∙ swap_lit pre (flat f.after) (q + 4) long lits i j lti ltj
      ∙ append_assoc (flat f.before) (head f.block) (map word_of (swap lits i j)
      ++ flat f.after)
      ∙ ap (λ n. flat f.before
      ++ (three f.block ++ (word (if f.block.live then n else n + 2_147_483_648) ∷ (map word_of
      (swap lits i j) ++ flat f.after)))) (sym (length-swap lits i j))

  pub mark_are : set ws (q + 3) (word (bits_at ws (q + 3) + 2_147_483_648)) ≡ flat f.before
      ++ (words_of removed ++ flat f.after)
  mark_are =
      let pre : List Word = flat f.before ++ three f.block in
      let tail : List Word = map word_of lits ++ flat f.after in
      let long : length pre ≡ q + 3 = omega (
        arith,
        length-append (flat f.before) (three f.block),
        f.place,
      ) in
      ap (λ n. set ws (q + 3) (word (n + 2_147_483_648))) (count_at f)
      ∙ ap (λ z. set z (q + 3) (word (length lits + 2_147_483_648))) (f.are
      ∙ sym (append_assoc (flat f.before) (three f.block) (word (count_word f.block) ∷ tail)))
      ∙ set_at pre (word (count_word f.block)) tail (word (length lits + 2_147_483_648)) (q + 3)
      long ∙ append_assoc (flat f.before) (three f.block)
      (word (length lits + 2_147_483_648) ∷ tail)

-- ---- the two changes, as the methods make them
module _ (ws : List Word) (h : ArenaState) (q : ℕ) (e : arena_in ws ≡ h) (f : Found ws h q) where
  abbrev remove_words : List Word
  remove_words = set ws (q + 3) (word (bits_at ws (q + 3) + 2_147_483_648))

  pub remove_laid : Laid remove_words
  remove_laid = laid_again ws h q e f (removed f) (fits f) refl remove_words (mark_are f)

  pub remove_arena : arena_in remove_words ≡ record h { clauses = map'.remove h.clauses q }
  remove_arena = arena_again ws h q e f (removed f) (fits f) refl remove_words (mark_are f)

  pub in_lits : (k : ℕ) → k < length (clause_at h q).lits → k < length f.block.stored.lits
  in_lits k lt = subst (λ s. k < length s.lits) f.stored lt

  module _ (i j : ℕ) (lti : i < length (clause_at h q).lits)
      (ltj : j < length (clause_at h q).lits) where
    abbrev swap_words : List Word
    swap_words = swap ws (q + 4 + i) (q + 4 + j)

    same_size : size f.block.stored ≡ size (swapped f i j).stored
    same_size = ap (λ n. 4 + n) (sym (length-swap f.block.stored.lits i j))

    pub swap_laid : Laid swap_words
    swap_laid = laid_again ws h q e f (swapped f i j) (swap_fits f i j (in_lits i lti)
        (in_lits j ltj)) same_size swap_words (swap_are f i j (in_lits i lti) (in_lits j ltj))

    abbrev swap_stored : Stored → Stored
    swap_stored s = record s { lits = swap s.lits i j }

    pub swap_arena : arena_in swap_words ≡ record h {
      clauses =
          map'.insert h.clauses q (swap_stored (clause_at h q));
    }
    swap_arena = arena_again ws h q e f (swapped f i j)
        (swap_fits f i j (in_lits i lti) (in_lits j ltj)) same_size swap_words
        (swap_are f i j (in_lits i lti) (in_lits j ltj))
        ∙ ap (λ v. record h {
          clauses = put h.clauses q
              (if v then Some (swap_stored f.block.stored) else None);
        }) f.live
        ∙ ap (λ s. record h { clauses = map'.insert h.clauses q (swap_stored s) })
        (sym f.stored)

-- ---- one more clause
none_above : (p : ℕ) (bs : List Block) (q : ℕ) → p + length (flat bs) ≤ q → at_place p bs q ≡ None
none_above p [] q h = refl
none_above p (b ∷ bs) q h =
    let long : length (flat (b ∷ bs)) ≡ size b.stored + length (flat bs) =
    length-append (words_of b) (flat bs) ∙ ap (λ n. n + length (flat bs)) (size_is b) in
    let apart : nat_eq q p ≡ false = grind (arith, h, long) in
    head_is p b bs q ∙ ap (λ t. cond t (seen b) (at_place (p + size b.stored) bs q)) apart
    ∙ none_above (p + size b.stored) bs q (omega (arith, h, long))

added : (p : ℕ) (bs : List Block) (b : Block) (q : ℕ) → at_place p (bs ++ b ∷ []) q
    ≡ cond (nat_eq q (p + length (flat bs))) (seen b) (at_place p bs q)
added p [] b q = head_is p b [] q ∙ ap (λ n. cond (nat_eq q n) (seen b) None) {y =
    p + 0} (omega arith)
added p (x ∷ xs) b q =
    let on : p + size x.stored + length (flat xs) ≡ p + length (flat (x ∷ xs)) =
    omega (arith, length-append (words_of x) (flat xs), size_is x) in
    head_is p x (xs ++ b ∷ []) q ∙ ap (cond (nat_eq q p) (seen x))
    (added (p + size x.stored) xs b q)
    ∙ cond_swap (nat_eq q p) (nat_eq q (p + size x.stored + length (flat xs))) (seen x) (seen b)
    (at_place (p + size x.stored) xs q) (λ t u. grind (arith, t, u))
    ∙ ap (cond (nat_eq q (p + size x.stored + length (flat xs))) (seen b)) (sym (head_is p x xs q))
    ∙ ap (λ n. cond (nat_eq q n) (seen b) (at_place p (x ∷ xs) q)) on

add_fit : (bs : List Block) (b : Block) → Fits b → AllFit bs → AllFit (bs ++ b ∷ [])
add_fit [] b new fit = (new, tt)
add_fit (x ∷ xs) b new fit = (fit.0, add_fit xs b new fit.1)

module _ (ws : List Word) (h : ArenaState) (e : arena_in ws ≡ h) (laid : Laid ws) where
  holds : (k : ℕ) → map'.get h.clauses k ≡ at_place 0 laid.blocks k
  holds k = ap (λ z. map'.get z.clauses k) (sym e)
      ∙ ap (λ z. map'.get (arena_in z).clauses k) laid.are ∙ arena_is laid.blocks k laid.fit

  pub fresh : map'.get h.clauses (length ws) ≡ None
  fresh = holds (length ws) ∙ none_above 0 laid.blocks (length ws)
      (omega (arith, ap length laid.are))

  module _ (s : Stored) (new : Fits (record { live = true; stored = s })) (vs : List Word) (are : vs
      ≡ ws ++ words_of (record { live = true; stored = s })) where
    abbrev b : Block
    b = record { live = true; stored = s }

    add_are : vs ≡ flat (laid.blocks ++ b ∷ [])
    add_are = are ∙ ap (λ z. z ++ words_of b) laid.are
        ∙ ap (λ z. flat laid.blocks ++ z) (sym (append-nil (words_of b)))
        ∙ sym (flat-append laid.blocks (b ∷ []))

    pub add_laid : Laid vs
    add_laid = record {
      blocks = laid.blocks ++ b ∷ [];
      are = add_are;
      fit =
          add_fit laid.blocks b new laid.fit;
    }

    now_is : (k : ℕ) → map'.get (arena_in vs).clauses k
        ≡ map'.get (map'.insert h.clauses (length ws) s) k
    now_is k = ap (λ z. map'.get (arena_in z).clauses k) add_are
        ∙ arena_is (laid.blocks ++ b ∷ []) k (add_fit laid.blocks b new laid.fit)
        ∙ added 0 laid.blocks b k
        ∙ ap (λ n. cond (nat_eq k n) (Some s) (at_place 0 laid.blocks k)) {y =
        length ws} (omega (arith, ap length laid.are))
        ∙ ap (cond (nat_eq k (length ws)) (Some s)) (sym (holds k))
        ∙ sym (get-put h.clauses (length ws) (Some s) k)

    pub add_arena : arena_in vs ≡ record {
      clauses = map'.insert h.clauses (length ws) s;
      words =
          h.words + (4 + length s.lits);
    }
    add_arena =
        let clauses : (arena_in vs).clauses ≡ map'.insert h.clauses (length ws) s =
        map'.same_map nat_cmp_total nat_cmp-IsAntisymmetric (arena_in vs).clauses
        (map'.insert h.clauses (length ws) s) now_is in
        let words : length vs ≡ h.words + (4 + length s.lits) =
        omega (
          arith,
          ap length are,
          length-append ws (words_of b),
          size_is b,
          ap (λ z. z.words) e,
        ) in
        λ i. record { clauses = clauses i; words = words i }
