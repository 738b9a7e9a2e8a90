-- each command line is of one case
use Rattle.std.proofs.Common.{arith, ◌≡◌, ◌∙◌, ◌&&◌, ℕ, Bool, true, false, List, [], ◌∷◌, codes, refl, sym, ap, slice_index}
use Rattle.std.specs.Prelude.{if◌then◌else◌}
use Rattle.std.specs.Str.{bytes_eq}
use Rattle.std.proofs.lemmas.Slice.Eq.{bytes_eq-Decides}
use Rattle.clap.specs.Words.{Text}
use Rattle.gr_words.specs.Meanings.{Solving, Making, solving, making}
use Rattle.gr_words.specs.Calls.{is_lawful, kind_name, can_be_made, options_of, Means}
use Rattle.gr_words.specs.Cases.{IsSolve, IsCheck, IsLarge, IsUnlawful, Case, to-solve, to-check, to-make, to-refuse, IsCase}
use Rattle.gr_words.specs.declared.calls.SolveWords.{SolveWords}
use Rattle.gr_words.specs.declared.calls.CheckWords.{CheckWords}
use Rattle.gr_words.specs.declared.calls.LargeWords.{LargeWords}
use Rattle.gr_words.specs.declared.calls.Call.TheVariants.{Solve, Check, Large}
use Rattle.gr_words.specs.declared.calls.Kind.{Kind}
use Rattle.gr_words.specs.declared.calls.Kind.TheVariants.{OddRing, Pigeons}

-- ---- what a call tells

-- a call to decide a formula is of the first case
pub call-solve : (words : List Text) (s : SolveWords) → is_lawful words ≡ true → Means words (Solve s)
    → IsSolve (options_of s) words
call-solve words s lawful meant = record { lawful = lawful; rest = meant.0; spelled = meant.1; means = meant.2 }

-- a call to check a log is of the second
pub call-check : (words : List Text) (s : CheckWords) → is_lawful words ≡ true → Means words (Check s) → IsCheck words
call-check words s lawful meant = record { lawful = lawful; rest = meant.0; spelled = meant.1 }

-- a call to make a formula is of the third
pub call-large : (words : List Text) (s : LargeWords) → is_lawful words ≡ true → Means words (Large s)
    → IsLarge s.kind s.n words
call-large words s lawful meant = record { lawful = lawful; rest = meant.0; spelled = meant.1; means = meant.2 }

-- ---- no line is of two cases

-- the words behind the first
abbrev behind : List Text → List Text
behind [] = []
behind (word ∷ rest) = rest

-- the first word's first byte
abbrev initial : List Text → ℕ
initial [] = 0
initial (word ∷ rest) = slice_index word 0

same-rest : (words : List Text) (x y : Text) (r s : List Text) → words ≡ x ∷ r → words ≡ y ∷ s → r ≡ s
same-rest words x y r s a b = sym (ap behind a) ∙ ap behind b

same-initial : (words : List Text) (x y : Text) (r s : List Text) → words ≡ x ∷ r → words ≡ y ∷ s
    → slice_index x 0 ≡ slice_index y 0
same-initial words x y r s a b = sym (ap initial a) ∙ ap initial b

-- the options are those that the words mean
pub one-solve : (words : List Text) (o p : Solving) → IsSolve o words → IsSolve p words → o ≡ p
one-solve words o p a b =
    a.means
    ∙ ap solving (same-rest words (codes "solve") (codes "solve") a.rest b.rest a.spelled b.spelled)
    ∙ sym b.means

-- kinds of the same name are the same
same-kind : (j k : Kind) → kind_name j ≡ kind_name k → j ≡ k
same-kind OddRing OddRing e = refl
same-kind OddRing Pigeons e = let bad : ◌≡◌ {A = ℕ} 111 112 = ap (λ t. slice_index t 0) e in absurd (omega arith)
same-kind Pigeons OddRing e = let bad : ◌≡◌ {A = ℕ} 112 111 = ap (λ t. slice_index t 0) e in absurd (omega arith)
same-kind Pigeons Pigeons e = refl

-- the kind and the number are those that the words mean
pub one-large : (words : List Text) (j k : Kind) (n m : ℕ) → IsLarge j n words → IsLarge k m words → (j ≡ k) × (n ≡ m)
one-large words j k n m a b =
    let same : ◌≡◌ {A = Making} (record { kind = kind_name j; n = n }) (record { kind = kind_name k; n = m }) =
    a.means
    ∙ ap making (same-rest words (codes "large") (codes "large") a.rest b.rest a.spelled b.spelled)
    ∙ sym b.means in
    (same-kind j k (ap (λ (x : Making). x.kind) same), ap (λ (x : Making). x.n) same)

pub solve-or-check : (words : List Text) (o : Solving) → IsSolve o words → IsCheck words → ⊥
solve-or-check words o a b =
    let bad : ◌≡◌ {A = ℕ} 115 99 =
    same-initial words (codes "solve") (codes "check") a.rest b.rest a.spelled b.spelled in
    absurd (omega arith)

pub solve-or-large : (words : List Text) (o : Solving) (k : Kind) (n : ℕ) → IsSolve o words → IsLarge k n words → ⊥
solve-or-large words o k n a b =
    let bad : ◌≡◌ {A = ℕ} 115 108 =
    same-initial words (codes "solve") (codes "large") a.rest b.rest a.spelled b.spelled in
    absurd (omega arith)

pub check-or-large : (words : List Text) (k : Kind) (n : ℕ) → IsCheck words → IsLarge k n words → ⊥
check-or-large words k n a b =
    let bad : ◌≡◌ {A = ℕ} 99 108 =
    same-initial words (codes "check") (codes "large") a.rest b.rest a.spelled b.spelled in
    absurd (omega arith)

pub lawful-or-not : (words : List Text) → is_lawful words ≡ true → IsUnlawful words → ⊥
lawful-or-not words a b = let bad : true ≡ false = sym a ∙ b in cc

-- a line of two cases is of one
pub one-case : (words : List Text) (c d : Case) → IsCase c words → IsCase d words → c ≡ d
one-case words (to-solve o) (to-solve p) a b = ap to-solve (one-solve words o p a b)
one-case words (to-solve o) to-check a b = absurd (solve-or-check words o a b)
one-case words (to-solve o) (to-make k n) a b = absurd (solve-or-large words o k n a b)
one-case words (to-solve o) to-refuse a b = absurd (lawful-or-not words a.lawful b)
one-case words to-check (to-solve p) a b = absurd (solve-or-check words p b a)
one-case words to-check to-check a b = refl
one-case words to-check (to-make k n) a b = absurd (check-or-large words k n a b)
one-case words to-check to-refuse a b = absurd (lawful-or-not words a.lawful b)
one-case words (to-make k n) (to-solve p) a b = absurd (solve-or-large words p k n b a)
one-case words (to-make k n) to-check a b = absurd (check-or-large words k n b a)
one-case words (to-make j n) (to-make k m) a b =
    let same = one-large words j k n m a b in
    λ i. to-make (same.0 i) (same.1 i)
one-case words (to-make k n) to-refuse a b = absurd (lawful-or-not words a.lawful b)
one-case words to-refuse (to-solve p) a b = absurd (lawful-or-not words b.lawful a)
one-case words to-refuse to-check a b = absurd (lawful-or-not words b.lawful a)
one-case words to-refuse (to-make k n) a b = absurd (lawful-or-not words b.lawful a)
one-case words to-refuse to-refuse a b = refl

-- ---- each line is of a case

-- a formula that can be made has its kind
kind-there : (m : Making) → can_be_made m ≡ true → (k : Kind) × (kind_name k ≡ m.kind)
kind-there m made = go (bytes_eq m.kind (codes "odd_ring")) refl (bytes_eq m.kind (codes "pigeons")) refl
  where
    go : (r : Bool) → bytes_eq m.kind (codes "odd_ring") ≡ r → (p : Bool) → bytes_eq m.kind (codes "pigeons") ≡ p
        → (k : Kind) × (kind_name k ≡ m.kind)
    go true ring p pigeons = (OddRing, sym ((bytes_eq-Decides m.kind (codes "odd_ring")).0 ring))
    go false ring true pigeons = (Pigeons, sym ((bytes_eq-Decides m.kind (codes "pigeons")).0 pigeons))
    go false ring false pigeons = let bad : false ≡ true = rw (ring, pigeons) at made in cc

-- a test that holds where there is a large formula to be made
made-of : (a large made : Bool) → (a && (if large then made else true)) ≡ true → large ≡ true → made ≡ true
made-of true true made h e = h
made-of true false made h e = cc
made-of false large made h e = cc

-- lawful words begin with a command's name
lawful-case : (words : List Text) → is_lawful words ≡ true → (c : Case) × IsCase c words
lawful-case [] lawful = cc
lawful-case (word ∷ rest) lawful =
    go (bytes_eq word (codes "solve")) refl (bytes_eq word (codes "check")) refl (bytes_eq word (codes "large")) refl
  where
    go : (s : Bool) → bytes_eq word (codes "solve") ≡ s → (k : Bool) → bytes_eq word (codes "check") ≡ k
        → (l : Bool) → bytes_eq word (codes "large") ≡ l → (c : Case) × IsCase c (word ∷ rest)
    go true solve k check l large = (
      to-solve (solving rest),
      record {
        lawful = lawful;
        rest = rest;
        spelled = ap (λ w. w ∷ rest) ((bytes_eq-Decides word (codes "solve")).0 solve);
        means = refl;
      },
    )
    go false solve true check l large = (
      to-check,
      record {
        lawful = lawful;
        rest = rest;
        spelled = ap (λ w. w ∷ rest) ((bytes_eq-Decides word (codes "check")).0 check);
      },
    )
    go false solve false check true large =
        let is : word ≡ codes "large" = (bytes_eq-Decides word (codes "large")).0 large in
        let made : can_be_made (making rest) ≡ true =
        made-of _ (bytes_eq word (codes "large")) (can_be_made (making rest)) lawful large in
        let kind = kind-there (making rest) made in (
          to-make kind.0 (making rest).n,
          record {
            lawful = lawful;
            rest = rest;
            spelled = ap (λ w. w ∷ rest) is;
            means = ap (λ (t : Text). record { kind = t; n = (making rest).n }) kind.1;
          },
        )
    go false solve false check false large = let bad : false ≡ true = rw (solve, check, large) at lawful in cc

-- each line is of a case
pub some-case : (words : List Text) → (c : Case) × IsCase c words
some-case words = go (is_lawful words) refl
  where
    go : (b : Bool) → is_lawful words ≡ b → (c : Case) × IsCase c words
    go true lawful = lawful-case words lawful
    go false lawful = (to-refuse, lawful)
