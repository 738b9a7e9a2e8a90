-- finite sets of literals, by their members
use Rattle.std.proofs.Common.{◌≡◌, ℕ, ◌+◌, ◌*◌, ◌<◌, Bool, true, false, ◌&&◌, ◌||◌, List, [], ◌∷◌, suc, zero, refl, sym, ap, ◌∙◌, arith, nat_eq, slice_index_or, if◌then◌else◌}
use Rattle.std.specs.List.{list_any}
use Rattle.std.specs.Ordering.{nat_cmp, eq_by_cmp}
use Rattle.std.specs.Cmp.{IsTotalOrder, nat_cmp_total}
use Rattle.std.specs.FinSet as set
use Rattle.std.specs.FinMap.{IsAntisymmetric, nat_cmp-IsAntisymmetric}
use Rattle.std.proofs.lemmas.Bool.Decides.{nat_tests}
use Rattle.gr_logic.specs.Literals.{Literal, same_literal, same_sign}
use Rattle.gr_logic.specs.Codes.{code_of, literal_of, code_of-literal_of, literal_of-code_of}
use Rattle.gr_logic.specs.Rup.{with_literal}
use Rattle.gr_logic.specs.Closure.{no_literals}
use Rattle.gr_logic.specs.LiteralSets.{literal_cmp, FiniteSet, flagged_from, flagged}

pub literal_cmp_total : IsTotalOrder literal_cmp
literal_cmp_total = record {
  antisymm = λ a b. nat_cmp_total.antisymm (code_of a) (code_of b);
  trans = λ a b c. nat_cmp_total.trans (code_of a) (code_of b) (code_of c);
  congr = λ a b c. nat_cmp_total.congr (code_of a) (code_of b) (code_of c);
}

pub literal_cmp-IsAntisymmetric : IsAntisymmetric literal_cmp
literal_cmp-IsAntisymmetric a b e =
    sym (literal_of-code_of a)
    ∙ ap literal_of (nat_cmp-IsAntisymmetric (code_of a) (code_of b) e)
    ∙ literal_of-code_of b

eq_by_cmp-nat : (m n : ℕ) → eq_by_cmp nat_cmp m n ≡ nat_eq m n
eq_by_cmp-nat m n = grind (arith, nat_tests)

pub same-code : (a b : Literal) → nat_eq (code_of a) (code_of b) ≡ same_literal a b
same-code a b = codes a.positive b.positive
  where
    codes : (s t : Bool)
        → nat_eq (if s then 2 * a.index else 2 * a.index + 1) (if t then 2 * b.index else 2 * b.index + 1)
        ≡ (nat_eq a.index b.index && same_sign s t)
    codes true true = grind (arith, nat_tests)
    codes true false = grind (arith, nat_tests)
    codes false true = grind (arith, nat_tests)
    codes false false = grind (arith, nat_tests)

-- the order ties a literal with itself alone
pub eq_by_cmp-literal : (a b : Literal) → eq_by_cmp literal_cmp a b ≡ same_literal a b
eq_by_cmp-literal a b = eq_by_cmp-nat (code_of a) (code_of b) ∙ same-code a b

pub contains-empty : set.contains (set.empty {R = literal_cmp}) ≡ no_literals
contains-empty = λ i q. set.contains-empty literal_cmp q i

pub contains-insert : (s : FiniteSet) (l : Literal)
    → set.contains (set.insert s l) ≡ with_literal (set.contains s) l
contains-insert s l = λ i q. (
    set.contains-insert literal_cmp_total s l q
    ∙ ap (λ b. b || set.contains s q) (eq_by_cmp-literal q l)) i

-- which literal has the code
tied-code : (q : Literal) (code : ℕ) → eq_by_cmp literal_cmp q (literal_of code) ≡ nat_eq (code_of q) code
tied-code q code = eq_by_cmp-nat (code_of q) (code_of (literal_of code))
    ∙ ap (nat_eq (code_of q)) (code_of-literal_of code)

-- a code before the first flag has none
flagged-before : (flags : List Bool) (code : ℕ) (q : Literal) → code_of q < code
    → list_any (eq_by_cmp literal_cmp q) (flagged_from code flags) ≡ false
flagged-before [] code q before = refl
flagged-before (true ∷ flags) code q before =
    let other : nat_eq (code_of q) code ≡ false = grind (arith, nat_tests) in
    rw (tied-code q code, other) (flagged-before flags (code + 1) q (omega arith))
flagged-before (false ∷ flags) code q before = flagged-before flags (code + 1) q (omega arith)

-- a literal is flagged by the flag at its code
flagged-at : (flags : List Bool) (code k : ℕ) (q : Literal) → code_of q ≡ code + k
    → list_any (eq_by_cmp literal_cmp q) (flagged_from code flags) ≡ slice_index_or flags k false
flagged-at [] code k q is = refl
flagged-at (true ∷ flags) code zero q is =
    let here : nat_eq (code_of q) code ≡ true = grind (arith, nat_tests) in
    rw (tied-code q code, here) refl
flagged-at (true ∷ flags) code (suc k) q is =
    let other : nat_eq (code_of q) code ≡ false = grind (arith, nat_tests) in
    rw (tied-code q code, other) (flagged-at flags (code + 1) k q (omega arith))
flagged-at (false ∷ flags) code zero q is = flagged-before flags (code + 1) q (omega arith)
flagged-at (false ∷ flags) code (suc k) q is = flagged-at flags (code + 1) k q (omega arith)

pub contains-flagged : (flags : List Bool) (q : Literal)
    → set.contains (flagged flags) q ≡ slice_index_or flags (code_of q) false
contains-flagged flags q =
    set.contains-from_list literal_cmp_total (flagged_from 0 flags) q
    ∙ flagged-at flags 0 (code_of q) q (omega arith)

-- one more flag is one more literal
pub flagged-insert : (old new : List Bool) (l : Literal)
    → ((i : ℕ) → slice_index_or new i false ≡ (nat_eq i (code_of l) || slice_index_or old i false))
    → flagged new ≡ set.insert (flagged old) l
flagged-insert old new l flag =
    set.same_set literal_cmp_total literal_cmp-IsAntisymmetric (flagged new) (set.insert (flagged old) l) (λ q.
    contains-flagged new q
    ∙ flag (code_of q)
    ∙ ap (λ b. b || slice_index_or old (code_of q) false) (same-code q l)
    ∙ ap (λ b. same_literal q l || b) (sym (contains-flagged old q))
    ∙ sym (ap (λ s. s q) (contains-insert (flagged old) l)))
