-- reading a clause literal by literal
use Rattle.std.proofs.Common.{◌≡◌, ℕ, ◌<◌, Bool, true, false, not, ◌&&◌, nat_eq, arith, refl, ap, ◌∙◌, List, [], ◌∷◌, Option, Some, None, if◌then◌else◌}
use Rattle.std.specs.Prelude.{slice_get, IfSome}
use Rattle.std.proofs.lemmas.Bool.Decides.{nat_tests}
use Rattle.std.proofs.lemmas.List.Elements.{All-head}
use Rattle.gr_logic.specs.Formulas.{VarsUpTo}
use Rattle.gr_check.specs.Readings.{open_in}
use Rattle.std.specs.List.{list_all, filter}
use Rattle.gr_logic.specs.Literals.{Literal, same_literal, same_sign}
use Rattle.gr_logic.specs.Rup.{LiteralSet, Reading, Forces, Undecided, reading, reading_of_open, false_in}

-- what the clause says, where one literal of it was found already, or none
abbrev pub resume : Option Literal → List Literal → Reading
resume None ls = reading_of_open ls
resume (Some l) ls = if list_all (same_literal l) ls then Forces l else Undecided

-- what the clause says from here on
abbrev pub from_here : LiteralSet → Option Literal → List Literal → Reading
from_here set found ls = resume found (filter (λ l. not (false_in set l)) ls)

-- a sign is its own
same_sign-refl : (b : Bool) → same_sign b b ≡ true
same_sign-refl true = refl
same_sign-refl false = refl

-- a literal is its own
same_literal-refl : (l : Literal) → same_literal l l ≡ true
same_literal-refl l =
    let number : nat_eq l.index l.index ≡ true = grind (arith, nat_tests) in
    ap (λ b. b && same_sign l.positive l.positive) number ∙ same_sign-refl l.positive

-- the first literal is found, if it is not false, and then read again
again : (b : Bool) (l : Literal) (ls : List Literal)
    → resume (if b then None else Some l) (if not b then l ∷ ls else ls)
    ≡ reading_of_open (if not b then l ∷ ls else ls)
again true l ls = refl
again false l ls =
    let same : same_literal l l ≡ true = same_literal-refl l in
    rw same refl

-- the whole clause is left
pub start : (set : LiteralSet) (ls : List Literal)
    → from_here set (open_in set (slice_get ls 0)) ls ≡ reading set ls
start set [] = refl
start set (l ∷ ls) = again (false_in set l) l (filter (λ k. not (false_in set k)) ls)

-- the first literal has one of the variables, if it is found
pub open_within : (vars : ℕ) (set : LiteralSet) (ls : List Literal) → VarsUpTo vars ls
    → IfSome (open_in set (slice_get ls 0)) (λ l. l.index < vars)
open_within vars set [] all = tt
open_within vars set (l ∷ ls) all = cases (false_in set l)
  where
    cases : (b : Bool) → IfSome (if b then None else Some l) (λ k. k.index < vars)
    cases true = tt
    cases false = All-head (λ k. k.index < vars) l ls all

-- and the first literal of the clause has
pub first_within : (vars : ℕ) (ls : List Literal) → VarsUpTo vars ls
    → IfSome (slice_get ls 0) (λ l. l.index < vars)
first_within vars [] all = tt
first_within vars (l ∷ ls) all = All-head (λ k. k.index < vars) l ls all
