-- the formula's clauses, as a history has them and as a strengthener has them
use Rattle.std.proofs.Common.{◌≡◌, ℕ, zero, suc, ◌+◌, ◌<◌, ◌≤◌, false, List, [], ◌∷◌, length, Some, refl, ap, ◌∙◌, arith, nat_eq, if◌then◌else◌}
use Rattle.std.specs.Prelude.{slice_get}
use Rattle.std.specs.Ordering.{nat_cmp}
use Rattle.std.specs.FinMap as finite
use Rattle.std.proofs.lemmas.Bool.Decides.{nat_tests}
use Rattle.gr_logic.specs.Literals.{Literal}
use Rattle.gr_logic.specs.Formulas.{Cnf}
use Rattle.gr_logic.specs.Log.{Clauses, with_clauses}
use Rattle.gr_diary.specs.States.{initial_state}
use Rattle.gr_diary.proofs.LogPieces.{get-insert_at}
use Rattle.gr_diary.proofs.Moved.{get-new}
use Rattle.gr_strengthen.specs.Families.{given_clause}

-- what is there below the ids stays
get-before : (cs : List (List Literal)) (live : Clauses) (id q : ℕ) → q < id
    → finite.get (with_clauses live id cs) q ≡ finite.get live q
get-before [] live id q low = refl
get-before (c ∷ cs) live id q low =
    let other : nat_eq q id ≡ false = grind (arith, nat_tests) in
    get-before cs (finite.insert live id c) (id + 1) q (omega (arith, low))
    ∙ get-insert_at live id c q ∙ ap (λ b. if b then Some c else finite.get live q) other

get-at : (cs : List (List Literal)) (live : Clauses) (id i : ℕ) → i < length cs
    → finite.get (with_clauses live id cs) (id + i) ≡ slice_get cs i
get-at [] live id i low = absurd (omega (arith, low))
get-at (x ∷ cs) live id zero low =
    ap (finite.get (with_clauses (finite.insert live id x) (id + 1) cs)) (omega arith)
    ∙ get-before cs (finite.insert live id x) (id + 1) id (omega arith) ∙ get-new live id x
get-at (x ∷ cs) live id (suc i) low =
    ap (finite.get (with_clauses (finite.insert live id x) (id + 1) cs)) (omega arith)
    ∙ get-at cs (finite.insert live id x) (id + 1) i (omega (arith, low))

-- the id of a clause is its place, counted from 1
pub input-clause : (f : Cnf) (id : ℕ) → id ≤ length f.clauses
    → finite.get (initial_state f).live id ≡ given_clause f id
input-clause f zero low = get-before f.clauses finite.empty 1 zero (omega arith) ∙ finite.get-empty nat_cmp zero
input-clause f (suc i) low =
    ap (finite.get (initial_state f).live) (omega arith) ∙ get-at f.clauses finite.empty 1 i (omega (arith, low))
