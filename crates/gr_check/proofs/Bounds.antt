-- clauses whose variables are the formula's
use Rattle.std.proofs.Common.{◌≡◌, ℕ, ◌+◌, ◌<◌, Bool, true, false, ◌||◌, List, [], ◌∷◌, Option, Some, None, cond, refl, sym, subst, ◌∙◌, arith, nat_le}
use Rattle.std.specs.Prelude.{All}
use Rattle.std.specs.Ordering.{nat_cmp, eq_by_cmp}
use Rattle.std.specs.Cmp.{nat_cmp_total}
use Rattle.std.proofs.lemmas.Bool.Decides.{nat_tests}
use Rattle.std.proofs.lemmas.List.Elements.{All-nil, All-cons, All-head, All-tail}
use Rattle.std.specs.FinMap as finite
use Rattle.gr_logic.specs.Literals.{Literal}
use Rattle.gr_logic.specs.Formulas.{VarsUpTo}
use Rattle.gr_check.specs.Checks.{AreBounded}
use Rattle.gr_logic.specs.Log.{Clauses, with_clauses, without, is_var_above}

-- what holds of a value holds of what is chosen
either : (P : List Literal → Type 0) (b : Bool) (x y : Option (List Literal)) (c : List Literal)
    → (x ≡ Some c → P c) → (y ≡ Some c → P c) → cond b x y ≡ Some c → P c
either P true x y c left right is = left is
either P false x y c left right is = right is

-- no clauses
pub empty-AreBounded : (vars : ℕ) → AreBounded vars (finite.empty {R = nat_cmp})
empty-AreBounded vars q c is =
    absurd (let none = finite.get-empty {X = List Literal} nat_cmp q in cc)

-- one more clause
pub insert-AreBounded : (vars : ℕ) (live : Clauses) (id : ℕ) (new : List Literal)
    → AreBounded vars live → VarsUpTo vars new → AreBounded vars (finite.insert live id new)
insert-AreBounded vars live id new bounded one q c is =
    either (VarsUpTo vars) (eq_by_cmp nat_cmp q id) (Some new) (finite.get live q) c
    (λ same. let is_new : new ≡ c = cc in subst (VarsUpTo vars) is_new one) (bounded q c)
    (sym (finite.get-insert nat_cmp_total live id new q) ∙ is)

-- one clause less
pub remove-AreBounded : (vars : ℕ) (live : Clauses) (id : ℕ) → AreBounded vars live
    → AreBounded vars (finite.remove live id)
remove-AreBounded vars live id bounded q c is =
    either (VarsUpTo vars) (eq_by_cmp nat_cmp q id) None (finite.get live q) c
    (λ none. absurd (cc)) (bounded q c) (sym (finite.get-remove nat_cmp_total live id q) ∙ is)

-- some clauses less
pub without-AreBounded : (vars : ℕ) (ids : List ℕ) (live : Clauses) → AreBounded vars live
    → AreBounded vars (without live ids)
without-AreBounded vars [] live bounded = bounded
without-AreBounded vars (id ∷ ids) live bounded =
    without-AreBounded vars ids (finite.remove live id) (remove-AreBounded vars live id bounded)

-- the formula's clauses
pub with_clauses-AreBounded : (vars : ℕ) (cs : List (List Literal)) (live : Clauses) (id : ℕ)
    → AreBounded vars live → All (VarsUpTo vars) cs → AreBounded vars (with_clauses live id cs)
with_clauses-AreBounded vars [] live id bounded all = bounded
with_clauses-AreBounded vars (c ∷ cs) live id bounded all =
    with_clauses-AreBounded vars cs (finite.insert live id c) (id + 1)
    (insert-AreBounded vars live id c bounded (All-head (VarsUpTo vars) c cs all))
    (All-tail (VarsUpTo vars) c cs all)

-- where no variable is above the number, all are up to it
pub up_to : (vars : ℕ) (c : List Literal) → is_var_above vars c ≡ false → VarsUpTo vars c
up_to vars [] none = All-nil (λ l. l.index < vars)
up_to vars (l ∷ ls) none =
    All-cons (λ l. l.index < vars) l ls (below (nat_le vars l.index) refl none)
    (up_to vars ls (rest (nat_le vars l.index) none))
  where
    below : (b : Bool) → nat_le vars l.index ≡ b → (b || is_var_above vars ls) ≡ false
        → l.index < vars
    below true is none = absurd (cc)
    below false is none = grind (arith, nat_tests)

    rest : (b : Bool) → (b || is_var_above vars ls) ≡ false → is_var_above vars ls ≡ false
    rest true none = absurd (cc)
    rest false none = none
