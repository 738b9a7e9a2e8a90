-- who holds the id of which learnt clause
use Rattle.std.specs.Prelude.{◌≡◌, ℕ, zero, suc, ◌≤◌, List, [], ◌∷◌, count_by, refl}
use Rattle.std.specs.declared.cmp.Ordering.{Ordering}
use Rattle.std.specs.Ordering.{nat_cmp, on, then_cmp}
use Rattle.std.specs.Coded.{Coded, coded_ℕ, coded×, code_by}
use Rattle.std.specs.FinSet as set
use Rattle.gr_hold.specs.declared.holds.Holder.{Holder}
use Rattle.gr_hold.specs.declared.holds.Holder.TheVariants.{Actor, Work, Result}

-- the solver is actor 0, and the reducers are actors 1 to 8
abbrev pub IsHolder : Holder → Type 0
IsHolder (Actor actor) = actor ≤ 8
IsHolder Work = Unit {0}
IsHolder Result = Unit {0}

-- the work list, the result list, and the actors
abbrev pub all_holders : List Holder
all_holders =
    Work ∷ Result ∷ Actor 0 ∷ Actor 1 ∷ Actor 2 ∷ Actor 3 ∷ Actor 4 ∷ Actor 5 ∷ Actor 6 ∷ Actor 7 ∷ Actor 8 ∷ []

-- a holder's number, its own
abbrev pub number_of : Holder → ℕ
number_of Work = 0
number_of Result = 1
number_of (Actor actor) = suc (suc actor)

-- the holder of a number
abbrev pub holder_of : ℕ → Holder
holder_of zero = Work
holder_of (suc zero) = Result
holder_of (suc (suc actor)) = Actor actor

-- the order of pairs: by the id, then by the holder's number
abbrev pub hold_cmp : ℕ × Holder → ℕ × Holder → Ordering
hold_cmp = then_cmp (on (λ p. p.0) nat_cmp) (on (λ p. number_of p.1) nat_cmp)

-- who holds what: a finite set of pairs of an id and a holder
abbrev pub Holding : Type 0
Holding = set.FinSet hold_cmp

-- how many of the holders hold the id
abbrev pub count_of : Holding → ℕ → ℕ
count_of holding id = count_by (λ by. set.contains holding (id, by)) all_holders

pub holder_of-number_of : (by : Holder) → holder_of (number_of by) ≡ by
holder_of-number_of Work = refl
holder_of-number_of Result = refl
holder_of-number_of (Actor actor) = refl

-- a holder is stored as its number, and a set by its pairs
abbrev pub holding_code : Coded Holding
holding_code = set.code (coded× coded_ℕ (code_by ℕ coded_ℕ number_of holder_of holder_of-number_of))
