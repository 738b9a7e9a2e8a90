-- finite sets of literals
use Rattle.std.specs.Prelude.{ℕ, ◌+◌, Bool, if◌then◌else◌, List, [], ◌∷◌, refl}
use Rattle.std.specs.declared.cmp.Ordering.{Ordering}
use Rattle.std.specs.Ordering.{nat_cmp}
use Rattle.std.specs.Coded.{Coded, coded_ℕ, coded_bool, coded×, code_by}
use Rattle.std.specs.FinSet as set
use Rattle.gr_logic.specs.Literals.{Literal}
use Rattle.gr_logic.specs.Codes.{code_of, literal_of}

-- the order of literals by their codes
abbrev pub literal_cmp : Literal → Literal → Ordering
literal_cmp a b = nat_cmp (code_of a) (code_of b)

-- a finite set of literals: `contains` of it is the set by its members
abbrev pub FiniteSet : Type 0
FiniteSet = set.FinSet literal_cmp

-- a literal is stored as its index and its sign
abbrev literal_code : Coded Literal
literal_code =
    code_by (ℕ × Bool) (coded× coded_ℕ coded_bool) (λ l. (l.index, l.positive))
    (λ p. record { index = p.0; positive = p.1 }) (λ _. refl)

-- a finite set is stored by its literals
abbrev pub finite_set_code : Coded FiniteSet
finite_set_code = set.code literal_code

-- the literals whose flags are set, where the first flag is that of this code
abbrev pub flagged_from : ℕ → List Bool → List Literal
flagged_from code [] = []
flagged_from code (flag ∷ flags) =
    if flag then literal_of code ∷ flagged_from (code + 1) flags else flagged_from (code + 1) flags

-- the set of the literals whose flags, by their codes, are set
abbrev pub flagged : List Bool → FiniteSet
flagged flags = set.from_list (flagged_from 0 flags)
