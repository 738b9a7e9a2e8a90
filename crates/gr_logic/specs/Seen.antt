-- a hash set of literals beside a list of them
use Rattle.std.specs.Prelude.{◌≡◌, Bool, List, nat_eq}
use Rattle.std.specs.HashSet as set
use Rattle.std.specs.declared.hash.FoldHasher.{FoldHasher}
use Rattle.std.specs.declared.hash.BuildHasherDefault.{BuildHasherDefault}
use Rattle.gr_logic.specs.Literals.{Literal}
use Rattle.gr_logic.specs.Codes.{code_of}
use Rattle.gr_logic.specs.Rup.{members}

-- two literals have one code
abbrev pub same_code : Literal → Literal → Bool
same_code a b = nat_eq (code_of a) (code_of b)

-- the hash set has the literals of the list
abbrev pub Sees : set.HashSet Literal (BuildHasherDefault FoldHasher) → List Literal → Type 0
Sees seen ls = (q : Literal) → set.contains same_code seen q ≡ members ls q
