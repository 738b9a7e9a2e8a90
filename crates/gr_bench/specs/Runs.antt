-- literals as DIMACS CNF writes them, and a small history
use Rattle.std.specs.Prelude.{◌-◌, ℤ, pos, negsuc, true, false, List, [], ◌∷◌}
use Rattle.gr_logic.specs.Literals.{Literal}
use Rattle.gr_logic.specs.Formulas.{Cnf}
use Rattle.gr_diary.specs.declared.entries.Entry.{Entry}
use Rattle.gr_diary.specs.declared.entries.Entry.TheVariants as entry
use Rattle.gr_diary.specs.declared.entries.Entry.TheVariants.{Forget}
use Rattle.gr_diary.specs.Examples.{plus, minus}

-- the literal of a number
abbrev pub literal_of : ℤ → Literal
literal_of (pos n) = record { index = n - 1; positive = true }
literal_of (negsuc n) = record { index = n; positive = false }

-- the formula `1`, `-1 2`
abbrev pub implication : Cnf
implication = record { vars = 2; clauses = (plus 1 ∷ []) ∷ (minus 1 ∷ plus 2 ∷ []) ∷ [] }

-- the unit clause `2` of the searching thread
abbrev pub learn_two : Entry
learn_two = entry.Unit 0 (plus 2) (1 ∷ 2 ∷ [])

-- which it lets go at once
abbrev pub letting_go : List Entry
letting_go = learn_two ∷ Forget 0 (3 ∷ []) ∷ []
