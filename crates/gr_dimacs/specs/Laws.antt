-- what the laws say
use Rattle.std.specs.Prelude.{◌≡◌, ◌<◌, ◌↔◌, ℕ, List, length, None}
use Rattle.gr_logic.specs.Formulas.{Cnf, IsBounded}
use Rattle.gr_dimacs.specs.Canonical.{canonical_text}
use Rattle.gr_dimacs.specs.Grammar.{Spells, SpellsWithin}
use Rattle.gr_dimacs.specs.Faults.{fault_of, IsWithin}
use Rattle.gr_dimacs.specs.declared.limits.Limits.{Limits}

-- there is no fault exactly where a formula within the limits is spelled within the bytes
abbrev pub FaultIsExact : Type 0
FaultIsExact = (limits : Limits) (text : List ℕ) →
    (fault_of limits text ≡ None) ↔
    ((f : Cnf) × SpellsWithin limits.bytes text f × IsWithin limits f)

-- what is spelled within some bytes is spelled by the whole text
abbrev pub WithinIsSpelled : Type 0
WithinIsSpelled = (limit : ℕ) (text : List ℕ) (f : Cnf) → SpellsWithin limit text f → Spells text f

-- a text that is shorter spells the same within them
abbrev pub ShorterIsWithin : Type 0
ShorterIsWithin = (limit : ℕ) (text : List ℕ) (f : Cnf) → length text < limit → Spells text f →
    SpellsWithin limit text f

-- a text spells at most one formula
abbrev pub SpellsOne : Type 0
SpellsOne = (text : List ℕ) (f g : Cnf) → Spells text f → Spells text g → f ≡ g

-- the canonical text of a formula spells it
abbrev pub CanonicalSpells : Type 0
CanonicalSpells = (f : Cnf) → IsBounded f → Spells (canonical_text f) f

-- and is at no fault, where the formula is within the limits and the text is shorter than the bytes
abbrev pub CanonicalIsFaultless : Type 0
CanonicalIsFaultless = (limits : Limits) (f : Cnf) → IsBounded f → IsWithin limits f →
    length (canonical_text f) < limits.bytes → fault_of limits (canonical_text f) ≡ None
