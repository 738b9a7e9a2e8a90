-- how a clause stands, as the unit steps say it
use Rattle.std.specs.Prelude.{ℕ, ◌<◌, Option, Some, None, if◌then◌else◌}
use Rattle.gr_logic.specs.Literals.{Literal}
use Rattle.gr_logic.specs.Rup.{LiteralSet, false_in, Reading, Falsified, Forces, Undecided}
use Rattle.gr_check.specs.declared.unit_steps.Standing.{Standing}
use Rattle.gr_check.specs.declared.unit_steps.Standing.TheVariants.{Falsified as IsFalsified, Forces as IsUnit, Undecided as IsOpen}

-- the reading that the code's answer stands for
abbrev pub reading_of : Standing → Reading
reading_of IsFalsified = Falsified
reading_of (IsUnit l) = Forces l
reading_of IsOpen = Undecided

-- the literal that is forced, if one is, has one of so many variables
abbrev pub IsWithin : ℕ → Standing → Type 0
IsWithin vars IsFalsified = Unit {0}
IsWithin vars (IsUnit l) = l.index < vars
IsWithin vars IsOpen = Unit {0}

-- the literal, if there is one that is not false
abbrev pub open_in : LiteralSet → Option Literal → Option Literal
open_in set None = None
open_in set (Some l) = if false_in set l then None else Some l
