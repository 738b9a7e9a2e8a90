-- refusals and their causes
use Rattle.std.specs.Prelude.{◌≡◌, Option, Some, None}
use Rattle.gr_logic.specs.Log.{Cause, IsNotLive, IsNotUnit, HasNoConflict, IdNotGreater as IsNotGreater, VarAbove as HasVarAbove}
use Rattle.gr_check.specs.declared.refusals.Refused.{Refused}
use Rattle.gr_check.specs.declared.refusals.Refused.TheVariants.{IdNotGreater, VarAbove, NotLive, HintNotUnit, NoConflict, OutOfMemory}

-- the cause that a refusal is for; there is none where memory was wanting
abbrev pub cause_in : Refused → Option Cause
cause_in (IdNotGreater id) = Some (IsNotGreater id)
cause_in (VarAbove id) = Some (HasVarAbove id)
cause_in (NotLive id) = Some (IsNotLive id)
cause_in (HintNotUnit id) = Some (IsNotUnit id)
cause_in (NoConflict id) = Some (HasNoConflict id)
cause_in OutOfMemory = None

-- the cause is the one that is named, if one is
abbrev pub IsNamed : Option Cause → Option Cause → Type 0
IsNamed None cause = Unit {0}
IsNamed (Some named) cause = cause ≡ Some named

-- the refusal is for this cause, with the id that it names, or memory was wanting
abbrev pub IsCauseOf : Refused → Option Cause → Type 0
IsCauseOf why cause = IsNamed (cause_in why) cause
