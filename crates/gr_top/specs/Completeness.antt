-- what a call answers where nothing fails
use Rattle.std.specs.Prelude.{◌≡◌, ℕ, List, Option, Some}
use Rattle.gr_logic.specs.Formulas.{Cnf}
use Rattle.gr_dimacs.specs.Faults.{fault_of}
use Rattle.gr_dimacs.specs.Reads.{program_limits, IsFormulaOf}
use Rattle.gr_dimacs.specs.declared.faults.GrammarFault.{GrammarFault}
use Rattle.gr_top.specs.Sinks.{OutRose, ProofRose}
use Rattle.gr_top.specs.Streams.{Streams, ReadRose}
use Rattle.gr_top.specs.declared.statuses.Status.{Status}
use Rattle.gr_top.specs.declared.statuses.Status.TheVariants.{Satisfiable, Unsatisfiable, Unknown, Verified, NotVerified, Usage, Grammar, LogGrammar, ReadFault, SinkFault, OutOfMemory}

-- nothing failed in the call
pub record NothingRose (old new : Streams) : Type 0 where
  pub read : ReadRose old new → ⊥
  pub out : OutRose old.sinks new.sinks → ⊥
  pub proof : ProofRose old.sinks new.sinks → ⊥

-- the status is a verdict, or that the limit was spent, or want of memory
abbrev pub IsDecision : Status → Type 0
IsDecision Satisfiable = Unit {0}
IsDecision Unsatisfiable = Unit {0}
IsDecision Unknown = Unit {0}
IsDecision OutOfMemory = Unit {0}
IsDecision Usage = ⊥
IsDecision Verified = ⊥
IsDecision (NotVerified reason) = ⊥
IsDecision (LogGrammar fault) = ⊥
IsDecision (Grammar g) = ⊥
IsDecision ReadFault = ⊥
IsDecision SinkFault = ⊥

-- the status is this fault of the text, or want of memory
abbrev pub IsRefusal : GrammarFault → Status → Type 0
IsRefusal g (Grammar found) = found ≡ g
IsRefusal g OutOfMemory = Unit {0}
IsRefusal g Satisfiable = ⊥
IsRefusal g Unsatisfiable = ⊥
IsRefusal g Unknown = ⊥
IsRefusal g Usage = ⊥
IsRefusal g Verified = ⊥
IsRefusal g (NotVerified reason) = ⊥
IsRefusal g (LogGrammar fault) = ⊥
IsRefusal g ReadFault = ⊥
IsRefusal g SinkFault = ⊥

-- where nothing fails, a text that spells a formula is decided, and another one is refused by its first fault
pub record IsComplete (told : Option (List ℕ)) (old new : Streams) (status : Status) : Type 0 where
  pub decided : (text : List ℕ) (f : Cnf) → told ≡ Some text → IsFormulaOf program_limits text f
      → NothingRose old new → IsDecision status
  pub refused : (text : List ℕ) (g : GrammarFault) → told ≡ Some text → fault_of program_limits text ≡ Some g
      → NothingRose old new → IsRefusal g status
