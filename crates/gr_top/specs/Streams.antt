-- what the streams of a call show
use Rattle.std.specs.Prelude.{ℕ, List, Option, Ok, Err}
use Rattle.gr_logic.specs.Formulas.{Cnf}
use Rattle.gr_io.specs.Pieces.{Rose}
use Rattle.gr_dimacs.specs.Reads.{program_limits, Reads}
use Rattle.gr_dimacs.specs.declared.faults.GrammarFault.{GrammarFault}
use Rattle.gr_dimacs.specs.declared.faults.ReadError.TheVariants as errors
use Rattle.gr_top.specs.Sinks.{Sinks, sinks}

-- the text that is left to read, where it is told, how often reading failed, and what stands on the sinks
pub record Streams : Type 0 where
  pub text : Option (List ℕ)
  pub read_faults : ℕ
  pub sinks : Sinks

-- the streams that show this
abbrev pub streams : Option (List ℕ) → ℕ → Option (List ℕ) → ℕ → Option (List ℕ) → ℕ → Streams
streams text read_faults out out_faults proof proof_faults = record {
  text = text;
  read_faults = read_faults;
  sinks = sinks out out_faults proof proof_faults;
}

-- reading failed
abbrev pub ReadRose : Streams → Streams → Type 0
ReadRose old new = Rose old.read_faults new.read_faults

-- what a source had left to read, and what it has left now, each where it is told
pub record Taking : Type 0 where
  pub left : Option (List ℕ)
  pub rest : Option (List ℕ)

-- what a call took
abbrev pub taking : Streams → Streams → Taking
taking old new = record { left = old.text; rest = new.text }

-- the text was read through, and spells the formula, with no fault and within the program's limits
abbrev pub IsReadFrom : Taking → Cnf → Type 0
IsReadFrom text f = Reads program_limits (Ok f) text.left text.rest

-- this is the text's first fault
abbrev pub IsFaultIn : Taking → GrammarFault → Type 0
IsFaultIn text g = Reads program_limits (Err (errors.Grammar g)) text.left text.rest
