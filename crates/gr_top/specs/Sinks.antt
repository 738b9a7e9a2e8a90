-- what an answer leaves on the output and on the proof log
use Rattle.std.specs.Prelude.{◌≡◌, ◌⊎◌, ℕ, Bool, List, Option}
use Rattle.gr_logic.specs.Formulas.{Cnf}
use Rattle.gr_logic.specs.declared.lines.Line.{Line}
use Rattle.gr_io.specs.Pieces.{Gains, GainsPart, Rose}
use Rattle.gr_io.specs.declared.sinks.SinkError.{SinkError}
use Rattle.gr_io.specs.declared.sinks.SinkError.TheVariants.{Fault}
use Rattle.gr_lrat.specs.Writing.{log_text}
use Rattle.gr_diary.specs.Diaries.{Journal}
use Rattle.gr_run.specs.declared.options.SolveOptions.{SolveOptions}
use Rattle.gr_run.specs.Runs.{Satisfies}
use Rattle.gr_top.specs.Histories.{IsHistory, IsRefutation, IsSpent}
use Rattle.gr_top.specs.Texts.{satisfiable_text, unsatisfiable_line, unknown_line}

-- what was written to the output and to the proof log, each where it is told, and how often each failed
pub record Sinks : Type 0 where
  pub out : Option (List ℕ)
  pub out_faults : ℕ
  pub proof : Option (List ℕ)
  pub proof_faults : ℕ

-- the sinks that show this
abbrev pub sinks : Option (List ℕ) → ℕ → Option (List ℕ) → ℕ → Sinks
sinks out out_faults proof proof_faults = record {
  out = out;
  out_faults = out_faults;
  proof = proof;
  proof_faults = proof_faults;
}

-- the output failed
abbrev pub OutRose : Sinks → Sinks → Type 0
OutRose old new = Rose old.out_faults new.out_faults

-- the proof log failed
abbrev pub ProofRose : Sinks → Sinks → Type 0
ProofRose old new = Rose old.proof_faults new.proof_faults

-- nothing was written
pub record IsUntouched (old new : Sinks) : Type 0 where
  pub out : new.out ≡ old.out
  pub proof : new.proof ≡ old.proof

-- the text was written to the output, and nothing to the proof log
pub record Tells (text : List ℕ) (old new : Sinks) : Type 0 where
  pub out : Gains text old.out new.out
  pub proof : new.proof ≡ old.proof

-- a front part of the text was written to the output, and nothing to the proof log
pub record TellsPart (text : List ℕ) (old new : Sinks) : Type 0 where
  pub out : GainsPart text old.out new.out
  pub proof : new.proof ≡ old.proof

-- the log was written, and then the verdict on it
pub record TellsRefutation (lines : List Line) (old new : Sinks) : Type 0 where
  pub proof : Gains (log_text lines) old.proof new.proof
  pub out : Gains unsatisfiable_line old.out new.out

-- a refutation was cut off by an error: a front part of the log was written, and no verdict; or the whole
-- log, and a front part of the verdict on it. A fault is that of the sink that was being written
pub data CutRefutation (lines : List Line) (old new : Sinks) (failed : SinkError) : Type 0 where
  LogCut : GainsPart (log_text lines) old.proof new.proof → new.out ≡ old.out
      → (failed ≡ Fault → ProofRose old new) → CutRefutation lines old new failed
  VerdictCut : Gains (log_text lines) old.proof new.proof → GainsPart unsatisfiable_line old.out new.out
      → (failed ≡ Fault → OutRose old new) → CutRefutation lines old new failed

-- the output was cut off: in a model, in the verdict on a log that is whole, or in the one that the limit was spent
pub data CutOutput (f : Cnf) (o : SolveOptions) (old new : Sinks) : Type 0 where
  InModel : (model : List Bool) → Satisfies f model → TellsPart (satisfiable_text model) old new
      → CutOutput f o old new
  InVerdict : (lines : List Line) → IsRefutation f lines → Gains (log_text lines) old.proof new.proof
      → GainsPart unsatisfiable_line old.out new.out → CutOutput f o old new
  InUnknown : (diary : Journal) → IsHistory f o diary → IsSpent f o diary → TellsPart unknown_line old new
      → CutOutput f o old new

-- the proof log was cut off, before any byte of the verdict
pub record CutLog (f : Cnf) (old new : Sinks) : Type 0 where
  pub lines : List Line
  pub refutes : IsRefutation f lines
  pub proof : GainsPart (log_text lines) old.proof new.proof
  pub out : new.out ≡ old.out

-- what an answer leaves that was cut off: nothing, a part of the output, or a part of the proof log
abbrev pub CutAnswer : Cnf → SolveOptions → Sinks → Sinks → Type 0
CutAnswer f o old new = IsUntouched old new ⊎ (CutOutput f o old new ⊎ CutLog f old new)
