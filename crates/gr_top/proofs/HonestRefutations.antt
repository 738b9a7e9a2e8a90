-- no verdict is false: the verdict on a log, and each answer
use Rattle.std.proofs.Common.{◌++◌, refl, List, arith, inl, inr}
use Rattle.gr_io.specs.Pieces.{Gains, GainsPart}
use Rattle.gr_logic.specs.Formulas.{Cnf}
use Rattle.gr_logic.specs.declared.lines.Line.{Line}
use Rattle.gr_lrat.specs.Writing.{log_text}
use Rattle.gr_run.specs.declared.options.SolveOptions.{SolveOptions}
use Rattle.gr_top.specs.Histories.{IsRefutation}
use Rattle.gr_top.specs.Texts.{satisfiable_line, unsatisfiable_line}
use Rattle.gr_top.specs.Sinks.{Sinks, CutOutput, InModel, InVerdict, InUnknown, CutAnswer}
use Rattle.gr_top.specs.Streams.{Taking, IsReadFrom}
use Rattle.gr_top.specs.Solving.{NoFalseVerdict}
use Rattle.gr_top.proofs.Honest.{shown-part, differ-at, same-honest, model-honest, unknown-honest}

-- where the verdict on a whole log that refutes the formula was due, it is that one
pub refutation-honest : (told : Taking) (f : Cnf) (old new : Sinks) (lines : List Line)
    → IsReadFrom told f → IsRefutation f lines → Gains (log_text lines) old.proof new.proof
    → GainsPart unsatisfiable_line old.out new.out → NoFalseVerdict told old new
refutation-honest told f old new lines read refutes gains part = record {
  satisfiable = λ shows.
      let shown = shown-part satisfiable_line unsatisfiable_line old.out new.out shows part in
      absurd
      (differ-at 2 (satisfiable_line ++ shown.0) unsatisfiable_line 83 85 refl refl
      (λ same. omega arith) shown.1);
  unsatisfiable = λ shows. (f, read, lines, refutes, gains);
}

-- an output that was cut off shows no false verdict
pub cut-output-honest : (told : Taking) (f : Cnf) (o : SolveOptions) (old new : Sinks)
    → IsReadFrom told f → CutOutput f o old new → NoFalseVerdict told old new
cut-output-honest told f o old new read (InModel model is part) =
    model-honest told f old new model read is part.out
cut-output-honest told f o old new read (InVerdict lines refutes gains part) =
    refutation-honest told f old new lines read refutes gains part
cut-output-honest told f o old new read (InUnknown diary history spent part) =
    unknown-honest told old new part.out

-- an answer that was cut off shows no false verdict
pub cut-answer-honest : (told : Taking) (f : Cnf) (o : SolveOptions) (old new : Sinks)
    → IsReadFrom told f → CutAnswer f o old new → NoFalseVerdict told old new
cut-answer-honest told f o old new read (inl same) = same-honest told old new same.out
cut-answer-honest told f o old new read (inr (inl cut)) = cut-output-honest told f o old new read cut
cut-answer-honest told f o old new read (inr (inr cut)) = same-honest told old new cut.out
