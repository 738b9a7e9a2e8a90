-- what printing gives to a sink
use Rattle.std.specs.Prelude.{◌≡◌, ◌++◌, ℕ, List, Option, Result, Ok, Err}
use Rattle.gr_io.specs.Pieces.{GainsPart, Rose}
use Rattle.gr_io.specs.declared.sinks.SinkError.{SinkError}
use Rattle.gr_io.specs.declared.sinks.SinkError.TheVariants.{Fault}
use Rattle.gr_text.specs.Printing.{Prints}

-- what the sink has where that is told, what is pending before it, and how many of its calls failed
pub record Output : Type 0 where
  pub written : Option (List ℕ)
  pub pending : List ℕ
  pub faults : ℕ

-- the output in this state
abbrev pub output : Option (List ℕ) → List ℕ → ℕ → Output
output written pending faults = record { written = written; pending = pending; faults = faults }

-- the text is printed; after an error the sink has a front part of it, and a fault was counted
abbrev pub Printed : Result (Unit {0}) SinkError → List ℕ → Output → Output → Type 0
Printed (Ok done) text old new = Prints text old.written old.pending new.written new.pending
Printed (Err failed) text old new =
    GainsPart (old.pending ++ text) old.written
    new.written × (failed ≡ Fault → Rose old.faults new.faults)
