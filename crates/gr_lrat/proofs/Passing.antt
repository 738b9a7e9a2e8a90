-- bytes that were passed
use Rattle.std.proofs.Common.{◌<◌, arith, Result, Ok, Err, IfOk}
use Rattle.gr_text.specs.Places.{Place}
use Rattle.gr_text.specs.declared.scanners.ScanError.{ScanError}
use Rattle.gr_lrat.specs.Lines.{Spelling, Nothing, Spelled, Misspelt, HasNegativeHint}
use Rattle.gr_lrat.specs.Stages.{Passes, PassesBytes}
use Rattle.gr_lrat.specs.Statements.{spelling_of}
use Rattle.gr_lrat.specs.declared.statements.Statement.{Statement}

-- where a byte was passed, it does not matter what the line spells
passes_bytes : (x : Spelling) (p q : Place) → p.passed < q.passed → PassesBytes x p q
passes_bytes Nothing p q some = omega arith
passes_bytes (Spelled line) p q some = some
passes_bytes Misspelt p q some = some
passes_bytes HasNegativeHint p q some = some

-- a token was passed, and then the rest of its line
pub bytes_then : (a : Result Statement ScanError) (p q n : Place) → p.passed < q.passed →
    IfOk a (λ read. Passes read.end q n) → IfOk a (λ read. PassesBytes (spelling_of read.spelt) p n)
bytes_then (Ok read) p q n some on = passes_bytes (spelling_of read.spelt) p n (omega (arith, some, on.0))
bytes_then (Err e) p q n some on = on
