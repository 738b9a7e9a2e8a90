-- the laws of written logs
use Rattle.std.specs.Prelude.{◌≡◌, ℕ, ◌+◌, ◌-◌, ◌<◌, false, List, ◌∷◌, ◌++◌, length, map, All, Some}
use Rattle.gr_logic.specs.Formulas.{Cnf, VarsUpTo}
use Rattle.gr_logic.specs.Log.{HasIds, Cause, refusal, Accepts}
use Rattle.gr_logic.specs.declared.lines.Line.{Line}
use Rattle.gr_logic.specs.declared.lines.Line.TheVariants.{Add, Delete}
use Rattle.gr_lrat.specs.Writing.{line_text, log_text}
use Rattle.gr_lrat.specs.Lines.{Spelled, line_read}
use Rattle.gr_text.specs.Tokens.{is_line_feed}
use Rattle.gr_lrat.specs.Logs.{LogEnd, AtEnd, AtBadLine, AtRatHint, AtLimit, LogRead, NumberedLine, ends, with_line, log_read, log_outcome, Verified, Refused}

-- the line's literals are ones that the program knows
abbrev pub HasLiterals : Line → Type 0
HasLiterals (Add id clause hints) = VarsUpTo 1_000_000 clause
HasLiterals (Delete id ids) = Unit {0}

-- a line that can be read again: its ids and literals are ones that a log may write
pub record IsWritable (x : Line) : Type 0 where
  pub ids : HasIds x
  pub literals : HasLiterals x

-- the line as it is read again: the own id of a deletion is not kept
abbrev pub as_read : Line → Line
as_read (Add id clause hints) = Add id clause hints
as_read (Delete id ids) = Delete 0 ids

-- the text of a line spells this line
abbrev pub WrittenLinesAreRead : Type 0
WrittenLinesAreRead = (x : Line) → IsWritable x → line_read (line_text x) ≡ Spelled (as_read x)

-- the text of a log, where it is shorter than the limit, is refused at the line at which the log
-- is, for the
-- same cause, and nowhere else; and it is verified exactly where the log is accepted
pub record ReadsBack (f : Cnf) (lines : List Line) (most : ℕ) : Type 0 where
  pub refused : (n : ℕ) (why : Cause) → refusal f lines ≡ Some (n, why) →
      log_outcome f (log_text lines) most ≡ Refused n why
  pub only_refused : (n : ℕ) (why : Cause) → log_outcome f (log_text lines) most ≡ Refused n why →
      refusal f lines ≡ Some (n, why)
  pub verified : Accepts f lines → log_outcome f (log_text lines) most ≡ Verified
  pub only_verified : log_outcome f (log_text lines) most ≡ Verified → Accepts f lines

-- every written log reads back
abbrev pub WrittenLogsReadBack : Type 0
WrittenLogsReadBack =
    (f : Cnf) (lines : List Line) (most : ℕ) → All IsWritable lines → length (log_text lines) < most
    → ReadsBack f lines most

-- the numbers of lines, greater by one
abbrev pub end_below : LogEnd → LogEnd
end_below AtEnd = AtEnd
end_below (AtBadLine n) = AtBadLine (n + 1)
end_below (AtRatHint n) = AtRatHint (n + 1)
end_below (AtLimit n) = AtLimit (n + 1)

-- a line whose number is greater by one
abbrev pub line_below : NumberedLine → NumberedLine
line_below x = record { number = x.number + 1; line = x.line }

-- what is read of a text that stands one line lower
abbrev pub read_below : LogRead → LogRead
read_below read = record { lines = map line_below read.lines; end = end_below read.end }

-- a log is read line by line: what the bytes before the first line feed spell comes first, and then what is
-- read of the bytes behind it; a text with no line feed is one line
pub record ReadsByLines (most : ℕ) (line : List ℕ) : Type 0 where
  pub first : (rest : List ℕ) → length line + 1 < most
      → log_read most (line ++ 10 ∷ rest)
      ≡ with_line (line_read line) 1 (read_below (log_read (most - (length line + 1)) rest))
  pub last : length line < most → log_read most line ≡ with_line (line_read line) 1 (ends AtEnd)

-- and so it is for every line
abbrev pub LogsAreReadByLines : Type 0
LogsAreReadByLines = (most : ℕ) (line : List ℕ) → All (λ b. is_line_feed b ≡ false) line → ReadsByLines most line
