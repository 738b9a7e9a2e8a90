-- a proof log as a text, and what comes of it
use Rattle.std.specs.Prelude.{ℕ, if◌then◌else◌, List, [], ◌∷◌, ◌++◌, Option, Some, None}
use Rattle.gr_logic.specs.Formulas.{Cnf}
use Rattle.gr_logic.specs.Log.{LogState, Cause, opening, line_cause, after_line}
use Rattle.gr_logic.specs.declared.lines.Line.{Line}
use Rattle.gr_text.specs.Tokens.{Mark, Word, Break, Stop, Cut, marks_of}
use Rattle.gr_lrat.specs.Lines.{Spelling, Nothing, Spelled, Misspelt, HasNegativeHint, spelling}

-- how the lines of a text end that are read one by one: with the text, at a line that is misspelt,
-- or
-- where no more bytes may be looked at
pub data LogEnd : Type 0 where
  AtEnd : LogEnd
  AtBadLine : ℕ → LogEnd
  AtRatHint : ℕ → LogEnd
  AtLimit : ℕ → LogEnd

-- a line of a log and its number in the text, where blank lines and comments count
pub record NumberedLine : Type 0 where
  pub number : ℕ
  pub line : Line

-- the lines that are read, and how they end
pub record LogRead : Type 0 where
  pub lines : List NumberedLine
  pub end : LogEnd

-- no line is read any more
abbrev pub ends : LogEnd → LogRead
ends end = record { lines = []; end = end }

-- a line of this number and spelling comes before the others; a misspelt one ends the log
abbrev pub with_line : Spelling → ℕ → LogRead → LogRead
with_line Nothing n later = later
with_line (Spelled x) n later = record {
  lines = record { number = n; line = x } ∷ later.lines;
  end = later.end;
}
with_line Misspelt n later = ends (AtBadLine n)
with_line HasNegativeHint n later = ends (AtRatHint n)

-- the lines of a text, the first of which has these tokens before the marks: a line counts once its
-- end, or
-- the text's, may be looked at
abbrev pub log_from : List (List ℕ) → List Mark → LogRead
log_from ws [] = ends (AtLimit 1)
log_from ws (Word line first w ∷ ms) = log_from (ws ++ w ∷ []) ms
log_from ws (Break line ∷ ms) = with_line (spelling ws) line (log_from [] ms)
log_from ws (Stop line ∷ ms) = with_line (spelling ws) line (ends AtEnd)
log_from ws (Cut line ∷ ms) = ends (AtLimit line)

-- the lines of a text of which so many bytes may be looked at
abbrev pub log_read : ℕ → List ℕ → LogRead
log_read most text = log_from [] (marks_of most text)

-- what a log's text is: a proof of unsatisfiability; well spelt, with no line refused, but without
-- the
-- empty clause; refused at a line; misspelt at a line; or too long
pub data LogOutcome : Type 0 where
  Verified : LogOutcome
  NoEmptyClause : LogOutcome
  Refused : ℕ → Cause → LogOutcome
  BadLine : ℕ → LogOutcome
  RatHint : ℕ → LogOutcome
  TooLong : ℕ → LogOutcome

-- what the log is that ends in this state
abbrev pub outcome_at : LogState → LogEnd → LogOutcome
outcome_at s AtEnd = if s.refuted then Verified else NoEmptyClause
outcome_at s (AtBadLine n) = BadLine n
outcome_at s (AtRatHint n) = RatHint n
outcome_at s (AtLimit n) = TooLong n

-- refused at the line of this number, or else what the later lines give
abbrev pub refused_or : ℕ → Option Cause → LogOutcome → LogOutcome
refused_or n None later = later
refused_or n (Some why) later = Refused n why

-- what the log is whose lines to come are these, from a state on
abbrev pub outcome_from : LogState → List NumberedLine → LogEnd → LogOutcome
outcome_from s [] end = outcome_at s end
outcome_from s (x ∷ xs) end =
    refused_or x.number (line_cause s x.line) (outcome_from (after_line s x.line) xs end)

-- what a text is as a log for a formula, where so many bytes may be looked at: the first line that
-- is
-- misspelt or refused decides
abbrev pub log_outcome : Cnf → List ℕ → ℕ → LogOutcome
log_outcome f text most = let read = log_read most text in outcome_from (opening f) read.lines
    read.end
