-- the proof log of a history
use Rattle.std.specs.Prelude.{List}
use Rattle.gr_logic.specs.declared.lines.Line.{Line}
use Rattle.gr_diary.specs.Diaries.{Journal, journal_lines}

-- the lines of a diary
abbrev pub lines_in : Journal → List Line
lines_in diary = journal_lines diary.first diary.entries diary.left
