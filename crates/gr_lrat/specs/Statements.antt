-- a line of a log as it is read
use Rattle.std.specs.Prelude.{ℕ, List, Option, Result}
use Rattle.gr_text.specs.Places.{Place}
use Rattle.gr_text.specs.declared.scanners.ScanError.{ScanError}
use Rattle.gr_lrat.specs.Stages.{Tells}
use Rattle.gr_lrat.specs.Lines.{Spelling, Nothing, Spelled, Misspelt, HasNegativeHint, IdList, AllIds, SomeNegative, NoList}
use Rattle.gr_lrat.specs.declared.lists.Listed.{Listed}
use Rattle.gr_lrat.specs.declared.lists.ReadList.{ReadList}
use Rattle.gr_lrat.specs.declared.lists.ReadList.TheVariants as lists
use Rattle.gr_lrat.specs.declared.statements.Statement.{Statement}
use Rattle.gr_lrat.specs.declared.statements.Spelt.{Spelt}
use Rattle.gr_lrat.specs.declared.statements.Spelt.TheVariants as spelt

-- the list that was read
abbrev pub list_of : ReadList → IdList
list_of (lists.AllIds ids) = AllIds ids
list_of lists.SomeNegative = SomeNegative
list_of lists.NoList = NoList

-- what was read of a line
abbrev pub spelling_of : Spelt → Spelling
spelling_of spelt.Nothing = Nothing
spelling_of (spelt.Spelled line) = Spelled line
spelling_of spelt.Misspelt = Misspelt
spelling_of spelt.HasNegativeHint = HasNegativeHint

-- what is answered where the rest of a line is read as a list, out of which the line's spelling is made
abbrev pub TellsList : (IdList → Spelling) → (List (List ℕ) → IdList) → Result Listed ScanError → Place →
    Option (List ℕ) → Place → Option (List ℕ) → Type 0
TellsList made said a p l q r =
    Tells (λ ws. made (said ws)) (λ read. made (list_of read.list)) (λ read. read.end) a p l q r

-- what is answered where the rest of a line is read
abbrev pub TellsStatement : (List (List ℕ) → Spelling) → Result Statement ScanError → Place →
    Option (List ℕ) → Place → Option (List ℕ) → Type 0
TellsStatement said a p l q r = Tells said (λ read. spelling_of read.spelt) (λ read. read.end) a p l q r
