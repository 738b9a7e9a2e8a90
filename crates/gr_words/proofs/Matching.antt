-- what a parse that succeeds says of the words, where the command is built as this application
use Rattle.std.proofs.Common.{◌≡◌, ◌∙◌, ap, List, [], sym, true}
use Rattle.clap.specs.Simple.{App, is_simple, matches_of}
use Rattle.clap.specs.Faults.{fault_of, is_simple_and_free}
use Rattle.clap.specs.Walk.{Row, Text}

-- the words have no fault
pub faultless : (command app : App) (words : List Text) → command ≡ app
    → is_simple_and_free app ≡ true
    → (is_simple_and_free command ≡ true → fault_of command words ≡ []) → fault_of app words ≡ []
faultless command app words is free clean =
    ap (λ (a : App). fault_of a words) (sym is) ∙ clean (ap is_simple_and_free is ∙ free)

-- the rows that were found are those of the words
pub rows_are : (command app : App) (words : List Text) (rows : List Row) → command ≡ app
    → is_simple app ≡ true → (is_simple command ≡ true → rows ≡ matches_of command words)
    → rows ≡ matches_of app words
rows_are command app words rows is simple found =
    found (ap is_simple is ∙ simple) ∙ ap (λ (a : App). matches_of a words) is
