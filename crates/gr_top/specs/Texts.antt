-- the texts that the program writes to its output, in the forms of the SAT competitions
use Rattle.std.specs.Prelude.{ℕ, ◌+◌, Bool, nat_eq, if◌then◌else◌, List, [], ◌∷◌, ◌++◌, codes}
use Rattle.std.specs.Fmt.{decimal, signed_decimal}
use Rattle.gr_logic.specs.Literals.{Literal, number_of}
use Rattle.gr_dimacs.specs.declared.faults.FaultKind.{FaultKind}
use Rattle.gr_dimacs.specs.declared.faults.FaultKind.TheVariants as kinds
use Rattle.gr_dimacs.specs.declared.faults.GrammarFault.{GrammarFault}

-- a text as a line
abbrev pub line_of : List ℕ → List ℕ
line_of text = text ++ 10 ∷ []

-- the verdict that an assignment satisfies the formula
abbrev pub satisfiable_line : List ℕ
satisfiable_line = line_of (codes "s SATISFIABLE")

-- the verdict that none does
abbrev pub unsatisfiable_line : List ℕ
unsatisfiable_line = line_of (codes "s UNSATISFIABLE")

-- the verdict that the limit was spent
abbrev pub unknown_line : List ℕ
unknown_line = line_of (codes "s UNKNOWN")

-- the literals that a model makes true, of the variables from this index on
abbrev pub true_literals : ℕ → List Bool → List Literal
true_literals i [] = []
true_literals i (v ∷ vs) = record { index = i; positive = v } ∷ true_literals (i + 1) vs

-- what comes before a literal, where the present line has so many: a space, or a new line after the twentieth
abbrev pub gap : ℕ → List ℕ
gap n = if nat_eq n 20 then 10 ∷ codes "v " else codes " "

-- how many literals the present line has after one more
abbrev pub next_place : ℕ → ℕ
next_place n = if nat_eq n 20 then 1 else n + 1

-- a literal's number, and what comes before it
abbrev pub literal_text : ℕ → Literal → List ℕ
literal_text n l = gap n ++ signed_decimal (number_of l)

-- the literals behind so many of the present line, and the closing 0
abbrev pub literals_text : ℕ → List Literal → List ℕ
literals_text n [] = line_of (codes " 0")
literals_text n (l ∷ ls) = literal_text n l ++ literals_text (next_place n) ls

-- a model: its true literals in lines of twenty at most
abbrev pub model_text : List Bool → List ℕ
model_text model = codes "v" ++ literals_text 0 (true_literals 0 model)

-- the verdict with its model
abbrev pub satisfiable_text : List Bool → List ℕ
satisfiable_text model = satisfiable_line ++ model_text model

-- the name of a fault
abbrev pub kind_text : FaultKind → List ℕ
kind_text kinds.NoHeader = codes "NoHeader"
kind_text kinds.BadHeader = codes "BadHeader"
kind_text kinds.BadToken = codes "BadToken"
kind_text kinds.VarAbove = codes "VarAbove"
kind_text kinds.TooMany = codes "TooMany"
kind_text kinds.TooFew = codes "TooFew"
kind_text kinds.Unended = codes "Unended"
kind_text kinds.TooLarge = codes "TooLarge"
kind_text kinds.TooLong = codes "TooLong"

-- what follows the line number of a fault
abbrev pub kind_line : FaultKind → List ℕ
kind_line kind = codes ": " ++ line_of (kind_text kind)

-- a fault of the formula's text
abbrev pub fault_text : GrammarFault → List ℕ
fault_text g = codes "c fault: line " ++ (decimal g.line ++ kind_line g.kind)

-- how the program is called
abbrev pub usage_text : List ℕ
usage_text =
    line_of
    (codes
    "c usage: glucored solve CNF LOG [--reducers N] [--conflicts N] [--capacity N] [--offer N] [--keep-all]")
    ++ (line_of (codes "c usage: glucored check CNF LOG") ++ line_of (codes "c usage: glucored large KIND N"))
