-- the text of a proof log in LRAT (Cruz-Filipe et al., CADE 2017), as it is written
use Rattle.std.specs.Prelude.{ℕ, ℤ, pos, List, [], ◌∷◌, ◌++◌}
use Rattle.std.specs.Fmt.{signed_decimal}
use Rattle.gr_logic.specs.Literals.{Literal, number_of}
use Rattle.gr_logic.specs.declared.lines.Line.{Line}
use Rattle.gr_logic.specs.declared.lines.Line.TheVariants.{Add, Delete}

-- a number in decimal and a space
abbrev pub number_text : ℤ → List ℕ
number_text n = signed_decimal n ++ 32 ∷ []

-- the numbers of the literals, each with a space behind it
abbrev pub literals_text : List Literal → List ℕ
literals_text [] = []
literals_text (l ∷ ls) = number_text (number_of l) ++ literals_text ls

-- the ids, each with a space behind it
abbrev pub ids_text : List ℕ → List ℕ
ids_text [] = []
ids_text (id ∷ ids) = number_text (pos id) ++ ids_text ids

-- a closing zero and a space
abbrev pub zero_space : List ℕ
zero_space = 48 ∷ 32 ∷ []

-- a closing zero and the end of the line
abbrev pub zero_line_feed : List ℕ
zero_line_feed = 48 ∷ 10 ∷ []

-- the letter of a deletion and a space
abbrev pub d_space : List ℕ
d_space = 100 ∷ 32 ∷ []

-- a clause in a line: its literals and 0
abbrev pub clause_text : List Literal → List ℕ
clause_text clause = literals_text clause ++ zero_space

-- the end of a line: ids and 0
abbrev pub list_text : List ℕ → List ℕ
list_text ids = ids_text ids ++ zero_line_feed

-- the text of a line: an addition has its id, the literals, 0, the hints, 0; a deletion has an id,
-- the
-- letter d, the ids that it names, 0
abbrev pub line_text : Line → List ℕ
line_text (Add id clause hints) = number_text (pos id) ++ (clause_text clause ++ list_text hints)
line_text (Delete id ids) = number_text (pos id) ++ (d_space ++ list_text ids)

-- the text of a log: that of its lines
abbrev pub log_text : List Line → List ℕ
log_text [] = []
log_text (x ∷ xs) = line_text x ++ log_text xs
