-- the texts on a formula that was made
use Rattle.std.specs.Prelude.{ℕ, List, ◌++◌, length, codes}
use Rattle.std.specs.Fmt.{decimal}
use Rattle.gr_logic.specs.Formulas.{Cnf}
use Rattle.gr_words.specs.Calls.{kind_name}
use Rattle.gr_words.specs.declared.calls.Kind.{Kind}
use Rattle.gr_top.specs.Texts.{line_of, unsatisfiable_line}

-- its kind and number, its size, and what came of it
abbrev pub large_text : Kind → ℕ → Cnf → List ℕ → List ℕ
large_text kind n f verdict =
    codes "c " ++ (kind_name kind ++ (codes " " ++ (decimal n ++ (codes "\nc variables " ++ (decimal f.vars
    ++ (codes " clauses " ++ (decimal (length f.clauses) ++ (codes "\n" ++ verdict))))))))

-- the verdict that no assignment satisfies it, and that the log was checked
abbrev pub refuted_lines : List ℕ
refuted_lines = unsatisfiable_line ++ line_of (codes "c log VERIFIED")
