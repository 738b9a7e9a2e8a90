-- a text spells at most one formula
use Rattle.std.proofs.Common.{◌≡◌, ◌∙◌, ℕ, true, List, [], ◌∷◌, ◌++◌, map, refl, sym, ap, arith}
use Rattle.std.specs.List.{flat_map}
use Rattle.std.proofs.lemmas.List.{append_assoc, map-append}
use Rattle.std.proofs.lemmas.Grind.{common_steps}
use Rattle.gr_logic.specs.Literals.{Literal}
use Rattle.gr_logic.specs.Formulas.{Cnf}
use Rattle.gr_dimacs.specs.Numbers.{Number, Other, number, begins}
use Rattle.gr_dimacs.specs.Tokens.{Ending}
use Rattle.gr_dimacs.specs.Grammar.{numbers_of, EndsFormula, SpellsWords}
use Rattle.gr_dimacs.specs.Texts.{grouped, formula_of}

grouped-clause : (c present : List Literal) (ns : List Number) →
    grouped present (numbers_of c ++ ns) ≡ (present ++ c) ∷ grouped [] ns
grouped-clause [] present ns = let none : present ++ [] ≡ present =
    grind (arith, common_steps) in rw none refl
grouped-clause (l ∷ c) present ns = grouped-clause c (present ++ l ∷ []) ns
    ∙ rw (append_assoc present (l ∷ []) c) refl

-- percent signs begin no number
pub percent-other : (w : List ℕ) → begins 37 w ≡ true → number w ≡ Other
percent-other [] h = refl
percent-other (b ∷ bs) h =
    let is : b ≡ 37 = grind (arith, common_steps) in
    rw is refl

-- the numbers behind the clauses are none, or begin with none
tail-stops : (rest : List (List ℕ)) (end : Ending) → EndsFormula rest end →
    grouped [] (map number rest) ≡ []
tail-stops [] end h = refl
tail-stops (w ∷ rest) end h = rw (percent-other w h) refl

grouped-flat : (cs : List (List Literal)) (ns : List Number) → grouped [] ns ≡ [] →
    grouped [] (flat_map numbers_of cs ++ ns) ≡ cs
grouped-flat [] ns h = h
grouped-flat (c ∷ cs) ns h =
    rw (append_assoc (numbers_of c) (flat_map numbers_of cs) ns)
    (grouped-clause c [] (flat_map numbers_of cs ++ ns)
    ∙ ap (λ ds. c ∷ ds) (grouped-flat cs ns h))

pub spelled-is : (words : List (List ℕ)) (end : Ending) (f : Cnf) → SpellsWords words end f →
    f ≡ formula_of words
spelled-is words end f s =
    let clauses : grouped [] (map number (s.body ++ s.rest)) ≡ f.clauses =
    rw (map-append number s.body s.rest, s.clauses)
    (grouped-flat f.clauses (map number s.rest) (tail-stops s.rest end s.closed)) in
    rw (s.split, s.vars_value, clauses) refl

pub spelled-once : (words : List (List ℕ)) (end : Ending) (f g : Cnf) → SpellsWords words end f →
    SpellsWords words end g → f ≡ g
spelled-once words end f g a b = spelled-is words end f a ∙ sym (spelled-is words end g b)
