-- what the present token makes of a line that adds a clause
use Rattle.std.proofs.Common.{◌≡◌, ◌++◌, ◌∷◌, [], ℕ, true, false, List, Option, Some, None}
use Rattle.gr_logic.specs.Literals.{Literal}
use Rattle.gr_text.specs.Places.{Place}
use Rattle.gr_lrat.specs.Numerals.{literal_said}
use Rattle.gr_lrat.specs.Lines.{Spelling, Misspelt, is_byte, ids_from, addition_from, addition_with}
use Rattle.gr_lrat.specs.Stages.{Onward}
use Rattle.gr_lrat.proofs.Telling.{onward_as}
use Rattle.gr_lrat.proofs.Stepping.{clause_closes, clause_takes, clause_breaks}

-- it is a 0, which ends the clause
pub zero_added : (id : ℕ) (clause : List Literal) (s : List (List ℕ) → Spelling) (p q : Place)
    (l r : Option (List ℕ)) → Onward s p l (λ ws. addition_from id clause (q.token ∷ ws)) q r →
    is_byte 48 q.token ≡ true →
    Onward s p l (λ ws. addition_with id clause (ids_from false [] ws)) q r
zero_added id clause s p q l r goes zero_ =
    onward_as s (λ ws. addition_from id clause (q.token ∷ ws)) _ p q l r goes
    (λ ws. clause_closes id clause q.token ws zero_)

-- it is a literal
pub literal_added : (id : ℕ) (clause : List Literal) (lit : Literal) (s : List (List ℕ) → Spelling)
    (p q : Place) (l r : Option (List ℕ)) →
    Onward s p l (λ ws. addition_from id clause (q.token ∷ ws)) q r →
    is_byte 48 q.token ≡ false → literal_said q.token ≡ Some lit →
    Onward s p l (λ ws. addition_from id (clause ++ lit ∷ []) ws) q r
literal_added id clause lit s p q l r goes other said =
    onward_as s (λ ws. addition_from id clause (q.token ∷ ws)) _ p q l r goes
    (λ ws. clause_takes id clause lit q.token ws other said)

-- it is another token, which no clause has
pub other_added : (id : ℕ) (clause : List Literal) (s : List (List ℕ) → Spelling) (p q : Place)
    (l r : Option (List ℕ)) → Onward s p l (λ ws. addition_from id clause (q.token ∷ ws)) q r →
    is_byte 48 q.token ≡ false → literal_said q.token ≡ None → Onward s p l (λ ws. Misspelt) q r
other_added id clause s p q l r goes other said =
    onward_as s (λ ws. addition_from id clause (q.token ∷ ws)) _ p q l r goes
    (λ ws. clause_breaks id clause q.token ws other said)
