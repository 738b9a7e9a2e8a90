-- what one token more makes of a line
use Rattle.std.proofs.Common.{◌≡◌, ℕ, Bool, true, false, List, [], ◌∷◌, ◌++◌, refl, Option, Some, None, if◌then◌else◌}
use Rattle.std.specs.Option.{option_map_or}
use Rattle.gr_logic.specs.Literals.{Literal}
use Rattle.gr_lrat.specs.Numerals.{is_count, is_negative, id_of, literal_said}
use Rattle.gr_lrat.specs.Lines.{Nothing, Misspelt, NoList, is_byte, begins_comment, closed_list, ids_from, addition_from, addition_with, deletion_with, statement_of, spelling}

-- a 0 closes the list
pub list_closes : (negative : Bool) (ids : List ℕ) (w : List ℕ) (ws : List (List ℕ)) →
    is_byte 48 w ≡ true → ids_from negative ids (w ∷ ws) ≡ closed_list negative ids ws
list_closes negative ids w ws zero_ = rw zero_ refl

-- an id is taken into the list
pub list_takes : (negative : Bool) (ids : List ℕ) (id : ℕ) (w : List ℕ) (ws : List (List ℕ)) →
    is_byte 48 w ≡ false → id_of w ≡ Some id → ids_from negative ids (w ∷ ws)
    ≡ ids_from negative (ids ++ id ∷ []) ws
list_takes negative ids id w ws other said = rw (other, said) refl

-- a negative number is noted
pub list_notes : (negative : Bool) (ids : List ℕ) (w : List ℕ) (ws : List (List ℕ)) →
    is_byte 48 w ≡ false → id_of w ≡ None → is_negative w ≡ true →
    ids_from negative ids (w ∷ ws) ≡ ids_from true ids ws
list_notes negative ids w ws other said minus = rw (other, said, minus) refl

-- another token makes it no list
pub list_breaks : (negative : Bool) (ids : List ℕ) (w : List ℕ) (ws : List (List ℕ)) →
    is_byte 48 w ≡ false → id_of w ≡ None → is_negative w ≡ false →
    ids_from negative ids (w ∷ ws) ≡ NoList
list_breaks negative ids w ws other said plus = rw (other, said, plus) refl

-- a 0 closes the literals
pub clause_closes : (id : ℕ) (clause : List Literal) (w : List ℕ) (ws : List (List ℕ)) →
    is_byte 48 w ≡ true → addition_from id clause (w ∷ ws)
    ≡ addition_with id clause (ids_from false [] ws)
clause_closes id clause w ws zero_ = rw zero_ refl

-- a literal is taken into the clause
pub clause_takes : (id : ℕ) (clause : List Literal) (l : Literal) (w : List ℕ) (ws : List (List ℕ))
    →
    is_byte 48 w ≡ false → literal_said w ≡ Some l →
    addition_from id clause (w ∷ ws) ≡ addition_from id (clause ++ l ∷ []) ws
clause_takes id clause l w ws other said = rw (other, said) refl

-- another token makes the line misspelt
pub clause_breaks : (id : ℕ) (clause : List Literal) (w : List ℕ) (ws : List (List ℕ)) →
    is_byte 48 w ≡ false → literal_said w ≡ None → addition_from id clause (w ∷ ws) ≡ Misspelt
clause_breaks id clause w ws other said = rw (other, said) refl

-- the letter d as the second token makes a deletion
pub deletes : (t v : List ℕ) (ws : List (List ℕ)) (numbered : Bool) → is_byte 100 v ≡ true →
    numbered ≡ is_count t →
    statement_of t (v ∷ ws) ≡ (if numbered then deletion_with (ids_from false [] ws) else Misspelt)
deletes t v ws numbered letter e = rw (letter, e) refl

-- another second token makes an addition
pub adds : (t v : List ℕ) (ws : List (List ℕ)) (id : Option ℕ) → is_byte 100 v ≡ false →
    id ≡ id_of t →
    statement_of t (v ∷ ws) ≡ option_map_or (λ i. addition_from i [] (v ∷ ws)) id Misspelt
adds t v ws id other e = rw (other, e) refl

-- a line that begins with the letter c is a comment
pub comments : (t : List ℕ) (ws : List (List ℕ)) → begins_comment t ≡ true →
    spelling (t ∷ ws) ≡ Nothing
comments t ws c = rw c refl

-- another line is a statement
pub states : (t : List ℕ) (ws : List (List ℕ)) → begins_comment t ≡ false →
    spelling (t ∷ ws) ≡ statement_of t ws
states t ws c = rw c refl
