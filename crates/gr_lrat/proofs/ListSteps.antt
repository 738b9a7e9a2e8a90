-- what one token more makes of a line that ends in a list
use Rattle.std.proofs.Common.{◌≡◌, ◌++◌, ◌∷◌, [], ℕ, Bool, true, false, List, ap, Option, Some, None}
use Rattle.gr_text.specs.Places.{Place}
use Rattle.gr_lrat.specs.Numerals.{is_negative, id_of}
use Rattle.gr_lrat.specs.Lines.{Spelling, IdList, NoList, is_byte, ids_from, closed_list}
use Rattle.gr_lrat.specs.Stages.{Onward}
use Rattle.gr_lrat.proofs.Telling.{onward_token}
use Rattle.gr_lrat.proofs.Stepping.{list_closes, list_takes, list_notes, list_breaks}

-- what the tokens of a line spell out of whose list something is made, behind these ids
abbrev pub listed : (IdList → Spelling) → Bool → List ℕ → List (List ℕ) → Spelling
listed made negative ids ws = made (ids_from negative ids ws)

-- a 0 came, which closes the list
pub zero_listed : (made : IdList → Spelling) (negative : Bool) (ids : List ℕ) (s : List (List ℕ) → Spelling)
    (p q n : Place) (l r k : Option (List ℕ)) →
    Onward s p l (λ ws. listed made negative ids ws) q r →
    Onward (λ ws. listed made negative ids ws) q r (λ ws. listed made negative ids (n.token ∷ ws)) n k →
    is_byte 48 n.token ≡ true → Onward s p l (λ ws. made (closed_list negative ids ws)) n k
zero_listed made negative ids s p q n l r k goes came zero_ =
    onward_token s (λ ws. listed made negative ids ws) _ p q n l r k goes came
    (λ ws. ap made (list_closes negative ids n.token ws zero_))

-- an id came
pub id_listed : (made : IdList → Spelling) (negative : Bool) (ids : List ℕ) (id : ℕ)
    (s : List (List ℕ) → Spelling) (p q n : Place) (l r k : Option (List ℕ)) →
    Onward s p l (λ ws. listed made negative ids ws) q r →
    Onward (λ ws. listed made negative ids ws) q r (λ ws. listed made negative ids (n.token ∷ ws)) n k →
    is_byte 48 n.token ≡ false → id_of n.token ≡ Some id →
    Onward s p l (λ ws. listed made negative (ids ++ id ∷ []) ws) n k
id_listed made negative ids id s p q n l r k goes came other said =
    onward_token s (λ ws. listed made negative ids ws) _ p q n l r k goes came
    (λ ws. ap made (list_takes negative ids id n.token ws other said))

-- a negative number came
pub negative_listed : (made : IdList → Spelling) (negative : Bool) (ids : List ℕ)
    (s : List (List ℕ) → Spelling) (p q n : Place) (l r k : Option (List ℕ)) →
    Onward s p l (λ ws. listed made negative ids ws) q r →
    Onward (λ ws. listed made negative ids ws) q r (λ ws. listed made negative ids (n.token ∷ ws)) n k →
    is_byte 48 n.token ≡ false → id_of n.token ≡ None → is_negative n.token ≡ true →
    Onward s p l (λ ws. listed made true ids ws) n k
negative_listed made negative ids s p q n l r k goes came other said minus =
    onward_token s (λ ws. listed made negative ids ws) _ p q n l r k goes came
    (λ ws. ap made (list_notes negative ids n.token ws other said minus))

-- another token came, which no list has
pub other_listed : (made : IdList → Spelling) (negative : Bool) (ids : List ℕ)
    (s : List (List ℕ) → Spelling) (p q n : Place) (l r k : Option (List ℕ)) →
    Onward s p l (λ ws. listed made negative ids ws) q r →
    Onward (λ ws. listed made negative ids ws) q r (λ ws. listed made negative ids (n.token ∷ ws)) n k →
    is_byte 48 n.token ≡ false → id_of n.token ≡ None → is_negative n.token ≡ false →
    Onward s p l (λ ws. made NoList) n k
other_listed made negative ids s p q n l r k goes came other said plus =
    onward_token s (λ ws. listed made negative ids ws) _ p q n l r k goes came
    (λ ws. ap made (list_breaks negative ids n.token ws other said plus))
