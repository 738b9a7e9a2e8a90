-- what one turn may add to a history
use Rattle.std.specs.Prelude.{◌≡◌, ◌+◌, ℕ, Bool, false, List, [], ◌∷◌, ◌++◌, MatchBool}
use Rattle.gr_turn.specs.Seats.{Sitting}

module _ {E : Type 0} where
  -- where a turn made an entry, the history has one more, which names the number; else it stays
  abbrev pub Grows : Bool → (E → ℕ) → ℕ → List E → List E → Type 0
  Grows grown number n before after =
      MatchBool grown
      ((e : E) × (after ≡ before ++ e ∷ []) × (number e ≡ n))
      (after ≡ before)

  -- the own entries have that entry more, or stay
  abbrev pub Gains : Bool → List E → List E → List E → List E → Type 0
  Gains grown before after own own_after =
      MatchBool grown
      ((e : E) × (after ≡ before ++ e ∷ []) × (own_after ≡ own ++ e ∷ []))
      (own_after ≡ own)

  -- the seat after its turn, in which the history became this one and its own entries these
  abbrev pub after_turn : {F : Type 0} → Sitting E F → List E → List E → Sitting E F
  after_turn s history entries = record s {
    seen = history;
    own = entries;
    turns = s.turns + 1;
    in_turn = false;
    found = [];
  }
