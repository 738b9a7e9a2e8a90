-- histories, and where a seat stands in the queue
use Rattle.std.specs.Prelude.{◌==◌, ℕ, Bool, true, false, cond, leb, List, [], ◌∷◌, length, Option, None}
use Rattle.std.specs.List.{filter}
use Rattle.gr_turn.specs.declared.views.Stage.{Stage}
use Rattle.gr_turn.specs.declared.views.Stage.TheVariants.{Away, Waits, Holds}

-- the entries of a history that name a number, in order
abbrev pub by : {E : Type 0} → (E → ℕ) → List E → ℕ → List E
by number history n = filter (λ e. number e == n) history

-- of two histories the one with more entries
abbrev pub longer : {E : Type 0} → List E → List E → List E
longer xs ys = cond (leb (length xs) (length ys)) ys xs

module _ {E : Type 0} where
  -- the ticket that the seat drew
  abbrev pub ticket_of : Stage E → ℕ
  ticket_of Away = 0
  ticket_of (Waits ticket) = ticket
  ticket_of (Holds ticket history) = ticket

  -- whether it has one
  abbrev pub in_line : Stage E → Bool
  in_line Away = false
  in_line (Waits ticket) = true
  in_line (Holds ticket history) = true

  -- whether it is in its turn
  abbrev pub in_turn : Stage E → Bool
  in_turn Away = false
  in_turn (Waits ticket) = false
  in_turn (Holds ticket history) = true

  -- the history of the value, as the seat in its turn noted it
  abbrev pub noted : Stage E → List E
  noted Away = []
  noted (Waits ticket) = []
  noted (Holds ticket history) = history

  -- what is out with the seat: in its turn it has the slot, with the value moved out
  abbrev pub hand_of : {T : Type 0} → Stage E → List (ℕ × Option T)
  hand_of Away = []
  hand_of (Waits ticket) = []
  hand_of (Holds ticket history) = (0, None) ∷ []
