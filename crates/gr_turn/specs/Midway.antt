-- what holds of a seat between the steps of one turn
use Rattle.std.specs.Prelude.{◌≡◌, ◌%◌, ◌^◌, ℕ, Bool, true, List, [], ◌∷◌, Some}
use mathlib.Core.List.{IsPrefix}
use Rattle.gr_turn.specs.declared.views.Stage.TheVariants.{Waits, Holds}
use Rattle.gr_turn.specs.Views.{by, ticket_of, in_turn, noted, hand_of}
use Rattle.gr_turn.specs.Turns.{Gains}
use Rattle.gr_turn.specs.Told.{Place}

module _ {T E F : Type 0} where
  -- the seat has the ticket that a word tells
  abbrev pub HasTicket : ℕ → Place T E F → Type 0
  HasTicket word m = (k : ℕ) × (k % 2 ^ 64 ≡ word) × (m.0.stage ≡ Waits k) × (m.0.live ≡ true)

  -- its ticket was served: it has the slot with the value, whose history begins with what the seat
  -- has seen, and has just its own entries under its number
  pub record IsServed (history : T → List E) (number : E → ℕ) (fixed : T → F)
      (m m' : Place T E F) : Type 0 where
    pub ticket : ℕ
    pub value : T
    pub place : m'
        ≡ (record m.0 { stage = Holds ticket (history value) }, (0, Some value) ∷ m.1)
    pub begins : IsPrefix m.0.seen (history value)
    pub own : by number (history value) m.0.number ≡ m.0.own
    pub part : Some (fixed value) ≡ m.0.fixed

  -- it is in its turn, and the value was moved out of the slot
  pub record IsHolding (m : Place T E F) : Type 0 where
    pub live : m.0.live ≡ true
    pub turn : in_turn m.0.stage ≡ true
    pub in_hand : m.1 ≡ hand_of m.0.stage

  -- the value is in the slot again, and its history is the one that the seat has noted
  pub record IsReady (history : T → List E) (grown : Bool) (value : T)
      (m m' : Place T E F) : Type 0 where
    pub place : m'
        ≡ (
          record m.0 {
            stage = Holds (ticket_of m.0.stage) (history value);
            seen = m'.0.seen;
            own = m'.0.own;
          },
          (0, Some value) ∷ [],
        )
    pub gains : Gains grown (noted m.0.stage) (history value) m.0.own m'.0.own
    pub later : IsPrefix m.0.seen m'.0.seen
