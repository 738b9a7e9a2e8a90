-- what each of the six kinds of step tells its seat
use Rattle.std.specs.Prelude.{◌≡◌, ◌+◌, ◌-◌, ◌%◌, ◌^◌, ℕ, true, false, List, [], ◌∷◌, Option, Some, None}
use mathlib.Core.List.{IsPrefix}
use Rattle.atomic_table.specs.Table.{Me, Step}
use Rattle.gr_turn.specs.declared.views.View.{View}
use Rattle.gr_turn.specs.declared.views.Stage.TheVariants.{Away, Waits, Holds}
use Rattle.gr_turn.specs.Views.{by, longer, ticket_of, noted}

-- what a seat knows, and the slot where it has it
abbrev pub Place : Type 0 → Type 0 → Type 0 → Type 0
Place T E F = Me (Option T) (View E F)

-- the history of the value in hand
abbrev pub held_history : {T E : Type 0} → (T → List E) → List (ℕ × Option T) → List E
held_history history [] = []
held_history history ((k, None) ∷ xs) = []
held_history history ((k, Some x) ∷ xs) = history x

module _ {T E F : Type 0} where
  -- a look without a ticket: the seat is as before, and what it has seen begins the history, in
  -- which its own entries are all that name it
  abbrev pub Stays : (E → ℕ) → Place T E F → Place T E F → Type 0
  Stays number m m' =
      (m' ≡ m) × (h : List E) × IsPrefix m.0.seen h × IsPrefix m.0.left h × IsPrefix m.0.right h
      × (m.0.live ≡ true
      → (by number h m.0.number ≡ m.0.own) × (m.0.splits ≡ m.0.out + m.0.joined))

  -- the same, as a play
  abbrev pub glanced : (E → ℕ) → Step (Option T) → Place T E F → ℕ → Place T E F → Type 0
  glanced number st m found m' = Stays number m m'

  -- a draw: the seat has the ticket that was found
  abbrev pub Drawn : Place T E F → ℕ → Place T E F → Type 0
  Drawn m found m' =
      (m'.1 ≡ m.1) × (k : ℕ) × (k % 2 ^ 64 ≡ found) × (m'.0 ≡ record m.0 { stage = Waits k })

  -- the same, as a play
  abbrev pub drew : Step (Option T) → Place T E F → ℕ → Place T E F → Type 0
  drew st m found m' = Drawn m found m'

  -- a look with a ticket: where it is served the seat took the slot, with a value whose history
  -- begins with what the seat has seen and has just its own entries under its number; else it is as
  -- before
  abbrev pub Took : (T → List E) → (E → ℕ) → (T → F) → Place T E F → ℕ → Place T E F → Type 0
  Took history number fixed m found m' =
      (found ≡ ticket_of m.0.stage % 2 ^ 64
      → (x : T)
      × (m'
      ≡ (record m.0 { stage = Holds (ticket_of m.0.stage) (history x) }, (0, Some x) ∷ m.1))
      × IsPrefix m.0.seen (history x)
      × (by number (history x) m.0.number ≡ m.0.own)
      × (Some (fixed x) ≡ m.0.fixed))
      × (¬ (found ≡ ticket_of m.0.stage % 2 ^ 64) → m' ≡ m)

  -- the same, as a play
  abbrev pub looked : (T → List E) → (E → ℕ) → (T → F)
      → Step (Option T) → Place T E F → ℕ → Place T E F → Type 0
  looked history number fixed st m found m' = Took history number fixed m found m'

  -- a count: the history of the value in hand is the history now
  abbrev pub Counted : (T → List E) → (E → ℕ) → Place T E F → Place T E F → Type 0
  Counted history number m m' =
      (m'.1 ≡ m.1)
      × (m'.0 ≡ record m.0 {
        stage = Holds (ticket_of m.0.stage) (held_history history m.1);
        seen = held_history history m.1;
        own = by number (held_history history m.1) m.0.number;
      })
      × (by number (noted m.0.stage) m.0.number ≡ m.0.own)
      × IsPrefix m.0.seen (noted m.0.stage)

  -- the same, as a play
  abbrev pub counted : (T → List E) → (E → ℕ)
      → Step (Option T) → Place T E F → ℕ → Place T E F → Type 0
  counted history number st m found m' = Counted history number m m'

  -- a pass: the slot is given back, and the seat has seen the history
  abbrev pub Passed : (E → ℕ) → Place T E F → Place T E F → Type 0
  Passed number m m' =
      (m'.1 ≡ [])
      × (m'.0 ≡ record m.0 { stage = Away; seen = noted m.0.stage; turns = m.0.turns + 1 })
      × (by number (noted m.0.stage) m.0.number ≡ m.0.own)
      × IsPrefix m.0.seen (noted m.0.stage)

  -- the same, as a play
  abbrev pub passed : (E → ℕ) → Step (Option T) → Place T E F → ℕ → Place T E F → Type 0
  passed number st m found m' = Passed number m m'

module _ {E F : Type 0} where
  -- what the first seat knows after a split
  abbrev pub parted : View E F → View E F
  parted v = record v { splits = v.splits + 1; out = v.out + 1 }

  -- what the new seat knows
  abbrev pub newborn : View E F → View E F
  newborn v = record {
    live = true;
    number = v.splits + 1;
    fixed = v.fixed;
    seen = v.seen;
    own = [];
    turns = 0;
    splits = 0;
    out = 0;
    joined = 0;
    stage = Away;
    left = [];
    right = [];
  }

  -- what the first seat knows after a join: both old lists, and the longer of them
  abbrev pub joined : View E F → View E F → View E F
  joined v w = record v {
    seen = longer v.seen w.seen;
    left = v.seen;
    right = w.seen;
    out = v.out - 1;
    joined = v.joined + 1;
  }

  -- what is left of the other
  abbrev pub spent : View E F
  spent = record {
    live = false;
    number = 0;
    fixed = None;
    seen = [];
    own = [];
    turns = 0;
    splits = 0;
    out = 0;
    joined = 0;
    stage = Away;
    left = [];
    right = [];
  }
