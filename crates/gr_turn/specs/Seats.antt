-- a seat at a ticket lock, as contracts see it
use Rattle.std.specs.Prelude.{◌≡◌, ◌+◌, ℕ, List, [], Option, Some, Bool, true, false}
use mathlib.Core.List.{IsPrefix}
use Rattle.atomic_table.specs.Table.{Me}
pub use Rattle.atomic_table.specs.Seated.{TableId}
use Rattle.gr_turn.specs.declared.views.View.{View}
use Rattle.gr_turn.specs.declared.views.Stage.TheVariants.{Away}
use Rattle.gr_turn.specs.Views.{by, longer, in_turn, noted, hand_of}

-- which lock it is a seat at; its number and the value's fixed part, which no call changes; the
-- history as far as it has seen it, its own entries there, and how many turns it has taken; how
-- many seats were split off it, and how many of these are out; whether it is in a turn, and the
-- history that this turn found
pub record Sitting (E F : Type 0) : Type 0 where
  pub lock : TableId
  pub number : ℕ
  pub fixed : Option F
  pub seen : List E
  pub own : List E
  pub turns : ℕ
  pub splits : ℕ
  pub out : ℕ
  pub in_turn : Bool
  pub found : List E

-- how the view of a seat is read
abbrev pub sitting_of : {E F : Type 0} → TableId → View E F → Sitting E F
sitting_of lock v = record {
  lock = lock;
  number = v.number;
  fixed = v.fixed;
  seen = v.seen;
  own = v.own;
  turns = v.turns;
  splits = v.splits;
  out = v.out;
  in_turn = in_turn v.stage;
  found = noted v.stage;
}

-- what holds of a seat between two calls: it was not joined, its own entries are those that name it
-- in what it has seen, each split is out or was joined, and it has the slot just in its turn
pub record IsFit {T E F : Type 0} (number : E → ℕ) (m : Me (Option T) (View E F)) : Type 0 where
  pub live : m.0.live ≡ true
  pub own_is : by number m.0.seen m.0.number ≡ m.0.own
  pub sums : m.0.splits ≡ m.0.out + m.0.joined
  pub in_hand : m.1 ≡ hand_of m.0.stage
  pub away : in_turn m.0.stage ≡ false → m.0.stage ≡ Away

module _ {E F : Type 0} where
  -- a seat with a number that has made no entry and taken no turn
  abbrev pub new_seat : TableId → ℕ → Option F → List E → Sitting E F
  new_seat z n part history = record {
    lock = z;
    number = n;
    fixed = part;
    seen = history;
    own = [];
    turns = 0;
    splits = 0;
    out = 0;
    in_turn = false;
    found = [];
  }

  -- the seat that a lock is opened with
  abbrev pub first_seat : TableId → F → Sitting E F
  first_seat z part = new_seat z 0 (Some part) []

  -- the seat that was split off last
  abbrev pub split_seat : Sitting E F → Sitting E F
  split_seat s = new_seat s.lock s.splits s.fixed s.seen

  -- the seat is one of this lock, and in no turn
  abbrev pub IsAway : TableId → Sitting E F → Type 0
  IsAway z s = (s.lock ≡ z) × (s.in_turn ≡ false)

  -- the seat is in a turn at this lock
  abbrev pub IsInTurn : TableId → Sitting E F → Type 0
  IsInTurn z s = (s.lock ≡ z) × (s.in_turn ≡ true)

  -- the seat took another one in: it has seen the longer of both histories, which both begin, and
  -- one seat less is out
  pub record IsJoined (s other t : Sitting E F) : Type 0 where
    pub changed : t ≡ record s { seen = longer s.seen other.seen; out = t.out }
    pub fewer : t.out + 1 ≡ s.out
    pub begins : IsPrefix s.seen t.seen
    pub begins_other : IsPrefix other.seen t.seen
