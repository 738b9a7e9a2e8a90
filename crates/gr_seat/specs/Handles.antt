-- a seat at a shared exchange, as contracts see it
use Rattle.std.specs.Prelude.{◌≡◌, ℕ, false, List, [], Option, Some, None}
use Rattle.gr_logic.specs.Formulas.{Cnf}
use Rattle.gr_diary.specs.declared.entries.Entry.{Entry}
use Rattle.gr_diary.specs.Histories.{IsLegal, IsEnabled, entries_of, state_of}
use Rattle.gr_bench.specs.Exchanges.{Exchange}
pub use Rattle.gr_turn.specs.Seats.{TableId}
use Rattle.gr_turn.specs.Seats.{Sitting}
use Rattle.gr_seat.specs.declared.shelves.Fixed.{Fixed}

-- what a turn at the exchange does not change
abbrev pub fixed_of : Exchange → Fixed
fixed_of x = record { formula = x.formula; reducers = x.reducers; capacity = x.capacity }

-- a seat: where it is and whose, and what it has seen and done
pub record Handle : Type 0 where
  -- which exchange it is a seat at
  pub lock : TableId
  pub formula : Cnf
  pub reducers : ℕ
  pub capacity : ℕ
  -- whose seat it is
  pub actor : ℕ
  -- the history, as far as the seat has seen it
  pub seen : List Entry
  pub turns : ℕ
  -- how many seats were made from it, and how many of them have not been taken back
  pub splits : ℕ
  pub out : ℕ

-- the part that does not change; a seat always has one
abbrev pub fixed_or_none : Option Fixed → Fixed
fixed_or_none (Some part) = part
fixed_or_none None = record { formula = record { vars = 0; clauses = [] }; reducers = 0; capacity = 0 }

-- what contracts see of a seat at the lock
abbrev pub handle_of : Sitting Entry Fixed → Handle
handle_of s = record {
  lock = s.lock;
  formula = (fixed_or_none s.fixed).formula;
  reducers = (fixed_or_none s.fixed).reducers;
  capacity = (fixed_or_none s.fixed).capacity;
  actor = s.number;
  seen = s.seen;
  turns = s.turns;
  splits = s.splits;
  out = s.out;
}

-- the seat has the formula, the number of reducers and the capacity of the exchange
pub record IsOf (x : Exchange) (h : Handle) : Type 0 where
  pub formula : h.formula ≡ x.formula
  pub reducers : h.reducers ≡ x.reducers
  pub capacity : h.capacity ≡ x.capacity

-- both are seats at one exchange, with the same formula, number of reducers and capacity
pub record HasSameExchange (s t : Handle) : Type 0 where
  pub lock : t.lock ≡ s.lock
  pub formula : t.formula ≡ s.formula
  pub reducers : t.reducers ≡ s.reducers
  pub capacity : t.capacity ≡ s.capacity

-- the history that was seen is legal
abbrev pub HasSeenLegal : Handle → Type 0
HasSeenLegal h = IsLegal h.formula h.reducers h.capacity h.seen

-- between two calls a seat is in no turn, it has seen a legal history, and its own entries there are those that it made
pub record IsSeated (s : Sitting Entry Fixed) : Type 0 where
  pub away : s.in_turn ≡ false
  pub fixed : s.fixed ≡ Some (fixed_or_none s.fixed)
  pub legal : HasSeenLegal (handle_of s)
  pub own : entries_of s.seen s.number ≡ s.own

-- what the actor holds and has taken, as far as its seat has seen the history, allows the entry
abbrev pub Enables : Handle → Entry → Type 0
Enables h e = IsEnabled h.formula h.reducers h.capacity h.seen e

-- the history that was seen leaves nothing on offer
abbrev pub SeesNoWork : Handle → Type 0
SeesNoWork h = (state_of h.formula h.reducers h.capacity h.seen).work ≡ []
