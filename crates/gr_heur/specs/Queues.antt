-- a queue of variables in slots, the most active one last: a variable stands in the slot that is its place, and its
-- earlier slots are dead
use Rattle.std.specs.Prelude.{◌≡◌, ◌≢◌, ℕ, ◌+◌, ◌<◌, ◌≤◌, Bool, true, List, length, slice_index, slice_index_or, false}
use Rattle.gr_heur.specs.declared.queues.Queue.{Queue}

-- each of the first slots has a variable, and each variable stands in its place among them
pub record IsQueue (slots places : List ℕ) (len : ℕ) : Type 0 where
  pub small : length slots < 4294967296
  pub short : len ≤ length slots
  pub known : (k : ℕ) → k < len → slice_index slots k < length places
  pub below : (v : ℕ) → v < length places → slice_index places v < len
  pub stands : (v : ℕ) → v < length places → slice_index slots (slice_index places v) ≡ v

-- there is room for one slot more than there are variables, and the latest slots are some of all
pub record IsReady (queue : Queue) : Type 0 where
  pub placed : IsQueue queue.slots.items queue.places.items queue.len
  pub room : length queue.places.items < length queue.slots.items
  pub begun : queue.base + queue.fresh ≤ queue.len

-- the variables stay in order, and none moves back
pub record KeepsOrder (old new : List ℕ) : Type 0 where
  pub as_many : length new ≡ length old
  pub lower : (v : ℕ) → v < length old → slice_index new v ≤ slice_index old v
  pub order : (v w : ℕ) → v < length old → w < length old
      → slice_index old v < slice_index old w → slice_index new v < slice_index new w

-- the variable is last, and the others stay in order and do not move back
pub record Raises (index : ℕ) (old new : List ℕ) : Type 0 where
  pub as_many : length new ≡ length old
  pub lower : (v : ℕ) → v < length old → v ≢ index → slice_index new v ≤ slice_index old v
  pub last : (w : ℕ) → w < length old → w ≢ index → slice_index new w < slice_index new index
  pub order : (v w : ℕ) → v < length old → w < length old → v ≢ index → w ≢ index
      → slice_index old v < slice_index old w → slice_index new v < slice_index new w

-- the more active variable is behind the less active one, and of two that are as active the lesser is behind
pub record IsRanked (activities places : List ℕ) : Type 0 where
  pub more : (v w : ℕ) → v < length places → w < length places
      → slice_index activities w < slice_index activities v → slice_index places w < slice_index places v
  pub tie : (v w : ℕ) → v < length places → w < length places
      → slice_index activities w ≡ slice_index activities v → v < w → slice_index places w < slice_index places v

-- the variables but this one are so
pub record IsRankedBut (but : ℕ) (activities places : List ℕ) : Type 0 where
  pub more : (v w : ℕ) → v < length places → w < length places → v ≢ but → w ≢ but
      → slice_index activities w < slice_index activities v → slice_index places w < slice_index places v
  pub tie : (v w : ℕ) → v < length places → w < length places → v ≢ but → w ≢ but
      → slice_index activities w ≡ slice_index activities v → v < w → slice_index places w < slice_index places v

-- no activity is above this variable's
abbrev pub IsGreatest : List ℕ → ℕ → Type 0
IsGreatest activities index = (v : ℕ) → slice_index activities v ≤ slice_index activities index

-- a slot below the bound has a variable that is in and stands there, and none that is in stands between
pub record IsLastIn (slots places : List ℕ) (present : List Bool) (bound at : ℕ) : Type 0 where
  pub below : at < bound
  pub is_in : slice_index_or present (slice_index slots at) false ≡ true
  pub stands : slice_index places (slice_index slots at) ≡ at
  pub last : (w : ℕ) → w < length places → slice_index_or present w false ≡ true
      → slice_index places w < bound → slice_index places w ≤ at

-- none that is in stands below the bound
abbrev pub NoneIn : List ℕ → List Bool → ℕ → Type 0
NoneIn places present bound = (w : ℕ) → w < length places → slice_index_or present w false ≡ true
    → bound ≤ slice_index places w
