-- a trail in columns: what is known by literal, by variable, by position and by level
use Rattle.std.specs.Prelude.{◌≡◌, ℕ, ◌*◌, ◌≤◌, ◌<◌, Bool, true, false, List, [], ◌∷◌, map, length, take, All, Option, Some, None, slice_index_or, slice_set}
use Rattle.gr_logic.specs.Literals.{Literal, negation}
use Rattle.gr_logic.specs.Codes.{code_of}
use Rattle.gr_trail.specs.Trails.{Assigned, TrailState, Climbs, value_in, up_to}
use Rattle.gr_trail.specs.declared.trails.Entry.{Entry}
use Rattle.gr_trail.specs.declared.values.Value.{Value}
use Rattle.gr_trail.specs.declared.values.Value.TheVariants.{Open, True, False}

-- what a stored value says
abbrev pub truth_of : Value → Option Bool
truth_of Open = None
truth_of True = Some true
truth_of False = Some false

-- read past the end alone
abbrev pub no_entry : Entry
no_entry = record { level = 0; position = 0; reason = None }

-- the entry of a literal's variable
abbrev pub entry_of : List Entry → Literal → Entry
entry_of entries l = slice_index_or entries l.index no_entry

-- a literal of the trail, with what its variable's entry says
abbrev pub assigned_at : List Entry → Literal → Assigned
assigned_at entries l =
    record { lit = l; level = (entry_of entries l).level; reason = (entry_of entries l).reason }

-- the trail of these literals
abbrev pub assigned_in : List Entry → List Literal → List Assigned
assigned_in entries lits = map (assigned_at entries) lits

-- what is seen of the columns
abbrev pub trail_in : List Entry → List Literal → ℕ → ℕ → TrailState
trail_in entries lits len depth =
    record { vars = length entries; depth = depth; assigned = assigned_in entries (take len lits) }

-- the literal is true, and its negation false
abbrev pub made_true : List Value → Literal → List Value
made_true values l = slice_set (slice_set values (code_of l) True) (code_of (negation l)) False

-- these literals and their negations are open
abbrev pub cleared : List Value → List Literal → List Value
cleared values [] = values
cleared values (l ∷ ls) = cleared (slice_set (slice_set values (code_of l) Open)
    (code_of (negation l)) Open) ls

-- the columns tell one trail
pub record IsStored (values : List Value) (entries : List Entry) (lits : List Literal) (len : ℕ)
    (starts : List ℕ) (depth : ℕ) : Type 0 where
  pub small : length entries ≤ 1_000_000
  pub value_room : length values ≡ 2 * length entries
  pub lit_room : length lits ≡ length entries
  pub start_room : length starts ≡ length entries
  pub short : len ≤ length lits
  pub within : All (λ l. l.index < length entries) (take len lits)
  pub value : (l : Literal) → truth_of (slice_index_or values (code_of l) Open)
      ≡ value_in (assigned_in entries (take len lits)) l
  pub position : (k : ℕ) (d : Literal) → k < len
      → (entry_of entries (slice_index_or lits k d)).position ≡ k
  pub climbs : Climbs 0 (assigned_in entries (take len lits)) depth
  pub start : (b : ℕ) → b < depth → slice_index_or starts b 0 ≤ len
  pub level : (b : ℕ) → b < depth → assigned_in entries (take (slice_index_or starts b 0) lits)
      ≡ up_to b (assigned_in entries (take len lits))
