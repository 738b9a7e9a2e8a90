-- watched literals (Moskewicz et al., Chaff, DAC 2001) with blockers (Sörensson and Eén, MiniSat 2.1,
-- 2008): a list of watches for each literal
use Rattle.std.specs.Prelude.{ℕ, Bool, true, List, [], nat_eq, slice_index_or, slice_set}
use Rattle.std.specs.List.{swap_remove, position_or_len}
use Rattle.gr_logic.specs.Literals.{Literal}
use Rattle.gr_logic.specs.Codes.{code_of}
use Rattle.gr_logic.specs.declared.places.Place.{Place}
use Rattle.gr_watch.specs.declared.lists.Watch.{Watch}

-- a number of variables, and the lists of their literals, in the order of the literals' codes
pub record WatchLists : Type 0 where
  pub vars : ℕ
  pub lists : List (List Watch)

-- the watches of a literal
abbrev pub list_of : WatchLists → Literal → List Watch
list_of w l = slice_index_or w.lists (code_of l) []

-- the literal has this list, and each other literal the list that it had
abbrev pub with_list : WatchLists → Literal → List Watch → WatchLists
with_list w l list = record w { lists = slice_set w.lists (code_of l) list }

-- read past the end of a list alone
abbrev pub no_watch : Watch
no_watch = record { place = record { 0 = 0 }; blocker = record { index = 0; positive = true } }

-- the watch at an index
abbrev pub watch_at : List Watch → ℕ → Watch
watch_at list index = slice_index_or list index no_watch

-- the list without the watch at an index, which the last one fills
abbrev pub taken_out : List Watch → ℕ → List Watch
taken_out list index = swap_remove list index no_watch

-- the watch is of this place
abbrev pub is_at : Place → Watch → Bool
is_at place w = nat_eq w.place.0 place.0

-- the index of the first watch of this place
abbrev pub first_at : Place → List Watch → ℕ
first_at place list = position_or_len (is_at place) list
