-- what an entry does to its actor's part
use Rattle.std.specs.Prelude.{◌≡◌, ℕ, ◌||◌, nat_le, if◌then◌else◌, List, [], ◌∷◌, ◌++◌, length, None}
use Rattle.std.specs.FinMap as map
use Rattle.gr_logic.specs.Formulas.{Cnf}
use Rattle.gr_diary.specs.declared.entries.Entry.{Entry}
use Rattle.gr_diary.specs.Entries.{actor_of, addition_of}
use Rattle.gr_diary.specs.States.{State, has}
use Rattle.gr_diary.specs.Steps.{held_after, taken_of, live_grown}
use Rattle.gr_diary.specs.Rules.{Part}
use Rattle.gr_diary.specs.Histories.{IsLegal, state_of, part_after}

-- the part of the entry's actor then: what it holds and has taken changes by the entry, and of these clauses none was
-- deleted
abbrev pub part_moved : Cnf → State → Entry → Part
part_moved f s e = record {
  held = held_after s e (actor_of e);
  cites = λ id.
      if nat_le id (length f.clauses) || has id (held_after s e (actor_of e))
      then map.get (live_grown s (addition_of e)) id
      else None;
  taken = taken_of s e;
}

-- an entry of a legal history changes its actor's part so
abbrev pub OwnPartMoves : Type 0
OwnPartMoves =
    (f : Cnf) (reducers capacity : ℕ) (d : List Entry) (e : Entry) → IsLegal f reducers capacity (d ++ e ∷ [])
    → part_after f reducers capacity (d ++ e ∷ []) (actor_of e) ≡ part_moved f (state_of f reducers capacity d) e
