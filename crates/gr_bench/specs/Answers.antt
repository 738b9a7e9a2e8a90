-- what a call answers, by the state before it
use Rattle.std.specs.Prelude.{◌≡◌, ℕ, List, [], ◌∷◌, Option, Some, None}
use Rattle.std.specs.FinMap as map
use Rattle.gr_logic.specs.Literals.{Literal}
use Rattle.gr_logic.specs.declared.items.Strengthened.{Strengthened}
use Rattle.gr_logic.specs.declared.items.Strengthened.TheVariants.{Same, Shorter}
use Rattle.gr_diary.specs.declared.entries.Entry.{Entry}
use Rattle.gr_diary.specs.declared.entries.Entry.TheVariants as entry
use Rattle.gr_diary.specs.States.{State, Outcome}
use Rattle.gr_diary.specs.Steps.{best_id}
use Rattle.gr_bench.specs.declared.answers.Imported.{Imported}
use Rattle.gr_bench.specs.declared.answers.Imported.TheVariants.{Import, Drained}
use Rattle.gr_bench.specs.Exchanges.{Exchange, IsGrown, state_at}

-- the best item on offer has this id, and this is its clause
pub record IsBestOffer (s : State) (id : ℕ) (c : List Literal) : Type 0 where
  pub best : best_id s ≡ Some id
  pub clause : map.get s.live id ≡ Some c

-- the earliest result stands for the clause of the one id, if any, and brings the clause of the other
pub record IsFirstResult (s : State) (old : Option ℕ) (new : ℕ) (c : List Literal) : Type 0 where
  pub later : List Outcome
  pub first : s.results ≡ record { old = old; id = new } ∷ later
  pub clause : map.get s.live new ≡ Some c

-- the id of the clause that an outcome adds
abbrev pub id_of_outcome : State → Strengthened → Option ℕ
id_of_outcome s Same = None
id_of_outcome s (Shorter clause hints) = Some s.next

-- the entry that an import makes
abbrev pub entry_of : Imported → Entry
entry_of (Import old new clause) = entry.Import
entry_of Drained = entry.Drained

-- the earliest result is answered, or that there is none
abbrev pub IsImported : State → Imported → Type 0
IsImported s (Import old new clause) = IsFirstResult s old new clause
IsImported s Drained = s.results ≡ []

-- the history grew by the import, which answered by the state before it
abbrev pub IsImport : Exchange → Exchange → Imported → Type 0
IsImport old new imported =
    IsGrown old new (entry_of imported) × IsImported (state_at old) imported
