-- ids that are let go, and ids with a single holder
use Rattle.std.specs.Prelude.{ℕ, Bool, nat_eq, List, []}
use Rattle.gr_hold.specs.Holding.{Holding, count_of}
use Rattle.gr_diary.specs.declared.entries.Entry.{Entry}
use Rattle.gr_diary.specs.declared.entries.Entry.TheVariants.{Forget}
use Rattle.gr_diary.specs.declared.entries.Entry.TheVariants as entry

-- one holder, and no other, holds the id
abbrev pub is_lone : Holding → ℕ → Bool
is_lone holding id = nat_eq (count_of holding id) 1

-- the ids that a `Forget` lets go
abbrev pub forgotten_ids : Entry → List ℕ
forgotten_ids (Forget actor ids) = ids
forgotten_ids (entry.Learn clause hints lbd offered) = []
forgotten_ids (entry.Unit actor lit hints) = []
forgotten_ids (entry.Take actor) = []
forgotten_ids (entry.Return actor outcome) = []
forgotten_ids entry.Import = []
forgotten_ids entry.Drained = []
forgotten_ids entry.Close = []
