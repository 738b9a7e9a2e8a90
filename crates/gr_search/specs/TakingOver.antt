-- what a search over one clause database knows once it was told something
use Rattle.std.specs.Prelude.{◌≡◌, ◌≤◌, ◌<◌, ◌+◌, ℕ, true, false, nat_eq, if◌then◌else◌, List, [], ◌∷◌, length, Option, Some, None}
use Rattle.std.specs.FinMap as finite
use Rattle.std.specs.FinSet as set
use Rattle.gr_logic.specs.Literals.{Literal}
use Rattle.gr_diary.specs.States.{has}
use Rattle.gr_prop.specs.Bases.{BaseClause, Clauses}
use Rattle.gr_import.specs.Imports.{Leaves}
use Rattle.gr_search.specs.declared.asks.Found.{Found}
use Rattle.gr_search.specs.declared.asks.Found.TheVariants.{Refuted, Spent}
use Rattle.gr_search.specs.declared.asks.Told.{Told}
use Rattle.gr_search.specs.declared.asks.Told.TheVariants.{Start, Id, Imported, Drained, Forgotten, Closed}
use Rattle.gr_search.specs.declared.solving.Request.{Request}
use Rattle.gr_search.specs.declared.solving.Request.TheVariants.{Nothing, Learning, Deriving, Importing, Forgetting, Done}
use Rattle.gr_search.specs.declared.solving.Solver.{Solver}
use Rattle.gr_search.specs.Tellings.{tally_then}
use Rattle.gr_search.specs.Solvers.{asked_in}

-- the search is over where a learnt clause got its id and it is empty, or it is the last one that may be learnt
abbrev pub ended_by_clause : ℕ → ℕ → List Literal → Option Found
ended_by_clause learns limit [] = Some Refuted
ended_by_clause learns limit (l ∷ ls) = if nat_eq (learns + 1) limit then Some Spent else None

-- the same once the clause that was asked for got its id, if a clause was asked for
abbrev pub ended_by_id : Solver → Request → Option Found
ended_by_id s Nothing = None
ended_by_id s (Learning lbd) = ended_by_clause s.counts.tally.learns s.counts.limit s.learnt
ended_by_id s (Deriving lit) = None
ended_by_id s Importing = None
ended_by_id s (Forgetting ids) = None
ended_by_id s Done = None

-- how the search ends once this is told, if it does
abbrev pub ended_by : Solver → Told → Option Found
ended_by s Start = None
ended_by s (Id id) = ended_by_id s s.request
ended_by s (Imported old new c) = None
ended_by s Drained = None
ended_by s Forgotten = None
ended_by s Closed = Some Refuted

-- one more clause at a new place
pub record IsWith (old new : Clauses) (id lbd : ℕ) (c : List Literal) : Type 0 where
  pub place : ℕ
  pub fresh : finite.get old place ≡ None
  pub added : new ≡ finite.insert old place (record { id = id; lbd = lbd; literals = set.from_list c })

-- the clauses but those of the ids, at whatever places
pub record AreWithout (old new : Clauses) (ids : List ℕ) : Type 0 where
  pub kept : (p : ℕ) (c : BaseClause) → finite.get new p ≡ Some c
      → (q : ℕ) × ((finite.get old q ≡ Some c) × (has c.id ids ≡ false))
  pub all : (q : ℕ) (c : BaseClause) → finite.get old q ≡ Some c → has c.id ids ≡ false
      → (p : ℕ) × (finite.get new p ≡ Some c)

-- the clauses but those of the ids, at their places
pub record AreLeft (old new : Clauses) (ids : List ℕ) : Type 0 where
  pub stays : (p : ℕ) (c : BaseClause) → finite.get old p ≡ Some c → has c.id ids ≡ false → finite.get new p ≡ Some c
  pub was : (p : ℕ) (c : BaseClause) → finite.get new p ≡ Some c
      → (finite.get old p ≡ Some c) × (has c.id ids ≡ false)

-- a clause came in for the one of the old id
pub record IsWithFor (old new : Clauses) (gone : Option ℕ) (id : ℕ) (c : List Literal) : Type 0 where
  pub left : Clauses
  pub lbd : ℕ
  pub leaves : Leaves old gone (length c) left lbd
  pub added : IsWith left new id lbd c

-- the clauses once the clause that was asked for got its id
abbrev pub ClausesWithId : Solver → Request → ℕ → Clauses → Type 0
ClausesWithId s Nothing id k = ⊥
ClausesWithId s (Learning lbd) id k = IsWith s.base.clauses k id lbd s.learnt
ClausesWithId s (Deriving lit) id k = IsWith s.base.clauses k id 1 (lit ∷ [])
ClausesWithId s Importing id k = ⊥
ClausesWithId s (Forgetting ids) id k = ⊥
ClausesWithId s Done id k = ⊥

-- the clauses once the ids were let go
abbrev pub ClausesLeft : Solver → Request → Clauses → Type 0
ClausesLeft s Nothing k = ⊥
ClausesLeft s (Learning lbd) k = ⊥
ClausesLeft s (Deriving lit) k = ⊥
ClausesLeft s Importing k = ⊥
ClausesLeft s (Forgetting ids) k = AreWithout s.base.clauses k ids.items
ClausesLeft s Done k = ⊥

-- the clauses once this is told
abbrev pub ClausesThen : Solver → Told → Clauses → Type 0
ClausesThen s Start k = k ≡ s.base.clauses
ClausesThen s (Id id) k = ClausesWithId s s.request id k
ClausesThen s (Imported old new c) k = IsWithFor s.base.clauses k old new c
ClausesThen s Drained k = k ≡ s.base.clauses
ClausesThen s Forgotten k = ClausesLeft s s.request k
ClausesThen s Closed k = k ≡ s.base.clauses

-- how many literals are settled at least once the clause that was asked for got its id
abbrev pub settled_with : ℕ → Request → ℕ
settled_with n Nothing = n
settled_with n (Learning lbd) = n
settled_with n (Deriving lit) = n + 1
settled_with n Importing = n
settled_with n (Forgetting ids) = n
settled_with n Done = n

-- how many literals are settled at least once this is told
abbrev pub settled_then : Solver → Told → ℕ
settled_then s Start = s.settled
settled_then s (Id id) = settled_with s.settled s.request
settled_then s (Imported old new c) = s.settled
settled_then s Drained = s.settled
settled_then s Forgotten = s.settled
settled_then s Closed = s.settled

-- what no turn changes
pub record Stays (old new : Solver) : Type 0 where
  pub vars : new.vars ≡ old.vars
  pub first_learnt : new.first_learnt ≡ old.first_learnt
  pub keep_all : new.keep_all ≡ old.keep_all
  pub limit : new.counts.limit ≡ old.counts.limit

-- what was told is taken over, and the search goes on
pub record HasTakenOver (old : Solver) (told : Told) (new : Solver) : Type 0 where
  pub stays : Stays old new
  pub clauses : ClausesThen old told new.base.clauses
  pub tally : new.counts.tally ≡ tally_then old.counts.tally (asked_in old.request old.learnt) told
  pub settled : settled_then old told ≤ new.settled
  pub more : new.counts.tally.learns < new.counts.limit
  pub grounded : new.counts.tally.waits ≡ true → new.base.trail.depth ≡ 0
