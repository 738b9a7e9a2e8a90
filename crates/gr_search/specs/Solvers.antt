-- a search over one clause database, between two of its asks
use Rattle.std.specs.Prelude.{◌≡◌, ◌≢◌, ◌≤◌, ◌<◌, ◌+◌, ◌*◌, ℕ, false, List, [], length, All, Option, Some, slice_get}
use Rattle.std.specs.FinMap as finite
use Rattle.gr_logic.specs.Literals.{Literal}
use Rattle.gr_logic.specs.Formulas.{VarsUpTo}
use Rattle.gr_logic.specs.NormalForms.{IsNormal}
use Rattle.gr_trail.specs.Trails.{Assigned}
use Rattle.gr_prop.specs.Bases.{BaseClause, Clauses, LacksId}
use Rattle.gr_prop.specs.BaseChanges.{IsAddable}
use Rattle.gr_import.specs.Imports.{MayGo}
use Rattle.gr_search.specs.declared.asks.Told.{Told}
use Rattle.gr_search.specs.declared.asks.Told.TheVariants.{Start, Id, Imported, Drained, Forgotten, Closed}
use Rattle.gr_search.specs.declared.solving.Request.{Request}
use Rattle.gr_search.specs.declared.solving.Request.TheVariants.{Nothing, Learning, Deriving, Importing, Forgetting, Done}
use Rattle.gr_search.specs.declared.solving.Solver.{Solver}
use Rattle.gr_search.specs.Searches.{Asked}
use Rattle.gr_search.specs.Searches as search
use Rattle.gr_search.specs.Keeping.{IsKept}

-- what was asked for; a clause that is to be learnt is kept beside
abbrev pub asked_in : Request → List Literal → Asked
asked_in Nothing c = search.Nothing
asked_in (Learning lbd) c = search.Learning c lbd
asked_in (Deriving lit) c = search.Deriving lit
asked_in Importing c = search.Importing
asked_in (Forgetting ids) c = search.Forgetting ids.items
asked_in Done c = search.Done

-- the clauses, the trail and what may be decided belong together
pub record IsSteady (s : Solver) : Type 0 where
  pub kept : IsKept s.vars s.base.clauses s.base.trail s.settled s.chooser
  pub analyzer : s.analyzer.vars ≡ s.vars

-- nothing is decided, and each literal has its unit clause
pub record IsGrounded (s : Solver) : Type 0 where
  pub ground : s.base.trail.depth ≡ 0
  pub all : s.settled ≡ length s.base.trail.assigned

-- the kept clause can come in under any id, unless it is empty
pub record IsReadyToLearn (s : Solver) (lbd : ℕ) : Type 0 where
  pub normal : IsNormal s.learnt
  pub within : VarsUpTo s.vars s.learnt
  pub short : lbd ≤ length s.learnt
  pub addable : s.learnt ≢ [] → IsAddable s.base.trail s.learnt

-- the literal is the first one that has no unit clause
pub record IsUnsettled (s : Solver) (l : Literal) : Type 0 where
  pub ground : s.base.trail.depth ≡ 0
  pub is : Assigned
  pub first : slice_get s.base.trail.assigned s.settled ≡ Some is
  pub literal : is.lit ≡ l

-- a learnt clause of an LBD of at least 3 has the id
pub record IsForgettable (k : Clauses) (first : ℕ) (id : ℕ) : Type 0 where
  pub place : ℕ
  pub clause : BaseClause
  pub there : finite.get k place ≡ Some clause
  pub is : clause.id ≡ id
  pub learnt : first ≤ id
  pub weak : 3 ≤ clause.lbd

-- it is time to forget, and these ids may go
pub record MayForget (s : Solver) (ids : List ℕ) : Type 0 where
  pub grounded : IsGrounded s
  pub due : 2_000 * (s.counts.tally.forgets + 1) ≤ s.counts.tally.learns_since
  pub free : s.counts.tally.waits ≡ false
  pub each : All (IsForgettable s.base.clauses s.first_learnt) ids

-- what was asked for can be taken over
abbrev pub IsReadyFor : Solver → Request → Type 0
IsReadyFor s Nothing = s.base.trail.depth ≡ 0
IsReadyFor s (Learning lbd) = IsReadyToLearn s lbd
IsReadyFor s (Deriving lit) = IsUnsettled s lit
IsReadyFor s Importing = IsGrounded s
IsReadyFor s (Forgetting ids) = MayForget s ids.items
IsReadyFor s Done = Unit {0}

-- more clauses may be learnt, unless the search is done
abbrev pub MayLearnMore : Solver → Request → Type 0
MayLearnMore s Done = Unit {0}
MayLearnMore s Nothing = s.counts.tally.learns < s.counts.limit
MayLearnMore s (Learning lbd) = s.counts.tally.learns < s.counts.limit
MayLearnMore s (Deriving lit) = s.counts.tally.learns < s.counts.limit
MayLearnMore s Importing = s.counts.tally.learns < s.counts.limit
MayLearnMore s (Forgetting ids) = s.counts.tally.learns < s.counts.limit

-- between two turns
pub record IsWaiting (s : Solver) : Type 0 where
  pub steady : IsSteady s
  pub ready : IsReadyFor s s.request
  pub more : MayLearnMore s s.request

-- the ask was for a clause
abbrev pub AsksForClause : Request → Type 0
AsksForClause Nothing = ⊥
AsksForClause (Learning lbd) = Unit {0}
AsksForClause (Deriving lit) = Unit {0}
AsksForClause Importing = ⊥
AsksForClause (Forgetting ids) = ⊥
AsksForClause Done = ⊥

-- the ask was to forget
abbrev pub AsksToForget : Request → Type 0
AsksToForget Nothing = ⊥
AsksToForget (Learning lbd) = ⊥
AsksToForget (Deriving lit) = ⊥
AsksToForget Importing = ⊥
AsksToForget (Forgetting ids) = Unit {0}
AsksToForget Done = ⊥

-- what an import may bring
pub record MayComeIn (s : Solver) (old : Option ℕ) (new : ℕ) (c : List Literal) : Type 0 where
  pub asked : s.request ≡ Importing
  pub normal : IsNormal c
  pub within : VarsUpTo s.vars c
  pub unused : LacksId s.base.clauses new
  pub unneeded : MayGo s.base old

-- this may be told
abbrev pub MayBeTold : Solver → Told → Type 0
MayBeTold s Start = s.request ≡ Nothing
MayBeTold s (Id id) = AsksForClause s.request × LacksId s.base.clauses id
MayBeTold s (Imported old new c) = MayComeIn s old new c
MayBeTold s Drained = s.request ≡ Importing
MayBeTold s Forgotten = AsksToForget s.request
MayBeTold s Closed = Unit {0}
