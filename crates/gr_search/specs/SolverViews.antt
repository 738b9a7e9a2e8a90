-- what contracts see of a search over one clause database and a formula
use Rattle.std.specs.Prelude.{◌≡◌, ◌≢◌, ◌+◌, ◌-◌, ◌*◌, ℕ, Bool, length}
use Rattle.gr_logic.specs.Formulas.{Cnf}
use Rattle.gr_diary.specs.Tallies.{no_tally}
use Rattle.gr_search.specs.declared.solving.Request.{Request}
use Rattle.gr_search.specs.declared.solving.Request.TheVariants.{Nothing, Learning, Deriving, Importing, Forgetting, Done}
use Rattle.gr_search.specs.declared.solving.Solver.{Solver}
use Rattle.gr_search.specs.Searches.{SearchView}
use Rattle.gr_search.specs.HeldClauses.{held_in, Knows, HasOwnIds, HoldsFormula}
use Rattle.gr_search.specs.Solvers.{asked_in, IsWaiting}

-- what an open request adds to the number that falls
abbrev pub rank_of : Request → ℕ
rank_of Nothing = 4
rank_of (Learning lbd) = 0
rank_of (Deriving lit) = 3
rank_of Importing = 2
rank_of (Forgetting ids) = 1
rank_of Done = 0

-- how many unit clauses may still be asked for
abbrev pub units_left : Solver → Request → ℕ
units_left s Nothing = s.vars - s.settled
units_left s (Learning lbd) = s.vars - s.settled
units_left s (Deriving lit) = s.vars - (s.settled + 1)
units_left s Importing = s.vars - s.settled
units_left s (Forgetting ids) = s.vars - s.settled
units_left s Done = 0

-- how many clauses may still be learnt
abbrev pub learns_left : Solver → Request → ℕ
learns_left s Nothing = s.counts.limit - s.counts.tally.learns
learns_left s (Learning lbd) = s.counts.limit - s.counts.tally.learns
learns_left s (Deriving lit) = s.counts.limit - s.counts.tally.learns
learns_left s Importing = s.counts.limit - s.counts.tally.learns
learns_left s (Forgetting ids) = s.counts.limit - s.counts.tally.learns
learns_left s Done = 0

-- a number that falls with each ask, unless a clause was taken over
abbrev pub left_in : Solver → ℕ
left_in s = 4 * learns_left s s.request + 4 * units_left s s.request + rank_of s.request

-- a search that begins knows the formula's clauses, and no more
pub record IsBegunWith (f : Cnf) (n : ℕ) (keeps : Bool) (s : Solver) : Type 0 where
  pub waiting : IsWaiting s
  pub knows : Knows f s.base.clauses
  pub own : HasOwnIds (length f.clauses) s.base.clauses
  pub vars : s.vars ≡ f.vars
  pub first_learnt : s.first_learnt ≡ length f.clauses + 1
  pub keep_all : s.keep_all ≡ keeps
  pub counts : s.counts ≡ record { limit = n; tally = no_tally }
  pub request : s.request ≡ Nothing

-- what is true of a search over a formula between two turns
pub record IsSearching (f : Cnf) (s : Solver) : Type 0 where
  pub waiting : IsWaiting s
  pub holds : HoldsFormula f s.base.clauses
  pub vars : s.vars ≡ f.vars
  pub first_learnt : s.first_learnt ≡ length f.clauses + 1

-- a search that is done, as it is after want of memory too, owes nothing more
abbrev pub IsSearchingUnlessDone : Cnf → Solver → Type 0
IsSearchingUnlessDone f s = s.request ≢ Done → IsSearching f s

-- what contracts see of a search over a formula
abbrev pub view_of : Cnf → Solver → SearchView
view_of f s = record {
  formula = f;
  limit = s.counts.limit;
  keep_all = s.keep_all;
  held = held_in (length f.clauses) s.base.clauses;
  tally = s.counts.tally;
  asked = asked_in s.request s.learnt;
  left = left_in s;
}
