-- what a search over one clause database asks, and its turns
use Rattle.std.specs.Prelude.{◌≡◌, ◌≢◌, ◌≤◌, ◌<◌, Bool, true, false, List, [], ◌∷◌, length, AllPairs, Option, Some, None}
use Rattle.gr_search.specs.declared.asks.Ask.{Ask}
use Rattle.gr_search.specs.declared.asks.Ask.TheVariants as ask
use Rattle.gr_search.specs.declared.asks.Found.{Found}
use Rattle.gr_search.specs.declared.asks.Found.TheVariants.{Model}
use Rattle.gr_search.specs.declared.asks.Told.{Told}
use Rattle.gr_search.specs.declared.solving.Request.TheVariants.{Learning, Deriving, Importing, Done}
use Rattle.gr_search.specs.declared.solving.Solver.{Solver}
use Rattle.gr_search.specs.Searches as search
use Rattle.gr_search.specs.Tellings.{tally_then}
use Rattle.gr_search.specs.Keeping.{IsProved, IsNewTo, IsModelOf}
use Rattle.gr_search.specs.Solvers.{asked_in, IsSteady, MayForget}
use Rattle.gr_search.specs.TakingOver.{ClausesThen, settled_then, Stays}

-- what is asked for is right, and the search remembers it
abbrev pub IsAsking : Solver → Ask → Type 0
IsAsking s (ask.Learn c hints lbd offered) =
    (s.request ≡ Learning lbd) × (s.learnt ≡ c) × (offered ≡ false) × (s.counts.tally.waits ≡ false)
    × IsProved s.base.clauses s.vars c hints × (lbd ≤ length c) × (c ≢ [] → IsNewTo s.base.clauses c)
IsAsking s (ask.Unit l hints) = (s.request ≡ Deriving l) × IsProved s.base.clauses s.vars (l ∷ []) hints
IsAsking s ask.Import = (s.request ≡ Importing) × (s.counts.tally.waits ≡ true)
IsAsking s (ask.Forget ids) =
    (asked_in s.request s.learnt ≡ search.Forgetting ids) × (ids ≢ []) × AllPairs (λ a b. a < b) ids
    × MayForget s ids × (s.keep_all ≡ false)
IsAsking s (ask.Done found) =
    (s.request ≡ Done) × (model : List Bool) × (found ≡ Model model) × IsModelOf s.base.clauses s.vars model

-- the search asks, and changes neither clauses nor counts
pub record HasSearched (old : Solver) (a : Ask) (new : Solver) : Type 0 where
  pub stays : Stays old new
  pub clauses : new.base.clauses ≡ old.base.clauses
  pub counts : new.counts ≡ old.counts
  pub settled : old.settled ≤ new.settled
  pub asking : IsAsking new a

-- nothing is to be asked before something is decided
pub record HasPrepared (old new : Solver) : Type 0 where
  pub steady : IsSteady new
  pub stays : Stays old new
  pub clauses : new.base.clauses ≡ old.base.clauses
  pub counts : new.counts ≡ old.counts
  pub settled : old.settled ≤ new.settled
  pub waits : new.counts.tally.waits ≡ false

-- one turn of a search that goes on
pub record HasGoneOn (old : Solver) (told : Told) (a : Ask) (new : Solver) : Type 0 where
  pub stays : Stays old new
  pub clauses : ClausesThen old told new.base.clauses
  pub tally : new.counts.tally ≡ tally_then old.counts.tally (asked_in old.request old.learnt) told
  pub settled : settled_then old told ≤ new.settled
  pub more : new.counts.tally.learns < new.counts.limit
  pub asking : IsAsking new a

-- one turn of a search that is over
pub record HasEnded (old : Solver) (found : Found) (a : Ask) (new : Solver) : Type 0 where
  pub stays : Stays old new
  pub clauses : new.base.clauses ≡ old.base.clauses
  pub asked : a ≡ ask.Done found
  pub request : new.request ≡ Done

-- one turn
abbrev pub HasTurned : Solver → Told → Option Found → Ask → Solver → Type 0
HasTurned old told None a new = HasGoneOn old told a new
HasTurned old told (Some found) a new = HasEnded old found a new
