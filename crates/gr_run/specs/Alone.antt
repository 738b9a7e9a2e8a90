-- a search over an exchange of its own
use Rattle.std.specs.Prelude.{◌≡◌, ℕ, Bool}
use Rattle.gr_search.specs.declared.asks.Ask.{Ask}
use Rattle.gr_search.specs.declared.asks.Ask.TheVariants.{Done}
use Rattle.gr_search.specs.declared.asks.Found.{Found}
use Rattle.gr_bench.specs.Exchanges.{Exchange, IsSameExchange, IsUnchanged}
use Rattle.gr_run.specs.declared.answers.Answer.{Answer}
use Rattle.gr_run.specs.declared.answers.Answer.TheVariants as answer
use Rattle.gr_run.specs.Moves.{IsToldOf}
use Rattle.gr_run.specs.Runs.{IsFound}

-- what came of an ask
abbrev pub IsAnswer : Exchange → Ask → Answer → Exchange → Type 0
IsAnswer old a (answer.Told told) new =
    IsSameExchange old new
    × IsToldOf old.formula old.reducers old.capacity old.diary.entries a told new.diary.entries
IsAnswer old a (answer.Found found) new = IsUnchanged old new × (a ≡ Done found)

-- what a search found over this exchange
abbrev pub IsFoundAt : ℕ → Bool → Exchange → Found → Type 0
IsFoundAt limit keep_all x found =
    IsFound x.formula x.reducers x.capacity limit keep_all x.diary.entries found
