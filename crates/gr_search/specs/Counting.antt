-- what a search counts, against how many clauses it may learn
use Rattle.std.specs.Prelude.{◌≡◌, ◌≤◌, ◌+◌, ℕ, refl}
use Rattle.std.specs.Coded.{Coded, code_by, coded×, coded_ℕ}
use Rattle.gr_logic.specs.Restarts.{RestartState}
use Rattle.gr_diary.specs.Tallies.{Tally}
use Rattle.gr_search.specs.SearchCodes.{tally_code}

-- how many clauses may be learnt, and what was counted
pub record CountState : Type 0 where
  pub limit : ℕ
  pub tally : Tally

-- how the counts are stored
abbrev pub count_code : Coded CountState
count_code =
    code_by (ℕ × Tally) (coded× coded_ℕ tally_code) (λ c. (c.limit, c.tally))
    (λ p. record { limit = p.0; tally = p.1 }) (λ _. refl)

-- no more is learnt than may be, each learnt clause's LBD was pushed, and clauses are learnt between the times
-- that some are forgotten
pub record IsCounted (limit learns forgets learns_since : ℕ) (restart : RestartState) : Type 0 where
  pub few : limit ≤ 4000000
  pub within : learns ≤ limit
  pub spaced : forgets + learns_since ≤ learns
  pub pushed : restart.pushes ≡ learns
