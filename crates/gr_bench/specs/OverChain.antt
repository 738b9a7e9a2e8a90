-- what a long run of calls over one formula keeps
use Rattle.std.specs.Prelude.{◌≡◌}
use Rattle.gr_diary.specs.Histories.{IsLegal}
use Rattle.gr_diary.specs.Examples.{chain}
use Rattle.gr_bench.specs.Exchanges.{Exchange}

-- the formula is `1`, `-1 2`, `3 4 -2`, there are two reducers, and the history is legal
pub record IsOverChain (x : Exchange) : Type 0 where
  pub formula : x.formula ≡ chain
  pub reducers : x.reducers ≡ 2
  pub legal : IsLegal x.formula x.reducers x.capacity x.diary.entries
