-- the rows before this one are made
use Rattle.std.proofs.Common.{◌≡◌, take}
use Rattle.gr_bench.proofs.tests.replay.Given as goal

abbrev pub invariant-rows : goal.invariant-rows
invariant-rows g l = record {
  formula : l.bench.formula ≡ l.fn.formula;
  reducers : l.bench.reducers ≡ 1;
  capacity : l.bench.capacity ≡ l.fn.capacity;
  made : l.bench.diary.entries ≡ take l.row-index l.fn.rows;
}
