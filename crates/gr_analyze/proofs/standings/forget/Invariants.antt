-- those that are still known
use Rattle.std.proofs.Common.{◌≡◌, length, drop}
use Rattle.gr_analyze.specs.Standings.{AreKnown}
use Rattle.gr_analyze.proofs.standings.forget.Given as goal

abbrev pub invariant-loop-index : goal.invariant-loop-index
invariant-loop-index l = record {
  known : AreKnown l.by_index.items (drop l.index-index l.known);
  long : length l.by_index.items ≡ length l.fn.by_index.items;
}
