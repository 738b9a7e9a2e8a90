-- so many lists, and each is empty
use Rattle.std.proofs.Common.{◌≡◌, [], map, length, replicate}
use Rattle.gr_watch.proofs.lists.Watches.new.Given as goal

abbrev pub invariant-loop-code : goal.invariant-loop-code
invariant-loop-code l = record {
  count : length l.lists.items ≡ l._code;
  empty : map (λ list. list.items) l.lists.items ≡ replicate l._code [];
}
