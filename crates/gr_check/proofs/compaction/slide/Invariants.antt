-- the clauses that are moved, and those that stand where they stood
use Rattle.std.proofs.Common.{◌≡◌, ◌≤◌, true, length, take, drop}
use Rattle.gr_check.specs.Runs.{AreMoved, are_in_order, end_of}
use Rattle.gr_check.proofs.compaction.slide.Given as goal

abbrev pub invariant-loop-i : goal.invariant-loop-i
invariant-loop-i l = record {
  count : length l.lits.items ≡ length l.fn.lits.items;
  started : l.start ≤ l.end;
  end_within : l.end ≤ length l.lits.items;
  ends : end_of l.end (drop l.i l.fn.slots.items) ≡ end_of l.start l.fn.slots.items;
  kept : take l.start l.lits.items ≡ take l.start l.fn.lits.items;
  rest : drop l.end l.lits.items ≡ drop l.end l.fn.lits.items;
  count_slots : length l.slots.items ≡ length l.fn.slots.items;
  same_slots : drop l.i l.slots.items ≡ drop l.i l.fn.slots.items;
  order : are_in_order l.end (drop l.i l.fn.slots.items) ≡ true;
  moved : AreMoved l.fn.lits.items (take l.i l.fn.slots.items) (take l.end l.lits.items) (take l.i l.slots.items);
}
