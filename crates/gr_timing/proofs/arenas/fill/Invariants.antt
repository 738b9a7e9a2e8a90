use Rattle.std.proofs.Common.{◌≤◌, length, All}
use Rattle.gr_arena.specs.Arenas.{Has}
use Rattle.gr_timing.proofs.arenas.fill.Given as goal

abbrev pub invariant-loop-literal : goal.invariant-loop-literal
invariant-loop-literal l = length l.lits.items ≤ l._literal

abbrev pub invariant-loop-id : goal.invariant-loop-id
invariant-loop-id l = All (Has l.arena) l.places.items
