use Rattle.std.proofs.Common.{◌-◌, ◌≡◌, ◌≤◌, [], false, None, length, take}
use Rattle.gr_prop.specs.Bases.{clauses_in}
use Rattle.gr_prop.specs.BaseChanges.{IsGrown}
use Rattle.gr_prop.specs.Watching.{IsReady, IsIndexed, ArePaired}
use Rattle.gr_prop.specs.Pairing.{ArePassed}
use Rattle.gr_prop.proofs.bases.Base.propagate.Given as goal

abbrev pub invariant-loop-self : goal.invariant-loop-self
invariant-loop-self l = record {
  paired : ArePaired l.self-inside.arena.clauses l.self-inside.trail.vars l.self-inside.pairs;
  low : l.self-inside.head ≤ l.ahead;
  high : l.ahead ≤ length l.self-inside.trail.assigned;
  passed : ArePassed l.self-inside.arena.clauses l.self-inside.trail.assigned
      (take l.ahead l.self-inside.trail.assigned);
  ready : IsReady l.self-inside.arena.clauses l.self-inside.trail l.self-inside.watches l.self-inside.head [];
  none : l.self-inside.broken.items ≡ [];
  indexed : IsIndexed (clauses_in l.self-inside.arena.clauses) l.self-inside.places;
  clauses : clauses_in l.self-inside.arena.clauses ≡ l.fn.self.clauses;
  grown : IsGrown l.fn.self.trail l.self-inside.trail;
  quiet : l.self-inside.quiet ≡ false;
  conflict : l.self-inside.conflict ≡ None;
}

abbrev pub decreases-loop-self : goal.decreases-loop-self
decreases-loop-self l = l.self-inside.trail.vars - l.self-inside.head
