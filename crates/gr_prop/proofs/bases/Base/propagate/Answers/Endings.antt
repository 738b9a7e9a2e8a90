-- what a base keeps where propagation ends, and how it ends at a false clause
use Rattle.std.proofs.Common.{false, [], Some, true, refl, sym, subst}
use Rattle.gr_prop.specs.Bases.{clauses_in}
use Rattle.gr_prop.specs.BaseChanges.{Ends}
use Rattle.gr_prop.specs.declared.bases.Propagated.TheVariants.{Conflict}
use Rattle.gr_prop.specs.Watching.{IsReady, IsKeptBase, ArePaired}
use Rattle.gr_prop.proofs.Keeping.{kept-open, kept-conflict, kept-quiet, ends-false}
use Rattle.gr_prop.proofs.bases.Base.propagate.Answers.Queue.{broken, passed-ready, passed-paired, paired-still, stopped, stopped-broken, indexed-still, found-there, found-false, ended}
use Rattle.gr_prop.proofs.bases.Base.propagate.Goals.{In-Some, After-pass, In-Some-pass, After-put, In-Some-2, After-loop-self}
use Rattle.gr_prop.proofs.bases.Base.propagate.Goals as goal

-- a clause was false when it came in
pub kept-broken : (c : In-Some) → IsKeptBase c.self.inside.arena.clauses c.self.inside.trail c.self.inside.watches
    c.self.inside.places c.self.inside.head c.self.inside.broken.items false (Some c.in-Some.place)
    × ArePaired c.self.inside.arena.clauses c.self.inside.trail.vars c.self.inside.pairs
kept-broken c =
    let s = c.self.inside in
    let b = broken c in (
      kept-conflict s.arena.clauses s.trail s.watches s.places s.head s.broken.items false c.in-Some.place
          c.self.invariant.0.ready c.self.invariant.0.indexed refl b.0 b.1,
      c.self.invariant.1,
    )

pub ends-broken : (c : In-Some) → Ends (Conflict c.in-Some.place) (record {
  clauses = clauses_in c.self.inside.arena.clauses;
  trail = c.self.inside.trail;
  quiet = false;
  conflict = Some c.in-Some.place;
})
ends-broken c =
    let s = c.self.inside in
    let b = broken c in
    ends-false s.arena.clauses s.trail s.watches s.head s.broken.items false c.in-Some.place refl
    c.self.invariant.0.ready b.0 b.1

-- a clause of two literals is false
pub kept-pair : (c : In-Some-pass) → IsKeptBase c.loop-self.self-inside.arena.clauses c.pass.new.trail
    c.loop-self.self-inside.watches c.loop-self.self-inside.places c.loop-self.self-inside.head
    c.loop-self.self-inside.broken.items c.loop-self.self-inside.quiet (Some c.in-Some-pass.place)
    × ArePaired c.loop-self.self-inside.arena.clauses c.pass.new.trail.vars c.loop-self.self-inside.pairs
kept-pair c =
    let s = c.loop-self.self-inside in
    let g = (goal.at.In-Some-pass c).After-pass in (
      kept-conflict s.arena.clauses c.pass.new.trail s.watches s.places s.head s.broken.items s.quiet
          c.in-Some-pass.place (subst (IsReady s.arena.clauses c.pass.new.trail s.watches s.head)
          (sym c.loop-self.invariant.none) (passed-ready g)) c.loop-self.invariant.indexed
          c.loop-self.invariant.quiet (rw c.in-Some-pass.is at c.pass.ensures.there)
          (rw c.in-Some-pass.is at c.pass.ensures.falsified),
      passed-paired g,
    )

pub ends-pair : (c : In-Some-pass) → Ends (Conflict c.in-Some-pass.place) (record {
  clauses = clauses_in c.loop-self.self-inside.arena.clauses;
  trail = c.pass.new.trail;
  quiet = c.loop-self.self-inside.quiet;
  conflict = Some c.in-Some-pass.place;
})
ends-pair c =
    let s = c.loop-self.self-inside in
    ends-false s.arena.clauses c.pass.new.trail s.watches s.head [] s.quiet c.in-Some-pass.place
    c.loop-self.invariant.quiet (passed-ready (goal.at.In-Some-pass c).After-pass)
    (rw c.in-Some-pass.is at c.pass.ensures.there) (rw c.in-Some-pass.is at c.pass.ensures.falsified)

-- memory was wanting
pub kept-cut : (c : After-put) → IsKeptBase c.walk-found.new.arena.clauses c.walk-found.new.trail c.put.new.self
    c.loop-self.self-inside.places c.loop-self.self-inside.head c.loop-self.self-inside.broken.items
    c.loop-self.self-inside.quiet c.loop-self.self-inside.conflict
    × ArePaired c.walk-found.new.arena.clauses c.walk-found.new.trail.vars c.loop-self.self-inside.pairs
kept-cut c =
    let s = c.loop-self.self-inside in (
      kept-open c.walk-found.new.arena.clauses c.walk-found.new.trail c.put.new.self s.places s.head s.broken.items
          s.quiet s.conflict (stopped-broken c) (indexed-still c) c.loop-self.invariant.quiet
          c.loop-self.invariant.conflict,
      paired-still c,
    )

-- a longer clause is false
pub kept-found : (c : In-Some-2) → IsKeptBase c.walk-found.new.arena.clauses c.walk-found.new.trail c.put.new.self
    c.loop-self.self-inside.places c.loop-self.self-inside.head c.loop-self.self-inside.broken.items
    c.loop-self.self-inside.quiet (Some c.in-Some-2.place)
    × ArePaired c.walk-found.new.arena.clauses c.walk-found.new.trail.vars c.loop-self.self-inside.pairs
kept-found c =
    let s = c.loop-self.self-inside in
    let g = (goal.at.In-Some-2 c).After-put in (
      kept-conflict c.walk-found.new.arena.clauses c.walk-found.new.trail c.put.new.self s.places s.head
          s.broken.items s.quiet c.in-Some-2.place (stopped-broken g) (indexed-still g) c.loop-self.invariant.quiet
          (found-there c) (found-false c),
      paired-still g,
    )

pub ends-found : (c : In-Some-2) → Ends (Conflict c.in-Some-2.place) (record {
  clauses = clauses_in c.walk-found.new.arena.clauses;
  trail = c.walk-found.new.trail;
  quiet = c.loop-self.self-inside.quiet;
  conflict = Some c.in-Some-2.place;
})
ends-found c =
    let s = c.loop-self.self-inside in
    ends-false c.walk-found.new.arena.clauses c.walk-found.new.trail c.put.new.self s.head [] s.quiet
    c.in-Some-2.place c.loop-self.invariant.quiet (stopped (goal.at.In-Some-2 c).After-put) (found-there c)
    (found-false c)

-- nothing is left
pub kept-ended : (c : After-loop-self) → IsKeptBase c.loop-self.self-inside.arena.clauses
    c.loop-self.self-inside.trail c.loop-self.self-inside.watches c.loop-self.self-inside.places
    c.loop-self.self-inside.head c.loop-self.self-inside.broken.items true c.loop-self.self-inside.conflict
    × ArePaired c.loop-self.self-inside.arena.clauses c.loop-self.self-inside.trail.vars c.loop-self.self-inside.pairs
kept-ended c =
    let s = c.loop-self.self-inside in
    let i = c.loop-self.invariant in (
      kept-quiet s.arena.clauses s.trail s.watches s.places s.head s.broken.items s.conflict
          (subst (IsReady s.arena.clauses s.trail s.watches s.head) (sym i.none) i.ready) i.indexed (ended c) i.none
          i.conflict,
      i.paired,
    )
