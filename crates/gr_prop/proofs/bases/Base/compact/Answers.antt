use Rattle.std.proofs.Common.{None, map, ap, sym, ◌∙◌, subst}
use Rattle.gr_prop.specs.Bases.{BaseState, clauses_in}
use Rattle.gr_prop.specs.BaseChanges.{IsCompacted, moved_assigned}
use Rattle.gr_prop.specs.Watching.{IsKeptBase, ArePaired}
use Rattle.gr_trail.specs.Trails.{TrailState}
use Rattle.gr_prop.proofs.MovedPairs.{pairs-moved, paired-moved}
use Rattle.gr_prop.proofs.Settling.{levels-zero}
use Rattle.gr_prop.proofs.Compacted.{index-moved, reasons-moved, watches-moved, broken-moved, kept-moved, is-compacted}
use Rattle.gr_prop.proofs.bases.Base.compact.Goals as goal

pub move_index-requires-clause-moved : goal.move_index-requires-clause-moved
move_index-requires-clause-moved c =
    let s = c.self.inside in
    index-moved s.arena c.compact.new.self c.in_ok-moves.moves c.in_ok-moves.ensures.ok s.trail s.watches s.watches
    s.places s.places s.head s.broken.items s.quiet s.conflict c.self.invariant.0

pub move_reasons-requires-clause-ground : goal.move_reasons-requires-clause-ground
move_reasons-requires-clause-ground c =
    let s = c.self.inside in
    levels-zero 0 s.trail.assigned s.trail.depth (ap (λ (b : BaseState). b.trail.depth) c.self.view_is ∙ c.requires)
    c.self.invariant.0.ready.sound.climbs

pub move_reasons-requires-clause-moved : goal.move_reasons-requires-clause-moved
move_reasons-requires-clause-moved c =
    let s = c.self.inside in
    reasons-moved s.arena c.compact.new.self c.in_ok-moves.moves c.in_ok-moves.ensures.ok s.trail s.watches s.watches
    s.places s.places s.head s.broken.items s.quiet s.conflict c.self.invariant.0

pub move_watches-requires-clause-moved : goal.move_watches-requires-clause-moved
move_watches-requires-clause-moved c =
    let s = c.self.inside in
    watches-moved s.arena c.compact.new.self c.in_ok-moves.moves c.in_ok-moves.ensures.ok s.trail s.watches s.watches
    s.places s.places s.head s.broken.items s.quiet s.conflict c.self.invariant.0

pub move_watches-requires-2-clause-moved : goal.move_watches-requires-2-clause-moved
move_watches-requires-2-clause-moved c =
    let s = c.self.inside in
    pairs-moved s.arena c.compact.new.self c.in_ok-moves.moves c.in_ok-moves.ensures.ok s.trail.vars s.pairs
    c.self.invariant.1

pub move_places-requires : goal.move_places-requires
move_places-requires c =
    let s = c.self.inside in
    broken-moved s.arena c.compact.new.self c.in_ok-moves.moves c.in_ok-moves.ensures.ok s.trail s.watches s.watches
    s.places s.places s.head s.broken.items s.quiet s.conflict c.self.invariant.0

pub invariant_of-self-2 : goal.invariant_of-self-2
invariant_of-self-2 c =
    let s = c.self.inside in (
      subst (λ t. IsKeptBase c.compact.new.self.clauses t c.move_watches.new.watches c.move_index.new.places s.head
          c.move_places.new.places.items s.quiet None)
          (sym c.move_reasons.ensures)
          (subst (λ bs. IsKeptBase c.compact.new.self.clauses
          (record s.trail { assigned = map (moved_assigned c.in_ok-moves.moves) s.trail.assigned })
          c.move_watches.new.watches c.move_index.new.places s.head bs s.quiet None)
          (sym c.move_places.ensures)
          (kept-moved s.arena c.compact.new.self c.in_ok-moves.moves c.in_ok-moves.ensures.ok s.trail s.watches
          c.move_watches.new.watches s.places c.move_index.new.places s.head s.broken.items s.quiet s.conflict
          c.self.invariant.0
          c.move_watches.ensures.vars c.move_watches.ensures.room c.move_watches.ensures.lists c.move_index.ensures)),
      subst (λ (t : TrailState). ArePaired c.compact.new.self.clauses t.vars c.move_watches-2.new.watches)
          (sym c.move_reasons.ensures)
          (paired-moved s.arena c.compact.new.self c.in_ok-moves.moves c.in_ok-moves.ensures.ok s.trail.vars s.pairs
          c.self.invariant.1 c.move_watches-2.new.watches c.move_watches-2.ensures.vars c.move_watches-2.ensures.room
          c.move_watches-2.ensures.lists),
    )

pub returns : goal.returns
returns c =
    let s = c.self.inside in
    subst (λ (b : BaseState). IsCompacted b (record {
      clauses = clauses_in c.compact.new.self.clauses;
      trail =
          c.move_reasons.new.trail;
      quiet = s.quiet;
      conflict = None;
    }))
    c.self.view_is
    (subst (λ t. IsCompacted (record {
      clauses = clauses_in s.arena.clauses;
      trail = s.trail;
      quiet = s.quiet;
      conflict = s.conflict;
    })
    (record { clauses = clauses_in c.compact.new.self.clauses; trail = t; quiet = s.quiet; conflict = None }))
    (sym c.move_reasons.ensures)
    (is-compacted s.arena c.compact.new.self c.in_ok-moves.moves c.in_ok-moves.ensures.ok s.trail s.watches
    c.move_watches.new.watches s.places c.move_index.new.places s.head s.broken.items s.quiet s.conflict
    c.self.invariant.0
    c.move_watches.ensures.vars c.move_watches.ensures.room c.move_watches.ensures.lists c.move_index.ensures))
