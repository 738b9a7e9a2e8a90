-- a step of the walk
use Rattle.std.proofs.Common.{◌≡◌, ◌<◌, length, refl, sym, ap, ◌∙◌, arith}
use Rattle.std.proofs.lemmas.List.{get_or_default}
use Rattle.std.specs.List.{swap_remove}
use Rattle.gr_prop.specs.declared.visits.Ending.TheVariants.{Stays, Moves}
use Rattle.gr_prop.proofs.Stepping.{IsWalked, at-ending, stays-step, moves-step}
use Rattle.gr_prop.proofs.walks.walk.Goals.{After-as_slice-in-loop-index, in-Stays, in-Moves}

-- the walk went on by the visit of a watch
pub stepped : (c : After-as_slice-in-loop-index) → IsWalked c.args.arena.now.clauses c.visit.new.arena.clauses
    c.args.trail.now c.visit.new.trail c.visit.new.watches c.match-branch-2.list.items c.args.gone
    c.match-branch-2.index
stepped c =
    let low : c.loop-index.index < length c.loop-index.list.items = omega arith in
    let i = c.loop-index.invariant in
    elim c.match-branch-2.branch [
      | in-Stays w ↦
          let v = at-ending _ (Stays w.in-Stays.blocker) c.loop-index.arena.clauses c.visit.new.arena.clauses
          c.loop-index.trail c.visit.new.trail c.loop-index.watches c.visit.new.watches
          c.index.result.now.place.0 c.args.gone w.in-Stays.is c.in_ok-blocker.ensures.ok in
          stays-step c.args.arena.now.clauses c.loop-index.arena.clauses c.visit.new.arena.clauses c.args.trail.now
          c.loop-index.trail c.visit.new.trail c.loop-index.watches c.visit.new.watches c.loop-index.list.items
          c.args.gone c.loop-index.index c.index.result.now
          (record { walking = i.walking; progress = i.progress; visited = i.visited; within = i.within }) low
          c.index.ensures
          w.in-Stays.blocker (record { place = c.index.result.now.place; blocker = w.in-Stays.blocker })
          c.match-branch-2.list.items c.match-branch-2.index v refl refl (ap (λ l. l.items) w.list-is) w.index-is
      | in-Moves w ↦
          let v = at-ending _ Moves c.loop-index.arena.clauses c.visit.new.arena.clauses c.loop-index.trail
          c.visit.new.trail c.loop-index.watches c.visit.new.watches c.index.result.now.place.0 c.args.gone
          w.in-Moves.is c.in_ok-blocker.ensures.ok in
          let same : w.swap_remove.result ≡ c.index.result.now = w.swap_remove.ensures.value ∙ get_or_default
          c.loop-index.list.items c.loop-index.index w.swap_remove.result c.index.result.now low ∙ sym
          c.index.ensures in
          moves-step c.args.arena.now.clauses c.loop-index.arena.clauses c.visit.new.arena.clauses c.args.trail.now
          c.loop-index.trail c.visit.new.trail c.loop-index.watches c.visit.new.watches c.loop-index.list.items
          c.args.gone c.loop-index.index c.index.result.now
          (record { walking = i.walking; progress = i.progress; visited = i.visited; within = i.within }) low
          c.index.ensures
          c.match-branch-2.list.items c.match-branch-2.index v
          (ap (λ l. l.items) w.list-is ∙ w.swap_remove.ensures.items ∙ ap
          (swap_remove c.loop-index.list.items c.loop-index.index) same) w.index-is
    ]
