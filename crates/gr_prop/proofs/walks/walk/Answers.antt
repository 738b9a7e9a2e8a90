use Rattle.std.proofs.Common.{◌<◌, length, arith}
use Rattle.gr_prop.specs.declared.visits.Ending.TheVariants.{Fails}
use Rattle.gr_prop.proofs.WalkSteps.{walked-watched, walked-there, none-visited, progress-itself}
use Rattle.gr_prop.proofs.Stepping.{IsWalked, at-ending, cut-walking, cut-progress, passed, blockers-known}
use Rattle.gr_prop.proofs.walks.walk.Answers.Steps.{stepped}
use Rattle.gr_prop.proofs.walks.walk.Goals.{After-as_slice-in-loop-index}
use Rattle.gr_prop.proofs.walks.walk.Goals as goal
mod Steps

pub next_open-index-requires-clause-known : goal.next_open-index-requires-clause-known
next_open-index-requires-clause-known c =
    blockers-known c.args.arena.now.clauses c.args.trail.now c.args.watches.now c.args.list.now.items
    c.as_slice.result.now c.args.gone c.requires c.as_slice.ensures.value

pub loop-index-init : goal.loop-index-init
loop-index-init c =
    let first : IsWalked c.args.arena.now.clauses c.args.arena.now.clauses c.args.trail.now c.args.trail.now
    c.args.watches.now c.args.list.now.items c.args.gone 0 = record {
      walking = c.requires;
      progress = progress-itself c.args.arena.now.clauses c.args.trail.now;
      visited = none-visited c.args.arena.now.clauses c.args.trail.now.assigned c.args.list.now.items;
      within = omega arith;
    } in
    let on = passed c.args.arena.now.clauses c.args.arena.now.clauses c.args.trail.now c.args.trail.now
    c.args.watches.now c.args.list.now.items c.as_slice.result.now c.args.gone 0 c.next_open-index.result
    first c.as_slice.ensures.value c.next_open-index.ensures.low c.next_open-index.ensures.high
    c.next_open-index.ensures.blocked in
    record { walking = on.walking; progress = on.progress; visited = on.visited; within = on.within }

pub visit-requires-clause-there : goal.visit-requires-clause-there
visit-requires-clause-there c =
    let low : c.loop-index.index < length c.loop-index.list.items = omega arith in
    walked-there c.loop-index.arena.clauses c.loop-index.trail c.loop-index.watches c.loop-index.list.items
    c.args.gone c.loop-index.invariant.walking
    c.loop-index.index c.index.result.now low c.index.ensures

pub visit-requires-clause-watched : goal.visit-requires-clause-watched
visit-requires-clause-watched c =
    let low : c.loop-index.index < length c.loop-index.list.items = omega arith in
    walked-watched c.loop-index.arena.clauses c.loop-index.trail c.loop-index.watches c.loop-index.list.items
    c.args.gone c.loop-index.invariant.walking
    c.loop-index.index c.index.result.now low c.index.ensures

pub returns-in_err-blocker-clause-walking : goal.returns-in_err-blocker-clause-walking
returns-in_err-blocker-clause-walking c =
    let v = c.in_err-blocker.ensures.err in
    cut-walking c.loop-index.arena.clauses _ c.loop-index.trail _ c.loop-index.watches _ c.loop-index.list.items
    c.args.gone c.index.result.now.place.0
    v.reordered v.turned v.trail v.lists c.loop-index.invariant.walking

pub returns-in_err-blocker-clause-progress : goal.returns-in_err-blocker-clause-progress
returns-in_err-blocker-clause-progress c =
    let v = c.in_err-blocker.ensures.err in
    cut-progress _ c.loop-index.arena.clauses _ _ c.loop-index.trail _ c.args.gone c.index.result.now.place.0
    v.reordered v.turned v.trail c.loop-index.invariant.progress

pub returns-in-Fails-clause-walking : goal.returns-in-Fails-clause-walking
returns-in-Fails-clause-walking c =
    let v = at-ending _ Fails c.loop-index.arena.clauses c.visit.new.arena.clauses c.loop-index.trail
    c.visit.new.trail c.loop-index.watches c.visit.new.watches c.index.result.now.place.0 c.args.gone
    c.in-Fails.is c.in_ok-blocker.ensures.ok in
    cut-walking c.loop-index.arena.clauses _ c.loop-index.trail _ c.loop-index.watches _ c.loop-index.list.items
    c.args.gone c.index.result.now.place.0
    v.reordered v.turned v.trail v.lists c.loop-index.invariant.walking

pub returns-in-Fails-clause-progress : goal.returns-in-Fails-clause-progress
returns-in-Fails-clause-progress c =
    let v = at-ending _ Fails c.loop-index.arena.clauses c.visit.new.arena.clauses c.loop-index.trail
    c.visit.new.trail c.loop-index.watches c.visit.new.watches c.index.result.now.place.0 c.args.gone
    c.in-Fails.is c.in_ok-blocker.ensures.ok in
    cut-progress _ c.loop-index.arena.clauses _ _ c.loop-index.trail _ c.args.gone c.index.result.now.place.0
    v.reordered v.turned v.trail c.loop-index.invariant.progress

pub next_open-index-requires-in-loop-index-clause-known : goal.next_open-index-requires-in-loop-index-clause-known
next_open-index-requires-in-loop-index-clause-known c =
    let g = (goal.at.next_open-index-requires-in-loop-index-clause-known c).After-as_slice-in-loop-index in
    blockers-known c.visit.new.arena.clauses c.visit.new.trail c.visit.new.watches c.match-branch-2.list.items
    c.as_slice-in-loop-index.result.now c.args.gone (stepped g).walking c.as_slice-in-loop-index.ensures.value

pub loop-index-preserved : goal.loop-index-preserved
loop-index-preserved c =
    let now = stepped (goal.at.loop-index-preserved c).After-as_slice-in-loop-index in
    let on = passed c.args.arena.now.clauses c.visit.new.arena.clauses c.args.trail.now c.visit.new.trail
    c.visit.new.watches c.match-branch-2.list.items c.as_slice-in-loop-index.result.now c.args.gone
    c.match-branch-2.index c.next_open-index-in-loop-index.result
    now c.as_slice-in-loop-index.ensures.value c.next_open-index-in-loop-index.ensures.low
    c.next_open-index-in-loop-index.ensures.high c.next_open-index-in-loop-index.ensures.blocked in
    record { walking = on.walking; progress = on.progress; visited = on.visited; within = on.within }
