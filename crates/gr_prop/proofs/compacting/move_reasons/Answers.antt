use Rattle.std.proofs.Common.{◌≡◌, ◌<◌, length, map, take, drop, ◌++◌, get_or, Some, IsSome, ap, sym, ◌∙◌, subst, arith, refl}
use Rattle.std.specs.Option.{option_map}
use Rattle.gr_trail.specs.Trails.{Assigned, TrailState, with_reason}
use Rattle.gr_prop.specs.BaseChanges.{moved_assigned}
use Rattle.gr_prop.specs.Compactions.{HasMovedReason}
use Rattle.gr_prop.proofs.MovedLists.{AssignedAt, assigned-at, reason-is, still-at, long-as, reason-next, reason-none}
use Rattle.gr_prop.proofs.compacting.move_reasons.Goals.{After-var-var, in-Some, in_default}
use Rattle.gr_prop.proofs.compacting.move_reasons.Goals as goal

-- the trail as far as its reasons were moved
half-moved : (c : After-var-var) → c.loop-index.trail.assigned
    ≡ map (moved_assigned c.args.moves.now) (take c.loop-index.index c.args.trail.now.assigned)
    ++ drop c.loop-index.index c.args.trail.now.assigned
half-moved c = ap (λ (t : TrailState). t.assigned) c.loop-index.invariant.moved

-- what was assigned at the index
assigned : (c : After-var-var) → AssignedAt c.loop-index.trail.assigned c.loop-index.index c.var-var.result
assigned c = assigned-at c.loop-index.trail.assigned c.loop-index.index c.index-lits-index.result c.var-var.result
    c.lits.ensures.trail.distinct
    (subst (λ x. c.loop-index.index < length x) c.lits.ensures.lits c.loop-index-test.true)
    (c.index-lits-index.is ∙ ap (λ ls. get_or ls c.loop-index.index c.index-lits-index.result)
    c.lits-in-loop-index.ensures.lits) c.var-var.ensures.number

-- the index is within the trail as it was
under : (c : After-var-var) → c.loop-index.index < length c.args.trail.now.assigned
under c = subst (λ n. c.loop-index.index < n) (long-as (moved_assigned c.args.moves.now) c.args.trail.now.assigned
    c.loop-index.trail.assigned c.loop-index.index c.loop-index.invariant.within (half-moved c)) (assigned c).low

-- the same was assigned there
was : (c : After-var-var) → (assigned c).item ≡ get_or c.args.trail.now.assigned c.loop-index.index (assigned c).item
was c = (assigned c).at ∙ still-at (moved_assigned c.args.moves.now) c.args.trail.now.assigned
    c.loop-index.trail.assigned c.loop-index.index (assigned c).item (under c) (half-moved c)

pub reason-requires : goal.reason-requires
reason-requires c = subst IsSome (sym (assigned c).found) refl

pub to-requires : goal.to-requires
to-requires c =
    let g = (goal.at.to-requires c).After-var-var in
    let x = assigned g in
    subst (HasMovedReason c.args.moves.now) (sym (was g)) (c.requires.moved c.loop-index.index x.item (under g))
    c.in-Some.place (reason-is x.item _ _ x.found c.reason.ensures ∙ c.in-Some.is)

pub set_reason-requires : goal.set_reason-requires
set_reason-requires c =
    let g = (goal.at.set_reason-requires c).After-var-var in
    let x = assigned g in
    ap (option_map (λ (a : Assigned). a.level)) x.found ∙ ap (λ (a : Assigned). Some a.level) (was g)
    ∙ ap Some (c.requires.ground c.loop-index.index x.item (under g))

pub loop-index-preserved : goal.loop-index-preserved
loop-index-preserved c =
    let g = (goal.at.loop-index-preserved c).After-var-var in
    let x = assigned g in
    let low = under g in
    let cur = c.loop-index.trail.assigned in
    let old = c.args.trail.now.assigned in
    let i = c.loop-index.index in
    let same : x.item.reason ≡ c.reason.result = reason-is x.item _ _ x.found c.reason.ensures in
    record {
      within = omega arith;
      moved = elim c.match-reason.branch [
        | in-Some w ↦
            w.trail-is ∙ w.set_reason.ensures ∙ ap (λ v. record c.loop-index.trail
            { assigned = with_reason cur v w.to.result }) x.var'
            ∙ (λ j. record {
              vars = ap (λ (t : TrailState). t.vars) c.loop-index.invariant.moved j;
              depth = ap (λ (t : TrailState). t.depth) c.loop-index.invariant.moved j;
              assigned = reason-next c.args.moves.now old cur i x.item w.in-Some.place w.to.result low (half-moved g)
                  c.lits.ensures.trail.distinct x.low x.at (same ∙ w.in-Some.is) w.to.ensures j;
            })
        | in_default w ↦
            w.trail-is ∙ (λ j. record {
              vars = ap (λ (t : TrailState). t.vars) c.loop-index.invariant.moved j;
              depth = ap (λ (t : TrailState). t.depth) c.loop-index.invariant.moved j;
              assigned = reason-none c.args.moves.now old cur i x.item low (half-moved g) x.at
                  (same ∙ w.in_default.is) j;
            })
      ];
    }
