use Rattle.std.proofs.Common.{◌≡◌, ◌≢◌, ◌<◌, ◌≤◌, All, length, get_or, Option, Some, IsSome, refl, sym, ap, ◌∙◌, subst, arith}
use Rattle.std.proofs.lemmas.List.{length-map, take_all}
use Rattle.std.proofs.lemmas.List.Elements.{All-more}
use Rattle.std.specs.Option.{unwrap_or}
use Rattle.gr_logic.specs.declared.places.Place.{Place}
use Rattle.gr_trail.specs.Trails.{Assigned}
use Rattle.gr_prop.proofs.MovedLists.{AssignedAt, assigned-at, reason-is}
use Rattle.gr_prop.proofs.tests.calls.forced_by.Goals.{After-var-var, in-Some+else-reason-place, in_default}
use Rattle.gr_prop.proofs.tests.calls.forced_by.Goals as goal

-- what was assigned at the index
assigned : (c : After-var-var) → AssignedAt c.args.trail.now.assigned c.loop-index.index c.var-var.result
assigned c = assigned-at c.args.trail.now.assigned c.loop-index.index c.index-lits-index.result c.var-var.result
    c.lits-lits.ensures.trail.distinct
    (subst (λ ls. c.loop-index.index < length ls) c.lits-lits.ensures.lits c.loop-index-test.true)
    (c.index-lits-index.is ∙ ap (λ ls. get_or ls c.loop-index.index c.index-lits-index.result)
    c.lits-lits.ensures.lits) c.var-var.ensures.number

pub reason-requires : goal.reason-requires
reason-requires c = subst IsSome (sym (assigned c).found) refl

pub loop-index-preserved : goal.loop-index-preserved
loop-index-preserved c =
    let x = assigned (goal.at.loop-index-preserved c).After-var-var in
    let same : x.item.reason ≡ c.reason.result = reason-is x.item _ _ x.found c.reason.ensures in
    let other : x.item.reason ≢ Some c.args.place =
    elim c.match-reason.branch [
      | in-Some+else-reason-place w ↦ λ e. w.if-reason-place.false (ap (λ (o : Option Place). (unwrap_or {T = Place} o
          c.args.place).0) (sym w.in-Some.is ∙ sym same ∙ e))
      | in_default w ↦ λ e. absurd (let f = sym w.in_default.is ∙ sym same ∙ e in cc)
    ] in
    record {
      within = omega (arith, x.low);
      others = All-more (λ (a : Assigned). a.reason ≢ Some c.args.place) c.args.trail.now.assigned c.loop-index.index
          x.item x.low c.loop-index.invariant.others
          (subst (λ (a : Assigned). a.reason ≢ Some c.args.place) x.at other);
    }

pub returns : goal.returns
returns c =
    let end : length c.args.trail.now.assigned ≤ c.loop-index.index =
    subst (λ n. n ≤ c.loop-index.index) (ap length c.lits-lits.ensures.lits ∙ length-map c.args.trail.now.assigned
    (λ x. x.lit)) c.loop-index-test.false in
    subst (All (λ (a : Assigned). a.reason ≢ Some c.args.place)) (take_all c.loop-index.index c.args.trail.now.assigned
    end) c.loop-index.invariant.others
