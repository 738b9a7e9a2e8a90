-- the watch at the index
use Rattle.std.proofs.Common.{◌≡◌, ◌<◌, ◌≤◌, ◌+◌, true, All, List, Some, None, take, length, get_or, ap, sym, ◌∙◌, subst, arith}
use Rattle.std.proofs.lemmas.List.{take_all}
use Rattle.gr_trail.specs.Trails.{TrailState, true_in, value_in}
use Rattle.gr_watch.specs.declared.lists.Watch.{Watch}
use Rattle.gr_watch.specs.WatchLists.{list_of}
use Rattle.gr_prop.specs.BaseChanges.{with_forced, IsGrown}
use Rattle.gr_prop.specs.Pairing.{IsPassing}
use Rattle.gr_prop.specs.Watching.{IsOther}
use Rattle.gr_prop.proofs.Keeping.{grown-on}
use Rattle.gr_prop.proofs.WalkSteps.{forced-progress}
use Rattle.gr_prop.proofs.TrailSets.{false-value, true-value, true_in-last}
use Rattle.gr_prop.proofs.Passing.{other-at, other-known, other-false, other-forced, met-more, met-next}
use Rattle.gr_prop.proofs.pairs.pass_list.Goals.{After-index-list-index, in-Some-true, in-None}
use Rattle.gr_prop.proofs.pairs.pass_list.Goals as goal

-- the other literal of a clause stands beside it
other : (c : After-index-list-index) → IsOther c.args.arena.now.clauses c.args.gone c.index-list-index.result
other c = other-at c.args.arena.now.clauses c.loop-index.trail c.args.pairs.now c.args.gone
    c.loop-index.invariant.passing c.list-list.result.now c.loop-index.index c.index-list-index.result
    c.list-list.ensures.list c.loop-index-test.true c.index-list-index.is

known : (c : After-index-list-index) → c.index-list-index.result.blocker.index < c.loop-index.trail.vars
known c = other-known c.args.arena.now.clauses c.loop-index.trail c.args.pairs.now c.args.gone
    c.loop-index.invariant.passing c.index-list-index.result (other c)

pub value-requires : goal.value-requires
value-requires c = known (goal.at.value-requires c).After-index-list-index

pub assign-requires-clause-within : goal.assign-requires-clause-within
assign-requires-clause-within c = known (goal.at.assign-requires-clause-within c).After-index-list-index

pub returns-in-Some-false-clause-falsified : goal.returns-in-Some-false-clause-falsified
returns-in-Some-false-clause-falsified c =
    other-false c.args.arena.now.clauses c.loop-index.trail c.args.pairs.now c.args.gone
    c.loop-index.invariant.passing c.index-list-index.result
    (other (goal.at.returns-in-Some-false-clause-falsified c).After-index-list-index)
    (false-value c.loop-index.trail.assigned c.index-list-index.result.blocker
    (sym c.value.ensures ∙ c.in-Some-false.is ∙ ap Some c.in-Some-false.field-0-test))

-- the other literals of these watches are true
abbrev Met : List Watch → TrailState → Type 0
Met list t = All (λ (w : Watch). true_in t.assigned w.blocker ≡ true) list

pub loop-index-preserved : goal.loop-index-preserved
loop-index-preserved c =
    let w : Watch = c.index-list-index.result in
    let i = c.loop-index.invariant in
    let o = other (goal.at.loop-index-preserved c).After-index-list-index in
    let k = c.args.arena.now.clauses in
    let list = list_of c.args.pairs.now c.args.gone in
    let low : c.loop-index.index < length list =
    subst (λ xs. c.loop-index.index < length xs) c.list-list.ensures.list c.loop-index-test.true in
    let at = c.index-list-index.is ∙ ap (λ xs. get_or xs c.loop-index.index w) c.list-list.ensures.list in
    elim c.match-value.branch [
      | in-Some-true v ↦
          let now = true-value c.loop-index.trail.assigned w.blocker
          (sym c.value.ensures ∙ v.in-Some-true.is ∙ ap Some v.in-Some-true.field-0-test) in
          record {
            within = omega (arith, c.loop-index-test.true);
            passing = subst (λ x. IsPassing k x c.args.pairs.now c.args.gone) (sym v.trail-is) i.passing;
            grown = subst (IsGrown c.args.trail.now) (sym v.trail-is) i.grown;
            met = subst (Met (take (c.loop-index.index + 1) list)) (sym v.trail-is)
                (met-next c.loop-index.trail.assigned list c.loop-index.index w low at now i.met);
          }
      | in-None v ↦
          let t = c.loop-index.trail in
          let free : value_in t.assigned w.blocker ≡ None = sym c.value.ensures ∙ v.in-None.is in
          let is : c.match-value.trail ≡ with_forced t w.blocker w.place = v.trail-is ∙ v.assign.ensures in
          record {
            within = omega (arith, c.loop-index-test.true);
            passing = subst (λ x. IsPassing k x c.args.pairs.now c.args.gone) (sym is)
                (other-forced k t c.args.pairs.now c.args.gone i.passing w o free);
            grown = subst (IsGrown c.args.trail.now) (sym is)
                (grown-on _ t _ i.grown (forced-progress k t w.blocker w.place).grown);
            met = subst (Met (take (c.loop-index.index + 1) list)) (sym is)
                (met-next _ list c.loop-index.index w low at
                (true_in-last t.assigned (record { lit = w.blocker; level = t.depth; reason = Some w.place }))
                (met-more t.assigned _ (take c.loop-index.index list) i.met));
          }
    ]

pub returns-clause-met : goal.returns-clause-met
returns-clause-met c =
    let list = list_of c.args.pairs.now c.args.gone in
    subst (All (λ (w : Watch). true_in c.loop-index.trail.assigned w.blocker ≡ true))
    (take_all c.loop-index.index list (subst (λ xs. length xs ≤ c.loop-index.index) c.list-list.ensures.list
    c.loop-index-test.false)) c.loop-index.invariant.met
