-- one more literal passes
use Rattle.std.proofs.Common.{◌≡◌, ◌<◌, false, Option, Some, None, length, get_or, sym, ap, ◌∙◌, subst}
use Rattle.std.specs.Prelude.{IfNone}
use Rattle.std.specs.Option.{is_some}
use Rattle.gr_logic.specs.Literals.{negation}
use Rattle.gr_logic.specs.declared.places.Place.{Place}
use Rattle.gr_trail.specs.Trails.{Assigned}
use Rattle.gr_prop.proofs.Keeping.{grown-on}
use Rattle.gr_prop.proofs.Passing.{list-begins, list-ends}
use Rattle.gr_prop.proofs.Rounds.{lit-at}
use Rattle.gr_prop.proofs.pairs.pass.Goals.{After-negate-gone}
use Rattle.gr_prop.proofs.pairs.pass.Goals as goal

-- the literal at the index
at-index : (c : After-negate-gone) → (x : Assigned) × ((x ≡ get_or c.loop-index.trail.assigned c.loop-index.index x)
    × ((x.lit ≡ c.index-lits-index.result) × (c.loop-index.index < length c.loop-index.trail.assigned)))
at-index c =
    lit-at c.loop-index.trail.assigned c.loop-index.index c.index-lits-index.result
    (subst (λ ls. c.loop-index.index < length ls) c.lits.ensures.lits c.loop-index-test.true)
    (c.index-lits-index.is ∙ ap (λ ls. get_or ls c.loop-index.index c.index-lits-index.result)
    c.lits-in-loop-index.ensures.lits)

none-found : (o : Option Place) (P : Type 0) → is_some o ≡ false → IfNone o P → P
none-found None P e h = h
none-found (Some p) P e h = absurd (cc)

pub pass_list-found-requires : goal.pass_list-found-requires
pass_list-found-requires c =
    let x = at-index (goal.at.pass_list-found-requires c).After-negate-gone in
    list-begins c.args.arena.now.clauses c.loop-index.trail c.args.pairs.now c.loop-index.index x.0
    c.negate-gone.result c.loop-index.invariant.passing x.1.1.1 x.1.0
    (c.negate-gone.ensures ∙ ap negation (sym x.1.1.0))

pub returns-then-is_some-clause-grown : goal.returns-then-is_some-clause-grown
returns-then-is_some-clause-grown c =
    grown-on _ c.loop-index.trail _ c.loop-index.invariant.grown c.pass_list-found.ensures.grown

pub loop-index-preserved : goal.loop-index-preserved
loop-index-preserved c =
    let x = at-index (goal.at.loop-index-preserved c).After-negate-gone in
    let e = c.pass_list-found.ensures in
    record {
      passing = list-ends c.args.arena.now.clauses c.loop-index.trail c.args.pairs.now c.loop-index.index x.0
          c.negate-gone.result c.loop-index.invariant.passing x.1.1.1 x.1.0
          (c.negate-gone.ensures ∙ ap negation (sym x.1.1.0)) c.pass_list-found.new.trail e.grown e.passing
          (none-found c.pass_list-found.result _ (sym c.is_some.ensures ∙ c.if-is_some.false) e.met);
      grown = grown-on _ c.loop-index.trail _ c.loop-index.invariant.grown e.grown;
    }
