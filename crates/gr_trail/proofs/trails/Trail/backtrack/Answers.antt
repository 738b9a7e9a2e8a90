-- what is above the level is taken back
use Rattle.std.proofs.Common.{ap, sym, ◌∙◌, arith, take, drop, ◌-◌, ◌+◌, ◌*◌, ◌<◌, length, All, subst}
use Rattle.gr_trail.specs.Columns.{cleared}
use Rattle.gr_trail.proofs.Backs.{same_level, start_fits, start_within, backed_stored, backed_seen, lits_known}
use Rattle.gr_trail.proofs.trails.Trail.backtrack.Goals as goal

pub returns-then-level-self : goal.returns-then-level-self
returns-then-level-self c = same_level c.self.invariant c.self.view_is c.args.level c.requires
    c.if-level-self.true

pub index-requires : goal.index-requires
index-requires c = omega (
  arith,
  start_fits c.self.invariant c.self.view_is c.args.level c.requires
      c.if-level-self.false,
)

pub slice_bounds-clear-count : goal.slice_bounds-clear-count
slice_bounds-clear-count c = omega (
  arith,
  start_within c.self.invariant c.self.view_is c.args.level
      c.requires c.if-level-self.false c.index.result.now c.index.ensures,
)

pub slice_bounds-clear-start : goal.slice_bounds-clear-start
slice_bounds-clear-start c = omega (
  arith,
  start_within c.self.invariant c.self.view_is c.args.level
      c.requires c.if-level-self.false c.index.result.now c.index.ensures,
)

pub clear-requires : goal.clear-requires
clear-requires c =
    subst (λ ls. All (λ q. 2 * q.index + 1 < length c.self.inside.values.items)
    (take (c.self.inside.len - c.index.result.now) (drop c.index.result.now ls)))
    (sym c.as_slice.ensures.value)
    (lits_known c.self.invariant c.self.view_is c.args.level c.requires c.if-level-self.false
    c.index.result.now c.index.ensures)

pub invariant_of-self : goal.invariant_of-self
invariant_of-self c =
    backed_stored c.self.invariant c.self.view_is c.args.level c.requires c.if-level-self.false
    c.index.result.now c.index.ensures
    (c.clear.ensures ∙ ap (λ ls. cleared c.self.inside.values.items
    (take (c.self.inside.len - c.index.result.now) (drop c.index.result.now ls)))
    c.as_slice.ensures.value)

pub returns : goal.returns
returns c = backed_seen c.self.invariant c.self.view_is c.args.level c.requires
    c.if-level-self.false c.index.result.now c.index.ensures
