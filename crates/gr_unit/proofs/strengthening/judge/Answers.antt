use Rattle.std.proofs.Common.{◌∙◌, sym, ap, subst}
use Rattle.gr_logic.specs.Literals.{negation}
use Rattle.gr_logic.specs.Rup.{members}
use Rattle.gr_unit.specs.Closing.{IsClosureOf}
use Rattle.gr_unit.proofs.Verdicts.{conflicting, quiet, absent}
use Rattle.gr_unit.proofs.strengthening.judge.Goals as goal

pub returns-then-is_conflict : goal.returns-then-is_conflict
returns-then-is_conflict c =
    let closure = subst (λ given. IsClosureOf c.args.clauses.now given c.in_ok-derived.derived)
    (c.as_slice.ensures.value ∙ c.in_ok-assumed.ensures) c.in_ok-derived.ensures in
    conflicting c.args.clauses.now c.args.kept.now c.in_ok-derived.derived closure
    (sym c.is_conflict.ensures ∙ c.if-is_conflict.true)

pub returns-then-has : goal.returns-then-has
returns-then-has c =
    let closure = subst (λ given. IsClosureOf c.args.clauses.now given c.in_ok-derived.derived)
    (c.as_slice.ensures.value ∙ c.in_ok-assumed.ensures) c.in_ok-derived.ensures in (
      quiet c.args.clauses.now c.args.kept.now c.in_ok-derived.derived closure
          (sym c.is_conflict.ensures ∙ c.if-is_conflict.false),
      (closure (negation c.args.lit)).0 (ap (members c.in_ok-derived.derived) (sym c.negate.ensures)
          ∙ sym c.has.ensures ∙ c.if-has.true),
    )

pub returns-then-has-2 : goal.returns-then-has-2
returns-then-has-2 c =
    let closure = subst (λ given. IsClosureOf c.args.clauses.now given c.in_ok-derived.derived)
    (c.as_slice.ensures.value ∙ c.in_ok-assumed.ensures) c.in_ok-derived.ensures in (
      quiet c.args.clauses.now c.args.kept.now c.in_ok-derived.derived closure
          (sym c.is_conflict.ensures ∙ c.if-is_conflict.false),
      (closure c.args.lit).0 (sym c.has-2.ensures ∙ c.if-has-2.true),
    )

pub returns : goal.returns
returns c =
    let closure = subst (λ given. IsClosureOf c.args.clauses.now given c.in_ok-derived.derived)
    (c.as_slice.ensures.value ∙ c.in_ok-assumed.ensures) c.in_ok-derived.ensures in (
      quiet c.args.clauses.now c.args.kept.now c.in_ok-derived.derived closure
          (sym c.is_conflict.ensures ∙ c.if-is_conflict.false),
      absent c.args.clauses.now c.args.kept.now c.in_ok-derived.derived (negation c.args.lit) closure
          (ap (members c.in_ok-derived.derived) (sym c.negate.ensures) ∙ sym c.has.ensures ∙ c.if-has.false),
      absent c.args.clauses.now c.args.kept.now c.in_ok-derived.derived c.args.lit closure
          (sym c.has-2.ensures ∙ c.if-has-2.false),
    )
