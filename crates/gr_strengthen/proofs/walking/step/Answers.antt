use Rattle.std.proofs.Common.{◌≡◌, inl, inr, true, [], map, Some, IsSome, sym, ap, ◌∙◌, subst}
use Rattle.std.specs.Option.{option_map}
use Rattle.gr_logic.specs.Literals.{negation}
use Rattle.gr_logic.specs.Rup.{members}
use Rattle.gr_logic.specs.Closure.{DerivesConflict}
use Rattle.gr_trail.specs.Trails.{TrailState, Assigned, true_in, value_in, assigned_to}
use Rattle.gr_prop.specs.Bases.{BaseState, family, decisions, IsUnitClosure}
use Rattle.gr_prop.specs.BaseChanges.{with_decision, Ends}
use Rattle.gr_strengthen.proofs.WalkTrails.{true-value}
use Rattle.gr_strengthen.specs.Walking.{IsSpentAt, AreKeptDecisions}
use Rattle.gr_strengthen.proofs.WalkTrails.{low-stays, decided-push, decided-true, more-true, kept-decisions, kept-more, true-some, has-literal, reason-spent, HasLiteral, some-reason}
use Rattle.gr_strengthen.proofs.walking.step.Goals as goal

pub reason-requires : goal.reason-requires
reason-requires c =
    let t = c.args.base.now.trail in
    let is : true_in t.assigned c.args.lit ≡ true =
    true-value t.assigned c.args.lit (ap (λ (t : TrailState). value_in t.assigned c.args.lit)
    (sym c.trail.ensures.trail)
    ∙ sym c.in-Some-true.ensures ∙ ap Some c.in-Some-true.field-0-test) in
    subst (λ (t : TrailState). IsSome (assigned_to t.assigned c.var.result)) (sym c.trail-in-Some-true.ensures.trail)
    (subst (λ v. IsSome (assigned_to t.assigned v)) (sym c.var.ensures.number) (true-some t.assigned c.args.lit is))

pub unwrap-requires : goal.unwrap-requires
unwrap-requires c =
    let b = c.args.base.now in
    let is : true_in b.trail.assigned c.args.lit ≡ true =
    true-value b.trail.assigned c.args.lit (ap (λ (t : TrailState). value_in t.assigned c.args.lit)
    (sym c.trail.ensures.trail) ∙ sym c.in-Some-true.ensures ∙ ap Some c.in-Some-true.field-0-test) in
    some-reason b c.args.kept.now c.args.lit c.reason.result c.trail.ensures.base c.requires.quiet c.requires.decided
    c.requires.new is
    (ap (λ v. option_map (λ (a : Assigned). a.reason) (assigned_to b.trail.assigned v)) (sym c.var.ensures.number)
    ∙ ap (λ (t : TrailState). option_map (λ (a : Assigned). a.reason) (assigned_to t.assigned c.var.result))
    (sym c.trail-in-Some-true.ensures.trail) ∙ c.reason.ensures)

pub returns-in_ok-push-in-Some-true-clause-stepped : goal.returns-in_ok-push-in-Some-true-clause-stepped
returns-in_ok-push-in-Some-true-clause-stepped c =
    let b = c.args.base.now in
    let u : IsUnitClosure (family b.clauses) (decisions b.trail.assigned) b.trail.assigned =
    c.trail.ensures.base.closed c.requires.quiet in
    let is : true_in b.trail.assigned c.args.lit ≡ true =
    true-value b.trail.assigned c.args.lit (ap (λ (t : TrailState). value_in t.assigned c.args.lit)
    (sym c.trail.ensures.trail) ∙ sym c.in-Some-true.ensures ∙ ap Some c.in-Some-true.field-0-test) in
    let h : HasLiteral b.trail.assigned c.args.lit (Some c.unwrap.result) =
    has-literal b.trail.assigned c.args.lit (Some c.unwrap.result)
    (λ x y. u.no_conflict (inl (c.args.lit, ((u.closure c.args.lit).0 x, (u.closure (negation c.args.lit)).0 y)))) is
    (ap (λ v. option_map (λ (a : Assigned). a.reason) (assigned_to b.trail.assigned v)) (sym c.var.ensures.number)
    ∙ ap (λ (t : TrailState). option_map (λ (a : Assigned). a.reason) (assigned_to t.assigned c.var.result))
    (sym c.trail-in-Some-true.ensures.trail) ∙ c.reason.ensures ∙ ap Some c.unwrap.ensures) in
    record {
      closure = u;
      last = c.in_ok-push-in-Some-true.ensures.ok;
      spent = subst (λ ls. IsSpentAt b ls [] (Some c.unwrap.result)) (sym c.in_ok-push-in-Some-true.ensures.ok)
          (reason-spent b c.args.kept.now c.args.lit c.unwrap.result c.trail.ensures.base h is);
      decided = subst (λ ls. AreKeptDecisions b.trail.assigned ls) (sym c.in_ok-push-in-Some-true.ensures.ok)
          (kept-more b.trail.assigned c.args.kept.now c.args.lit
          (kept-decisions b.trail.assigned c.args.kept.now c.requires.decided));
      by = inl is;
    }

pub returns-in-Quiet-clause-ground : goal.returns-in-Quiet-clause-ground
returns-in-Quiet-clause-ground c =
    low-stays c.args.base.now.trail c.decide.new.self.trail c.propagate.new.self.trail (negation c.args.lit)
    (ap (λ (b : BaseState). b.trail) c.decide.ensures ∙ ap (with_decision c.args.base.now.trail) c.negate.ensures)
    c.propagate.ensures.grown

pub returns-in-Quiet-clause-stepped : goal.returns-in-Quiet-clause-stepped
returns-in-Quiet-clause-stepped c =
    let b = c.args.base.now in
    let d : c.decide.new.self.trail ≡ with_decision b.trail (negation c.args.lit) =
    ap (λ (b : BaseState). b.trail) c.decide.ensures ∙ ap (with_decision b.trail) c.negate.ensures in
    let ends = subst (λ p. Ends p c.propagate.new.self) c.in-Quiet.is c.in_ok-propagate-in-None.ensures.ends in
    record {
      closure = c.trail.ensures.base.closed c.requires.quiet;
      quiet = ends.0;
      decided = decided-push b.trail c.decide.new.self.trail c.propagate.new.self.trail c.args.kept.now c.args.lit d
          c.propagate.ensures.decisions c.requires.decided
          ∙ ap (map negation) (sym c.in_ok-push-in-None.ensures.ok);
      more = more-true b.trail c.decide.new.self.trail c.propagate.new.self.trail (negation c.args.lit) d
          c.propagate.ensures.grown;
      false' = decided-true b.trail c.decide.new.self.trail c.propagate.new.self.trail (negation c.args.lit) d
          c.propagate.ensures.grown;
      by = inr (
        ap (λ (t : TrailState). value_in t.assigned c.args.lit) (sym c.trail.ensures.trail)
            ∙ sym c.in-None.ensures,
        c.in_ok-push-in-None.ensures.ok,
      );
    }

pub returns-in-Conflict-clause-ground : goal.returns-in-Conflict-clause-ground
returns-in-Conflict-clause-ground c =
    low-stays c.args.base.now.trail c.decide.new.self.trail c.propagate.new.self.trail (negation c.args.lit)
    (ap (λ (b : BaseState). b.trail) c.decide.ensures ∙ ap (with_decision c.args.base.now.trail) c.negate.ensures)
    c.propagate.ensures.grown

pub returns-in-Conflict-clause-stepped : goal.returns-in-Conflict-clause-stepped
returns-in-Conflict-clause-stepped c =
    let b = c.args.base.now in
    let n = c.propagate.new.self in
    let d : c.decide.new.self.trail ≡ with_decision b.trail (negation c.args.lit) =
    ap (λ (b : BaseState). b.trail) c.decide.ensures ∙ ap (with_decision b.trail) c.negate.ensures in
    let ends = subst (λ p. Ends p n) c.in-Conflict.is c.in_ok-propagate-in-None.ensures.ends in
    let pushed : decisions n.trail.assigned ≡ map negation c.push-in-None.new.self =
    decided-push b.trail c.decide.new.self.trail n.trail c.args.kept.now c.args.lit d
    c.propagate.ensures.decisions c.requires.decided ∙ ap (map negation) (sym c.in_ok-push-in-None.ensures.ok) in
    record {
      closure = c.trail.ensures.base.closed c.requires.quiet;
      last = c.in_ok-push-in-None.ensures.ok;
      spent = (ends.2.0, ends.2.1.0, λ q m. inl (ends.2.1.1 q m));
      decided = kept-decisions n.trail.assigned c.push-in-None.new.self pushed;
      by = inr (
        ap (λ (t : TrailState). value_in t.assigned c.args.lit) (sym c.trail.ensures.trail)
            ∙ sym c.in-None.ensures,
        subst (λ ls. DerivesConflict (family n.clauses) (members ls)) pushed ends.3,
      );
    }
