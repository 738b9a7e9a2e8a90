use Rattle.std.proofs.Common.{◌≡◌, ◌<◌, ◌-◌, ◌+◌, ℕ, true, false, length, set, Some, None, refl, sym, ap, ◌∙◌, subst, arith, length-set, IsSome, is_some}
use Rattle.std.proofs.lemmas.Bool.{false≢true}
use Rattle.gr_logic.specs.Literals.{Literal}
use Rattle.gr_heur.specs.Orders.{OrderState}
use Rattle.gr_search.specs.Deciding.{HoldsOpen}
use Rattle.gr_search.proofs.Undecided.{count_true, count-less, open-without}
use Rattle.gr_search.proofs.choosing.Chooser.next.Goals as goal

pub loop-var-smaller : goal.loop-var-smaller
loop-var-smaller c =
    let present = c.loop-var.self-inside.order.present in
    let out = ap (λ (s : OrderState). s.present) c.in-Some.ensures.out in
    subst (λ p. count_true p < count_true present) (sym out)
    (count-less present (c.in-Some.var - 1) c.in-Some.ensures.picked.is_in.1)

pub loop-var-preserved : goal.loop-var-preserved
loop-var-preserved c =
    let inv = c.loop-var.invariant in
    let kept = inv.kept in
    let present = c.loop-var.self-inside.order.present in
    let index : c.get-lit.result.index ≡ c.in-Some.var - 1 = ap (λ (l : Literal). l.index) c.get-lit.ensures in
    let out : c.pick.new.self.present ≡ set present c.get-lit.result.index false =
    ap (λ (s : OrderState). s.present) c.in-Some.ensures.out ∙ ap (λ n. set present n false) (sym index) in
    let vars : c.pick.new.self.vars ≡ c.loop-var.self-inside.order.vars =
    ap (λ (s : OrderState). s.vars) c.in-Some.ensures.out in
    let long = ap length out ∙ length-set present c.get-lit.result.index false in
    record {
      kept = record {
        few = omega (arith, kept.few, vars);
        known = omega (arith, long, kept.known, vars);
        signed = omega (arith, kept.signed, vars);
        marked = omega (arith, kept.marked, vars);
      };
      sized = omega (arith, long, inv.sized);
      holds = subst (λ p. HoldsOpen p c.args.trail.now.assigned) (sym out)
          (open-without present c.args.trail.now.assigned c.get-lit.result inv.holds
          (λ none. false≢true (sym (ap is_some (c.value.ensures ∙ none)) ∙ c.is_none.ensures
          ∙ ap Rattle.std.proofs.Common.not c.if-is_none.false)));
    }

pub returns-clause-none : goal.returns-clause-none
returns-clause-none c l low none =
    let inv = c.loop-var.invariant in
    let present = c.loop-var.self-inside.order.present in
    let known : l.index < length present = omega (arith, low, inv.sized, c.requires.vars) in
    let here = inv.holds l known none in
    c.in_default.ensures.none.0 refl (l.index + 1)
    (omega arith, subst (λ n. Rattle.std.specs.Prelude.slice_index_or present n false ≡ true) (omega arith) here)
