use Rattle.std.proofs.Common.{◌≡◌, ◌-◌, ◌<◌, ◌+◌, ℕ, true, length, take, get_or, refl, sym, ap, ◌∙◌, subst, arith, length-set}
use Rattle.std.proofs.Math.Seq.{take-length}
use Rattle.gr_logic.specs.Literals.{Literal}
use Rattle.gr_trail.specs.Trails.{up_to}
use Rattle.gr_search.specs.Deciding.{HoldsOpen}
use Rattle.gr_heur.specs.Orders.{OrderState}
use Rattle.gr_search.proofs.Undecided.{IsOpenFor, open-lits, lits-open, open-step, lacks-up}
use Rattle.gr_search.proofs.TrailLiterals.{stands, is-assigned, known-at, low-before}
use Rattle.gr_search.proofs.choosing.Chooser.go_back.Goals as goal

pub loop-index-init : goal.loop-index-init
loop-index-init c =
    let undecided = subst (λ p. HoldsOpen p c.args.trail.now.assigned) (sym c.self.view_is) c.requires.undecided in
    record {
      kept = c.self.invariant;
      sized = ap length c.self.view_is;
      within = omega arith;
      holds = subst (IsOpenFor c.self.inside.order.present)
          (sym c.lits-lits.ensures.lits ∙ sym (take-length c.lits-lits.result.now))
          (open-lits c.self.inside.order.present c.args.trail.now.assigned undecided);
    }

pub level-requires : goal.level-requires
level-requires c =
    is-assigned c.args.trail.now (c.loop-index.index - 1) c.index-lits-index.result c.var.result
    c.lits-lits.ensures.trail
    (stands c.args.trail.now.assigned c.lits-lits.result.now (c.loop-index.index - 1) c.index-lits-index.result
    c.lits-lits.ensures.lits (let inv = c.loop-index.invariant.within in omega arith) c.index-lits-index.is)
    c.var.ensures.number

pub returns-then-level-clause-undecided : goal.returns-then-level-clause-undecided
returns-then-level-clause-undecided c =
    let within = c.loop-index.invariant.within in
    let at = stands c.args.trail.now.assigned c.lits-lits.result.now (c.loop-index.index - 1) c.index-lits-index.result
    c.lits-lits.ensures.lits (omega arith) c.index-lits-index.is in
    let low = low-before c.args.trail.now (c.loop-index.index - 1) c.index-lits-index.result c.var.result c.level.result
    c.args.level c.lits-lits.ensures.trail at c.var.ensures.number c.level.ensures c.if-level.true in
    lits-open c.loop-index.self-inside.order.present (up_to c.args.level c.args.trail.now.assigned)
    (λ j known free. c.loop-index.invariant.holds j known
    (subst (λ ls. Rattle.gr_trail.proofs.Truths.Lacks (take c.loop-index.index ls) j) (sym c.lits-lits.ensures.lits)
    (lacks-up c.args.level c.args.trail.now.assigned c.loop-index.index j
    (λ k a lt. low k a (omega (arith, lt))) free)))

pub put_back-requires-clause-high : goal.put_back-requires-clause-high
put_back-requires-clause-high c =
    let inv = c.loop-index.invariant in
    let within = inv.within in
    let known = known-at c.args.trail.now c.lits-lits.result.now (c.loop-index.index - 1) c.index-lits-index.result
    c.lits-lits.ensures.trail c.lits-lits.ensures.lits (omega arith) c.index-lits-index.is in
    omega (arith, known, c.requires.vars, inv.sized, inv.kept.known, c.var-in-loop-index.ensures.number)

pub save-requires : goal.save-requires
save-requires c =
    let inv = c.loop-index.invariant in
    let within = inv.within in
    let known = known-at c.args.trail.now c.lits-lits.result.now (c.loop-index.index - 1) c.index-lits-index.result
    c.lits-lits.ensures.trail c.lits-lits.ensures.lits (omega arith) c.index-lits-index.is in
    omega (arith, known, c.requires.vars, inv.sized, inv.kept.known, inv.kept.signed)

pub loop-index-preserved : goal.loop-index-preserved
loop-index-preserved c =
    let inv = c.loop-index.invariant in
    let kept = inv.kept in
    let within = inv.within in
    let ls = c.lits-lits.result.now in
    let lit = c.index-lits-index.result in
    let i = c.loop-index.index - 1 in
    let known = known-at c.args.trail.now ls i lit c.lits-lits.ensures.trail c.lits-lits.ensures.lits (omega arith)
    c.index-lits-index.is in
    let present = c.loop-index.self-inside.order.present in
    let put : c.put_back.new.self.present ≡ Rattle.std.proofs.Common.set present lit.index true =
    ap (λ (s : OrderState). s.present) c.put_back.ensures
    ∙ ap (λ n. Rattle.std.proofs.Common.set present n true)
    (let e = c.var-in-loop-index.ensures.number in omega arith) in
    let vars : c.put_back.new.self.vars ≡ c.loop-index.self-inside.order.vars =
    ap (λ (s : OrderState). s.vars) c.put_back.ensures in
    let long = ap length put ∙ length-set present lit.index true in
    let signs = ap length c.save.ensures ∙ length-set c.loop-index.self-inside.phases lit.index lit.positive in
    record {
      kept = record {
        few = omega (arith, kept.few, vars);
        known = omega (arith, long, kept.known, vars);
        signed = omega (arith, signs, kept.signed, vars);
        marked = omega (arith, kept.marked, vars);
      };
      sized = omega (arith, long, inv.sized);
      within = omega (arith, within);
      holds =
          let low : lit.index < length present = omega (arith, known, c.requires.vars, inv.sized) in
          let same : lit ≡ get_or ls i lit = c.index-lits-index.is in
          let next : IsOpenFor present (take (i + 1) ls) =
          subst (λ n. IsOpenFor present (take n ls)) (omega arith) inv.holds in
          let step = open-step present ls i lit (omega arith)
          (subst (λ (q : Literal). q.index < length present) same low) next in
          subst (λ p. IsOpenFor p (take i ls))
          (sym (put ∙ ap (λ (q : Literal). Rattle.std.proofs.Common.set present q.index true) same)) step;
    }
