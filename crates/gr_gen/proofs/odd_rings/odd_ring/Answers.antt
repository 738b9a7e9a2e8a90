use Rattle.std.proofs.Common.{◌≡◌, ◌+◌, ◌-◌, ◌++◌, [], length, refl, sym, ap, subst, arith}
use Rattle.gr_logic.specs.Formulas.{Cnf}
use Rattle.gr_logic.specs.Truth.{IsUnsatisfiable}
use Rattle.gr_gen.specs.OddRings.{chain, differ, ring}
use Rattle.gr_gen.proofs.Alternating.{odd-ring-is-unsatisfiable}
use Rattle.gr_gen.proofs.Growth.{grows, append-next}
use Rattle.gr_gen.proofs.Sizes.{length-chain}
use Rattle.gr_gen.proofs.odd_rings.odd_ring.Goals as goal

pub push_differ-requires-clause-room : goal.push_differ-requires-clause-room
push_differ-requires-clause-room c =
    let many = ap (λ (f : Cnf). length f.clauses) c.loop-i.invariant in
    let few = length-chain c.loop-i.i in
    omega (arith, c.loop-i-test.true, c.requires.high)

pub loop-i-preserved : goal.loop-i-preserved
loop-i-preserved c =
    grows c.loop-i.formula c.push_differ.new.formula c.args.n (chain c.loop-i.i)
    (differ c.loop-i.i (c.loop-i.i + 1)) (chain (c.loop-i.i + 1)) c.loop-i.invariant c.in_ok-push_differ.ensures
    (append-next [] 0 c.loop-i.i c.loop-i.i (c.loop-i.i + 1) (omega arith) refl (λ i. differ i (i + 1)))

pub push_differ-requires-2-clause-room : goal.push_differ-requires-2-clause-room
push_differ-requires-2-clause-room c =
    let many = ap (λ (f : Cnf). length f.clauses) c.loop-i.invariant in
    let few = length-chain c.loop-i.i in
    omega (arith, c.loop-i.auto.i-end, c.requires.high)

pub returns-clause-unsatisfiable : goal.returns-clause-unsatisfiable
returns-clause-unsatisfiable c =
    let last : c.loop-i.i ≡ c.args.n - 1 = omega (arith, c.loop-i.auto.i-end, c.loop-i-test.false) in
    subst (λ (f : Cnf). IsUnsatisfiable f.clauses)
    (sym (grows c.loop-i.formula c.push_differ-2.new.formula c.args.n (chain c.loop-i.i) (differ (c.args.n - 1) 0)
    (ring c.args.n).clauses c.loop-i.invariant c.in_ok-push_differ-2.ensures
    (ap (λ k. chain k ++ differ (c.args.n - 1) 0) last)))
    (odd-ring-is-unsatisfiable c.args.n c.requires.odd)
