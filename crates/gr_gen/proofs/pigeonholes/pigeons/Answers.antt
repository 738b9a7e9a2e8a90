use Rattle.std.proofs.Common.{◌≡◌, ◌+◌, ◌-◌, ◌*◌, [], ◌∷◌, ◌++◌, map, length, refl, sym, ap, ◌∙◌, subst, arith}
use Rattle.std.specs.List.{flat_map, range_with_len}
use Rattle.std.proofs.lemmas.List.FromFn.{length-map-range_with_len}
use Rattle.gr_logic.specs.Formulas.{Cnf}
use Rattle.gr_logic.specs.Truth.{IsUnsatisfiable}
use Rattle.gr_gen.specs.Pigeonholes.{is_somewhere, alone_in}
use Rattle.gr_gen.proofs.Crowded.{crowd-is-unsatisfiable}
use Rattle.gr_gen.proofs.Growth.{grows, push-next, append-next}
use Rattle.gr_gen.proofs.Sizes.{length-crowd}
use Rattle.gr_gen.proofs.pigeonholes.pigeons.Goals as goal

pub push-requires-clause-room : goal.push-requires-clause-room
push-requires-clause-room c =
    let many = ap (λ (f : Cnf). length f.clauses) c.loop-pigeon.invariant
    ∙ length-map-range_with_len (is_somewhere (c.args.n - 1)) 0 c.loop-pigeon.pigeon in
    omega (arith, many, c.loop-pigeon-test.true, c.requires.high)

pub loop-pigeon-preserved : goal.loop-pigeon-preserved
loop-pigeon-preserved c =
    let each = is_somewhere (c.args.n - 1) in
    grows c.loop-pigeon.formula c.push.new.self (c.args.n * (c.args.n - 1))
    (map each (range_with_len 0 c.loop-pigeon.pigeon)) (c.in_ok-clause.clause ∷ [])
    (map each (range_with_len 0 (c.loop-pigeon.pigeon + 1))) c.loop-pigeon.invariant c.in_ok-push.ensures.ok
    (push-next [] 0 c.loop-pigeon.pigeon c.loop-pigeon.pigeon (c.loop-pigeon.pigeon + 1) (omega arith) refl each
    c.in_ok-clause.clause c.in_ok-clause.ensures.clause)

pub push_alone-requires-clause-room : goal.push_alone-requires-clause-room
push_alone-requires-clause-room c =
    let many = ap (λ (f : Cnf). length f.clauses) c.loop-hole.invariant in
    let few = length-crowd (c.args.n - 1) (omega (arith, c.requires.high)) c.args.n c.loop-hole.hole in
    omega (arith, many, few, c.loop-hole-test.true, c.requires.high)

pub loop-hole-preserved : goal.loop-hole-preserved
loop-hole-preserved c =
    let each = alone_in (c.args.n - 1) in
    let front = map (is_somewhere (c.args.n - 1)) (range_with_len 0 c.args.n) in
    grows c.loop-hole.formula c.push_alone.new.formula (c.args.n * (c.args.n - 1))
    (front ++ flat_map each (range_with_len 0 c.loop-hole.hole)) (each c.loop-hole.hole)
    (front ++ flat_map each (range_with_len 0 (c.loop-hole.hole + 1))) c.loop-hole.invariant
    c.in_ok-push_alone.ensures
    (append-next front 0 c.loop-hole.hole c.loop-hole.hole (c.loop-hole.hole + 1) (omega arith) refl each)

pub returns-clause-unsatisfiable : goal.returns-clause-unsatisfiable
returns-clause-unsatisfiable c =
    let holes : c.loop-hole.hole ≡ c.args.n - 1 = omega (arith, c.loop-hole.auto.hole-end, c.loop-hole-test.false) in
    let pigeons : c.args.n ≡ c.args.n - 1 + 1 = omega (arith, c.requires.low) in
    subst (λ (f : Cnf). IsUnsatisfiable f.clauses)
    (sym (c.loop-hole.invariant
    ∙ (λ i. record {
      vars = pigeons i * (c.args.n - 1);
      clauses = map (is_somewhere (c.args.n - 1)) (range_with_len 0 (pigeons i))
          ++ flat_map (alone_in (c.args.n - 1)) (range_with_len 0 (holes i));
    })))
    (crowd-is-unsatisfiable (c.args.n - 1))
