use Rattle.std.proofs.Common.{◌+◌, ◌++◌, length, refl, ap, arith}
use Rattle.std.specs.List.{flat_map, range_with_len}
use Rattle.gr_logic.specs.Formulas.{Cnf}
use Rattle.gr_gen.specs.Pigeonholes.{apart_from_later}
use Rattle.gr_gen.proofs.Growth.{grows, append-next}
use Rattle.gr_gen.proofs.Sizes.{length-apart}
use Rattle.gr_gen.proofs.pigeonholes.push_alone.Goals as goal

pub push_apart-requires-clause-room : goal.push_apart-requires-clause-room
push_apart-requires-clause-room c =
    let many = ap (λ (f : Cnf). length f.clauses) c.loop-pigeon.invariant in
    let few = length-apart c.args.holes c.requires.few c.args.formula.now.clauses c.args.hole c.loop-pigeon.pigeon in
    omega (arith, many, few, c.loop-pigeon-test.true, c.requires.few, c.requires.room)

pub loop-pigeon-preserved : goal.loop-pigeon-preserved
loop-pigeon-preserved c =
    let each = apart_from_later c.args.holes c.args.hole in
    let front = c.args.formula.now.clauses in
    grows c.loop-pigeon.formula c.push_apart.new.formula c.args.formula.now.vars
    (front ++ flat_map each (range_with_len 0 c.loop-pigeon.pigeon)) (each c.loop-pigeon.pigeon)
    (front ++ flat_map each (range_with_len 0 (c.loop-pigeon.pigeon + 1)))
    c.loop-pigeon.invariant c.in_ok-push_apart.ensures
    (append-next front 0 c.loop-pigeon.pigeon c.loop-pigeon.pigeon (c.loop-pigeon.pigeon + 1) (omega arith) refl each)
