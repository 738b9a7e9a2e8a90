use Rattle.std.proofs.Common.{◌+◌, ◌-◌, [], ◌∷◌, ◌++◌, map, length, ap, ◌∙◌, arith}
use Rattle.std.specs.List.{range_with_len}
use Rattle.std.proofs.lemmas.List.{length-append}
use Rattle.std.proofs.lemmas.List.FromFn.{length-map-range_with_len}
use Rattle.gr_logic.specs.Formulas.{Cnf}
use Rattle.gr_gen.specs.Pigeonholes.{apart}
use Rattle.gr_gen.proofs.Growth.{grows, push-next}
use Rattle.gr_gen.proofs.pigeonholes.push_apart.Goals as goal

pub push-requires-clause-room : goal.push-requires-clause-room
push-requires-clause-room c =
    let others = c.loop-other.other - (c.args.pigeon + 1) in
    let so_far = map (apart c.args.holes c.args.hole c.args.pigeon) (range_with_len (c.args.pigeon + 1) others) in
    let many = ap (λ (f : Cnf). length f.clauses) c.loop-other.invariant
    ∙ length-append c.args.formula.now.clauses so_far in
    let few = length-map-range_with_len (apart c.args.holes c.args.hole c.args.pigeon) (c.args.pigeon + 1) others in
    omega (arith, many, few, c.loop-other-test.true, c.requires.few, c.requires.room)

pub loop-other-preserved : goal.loop-other-preserved
loop-other-preserved c =
    let others = c.loop-other.other - (c.args.pigeon + 1) in
    let each = apart c.args.holes c.args.hole c.args.pigeon in
    let front = c.args.formula.now.clauses in
    grows c.loop-other.formula c.push.new.self c.args.formula.now.vars
    (front ++ map each (range_with_len (c.args.pigeon + 1) others)) (c.in_ok-clause.clause ∷ [])
    (front ++ map each (range_with_len (c.args.pigeon + 1) (c.loop-other.other + 1 - (c.args.pigeon + 1))))
    c.loop-other.invariant c.in_ok-push.ensures.ok
    (push-next front (c.args.pigeon + 1) others c.loop-other.other (c.loop-other.other + 1 - (c.args.pigeon + 1))
    (omega (arith, c.loop-other.auto.other)) (omega (arith, c.loop-other.auto.other)) each c.in_ok-clause.clause
    (c.in_ok-clause.ensures
    ∙ (λ i. c.in_hole-first.ensures.lit i ∷ c.in_hole-second.ensures.lit i ∷ [])))
