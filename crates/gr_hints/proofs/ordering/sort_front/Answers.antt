-- what is not sorted stays
use Rattle.std.proofs.Common.{◌++◌, drop, take, subst}
use Rattle.std.specs.List.Sorted.{IsPermutation}
use Rattle.std.proofs.lemmas.List.{take-append-drop}
use Rattle.std.proofs.lemmas.List.Sorted.{IsPermutation-append_left}
use Rattle.gr_hints.proofs.ordering.sort_front.Goals as goal

pub returns : goal.returns
returns c =
    let numbers = c.args.positions.now in
    let front = c.sort_unstable.new.self in
    subst (λ xs. IsPermutation xs (front ++ drop c.args.below numbers)) (take-append-drop c.args.below numbers)
    (IsPermutation-append_left (drop c.args.below numbers) (take c.args.below numbers) front
    c.sort_unstable.ensures.permutation)
