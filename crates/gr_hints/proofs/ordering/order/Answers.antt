-- the numbers are sorted now, or found so
use Rattle.std.proofs.Common.{◌≡◌, ℕ, true, List, ◌++◌, take, drop, length, ap, ◌∙◌, subst, arith}
use Rattle.std.specs.List.Sorted.{IsPermutation, IsNonDecreasing}
use Rattle.std.proofs.lemmas.List.{append-nil, drop_all, take_all}
use Rattle.std.proofs.lemmas.List.Sorted.{IsPermutation-trans, length_permutation, IsNonDecreasingBy-from_sort, non_decreasing_from_is_sorted}
use Rattle.gr_hints.proofs.ordering.order.Goals as goal

-- a list of the same length in place of another one
whole : (old new : List ℕ) (n : ℕ) → length old ≡ n → IsPermutation old new
    → take n (new ++ drop (length new) old) ≡ new
whole old new n long perm =
    let same = length_permutation old new perm in
    ap (λ xs. take n (new ++ xs)) (drop_all (length new) old (omega arith))
    ∙ ap (take n) (append-nil new) ∙ take_all n new (omega arith)

pub returns-then-not-is_sorted-clause-permuted : goal.returns-then-not-is_sorted-clause-permuted
returns-then-not-is_sorted-clause-permuted c =
    let old = c.args.positions.now.items in
    let mid = c.sort_front.new.positions in
    let new = c.sort_unstable.new.self.items in
    let perm = subst (λ xs. IsPermutation xs mid) c.as_mut_slice.ensures.value c.sort_front.ensures in
    IsPermutation-trans old mid new perm
    (subst (λ xs. IsPermutation xs new) (whole old mid c.args.positions.now.len (omega arith) perm)
    c.sort_unstable.ensures.permutation)

pub returns-then-not-is_sorted-clause-sorted : goal.returns-then-not-is_sorted-clause-sorted
returns-then-not-is_sorted-clause-sorted c =
    IsNonDecreasingBy-from_sort (λ x. x) c.sort_unstable.new.self.items c.sort_unstable.ensures.sorted

pub returns-else-not-is_sorted-clause-sorted : goal.returns-else-not-is_sorted-clause-sorted
returns-else-not-is_sorted-clause-sorted c =
    subst IsNonDecreasing c.as_slice.ensures.value
    (non_decreasing_from_is_sorted c.as_slice.result.now true c.if-not-is_sorted.ensures.cases)
