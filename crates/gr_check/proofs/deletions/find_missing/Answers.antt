-- whether the next id is there, and not named before
use Rattle.std.proofs.Common.{◌≡◌, ◌∙◌, ◌+◌, arith, sym, ap, cond, true, false, nat_eq, slice_index_or}
use Rattle.std.specs.List.{list_any}
use Rattle.std.specs.FinMap as finite
use Rattle.gr_check.proofs.Removals.{missing-absent, missing-repeated, missing-later, among-next, among-taken}
use Rattle.gr_check.proofs.deletions.find_missing.Goals as goal

-- no id is there
pub returns-then-not-contains-clause-missing : goal.returns-then-not-contains-clause-missing
returns-then-not-contains-clause-missing c =
    let id = slice_index_or c.args.ids.now c.loop-id.id-index 0 in
    let absent : finite.contains_key c.args.pool.now id ≡ false = cc in
    sym c.loop-id.invariant.same_cause
    ∙ missing-absent c.args.pool.now c.args.ids.now c.loop-id.id-index c.loop-id-test.true absent

pub returns-then-not-contains-clause-leaving : goal.returns-then-not-contains-clause-leaving
returns-then-not-contains-clause-leaving c q some =
    among-taken c.args.ids.now c.loop-id.id-index q (sym (c.loop-id.invariant.leaving q) ∙ some)

-- the id was named before
pub returns-then-not-branch-clause-missing : goal.returns-then-not-branch-clause-missing
returns-then-not-branch-clause-missing c =
    let id = slice_index_or c.args.ids.now c.loop-id.id-index 0 in
    let repeated : list_any (nat_eq id) c.loop-id.leaving.keys ≡ true =
    grind (arith, c.in_ok-insert.ensures.added) in
    sym c.loop-id.invariant.same_cause
    ∙ missing-repeated c.args.pool.now c.args.ids.now c.loop-id.id-index c.loop-id-test.true
    (sym (c.loop-id.invariant.leaving id) ∙ repeated)

pub returns-then-not-branch-clause-leaving : goal.returns-then-not-branch-clause-leaving
returns-then-not-branch-clause-leaving c q some =
    among-taken c.args.ids.now (c.loop-id.id-index + 1) q
    (among-next c.args.ids.now c.loop-id.id-index q c.loop-id-test.true
    ∙ ap (λ b. cond (nat_eq (slice_index_or c.args.ids.now c.loop-id.id-index 0) q) true b)
    (sym (c.loop-id.invariant.leaving q))
    ∙ sym (c.in_ok-insert.ensures.updates.0 q) ∙ some)

pub returns-in_err-insert-clause-leaving : goal.returns-in_err-insert-clause-leaving
returns-in_err-insert-clause-leaving c q some =
    among-taken c.args.ids.now c.loop-id.id-index q
    (sym (c.loop-id.invariant.leaving q)
    ∙ ap (list_any (nat_eq q)) (sym c.in_err-insert.ensures.err) ∙ some)

pub loop-id-preserved : goal.loop-id-preserved
loop-id-preserved c = record {
  leaving = λ q.
      c.in_ok-insert.ensures.updates.0 q
      ∙ ap (λ b. cond (nat_eq (slice_index_or c.args.ids.now c.loop-id.id-index 0) q) true b)
      (c.loop-id.invariant.leaving q)
      ∙ sym (among-next c.args.ids.now c.loop-id.id-index q c.loop-id-test.true);
  same_cause =
      let id = slice_index_or c.args.ids.now c.loop-id.id-index 0 in
      let new : list_any (nat_eq id) c.loop-id.leaving.keys ≡ false =
      grind (arith, c.in_ok-insert.ensures.added) in
      let there : finite.contains_key c.args.pool.now id ≡ true = cc in
      missing-later c.args.pool.now c.args.ids.now c.loop-id.id-index c.loop-id-test.true there
      (sym (c.loop-id.invariant.leaving id) ∙ new)
      ∙ c.loop-id.invariant.same_cause;
}
