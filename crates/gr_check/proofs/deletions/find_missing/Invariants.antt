-- the ids so far
use Rattle.std.proofs.Common.{◌≡◌, ℕ, nat_eq, take, drop}
use Rattle.std.specs.List.{list_any}
use Rattle.gr_logic.specs.Log.{missing, without}
use Rattle.gr_check.proofs.deletions.find_missing.Given as goal

abbrev pub invariant-loop-id : goal.invariant-loop-id
invariant-loop-id l = record {
  -- the ids so far are leaving, and no others
  leaving : (q : ℕ)
      → list_any (nat_eq q) l.leaving.keys ≡ list_any (nat_eq q) (take l.id-index l.ids);
  same_cause : missing (without l.pool (take l.id-index l.ids)) (drop l.id-index l.ids)
      ≡ missing l.pool l.ids;
}
