-- a new queue: all variables, the least one last
use Rattle.std.proofs.Common.{◌≡◌, ℕ, ◌+◌, ◌*◌, ◌-◌, ◌<◌, ◌≤◌, List, length, ap, sym, ◌∙◌, arith}
use Rattle.std.specs.Prelude.{slice_index}
use Rattle.gr_heur.specs.Queues.{IsQueue}

-- the variables below `index` stand in slots, the least one last
pub record IsFilled (vars : ℕ) (slots places : List ℕ) (index : ℕ) : Type 0 where
  pub slot_room : length slots ≡ 2 * vars + 64
  pub many : length places ≡ vars
  pub placed : (v : ℕ) → v < index → slice_index places v ≡ vars - 1 - v
  pub filled : (v : ℕ) → v < index → slice_index slots (vars - 1 - v) ≡ v

module _ {vars : ℕ} {slots places : List ℕ} {index : ℕ} (full : IsFilled vars slots places index)
    (whole : vars ≤ index) (few : vars ≤ 1000000) where
  -- each slot has the variable that stands there
  slot_has : (k : ℕ) → k < vars → slice_index slots k ≡ vars - 1 - k
  slot_has k low =
      let back : vars - 1 - (vars - 1 - k) ≡ k = omega (arith, low) in
      ap (slice_index slots) (sym back) ∙ full.filled (vars - 1 - k) (omega (arith, low, whole))

  pub fresh_queue : IsQueue slots places vars
  fresh_queue = record {
    small = omega (arith, full.slot_room, few);
    short = omega (arith, full.slot_room);
    known = λ k low. omega (arith, slot_has k low, low, full.many);
    below = λ v low. omega (arith, full.placed v (omega (arith, low, whole, full.many)), low, full.many);
    stands = λ v low. ap (slice_index slots) (full.placed v (omega (arith, low, whole, full.many)))
        ∙ full.filled v (omega (arith, low, whole, full.many));
  }
