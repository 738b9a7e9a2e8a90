-- a bit that is written
use Rattle.std.proofs.Common.{◌≡◌, ◌≢◌, ℕ, ◌<◌, ◌*◌, ◌^◌, ◌%◌, Bool, true, false, cond, nat_eq, if◌then◌else◌, refl}
use Rattle.std.proofs.Common.{sym, ap, ◌∙◌, arith}
use Rattle.std.specs.Int.{bit_at, bit_not, w16}
use Rattle.std.specs.Prelude.{bit_and, bit_or}
use Rattle.std.proofs.lemmas.Bool.Decides.{nat_tests}
use Rattle.std.proofs.lemmas.Nat.Bits.{bit_at_set_same, bit_at_set_other, bit_at_clear_same, bit_at_clear_other}
use Rattle.std.proofs.lemmas.Nat.Bits.{bit_at-lt}
use Rattle.gr_hold.specs.Words.{IsWritten}

-- one bit is so, and each other is as it was
one_bit : (old new at bit : ℕ) → bit_at new at ≡ bit
    → ((i : ℕ) → i < 11 → i ≢ at → bit_at new i ≡ bit_at old i) → IsWritten old new at bit
one_bit old new at bit here others i low = pick (nat_eq i at) refl
  where
    pick : (b : Bool) → nat_eq i at ≡ b → bit_at new i ≡ (if b then bit else bit_at old i)
    pick true e =
        let same : i ≡ at = grind (arith, nat_tests) in
        ap (bit_at new) same ∙ here
    pick false e =
        others i low (λ same.
        let apart : nat_eq at at ≡ false = ap (λ k. nat_eq k at) (sym same) ∙ e in
        grind (arith, nat_tests))

pub set_bit : (word at : ℕ) → at < 11
    → IsWritten word (bit_or word (1 * 2 ^ at % 65536)) at 1
set_bit word at low =
    one_bit word _ at 1 (bit_at_set_same w16 word at (omega arith))
    (λ i _ apart. bit_at_set_other w16 word at (omega arith) i apart)

pub cleared_bit : (word at : ℕ) → at < 11
    → IsWritten word (bit_and word (bit_not w16 (1 * 2 ^ at % 65536))) at 0
cleared_bit word at low =
    one_bit word _ at 0 (bit_at_clear_same w16 word at (omega arith))
    (λ i within apart. bit_at_clear_other w16 word at (omega arith) i (omega arith) apart)

-- a bit is one or nothing
pub counted : (word i : ℕ) → cond (nat_eq (bit_at word i) 1) 1 0 ≡ bit_at word i
counted word i = bits (bit_at word i) (bit_at-lt word i)
  where
    bits : (n : ℕ) → n < 2 → cond (nat_eq n 1) 1 0 ≡ n
    bits n low = grind (arith, nat_tests)

-- the same of equal numbers
pub written_as : (old same new at place bit : ℕ) → old ≡ same → at ≡ place → IsWritten old new at bit
    → IsWritten same new place bit
written_as old same new at place bit is there written i low =
    written i low ∙ (λ j. if nat_eq i (there j) then bit else bit_at (is j) i)
