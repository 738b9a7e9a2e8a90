-- a reader of logs goes on
use Rattle.std.proofs.Common.{◌≡◌, ◌∙◌, ℕ, ◌≤◌, arith}
use Rattle.gr_io.specs.Pieces.{Rose}
use Rattle.gr_text.specs.Places.{known, limit_of}
use Rattle.gr_text.specs.Stands.{Stand, Goes}
use Rattle.gr_text.specs.declared.scanners.ScanError.{ScanError}
use Rattle.gr_text.specs.declared.scanners.ScanError.TheVariants as scans
use Rattle.gr_text.proofs.Going.{drawn-goes}
use Rattle.gr_lrat.specs.Answers.{GoesOn, IsTold, line_error_of}
use Rattle.gr_lrat.specs.Stages.{FailsAt}
use Rattle.gr_lrat.specs.declared.readers.LineError.{LineError}
use Rattle.gr_lrat.specs.declared.readers.LineError.TheVariants as errors
use Rattle.gr_lrat.proofs.PartRead.{ReadsPart}

-- blank lines and comments were passed, and no read failed
pub goes_here : (p q : Stand) → ReadsPart p q
    → (known p.place ≤ limit_of p.place → known q.place ≤ limit_of q.place) → GoesOn p q
goes_here p q part within = record {
  keeps = record { limit = part.limit; within = within; grows = part.grows };
  takes = part.draws.takes;
  counts = part.draws.counts;
  faults = omega (arith, part.draws.calm);
}

-- and then a line was read, or was not
pub goes_later : (p q n : Stand) → ReadsPart p q → Goes q n → GoesOn p n
goes_later p q n part next =
    let goes = drawn-goes p q n part.draws part.limit part.grows next in
    record {
      keeps = record {
        limit = goes.keeps.limit;
        within = λ _. goes.keeps.within;
        grows = goes.keeps.grows;
      };
      takes = goes.takes;
      counts = goes.counts;
      faults = goes.faults;
    }

-- a failed read is told where the scanner told it
pub rose_line : (failed : ScanError) (e : LineError) (first before now : ℕ) → e ≡ line_error_of failed
    → before ≡ first → FailsAt failed before now → e ≡ errors.ReadFault → Rose first now
rose_line (scans.TooLong line) e first before now is calm fails told = cc
rose_line scans.ReadFault e first before now is calm fails told = rw (← calm) fails
rose_line scans.OutOfMemory e first before now is calm fails told = cc

-- no read failed where the reader tells what the scanner told
pub calm_line : (failed : ScanError) (e : LineError) (first before now : ℕ) → e ≡ line_error_of failed
    → before ≡ first → FailsAt failed before now → IsTold e → now ≡ first
calm_line (scans.TooLong line) e first before now is calm fails told = fails ∙ calm
calm_line scans.ReadFault e first before now is calm fails told = absurd (rw is at told)
calm_line scans.OutOfMemory e first before now is calm fails told = absurd (rw is at told)
