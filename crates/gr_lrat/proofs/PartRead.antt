-- reading goes on behind a part of a text that was read
use Rattle.std.proofs.Common.{◌≡◌, ◌∙◌, ℕ, ◌≤◌, refl, subst, arith, Result}
use Rattle.gr_io.specs.Pieces.{Rose}
use Rattle.gr_text.specs.Places.{known, limit_of}
use Rattle.gr_text.specs.Scans.{IsTold}
use Rattle.gr_text.specs.Stands.{Stand, Goes}
use Rattle.gr_text.specs.declared.scanners.ScanError.{ScanError}
use Rattle.gr_text.specs.declared.scanners.ScanError.TheVariants as scans
use Rattle.gr_text.proofs.Going.{Draws, drawn, drawn-goes, draws-none, draws-goes, goes-drawn, goes-then}
use Rattle.gr_lrat.specs.Stages.{FailsAt, CountsFaults, GoesFor}

-- a part of the text was read, and no read failed
pub record ReadsPart (old new : Stand) : Type 0 where
  pub limit : limit_of new.place ≡ limit_of old.place
  pub grows : known old.place ≤ known new.place
  pub onward : old.place.passed ≤ new.place.passed
  pub draws : Draws old new

-- nothing was read so far
pub part-none : (p : Stand) → ReadsPart p p
part-none p = record {
  limit = refl;
  grows = omega arith;
  onward = omega arith;
  draws = draws-none p p.place refl;
}

-- one call read it
pub part-first : (p q : Stand) → Goes p q → q.faults ≡ p.faults → p.place.passed ≤ q.place.passed
    → ReadsPart p q
part-first p q goes calm onward = record {
  limit = goes.keeps.limit;
  grows = goes.keeps.grows;
  onward = onward;
  draws = draws-goes p q goes calm;
}

-- one call more read something
pub part-more : (p q o : Stand) → ReadsPart p q → Goes q o → o.faults ≡ q.faults
    → q.place.passed ≤ o.place.passed → ReadsPart p o
part-more p q o part goes calm onward = record {
  limit = goes.keeps.limit ∙ part.limit;
  grows = omega (arith, part.grows, goes.keeps.grows);
  onward = omega (arith, part.onward, onward);
  draws = drawn p q o part.draws goes calm;
}

-- so reading went on
pub part-goes : (p q : Stand) → ReadsPart p q → known q.place ≤ limit_of q.place → Goes p q
part-goes p q part within =
    goes-drawn p q part.draws (record { limit = part.limit; within = within; grows = part.grows })

counts-past : {T : Type 0} (a : Result T ScanError) (first before now : ℕ) → before ≡ first
    → CountsFaults a before now → CountsFaults a first now
counts-past a first before now calm counts = subst (λ (n : ℕ). CountsFaults a n now) calm counts

-- behind such a part, a call answered
pub goes-past : {T : Type 0} (a : Result T ScanError) (p q o : Stand) → ReadsPart p q → GoesFor a q o
    → GoesFor a p o
goes-past a p q o part next = (
  drawn-goes p q o part.draws part.limit part.grows next.0,
  counts-past a p.faults q.faults o.faults part.draws.calm next.1,
)

-- behind one call that read something, another one answered
pub goes-behind : {T : Type 0} (a : Result T ScanError) (p q o : Stand) → Goes p q → q.faults ≡ p.faults
    → GoesFor a q o → GoesFor a p o
goes-behind a p q o goes calm next =
    (goes-then p q o goes next.0, counts-past a p.faults q.faults o.faults calm next.1)

-- what a scanner says of its failed reads
pub fails-at : (failed : ScanError) (before now : ℕ) → (failed ≡ scans.ReadFault → Rose before now)
    → (IsTold failed → now ≡ before) → FailsAt failed before now
fails-at (scans.TooLong line) before now fault calm = calm tt
fails-at scans.ReadFault before now fault calm = fault refl
fails-at scans.OutOfMemory before now fault calm = tt
