-- what a refill makes of a call that passes bytes
use Rattle.std.proofs.Common.{◌≡◌, ◌∙◌, ℕ, ◌≤◌, arith, Ok, Err}
use Rattle.gr_io.specs.Pieces.{Rose}
use Rattle.gr_text.specs.Tokens.{Spot, Cut}
use Rattle.gr_text.specs.Places.{known, limit_of, taken, Leads}
use Rattle.gr_text.specs.Scans.{Closes, Fails, IsTold, SkipFails}
use Rattle.gr_text.specs.Stands.{Stand, Asked, Goes, Refused}
use Rattle.gr_text.specs.declared.scanners.ScanError.{ScanError}
use Rattle.gr_text.specs.declared.scanners.ScanError.TheVariants as errors
use Rattle.gr_text.proofs.Going.{Draws, goes-drawn, kept}
use Rattle.gr_text.proofs.Leads.{closes-after, cut-here}
use Rattle.gr_text.proofs.Skips.{Passes, skip-cut}

-- a call that is refused has gone on as far as before
pub goes-refused : (e : ScanError) (p q n : Stand) → Goes p q → Refused e q n → Goes p n
goes-refused e p q n goes refused = record {
  keeps = rw refused.place goes.keeps;
  takes = rw (refused.place, refused.left) goes.takes;
  counts = rw (refused.place, refused.counts) goes.counts;
  faults = omega (arith, goes.faults, refused.grows);
}

pub fault-refused : (e : ScanError) (p q n : Stand) → Draws p q → Refused e q n → e ≡ errors.ReadFault
    → Rose p.faults n.faults
fault-refused (errors.TooLong line) p q n draws refused is = absurd (cc is)
fault-refused errors.ReadFault p q n draws refused is = rw draws.calm at refused.why
fault-refused errors.OutOfMemory p q n draws refused is = absurd (cc is)

pub calm-refused : (e : ScanError) (p q n : Stand) → Draws p q → Refused e q n → IsTold e → n.faults ≡ p.faults
calm-refused (errors.TooLong line) p q n draws refused told = refused.why.2 ∙ draws.calm
calm-refused errors.ReadFault p q n draws refused told = absurd told
calm-refused errors.OutOfMemory p q n draws refused told = absurd told

cut-refused : (s t : Spot) (line : ℕ) (e : ScanError) (p q n : Stand) → Leads s p.place p.left t q.place q.left
    → Refused e q n → line ≡ t.last → Closes (taken n.place) s (Cut line) p.place p.left n.left
cut-refused s t line e p q n leads refused is =
    let within : known q.place ≤ taken q.place = rw refused.open_ (omega arith) in
    rw (is, refused.place, refused.left)
    (closes-after s t (Cut t.last) p.place q.place p.left q.left (taken q.place) leads within
    (cut-here t q.place q.left refused.none refused.open_))

pub err-refused : (s t : Spot) (e : ScanError) (p q n : Stand) → Leads s p.place p.left t q.place q.left
    → q.place.last ≡ t.last → Refused e q n → Fails s e p.place p.left n.place n.left
err-refused s t (errors.TooLong line) p q n leads last refused = (
  cut-refused s t line (errors.TooLong line) p q n leads refused (refused.why.0 ∙ last),
  rw refused.place refused.why.1,
  rw refused.place refused.open_,
)
err-refused s t errors.ReadFault p q n leads last refused = (
  rw refused.place (rw refused.place at (cut-refused s t q.place.last errors.ReadFault p q n leads refused last)),
  rw refused.place refused.open_,
)
err-refused s t errors.OutOfMemory p q n leads last refused = tt

-- the rest of a line is not passed
pub skip-refused : (e : ScanError) (p q n : Stand) → Passes p.place p.left q.place q.left → Refused e q n
    → SkipFails e p.place p.left n.place n.left
skip-refused (errors.TooLong line) p q n passes refused = (
  rw (refused.place, refused.left, refused.why.0)
      (skip-cut p.place q.place p.left q.left passes refused.none refused.open_),
  rw refused.place refused.why.1,
  rw refused.place refused.open_,
)
skip-refused errors.ReadFault p q n passes refused = (
  rw (refused.place, refused.left) (skip-cut p.place q.place p.left q.left passes refused.none refused.open_),
  rw refused.place refused.open_,
)
skip-refused errors.OutOfMemory p q n passes refused = tt

-- what was asked is answered
pub asked-ok : {T : Type 0} (s t : Spot) (x : T) (p q : Stand) → Leads s p.place p.left t q.place q.left → Draws p q
    → known q.place ≤ limit_of q.place → Asked s (Ok x) p q
asked-ok s t x p q leads draws within = record {
  goes = goes-drawn p q draws (kept s t p.place q.place p.left q.left leads within);
  err = tt;
  fault = tt;
  calm = λ told. draws.calm;
}

-- or it fails
pub asked-err : {T : Type 0} (s t : Spot) (e : ScanError) (p q n : Stand) → Leads s p.place p.left t q.place q.left
    → Draws p q → known q.place ≤ limit_of q.place → q.place.last ≡ t.last → Refused e q n
    → Asked {T = T} s (Err e) p n
asked-err s t e p q n leads draws within last refused = record {
  goes =
      goes-refused e p q n (goes-drawn p q draws (kept s t p.place q.place p.left q.left leads within)) refused;
  err = err-refused s t e p q n leads last refused;
  fault = fault-refused e p q n draws refused;
  calm = calm-refused e p q n draws refused;
}
