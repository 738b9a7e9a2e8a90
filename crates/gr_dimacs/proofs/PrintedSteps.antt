-- how printing goes on, piece by piece
use Rattle.std.proofs.Common.{◌≡◌, ◌∙◌, ℕ, ◌+◌, ◌≤◌, ◌<◌, List, [], ◌∷◌, ◌++◌, length, drop, get_or, refl, sym, ap, arith, subst, Option, Result, Ok, Err, ℤ, IfErr, OnErr, OnOk}
use Rattle.std.specs.List.{flat_map}
use Rattle.std.specs.Fmt.{signed_decimal}
use Rattle.std.proofs.lemmas.List.{append_assoc, append-nil, drop_more}
use Rattle.gr_io.specs.Pieces.{Gains, GainsPart, Rose}
use Rattle.gr_io.specs.declared.sinks.SinkError.{SinkError}
use Rattle.gr_io.specs.declared.sinks.SinkError.TheVariants.{Fault}
use Rattle.gr_io.proofs.Parts.{part_of_more}
use Rattle.gr_text.specs.Printing.{Prints}
use Rattle.gr_text.proofs.Printing.{prints_flushed, prints_nothing, prints_part, prints_then, prints_then_part}
use Rattle.gr_dimacs.specs.Printed.{Output, Printed, output}
use Rattle.gr_dimacs.proofs.Told.{rose-later}

-- the output of a printer to this sink
abbrev pub output_at : {K : Type 0} (written : K → Option (List ℕ)) (faults : K → ℕ) → List ℕ → K → Output
output_at written faults pending sink = output (written sink) pending (faults sink)

-- from one state of the output to another the text is printed
abbrev pub PrintsFrom : List ℕ → Output → Output → Type 0
PrintsFrom text old new = Prints text old.written old.pending new.written new.pending

-- what a call of the printer says
pub printed-by : (answer : Result (Unit {0}) SinkError) (text : List ℕ) (old new : Output) →
    OnOk answer (PrintsFrom text old new) →
    OnErr answer (GainsPart (old.pending ++ text) old.written new.written) →
    IfErr answer (λ e. e ≡ Fault → Rose old.faults new.faults) → Printed answer text old new
printed-by (Ok done) text old new ok err fault = ok
printed-by (Err failed) text old new ok err fault = (err, fault)

-- where a text fails, all that begins with it fails
pub fails-more : (failed : SinkError) (a b : List ℕ) (old new : Output) →
    Printed (Err failed) a old new → Printed (Err failed) (a ++ b) old new
fails-more failed a b old new h = (
  subst (λ text. GainsPart text old.written new.written) (append_assoc old.pending a b)
      (part_of_more (old.pending ++ a) b old.written new.written h.0),
  h.1,
)

-- a number in one width and in another
pub by-value : {a b c : ℤ} → b ≡ c → a ≡ b → a ≡ c
by-value e f = f ∙ e

-- a number is printed by its value
pub number-printed : (m n : ℤ) (old new : Output) → PrintsFrom (signed_decimal m) old new → m ≡ n →
    PrintsFrom (signed_decimal n) old new
number-printed m n old new h e = rw (← e) h

pub number-fails : (failed : SinkError) (m n : ℤ) (more : List ℕ) (old new : Output) →
    GainsPart (old.pending ++ signed_decimal m) old.written new.written →
    (failed ≡ Fault → Rose old.faults new.faults) → m ≡ n →
    Printed (Err failed) (signed_decimal n ++ more) old new
number-fails failed m n more old new part fault e =
    let h : Printed (Err failed) (signed_decimal n) old new = (rw (← e) part, fault) in
    fails-more failed (signed_decimal n) more old new h

-- one text is printed, and then another
pub printed-then : (answer : Result (Unit {0}) SinkError) (a b : List ℕ) (old mid new : Output) →
    PrintsFrom a old mid → old.faults ≤ mid.faults →
    Printed answer b mid new → Printed answer (a ++ b) old new
printed-then (Ok done) a b old mid new first few second =
    prints_then a b old.written mid.written new.written old.pending mid.pending new.pending first
    second
printed-then (Err failed) a b old mid new first few second = (
  prints_then_part a b old.written mid.written new.written old.pending mid.pending first
      second.0,
  λ e. rose-later old.faults mid.faults new.faults few (second.1 e),
)

-- the texts of the elements before a place are printed
pub record PrintedUpTo {A : Type 0} (f : A → List ℕ) (xs : List A) (i : ℕ) (old new : Output) : Type
    0 where
  pub done : List ℕ
  pub prints : PrintsFrom done old new
  pub rest : done ++ flat_map f (drop i xs) ≡ flat_map f xs
  pub faults : old.faults ≤ new.faults

pub printed-none : {A : Type 0} (f : A → List ℕ) (xs : List A) (old : Output) →
    PrintedUpTo f xs 0 old old
printed-none f xs old =
    record {
      done = [];
      prints = prints_nothing old.written old.pending;
      rest = refl;
      faults =
          omega arith;
    }

pub printed-next : {A : Type 0} (f : A → List ℕ) (x : A) (xs : List A) (i : ℕ)
    (old mid new : Output) → PrintedUpTo f xs i old mid → drop i xs ≡ x ∷ drop (i + 1) xs →
    PrintsFrom (f x) mid new → mid.faults ≤ new.faults → PrintedUpTo f xs (i + 1) old new
printed-next f x xs i old mid new h next prints few = record {
  done = h.done ++ f x;
  prints = prints_then h.done (f x) old.written mid.written new.written old.pending mid.pending
      new.pending h.prints prints;
  rest = append_assoc h.done (f x) (flat_map f (drop (i + 1) xs)) ∙ (rw next at h.rest);
  faults = omega (arith, h.faults);
}

pub printed-fails : {A : Type 0} (failed : SinkError) (f : A → List ℕ) (x : A) (xs : List A) (i : ℕ)
    (old mid new : Output) → PrintedUpTo f xs i old mid → drop i xs ≡ x ∷ drop (i + 1) xs →
    Printed (Err failed) (f x) mid new → Printed (Err failed) (flat_map f xs) old new
printed-fails failed f x xs i old mid new h next fails =
    let rest : h.done ++ (f x ++ flat_map f (drop (i + 1) xs)) ≡ flat_map f xs =
    rw next at h.rest in
    subst (λ text. Printed (Err failed) text old new) rest
    (printed-then (Err failed) h.done (f x ++ flat_map f (drop (i + 1) xs)) old mid new h.prints
    h.faults
    (fails-more failed (f x) (flat_map f (drop (i + 1) xs)) mid new fails))

pub printed-all : {A : Type 0} (f : A → List ℕ) (xs : List A) (i : ℕ) (old new : Output) →
    PrintedUpTo f xs i old new → drop i xs ≡ [] → PrintsFrom (flat_map f xs) old new
printed-all f xs i old new h none =
    let rest : h.done ++ [] ≡ flat_map f xs = rw none at h.rest in
    subst (λ text. PrintsFrom text old new) (sym (append-nil h.done) ∙ rest) h.prints

-- a printer that had nothing pending failed: the sink has a front part
pub failed-part : (failed : SinkError) (text : List ℕ) (old new : Output) → old.pending ≡ [] →
    Printed (Err failed) text old new → GainsPart text old.written new.written
failed-part failed text old new none h = rw none at h.0

-- a printer that had nothing pending printed the text, and all that was pending was handed on
pub flushed-all : (text : List ℕ) (old mid : Output) (last : Option (List ℕ)) → old.pending ≡ [] →
    PrintsFrom text old mid → Gains mid.pending mid.written last → Gains text old.written last
flushed-all text old mid last none printed flushed =
    rw none at (prints_flushed text old.written mid.written last old.pending mid.pending printed
    flushed)

-- and where handing on fails, the sink has a front part
pub flushed-part : (text : List ℕ) (old mid : Output) (last : Option (List ℕ)) → old.pending ≡ [] →
    PrintsFrom text old mid → GainsPart mid.pending mid.written last →
    GainsPart text old.written last
flushed-part text old mid last none printed part =
    rw none at (prints_part text old.written mid.written last old.pending mid.pending printed part)

-- the same of what is equal
pub gains-at : (text : List ℕ) (o n o' n' : Option (List ℕ)) → Gains text o n → o' ≡ o → n' ≡ n →
    Gains text o' n'
gains-at text o n o' n' h a b = rw (a, b) h

pub part-at : (text : List ℕ) (o n o' n' : Option (List ℕ)) → GainsPart text o n → o' ≡ o → n' ≡ n →
    GainsPart text o' n'
part-at text o n o' n' h a b = rw (a, b) h

-- an item of a list, and those behind it
pub item-behind : {X : Type 0} (items : List X) (i : ℕ) (x : X) → i < length items →
    x ≡ get_or items i x → drop i items ≡ x ∷ drop (i + 1) items
item-behind items i x within is =
    drop_more items i x within ∙ ap (λ y. y ∷ drop (i + 1) items) (sym is)
