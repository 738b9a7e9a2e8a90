-- how what was printed adds up, piece by piece
use Rattle.std.proofs.Common.{◌≡◌, ◌∙◌, ◌++◌, sym, ap, subst, ℕ, List, [], Option, append_assoc}
use Rattle.std.proofs.lemmas.List.{append-nil}
use Rattle.gr_io.specs.Pieces.{Gains, GainsPart}
use Rattle.gr_io.proofs.Parts.{gains_nothing, gains_then, gains_then_part}
use Rattle.gr_text.specs.Printing.{Prints}

-- nothing was printed
pub prints_nothing : (o : Option (List ℕ)) (p : List ℕ) → Prints [] o p o p
prints_nothing o p = record { sent = []; whole = sym (append-nil p); sink = gains_nothing o }

-- a piece was kept, and nothing was handed on
pub prints_kept : (a : List ℕ) (o : Option (List ℕ)) (p q : List ℕ) → q ≡ p ++ a → Prints a o p o q
prints_kept a o p q kept = record { sent = []; whole = kept; sink = gains_nothing o }

-- what was pending was handed on, and then a piece was kept
pub prints_sent : (a : List ℕ) (o m : Option (List ℕ)) (p q : List ℕ) → Gains p o m → q ≡ a
    → Prints a o p m q
prints_sent a o m p q gains kept =
    record { sent = p; whole = ap (λ rest. p ++ rest) kept; sink = gains }

-- what was pending was handed on, and then a piece too
pub prints_through : (a : List ℕ) (o m n : Option (List ℕ)) (p q : List ℕ)
    → Gains p o m → Gains a m n → q ≡ [] → Prints a o p n q
prints_through a o m n p q first second none = record {
  sent = p ++ a;
  whole = rw none (append-nil (p ++ a));
  sink = gains_then p a o m n first second;
}

-- one piece was printed, and then another
pub prints_then : (a b : List ℕ) (o m n : Option (List ℕ)) (p q r : List ℕ)
    → Prints a o p m q → Prints b m q n r → Prints (a ++ b) o p n r
prints_then a b o m n p q r first second = record {
  sent = first.sent ++ second.sent;
  whole = append_assoc first.sent second.sent r
      ∙ ap (λ rest. first.sent ++ rest) second.whole
      ∙ sym (append_assoc first.sent q b)
      ∙ ap (λ text. text ++ b) first.whole
      ∙ append_assoc p a b;
  sink = gains_then first.sent second.sent o m n first.sink second.sink;
}

-- a piece was printed, and all that was pending was handed on
pub prints_flushed : (a : List ℕ) (o m n : Option (List ℕ)) (p q : List ℕ)
    → Prints a o p m q → Gains q m n → Gains (p ++ a) o n
prints_flushed a o m n p q printed flushed =
    subst (λ text. Gains text o n) printed.whole
    (gains_then printed.sent q o m n printed.sink flushed)

-- a piece was printed, and of what was pending and due next a front part was handed on
pub prints_then_part : (a b : List ℕ) (o m n : Option (List ℕ)) (p q : List ℕ)
    → Prints a o p m q → GainsPart (q ++ b) m n → GainsPart (p ++ (a ++ b)) o n
prints_then_part a b o m n p q printed part =
    let whole : printed.sent ++ (q ++ b) ≡ p ++ (a ++ b) =
    sym (append_assoc printed.sent q b) ∙ ap (λ text. text ++ b) printed.whole
    ∙ append_assoc p a b in
    subst (λ text. GainsPart text o n) whole
    (gains_then_part printed.sent (q ++ b) o m n printed.sink part)

-- a piece was printed, and of what was pending a front part was handed on
pub prints_part : (a : List ℕ) (o m n : Option (List ℕ)) (p q : List ℕ)
    → Prints a o p m q → GainsPart q m n → GainsPart (p ++ a) o n
prints_part a o m n p q printed part =
    subst (λ text. GainsPart text o n) printed.whole
    (gains_then_part printed.sent q o m n printed.sink part)

-- a printer that was dropped keeps what was pending from the sink
pub prints_dropped : (a : List ℕ) (o m : Option (List ℕ)) (p q : List ℕ) → Prints a o p m q
    → GainsPart (p ++ a) o m
prints_dropped a o m p q printed = record {
  gained = printed.sent;
  left_out = q;
  whole = printed.whole;
  sink = printed.sink;
}
