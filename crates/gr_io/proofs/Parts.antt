-- how what was added to a sink adds up, write by write
use Rattle.std.proofs.Common.{◌≡◌, ◌⊎◌, ◌∙◌, ◌++◌, inl, inr, sym, ap, refl, ℕ, List, [], Option, Some, None, take, drop, append_assoc}
use Rattle.std.proofs.lemmas.List.{append-nil, take-append-drop}
use Rattle.gr_io.specs.Pieces.{Gains, GainsPart}

-- adding nothing changes nothing
pub gains_nothing : (o : Option (List ℕ)) → Gains [] o o
gains_nothing None = refl
gains_nothing (Some text) = ap Some (sym (append-nil text))

-- one piece was added, and then another
pub gains_then : (a b : List ℕ) (o m n : Option (List ℕ)) → Gains a o m → Gains b m n → Gains (a ++ b) o n
gains_then a b None m n first second = rw (second, first) refl
gains_then a b (Some text) m n first second = rw (second, first) (ap Some (append_assoc text a b))

-- a piece was added, and then a front part of another
pub gains_then_part : (a b : List ℕ) (o m n : Option (List ℕ))
    → Gains a o m → GainsPart b m n → GainsPart (a ++ b) o n
gains_then_part a b o m n first part = record {
  gained = a ++ part.gained;
  left_out = part.left_out;
  whole = append_assoc a part.gained part.left_out ∙ ap (λ rest. a ++ rest) part.whole;
  sink = gains_then a part.gained o m n first part.sink;
}

-- a front part of what was due is one of all that would have followed
pub part_of_more : (due more : List ℕ) (o n : Option (List ℕ)) → GainsPart due o n → GainsPart (due ++ more) o n
part_of_more due more o n part = record {
  gained = part.gained;
  left_out = part.left_out ++ more;
  whole = sym (append_assoc part.gained part.left_out more) ∙ ap (λ text. text ++ more) part.whole;
  sink = part.sink;
}

-- all that was due was added, or nothing
pub part_all : (due : List ℕ) (o n : Option (List ℕ)) → Gains due o n → GainsPart due o n
part_all due o n gains = record {
  gained = due;
  left_out = [];
  whole = append-nil due;
  sink = gains;
}

pub part_none : (due : List ℕ) (o : Option (List ℕ)) → GainsPart due o o
part_none due o = record { gained = []; left_out = due; whole = refl; sink = gains_nothing o }

-- where what was written is not told, nothing more is claimed
pub part_untold : (due : List ℕ) → GainsPart due None None
part_untold due = part_none due None

-- the front of what was due was added, or nothing
pub front_gained : (due old new : List ℕ) (keep : ℕ)
    → (new ≡ old ++ take keep due) ⊎ (new ≡ old) → GainsPart due (Some old) (Some new)
front_gained due old new keep (inl added) = record {
  gained = take keep due;
  left_out = drop keep due;
  whole = take-append-drop keep due;
  sink = ap Some added;
}
front_gained due old new keep (inr kept) = rw kept (part_none due (Some old))
