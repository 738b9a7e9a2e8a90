-- what a seat sees over several turns
use Rattle.std.proofs.Common.{List, ◌++◌, append_assoc, ap, sym, ◌∙◌}
use mathlib.Core.List.{IsPrefix}
use Rattle.gr_seat.specs.Handles.{Handle}
use Rattle.gr_seat.specs.Turns.{SeesMore}

-- a beginning of a beginning is one
begins-on : {X : Type 0} (a b c : List X) → IsPrefix a b → IsPrefix b c → IsPrefix a c
begins-on a b c first next =
    (first.0 ++ next.0, sym (append_assoc a first.0 next.0) ∙ ap (λ z. z ++ next.0) first.1 ∙ next.1)

-- more, and then more
pub sees-on : (s t u : Handle) → SeesMore s t → SeesMore t u → SeesMore s u
sees-on s t u first next = record {
  same = record {
    lock = next.same.lock ∙ first.same.lock;
    formula = next.same.formula ∙ first.same.formula;
    reducers = next.same.reducers ∙ first.same.reducers;
    capacity = next.same.capacity ∙ first.same.capacity;
    actor = next.same.actor ∙ first.same.actor;
  };
  counted = (next.counted.0 ∙ first.counted.0, next.counted.1 ∙ first.counted.1);
  begins = begins-on s.seen t.seen u.seen first.begins next.begins;
  legal = next.legal;
}
