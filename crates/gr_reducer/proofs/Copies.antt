-- a clause that the formula has may be learnt, with itself as the only hint
use Rattle.std.proofs.Common.{◌≡◌, ◌≢◌, ◌≤◌, ◌+◌, ℕ, suc, true, List, [], ◌∷◌, length, get_or, All, Some, is_some, IsSome, sym, ap, ◌∙◌, subst, arith}
use Rattle.std.specs.Prelude.{slice_get}
use Rattle.std.proofs.lemmas.Option.{slice_get_within, get_or_from_slice_get}
use Rattle.std.proofs.lemmas.List.Elements.{All-nil, All-cons}
use Rattle.gr_logic.specs.Literals.{Literal, negation, same_literal}
use Rattle.gr_logic.specs.Formulas.{VarsUpTo}
use Rattle.gr_logic.specs.NormalForms.{IsNormal}
use Rattle.gr_logic.specs.Rup.{NoConflict, members, negated, after_hint, after_reading}
use Rattle.gr_logic.proofs.Readings.{reads-falsified}
use Rattle.gr_logic.proofs.SameLiteral.{negated-is, negation-negation}
use Rattle.gr_logic.proofs.Sound.{same_literal-is}
use Rattle.gr_diary.specs.declared.entries.Entry.TheVariants.{Learn}
use Rattle.gr_diary.specs.Histories.{part_after}
use Rattle.gr_diary.specs.Rules.{Part}
use Rattle.gr_diary.proofs.Holding.{parts-show-held-clauses}
use Rattle.gr_seat.specs.Handles.{Handle, HasSeenLegal, Enables}
use Rattle.gr_reducer.proofs.Inputs.{input-clause}
use Rattle.gr_reducer.proofs.Moving.{or-none}

-- two literals of different variables
two-normal : (a b : Literal) → a.index ≢ b.index → IsNormal (a ∷ b ∷ [])
two-normal a b apart = (
  λ q there same. apart (sym same ∙ ap (λ (l : Literal). l.index)
      (same_literal-is q b (sym (or-none (same_literal q b)) ∙ there))),
  (λ q there. absurd (cc), tt),
)

-- a list of just two
pub two-listed : (xs : List Literal) (a b : Literal) → length xs ≡ 2 → a ≡ get_or xs 0 a → b ≡ get_or xs 1 b
    → xs ≡ a ∷ b ∷ []
two-listed [] a b two first second = absurd (omega arith)
two-listed (x ∷ []) a b two first second = absurd (omega arith)
two-listed (x ∷ y ∷ []) a b two first second = λ i. sym first i ∷ sym second i ∷ []
two-listed (x ∷ y ∷ z ∷ zs) a b two first second = absurd (omega arith)

pub may-learn-copy : (h : Handle) (a b : Literal) (i : ℕ) → HasSeenLegal h
    → slice_get h.formula.clauses i ≡ Some (a ∷ b ∷ []) → a.index ≢ b.index
    → All (VarsUpTo h.formula.vars) h.formula.clauses
    → Enables h (Learn (a ∷ b ∷ []) ((i + 1) ∷ []) 2 true)
may-learn-copy h a b i legal given apart within = (
  record {
    normal = two-normal a b apart;
    within = subst (VarsUpTo h.formula.vars) (get_or_from_slice_get h.formula.clauses i c c given)
        (within i c (slice_get_within h.formula.clauses i c given));
    cited = All-cons (λ q. IsSome (part.cites q)) (i + 1) [] (ap is_some cites) (All-nil (λ q. IsSome (part.cites q)));
    accepted = ap (after_hint (i + 1) (negated c) (λ next. NoConflict)) cites
        ∙ ap (after_reading (i + 1) (negated c) (λ next. NoConflict)) (reads-falsified (negated c) c
        (λ q has. negated-is c (negation q) ∙ ap (members c) (negation-negation q) ∙ has));
  },
  omega arith,
  λ is. omega arith,
)
  where
    c : List Literal
    c = a ∷ b ∷ []

    part : Part
    part = part_after h.formula h.reducers h.capacity h.seen 0

    low : suc i ≤ length h.formula.clauses
    low = let below = slice_get_within h.formula.clauses i c given in omega (arith, below)

    cites : part.cites (i + 1) ≡ Some c
    cites = ap part.cites (omega arith)
        ∙ (parts-show-held-clauses h.formula h.reducers h.capacity 0 h.seen legal).inputs (suc i) low
        ∙ input-clause h.formula (suc i) low ∙ given
