-- what a reducer may cite, and what its strengthener derives from
use Rattle.std.proofs.Common.{◌≡◌, ℕ, Bool, true, false, ◌∙◌, List, length, Option, Some, None, refl, sym, ap, arith, nat_eq, nat_le, if◌then◌else◌}
use Rattle.std.specs.Option.{option_map}
use Rattle.std.proofs.lemmas.Bool.{leb-true, leb-false, eqb-true}
use Rattle.gr_logic.specs.Literals.{Literal}
use Rattle.gr_logic.specs.Formulas.{Cnf}
use Rattle.gr_logic.specs.Rup.{LiteralSet, members}
use Rattle.gr_logic.specs.Closure.{family_of}
use Rattle.gr_diary.specs.Rules.{Part, others_of}
use Rattle.gr_diary.specs.Histories.{part_after}
use Rattle.gr_diary.specs.HoldingLaws.{IsShownBy}
use Rattle.gr_diary.proofs.Holding.{parts-show-held-clauses}
use Rattle.gr_seat.specs.Handles.{Handle}
use Rattle.gr_strengthen.specs.Families.{cited_family, kept_family}
use Rattle.gr_strengthen.specs.Strengtheners.{StrengthenerState}
use Rattle.gr_reducer.specs.Steps.{held_at, taken_at, without_taken, IsInStep, HasTaken}
use Rattle.gr_reducer.proofs.Inputs.{input-clause}
use Rattle.gr_reducer.proofs.Held.{held-clause}

-- the reducer's part of the history, as far as its seat has seen it
abbrev pub part_at : Handle → Part
part_at h = part_after h.formula h.reducers h.capacity h.seen h.actor

module _ (h : Handle) (k : StrengthenerState) (i : IsInStep h k) where
  shown : IsShownBy h.formula h.reducers h.capacity h.seen h.actor
  shown = parts-show-held-clauses h.formula h.reducers h.capacity h.actor h.seen i.legal

  -- a clause of the formula
  cites-input : (q : ℕ) → nat_le q (length h.formula.clauses) ≡ true
      → family_of (part_at h).cites q ≡ cited_family h.formula k.kept q
  cites-input q is =
      let low = leb-true q (length h.formula.clauses) is in
      ap (option_map members) (shown.inputs q low ∙ input-clause h.formula q low)
      ∙ sym (ap (λ b. if b then family_of (Rattle.gr_strengthen.specs.Families.given_clause h.formula) q
      else kept_family k.kept q) is)

  -- another one is held
  cites-held : (q : ℕ) → nat_le q (length h.formula.clauses) ≡ false
      → family_of (part_at h).cites q ≡ family_of (held_at h) q
  cites-held q is = ap (option_map members) (shown.learnt q (leb-false q (length h.formula.clauses) is))

  high : (q : ℕ) → nat_le q (length h.formula.clauses) ≡ false
      → cited_family h.formula k.kept q ≡ family_of (without_taken (taken_at h) (held_at h)) q
  high q is = ap (λ b. if b then family_of (Rattle.gr_strengthen.specs.Families.given_clause h.formula) q
      else kept_family k.kept q) is ∙ i.kept q

  -- what is there without the taken clause is there
  there-too : (o : Option ℕ) (q : ℕ) (c : LiteralSet) → family_of (without_taken o (held_at h)) q ≡ Some c
      → family_of (held_at h) q ≡ Some c
  there-too None q c is = is
  there-too (Some taken) q c is = pick (nat_eq q taken) is
    where
      pick : (b : Bool) → option_map members (if b then None else held_at h q) ≡ Some c
          → option_map members (held_at h q) ≡ Some c
      pick true is = absurd (cc)
      pick false is = is

  -- each clause that the strengthener derives from may be cited
  pub cites : (q : ℕ) (c : LiteralSet) → cited_family k.formula k.kept q ≡ Some c
      → family_of (part_at h).cites q ≡ Some c
  cites q c is =
      pick (nat_le q (length h.formula.clauses)) refl (ap (λ f. cited_family f k.kept q) (sym i.formula) ∙ is)
    where
      pick : (b : Bool) → nat_le q (length h.formula.clauses) ≡ b → cited_family h.formula k.kept q ≡ Some c
          → family_of (part_at h).cites q ≡ Some c
      pick true low is = cites-input q low ∙ is
      pick false above is = cites-held q above ∙ there-too (taken_at h) q c (sym (high q above) ∙ is)

  module _ (id : ℕ) (whole : List Literal) (has : HasTaken h id whole) where
    -- and so the taken one
    pub cites-taken : (part_at h).cites id ≡ Some whole
    cites-taken = shown.learnt id (held-clause h id whole i.legal has.clause).above ∙ has.clause

    -- the strengthener derives from just what may be cited but the taken clause
    other : (q : ℕ) (low : Bool) → nat_le q (length h.formula.clauses) ≡ low → (b : Bool) → nat_eq q id ≡ b
        → (if b then None else option_map members ((part_at h).cites q)) ≡ cited_family h.formula k.kept q
    other q true low true same =
        let above = (held-clause h id whole i.legal has.clause).above in
        let is = eqb-true q id same in
        let below = leb-true q (length h.formula.clauses) low in absurd (omega arith)
    other q true low false apart = cites-input q low
    other q false above true same = sym (high q above
        ∙ ap (λ o. family_of (without_taken o (held_at h)) q) has.taken
        ∙ ap (λ b. option_map members (if b then None else held_at h q)) same)
    other q false above false apart = cites-held q above ∙ sym (high q above
        ∙ ap (λ o. family_of (without_taken o (held_at h)) q) has.taken
        ∙ ap (λ b. option_map members (if b then None else held_at h q)) apart)

    pub others : cited_family k.formula k.kept ≡ others_of (part_at h) id
    others = ap (λ (f : Cnf). cited_family f k.kept) i.formula
        ∙ (λ j q. sym (other q (nat_le q (length h.formula.clauses)) refl (nat_eq q id) refl) j)
