-- what a seat's actor holds and has taken after its own entry, whatever others did before it
use Rattle.std.proofs.Common.{◌≡◌, ℕ, cond, List, [], ◌∷◌, ◌++◌, is_some, refl, ap, sym, ◌∙◌, subst, ◌==◌}
use Rattle.std.proofs.lemmas.List.{append_cancel_right}
use Rattle.std.proofs.lemmas.List.Elements.{filter-append}
use Rattle.gr_logic.specs.Formulas.{Cnf}
use Rattle.gr_diary.specs.declared.entries.Entry.{Entry}
use Rattle.gr_diary.specs.Entries.{actor_of}
use Rattle.gr_diary.specs.States.{State, has}
use Rattle.gr_diary.specs.Steps.{taken_of}
use Rattle.gr_diary.specs.Rules.{Part}
use Rattle.gr_diary.specs.Invariant.{IsKept}
use Rattle.gr_diary.specs.Histories.{IsLegal, state_of, entries_of, part_after, clauses_held_by}
use Rattle.gr_diary.specs.HoldingLaws.{held_then}
use Rattle.gr_diary.specs.Laws.{IsSeenBy}
use Rattle.gr_diary.proofs.Among.{same-number}
use Rattle.gr_diary.proofs.Ends.{beginnings-are-legal}
use Rattle.gr_diary.proofs.Holding.{held-clauses-change, parts-show-held-clauses, state-kept}
use Rattle.gr_diary.proofs.Own.{own-part-stays}
use Rattle.gr_diary.proofs.OwnMoves.{own-part-moves}
use Rattle.gr_seat.specs.Handles.{Handle, HasSeenLegal}
use Rattle.gr_seat.specs.Turns.{SeesMore, Makes}
use Rattle.gr_reducer.specs.Steps.{held_at, taken_at}

-- what a seat made, by the state at which it made it: there its actor still held and had taken what it had before
pub record IsMade (s t : Handle) (e : Entry) (at : State) : Type 0 where
  pub kept : IsKept s.formula s.reducers at
  pub shown : (id : ℕ) → has id (at.held s.actor) ≡ is_some (held_at s id)
  pub had : at.taken s.actor ≡ taken_at s
  pub held : (id : ℕ) → held_at t id ≡ held_then at e (held_at s) id
  pub taken : taken_at t ≡ taken_of at e

pub made : (s t : Handle) (e : Entry) (Tells : State → Type 0) → HasSeenLegal s → SeesMore s t → actor_of e ≡ s.actor
    → (m : Makes s t e Tells) → IsMade s t e (state_of s.formula s.reducers s.capacity m.before)
made s t e Tells legal sees names m = record {
  kept = state-kept f reducers capacity m.before legal-before;
  shown = λ id. (parts-show-held-clauses f reducers capacity s.actor m.before legal-before).held id
      ∙ ap is_some (λ i. sym stays.1 i id);
  had = sym stays.2;
  held = λ id. (λ i. clauses_held_by (sees.same.formula i) (sees.same.reducers i) (sees.same.capacity i) (m.ends i)
      (sees.same.actor i) id)
      ∙ ap (λ a. clauses_held_by f reducers capacity (m.before ++ e ∷ []) a id) (sym names)
      ∙ held-clauses-change f reducers capacity m.before e legal-after id
      ∙ ap (λ a. held_then at e (clauses_held_by f reducers capacity m.before a) id) names
      ∙ ap (λ held. held_then at e held id) (sym stays.1);
  taken = (λ i. (part_after (sees.same.formula i) (sees.same.reducers i) (sees.same.capacity i) (m.ends i)
      (sees.same.actor i)).taken)
      ∙ ap (λ a. (part_after f reducers capacity (m.before ++ e ∷ []) a).taken) (sym names)
      ∙ ap (λ (p : Part). p.taken) (own-part-moves f reducers capacity m.before e legal-after);
}
  where
    f : Cnf
    f = s.formula

    reducers : ℕ
    reducers = s.reducers

    capacity : ℕ
    capacity = s.capacity

    at : State
    at = state_of f reducers capacity m.before

    legal-after : IsLegal f reducers capacity (m.before ++ e ∷ [])
    legal-after = subst (λ (k : Cnf × ℕ × ℕ × List Entry). IsLegal k.0 k.1 k.2 k.3)
        (λ i. (sees.same.formula i, sees.same.reducers i, sees.same.capacity i, m.ends i)) sees.legal

    legal-before : IsLegal f reducers capacity m.before
    legal-before = beginnings-are-legal f reducers capacity m.before (m.before ++ e ∷ []) (e ∷ [], refl) legal-after

    -- the entry is the actor's own
    one : entries_of (e ∷ []) s.actor ≡ e ∷ []
    one = ap (entries_of (e ∷ [])) (sym names) ∙ ap (λ b. cond b (e ∷ []) []) (same-number (actor_of e))

    own : entries_of s.seen s.actor ≡ entries_of m.before s.actor
    own = append_cancel_right (entries_of s.seen s.actor) (entries_of m.before s.actor) (e ∷ [])
        (sym m.own ∙ (λ i. entries_of (m.ends i) (sees.same.actor i))
        ∙ filter-append (λ x. actor_of x == s.actor) m.before (e ∷ [])
        ∙ ap (λ z. entries_of m.before s.actor ++ z) one)

    seen : IsSeenBy f reducers capacity s.actor s.seen m.before
    seen = record { legal = legal; legal_later = legal-before; begins = m.begins; own = own }

    stays : (part_after f reducers capacity s.seen s.actor ≡ part_after f reducers capacity m.before s.actor)
        × (held_at s ≡ clauses_held_by f reducers capacity m.before s.actor)
        × (taken_at s ≡ (part_after f reducers capacity m.before s.actor).taken)
    stays = own-part-stays f reducers capacity s.actor s.seen m.before seen
