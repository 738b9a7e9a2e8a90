-- an entry, and its actor's part
use Rattle.std.proofs.Common.{◌≡◌, ◌≤◌, ℕ, Bool, true, false, ◌||◌, List, [], ◌∷◌, length, None, refl, ap, ◌∙◌, arith, nat_le, if◌then◌else◌}
use Rattle.std.specs.FinMap as map
use Rattle.std.proofs.lemmas.Bool.{leb-true, false_from_ne_true}
use Rattle.gr_logic.specs.Formulas.{Cnf}
use Rattle.gr_diary.specs.declared.entries.Entry.{Entry}
use Rattle.gr_diary.specs.Entries.{actor_of, addition_of}
use Rattle.gr_diary.specs.States.{State, has, has_holder, initial_state}
use Rattle.gr_diary.specs.Steps.{moved, left_ids, after, held_after, taken_of, live_grown}
use Rattle.gr_diary.specs.Rules.{part_of, Allowed}
use Rattle.gr_diary.specs.Invariant.{IsInOrder, IsKept}
use Rattle.gr_diary.specs.Histories.{state_of}
use Rattle.gr_diary.specs.OwnParts.{part_moved, OwnPartMoves}
use Rattle.gr_diary.proofs.LogPieces.{get-without}
use Rattle.gr_diary.proofs.Among.{same-number}
use Rattle.gr_diary.proofs.Moved.{in-order}
use Rattle.gr_diary.proofs.Changes.{changed}
use Rattle.gr_diary.proofs.Left.{all-kept, begins-kept, left-free, held-holder, held-stays}
use Rattle.gr_diary.proofs.Own.{legal-parts, state-append}

-- an entry that may come moves its actor's part
own-part : (f : Cnf) (reducers capacity : ℕ) (s : State) (e : Entry) → IsKept f reducers s → Allowed f reducers s e
    → part_of f (after f reducers capacity s e) (actor_of e) ≡ part_moved f s e
own-part f reducers capacity s e k ok =
    λ i. record {
      held = held_after s e a;
      cites = λ id. pick id (nat_le id (length f.clauses)) refl (has id (held_after s e a)) refl i;
      taken = ap (λ b. if b then taken_of s e else s.taken a) (same-number a) i;
    }
  where
    a : ℕ
    a = actor_of e

    left : List ℕ
    left = left_ids f reducers capacity s e

    now : IsInOrder f reducers (moved capacity s e)
    now = in-order f reducers capacity s k.order e (changed f reducers capacity s k.order e ok)

    free : (q : ℕ) → has q left ≡ true → has_holder reducers (moved capacity s e) q ≡ false
    free q there = (left-free f reducers capacity s e q there).1

    held-clause : (id : ℕ) → has id (held_after s e a) ≡ true → map.get (after f reducers capacity s e).live id
        ≡ map.get (live_grown s (addition_of e)) id
    held-clause id there = held-stays f reducers (moved capacity s e) now left free id
        (held-holder f reducers (moved capacity s e) now a id there)

    -- the formula's clauses are never deleted
    input-clause : (id : ℕ) → id ≤ length f.clauses → map.get (after f reducers capacity s e).live id
        ≡ map.get (live_grown s (addition_of e)) id
    input-clause id le =
        let stays : has id left ≡ false = false_from_ne_true (has id left)
        (λ there. let above = (left-free f reducers capacity s e id there).0 in absurd (omega arith)) in
        get-without left (live_grown s (addition_of e)) id
        ∙ ap (λ b. if b then None else map.get (live_grown s (addition_of e)) id) stays

    pick : (id : ℕ) (b : Bool) → nat_le id (length f.clauses) ≡ b → (holds : Bool) → has id (held_after s e a) ≡ holds
        → (if b || holds then map.get (after f reducers capacity s e).live id else None)
        ≡ (if b || holds then map.get (live_grown s (addition_of e)) id else None)
    pick id true low holds is = input-clause id (leb-true id (length f.clauses) low)
    pick id false low true is = held-clause id is
    pick id false low false is = refl

pub own-part-moves : OwnPartMoves
own-part-moves f reducers capacity d e legal =
    let parts = legal-parts f reducers capacity d (e ∷ []) (initial_state f) legal in
    ap (λ s. part_of f s (actor_of e)) (state-append f reducers capacity d (e ∷ []) (initial_state f))
    ∙ own-part f reducers capacity (state_of f reducers capacity d) e
    (all-kept f reducers capacity d (initial_state f) (begins-kept f reducers) parts.0) parts.1.0
