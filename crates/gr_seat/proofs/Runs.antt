-- entries that an actor may make at any moment
use Rattle.std.proofs.Common.{◌≡◌, ◌≤◌, ℕ, Bool, ◌||◌, if◌then◌else◌, List, [], ◌∷◌, length, true}
use Rattle.std.proofs.Common.{option_map, All, IsSome, None, refl, sym, ap, ◌∙◌, subst, arith}
use Rattle.std.specs.FinMap as map
use Rattle.std.proofs.lemmas.Bool.{le-leb}
use Rattle.std.proofs.lemmas.List.Elements.{All-nil, All-cons, All-head, All-tail}
use Rattle.gr_logic.specs.Literals.{Literal}
use Rattle.gr_logic.specs.Formulas.{Cnf}
use Rattle.gr_logic.specs.Rup.{Live, members}
use Rattle.gr_logic.specs.Closure.{family_of}
use Rattle.gr_logic.proofs.Readings.{rup-hints}
use Rattle.gr_diary.specs.declared.entries.Entry.{Entry}
use Rattle.gr_diary.specs.declared.entries.Entry.TheVariants.{Learn}
use Rattle.gr_diary.specs.declared.entries.Entry.TheVariants as entry
use Rattle.gr_diary.specs.States.{State, has, initial_state}
use Rattle.gr_diary.specs.Rules.{IsJustified, part_of, cited_by}
use Rattle.gr_diary.specs.Histories.{IsLegal, IsEnabled, part_after, state_of}
use Rattle.gr_diary.specs.Examples.{chain, plus}
use Rattle.gr_diary.proofs.Left.{all-kept, begins-kept}
use Rattle.gr_diary.proofs.Small.{learns-are-in-bounds}
use Rattle.gr_diary.proofs.WholeRun.{whole-run-is-legal}
use Rattle.gr_seat.specs.Handles.{Handle, Enables, HasSeenLegal}

-- the formula's clauses may be cited by every actor
input_cited : (f : Cnf) (s : State) (actor id : ℕ) → id ≤ length f.clauses → cited_by f s actor id ≡ map.get s.live id
input_cited f s actor id low =
    ap (λ (b : Bool). if b || has id (s.held actor) then map.get s.live id else None) (le-leb id (length f.clauses) low)

-- and they stay as they were at first
input_stays : (f : Cnf) (reducers capacity : ℕ) (d : List Entry) (actor id : ℕ) → IsLegal f reducers capacity d
    → id ≤ length f.clauses
    → (part_after f reducers capacity d actor).cites id ≡ (part_of f (initial_state f) 0).cites id
input_stays f reducers capacity d actor id legal low =
    let kept = all-kept f reducers capacity d (initial_state f) (begins-kept f reducers) legal in
    input_cited f (state_of f reducers capacity d) actor id low ∙ kept.inputs id low
    ∙ sym (input_cited f (initial_state f) 0 id low)

-- clauses that are the same are cited by both
all_cited : (one other : Live) (ids : List ℕ) → ((id : ℕ) → id ≤ 3 → one id ≡ other id) → All (λ id. id ≤ 3) ids
    → All (λ id. IsSome (other id)) ids → All (λ id. IsSome (one id)) ids
all_cited one other [] same low all = All-nil (λ id. IsSome (one id))
all_cited one other (id ∷ ids) same low all =
    All-cons (λ i. IsSome (one i)) id ids
    (subst IsSome (sym (same id (All-head (λ i. i ≤ 3) id ids low))) (All-head (λ i. IsSome (other i)) id ids all))
    (all_cited one other ids same (All-tail (λ i. i ≤ 3) id ids low) (All-tail (λ i. IsSome (other i)) id ids all))

all_same : (one other : Live) (ids : List ℕ) → ((id : ℕ) → id ≤ 3 → one id ≡ other id) → All (λ id. id ≤ 3) ids
    → All (λ id. family_of one id ≡ family_of other id) ids
all_same one other [] same low = All-nil (λ id. family_of one id ≡ family_of other id)
all_same one other (id ∷ ids) same low =
    All-cons (λ i. family_of one i ≡ family_of other i) id ids
    (ap (option_map members) (same id (All-head (λ i. i ≤ 3) id ids low)))
    (all_same one other ids same (All-tail (λ i. i ≤ 3) id ids low))

-- an addition that cites clauses of the formula alone stays justified
stays_justified : (reducers capacity : ℕ) (d : List Entry) (actor : ℕ) (c : List Literal) (hints : List ℕ)
    → IsLegal chain reducers capacity d → All (λ id. id ≤ 3) hints
    → IsJustified chain (part_of chain (initial_state chain) 0) c hints
    → IsJustified chain (part_after chain reducers capacity d actor) c hints
stays_justified reducers capacity d actor c hints legal low first =
    let now = part_after chain reducers capacity d actor in
    let begun = part_of chain (initial_state chain) 0 in
    let same : (id : ℕ) → id ≤ 3 → now.cites id ≡ begun.cites id =
    λ id few. input_stays chain reducers capacity d actor id legal few in
    record {
      normal = first.normal;
      within = first.within;
      cited = all_cited now.cites begun.cites hints same low first.cited;
      accepted = rup-hints now.cites begun.cites c c refl hints (all_same now.cites begun.cites hints same low)
          ∙ first.accepted;
    }

low_two : All (λ id. id ≤ 3) (1 ∷ 2 ∷ [])
low_two = All-cons (λ id. id ≤ 3) 1 (2 ∷ []) (omega arith) (All-cons (λ id. id ≤ 3) 2 [] (omega arith)
    (All-nil (λ id. id ≤ 3)))

low_three : All (λ id. id ≤ 3) (1 ∷ 2 ∷ 3 ∷ [])
low_three = All-cons (λ id. id ≤ 3) 1 (2 ∷ 3 ∷ []) (omega arith) (All-cons (λ id. id ≤ 3) 2 (3 ∷ []) (omega arith)
    (All-cons (λ id. id ≤ 3) 3 [] (omega arith) (All-nil (λ id. id ≤ 3))))

-- the unit clause `2` may be added at any moment
pub two_stays : (h : Handle) → h.formula ≡ chain → HasSeenLegal h → h.actor ≤ h.reducers
    → Enables h (entry.Unit h.actor (plus 2) (1 ∷ 2 ∷ []))
two_stays h is legal low =
    let first = learns-are-in-bounds.0.0.able.0 in
    subst (λ (f : Cnf). IsEnabled f h.reducers h.capacity h.seen (entry.Unit h.actor (plus 2) (1 ∷ 2 ∷ []))) (sym is) (
      low,
      stays_justified h.reducers h.capacity h.seen h.actor (plus 2 ∷ []) (1 ∷ 2 ∷ [])
          (subst (λ (f : Cnf). IsLegal f h.reducers h.capacity h.seen) is legal) low_two first,
    )

-- and so may the clause `3 4`, on offer
pub offer_stays : (h : Handle) → h.formula ≡ chain → HasSeenLegal h
    → Enables h (Learn (plus 3 ∷ plus 4 ∷ []) (1 ∷ 2 ∷ 3 ∷ []) 2 true)
offer_stays h is legal =
    let first = whole-run-is-legal.0.0.able in
    subst (λ (f : Cnf). IsEnabled f h.reducers h.capacity h.seen (Learn (plus 3 ∷ plus 4 ∷ []) (1 ∷ 2 ∷ 3 ∷ []) 2 true))
    (sym is) (
      stays_justified h.reducers h.capacity h.seen 0 (plus 3 ∷ plus 4 ∷ []) (1 ∷ 2 ∷ 3 ∷ [])
          (subst (λ (f : Cnf). IsLegal f h.reducers h.capacity h.seen) is legal) low_three first.0,
      first.1,
      first.2,
    )
