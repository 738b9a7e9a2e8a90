-- clauses that are moved together within their vector, one by one
use Rattle.std.proofs.Common.{◌≡◌, ℕ, ◌+◌, ◌-◌, ◌<◌, ◌≤◌, Bool, true, false, ◌&&◌, nat_le, if◌then◌else◌, List, [], ◌∷◌, ◌++◌, take, drop, length, Option, Some, None, get_or, refl, sym, ap, ◌∙◌, arith, add-one, drop-cons}
use Rattle.std.specs.Prelude.{option_map, All}
use Rattle.std.proofs.Math.ListN.{set}
use Rattle.std.proofs.lemmas.Bool.Decides.{nat_tests}
use Rattle.std.proofs.lemmas.List.{drop-drop, drop-set-lt, drop_all, length-drop, length-take-le, length-append, take_more_set, take-take, take-append-le, take-append-drop}
use Rattle.std.proofs.lemmas.List.Elements.{All-nil, All-cons}
use Rattle.std.proofs.lemmas.Grind.{drop_more_same}
use Rattle.gr_logic.specs.Literals.{Literal}
use Rattle.gr_check.specs.Runs.{lits_of, lits_in, clauses_in, AreMoved, IsRunWithin, are_in_order, begins_from, moved_to, run_length, is_movable, end_in_order, end_of}
use Rattle.gr_check.specs.declared.runs.Run.{Run}
use Rattle.gr_check.proofs.RunMaps.{lits_of-last}
use Rattle.gr_check.proofs.Moves.{moved_next, all_longer, same_slots}

-- the next run first, and then the others
next_slot : (slots : List (Option Run)) (i : ℕ) → i < length slots
    → drop i slots ≡ get_or slots i None ∷ drop (i + 1) slots
next_slot slots i in_range = rw add-one (drop-cons slots i None in_range)

-- both hold
left_of : (a b : Bool) → (a && b) ≡ true → a ≡ true
left_of true b both = refl
left_of false b both = absurd (cc)

right_of : (a b : Bool) → (a && b) ≡ true → b ≡ true
right_of true b both = both
right_of false b both = absurd (cc)

-- the next run of runs that are in order
pub next_begins : (slots : List (Option Run)) (i end : ℕ) → i < length slots
    → are_in_order end (drop i slots) ≡ true → begins_from end (get_or slots i None) ≡ true
next_begins slots i end in_range order =
    left_of _ _ (ap (are_in_order end) (sym (next_slot slots i in_range)) ∙ order)

-- the others are in order behind it
pub next_order : (slots : List (Option Run)) (i end : ℕ) → i < length slots
    → are_in_order end (drop i slots) ≡ true
    → are_in_order (end + run_length (get_or slots i None)) (drop (i + 1) slots) ≡ true
next_order slots i end in_range order =
    right_of _ _ (ap (are_in_order end) (sym (next_slot slots i in_range)) ∙ order)

-- a run is the same where the runs from it on are
pub same_slot_at : (slots old : List (Option Run)) (i : ℕ) → i < length slots → i < length old
    → drop i slots ≡ drop i old → get_or slots i None ≡ get_or old i None
same_slot_at slots old i in_range in_old same =
    let is = sym (next_slot slots i in_range) ∙ same ∙ next_slot old i in_old in cc

-- what is the same from one place on is so from a later one on
pub later : {X : Type 0} (xs ys : List X) (m n : ℕ) → m ≤ n → drop m xs ≡ drop m ys → drop n xs ≡ drop n ys
later xs ys m n le same =
    let apart : n ≡ m + (n - m) = omega arith in
    ap (λ k. drop k xs) apart ∙ sym (drop-drop (n - m) m xs) ∙ ap (drop (n - m)) same
    ∙ drop-drop (n - m) m ys ∙ ap (λ k. drop k ys) (sym apart)

-- the runs behind one that is written
pub slots_behind : (slots old : List (Option Run)) (i : ℕ) (place : Option Run) → drop i slots ≡ drop i old
    → drop (i + 1) (set slots i place) ≡ drop (i + 1) old
slots_behind slots old i place same =
    drop-set-lt (i + 1) slots i place (omega arith) ∙ drop_more_same slots old i same

-- a run's literals are the same where those from there on are
same_lits : (src lits : List Literal) (end : ℕ) (slot : Option Run) → drop end lits ≡ drop end src
    → begins_from end slot ≡ true → option_map (lits_of lits) slot ≡ option_map (lits_of src) slot
same_lits src lits end None same begins = refl
same_lits src lits end (Some run) same begins =
    let le : end ≤ run.from = grind (arith, nat_tests) in
    ap (λ ls. Some (take run.len ls)) (later lits src end run.from le same)

-- how many literals a run has
length-lits_in : (lits : List Literal) (slot : Option Run) → IsRunWithin (length lits) slot
    → length (lits_in lits slot) ≡ run_length slot
length-lits_in lits None within = refl
length-lits_in lits (Some run) within =
    length-take-le run.len (drop run.from lits) (omega (arith, length-drop run.from lits))

-- a run that begins from here on ends within, and so what is moved here
pub end_within : (count end : ℕ) (slot : Option Run) → begins_from end slot ≡ true → IsRunWithin count slot
    → end ≤ count → end + run_length slot ≤ count
end_within count end None begins within le = omega arith
end_within count end (Some run) begins within le = grind (arith, nat_tests)

-- a run that is moved ends within
placed_within : (lits : List Literal) (end : ℕ) (slot : Option Run) → end ≤ length lits
    → IsRunWithin (length lits) slot
    → IsRunWithin (length (take end lits ++ lits_in lits slot)) (moved_to end slot)
placed_within lits end None le within = tt
placed_within lits end (Some run) le within =
    omega (
      arith,
      length-append (take end lits) (lits_of lits run),
      length-take-le end lits le,
      length-lits_in lits (Some run) within,
    )

-- and has its literals
placed_lits : (lits : List Literal) (end : ℕ) (slot : Option Run) → end ≤ length lits
    → IsRunWithin (length lits) slot
    → option_map (lits_of (take end lits ++ lits_in lits slot)) (moved_to end slot)
    ≡ option_map (lits_of lits) slot
placed_lits lits end None le within = refl
placed_lits lits end (Some run) le within =
    ap Some (lits_of-last (take end lits) (lits_of lits run) (record { from = end; len = run.len })
    (sym (length-take-le end lits le)) (sym (length-lits_in lits (Some run) within)))

-- one more run is moved
pub slid_next : (src lits new_lits : List Literal) (old slots : List (Option Run)) (i end : ℕ)
    → i < length old → i < length slots → end ≤ length lits
    → IsRunWithin (length lits) (get_or old i None) → begins_from end (get_or old i None) ≡ true
    → drop end lits ≡ drop end src
    → take (end + run_length (get_or old i None)) new_lits
    ≡ take end lits ++ lits_in lits (get_or old i None)
    → AreMoved src (take i old) (take end lits) (take i slots)
    → AreMoved src (take (i + 1) old) (take (end + run_length (get_or old i None)) new_lits)
    (take (i + 1) (set slots i (moved_to end (get_or old i None))))
slid_next src lits new_lits old slots i end in_old in_range le within begins same moved so_far =
    moved_next src (take end lits) (lits_in lits (get_or old i None)) _ old (take i slots) _ i
    (moved_to end (get_or old i None)) in_old so_far moved
    (take_more_set slots i (moved_to end (get_or old i None)) in_range)
    (rw moved (placed_within lits end (get_or old i None) le within))
    (rw moved (placed_lits lits end (get_or old i None) le within
    ∙ same_lits src lits end (get_or old i None) same begins))

-- the runs that are left end where all do
pub next_end : (slots : List (Option Run)) (i end : ℕ) → i < length slots
    → end_of end (drop i slots) ≡ end_of (end + run_length (get_or slots i None)) (drop (i + 1) slots)
next_end slots i end in_range = ap (end_of end) (next_slot slots i in_range)

-- after the last one, this is where they end
pub last_end : (slots : List (Option Run)) (i end : ℕ) → length slots ≤ i → end_of end (drop i slots) ≡ end
last_end slots i end all = ap (end_of end) (drop_all i slots all)

-- the literals before the start stay
pub kept_next : (lits old new : List Literal) (c : List Literal) (start end count : ℕ) → start ≤ end
    → end ≤ length old → take (end + count) new ≡ take end old ++ c → take start old ≡ take start lits
    → take start new ≡ take start lits
kept_next lits old new c start end count le within moved kept =
    sym (take-take start (end + count) new (omega arith)) ∙ ap (take start) moved
    ∙ take-append-le start (take end old) c (omega (arith, length-take-le end old within))
    ∙ take-take start end old le ∙ kept

-- runs that are in order from an end on have the same clauses where the literals from there on are the same
pub same_behind : (src lits : List Literal) (end : ℕ) (slots : List (Option Run)) → drop end lits ≡ drop end src
    → are_in_order end slots ≡ true → clauses_in lits slots ≡ clauses_in src slots
same_behind src lits end [] same order = refl
same_behind src lits end (slot ∷ slots) same order =
    ap (λ x. x ∷ clauses_in lits slots) (same_lits src lits end slot same (left_of _ _ order))
    ∙ ap (λ xs. option_map (lits_of src) slot ∷ xs)
    (same_behind src lits (end + run_length slot) slots
    (later lits src end (end + run_length slot) (omega arith) same) (right_of _ _ order))

-- what one test of the order says of a run
movable_begins : (count end : ℕ) (slot : Option Run) → is_movable count end slot ≡ true → begins_from end slot ≡ true
movable_begins count end None is = refl
movable_begins count end (Some run) is = left_of _ _ is

movable_within : (count end : ℕ) (slot : Option Run) → is_movable count end slot ≡ true → IsRunWithin count slot
movable_within count end None is = tt
movable_within count end (Some run) is =
    let le : nat_le (run.from + run.len) count ≡ true =
    right_of (nat_le end run.from) (nat_le (run.from + run.len) count) is in
    grind (arith, nat_tests)

-- both hold
both : (a b : Bool) → a ≡ true → b ≡ true → (a && b) ≡ true
both true true first second = refl
both true false first second = second
both false b first second = absurd (cc)

-- runs with an end are in order, end within, and end there
pub ends_in_order : (count end last : ℕ) (slots : List (Option Run)) → end_in_order count end slots ≡ Some last
    → (are_in_order end slots ≡ true) × All (IsRunWithin count) slots × (last ≡ end_of end slots)
ends_in_order count end last [] is = (refl, All-nil (IsRunWithin count), cc)
ends_in_order count end last (slot ∷ slots) is = cases (is_movable count end slot) refl is
    (ends_in_order count (end + run_length slot) last slots)
  where
    cases : (b : Bool) → is_movable count end slot ≡ b
        → (if b then end_in_order count (end + run_length slot) slots else None) ≡ Some last
        → (end_in_order count (end + run_length slot) slots ≡ Some last
        → (are_in_order (end + run_length slot) slots ≡ true) × All (IsRunWithin count) slots
        × (last ≡ end_of (end + run_length slot) slots))
        → (are_in_order end (slot ∷ slots) ≡ true) × All (IsRunWithin count) (slot ∷ slots)
        × (last ≡ end_of end (slot ∷ slots))
    cases true movable is others =
        let rest = others is in (
          both (begins_from end slot) _ (movable_begins count end slot movable) rest.0,
          All-cons (IsRunWithin count) slot slots (movable_within count end slot movable) rest.1,
          rest.2,
        )
    cases false movable is others = absurd (cc)

-- runs that were moved before others were moved behind them
pub first_moved : (src mid lits : List Literal) (old new : List (Option Run)) (middle end : ℕ) → middle ≤ end
    → take middle lits ≡ take middle mid → AreMoved src old (take middle mid) new
    → AreMoved src old (take end lits) new
first_moved src mid lits old new middle end le kept moved =
    let apart : take end lits ≡ take middle mid ++ drop middle (take end lits) =
    sym (take-append-drop middle (take end lits))
    ∙ ap (λ xs. xs ++ drop middle (take end lits)) (take-take middle end lits le ∙ kept) in
    rw apart
    record {
      within = all_longer (take middle mid) (drop middle (take end lits)) new moved.within;
      same = same_slots (take middle mid) (drop middle (take end lits)) new moved.within ∙ moved.same;
    }

-- runs that were moved after others were moved before them
pub then_moved : (src mid lits : List Literal) (old new : List (Option Run)) (middle end : ℕ)
    → drop middle mid ≡ drop middle src → are_in_order middle old ≡ true → AreMoved mid old (take end lits) new
    → AreMoved src old (take end lits) new
then_moved src mid lits old new middle end same order moved = record {
  within = moved.within;
  same = moved.same ∙ same_behind src mid middle old same order;
}
