-- From the draw to the pass: what a seat has between the steps of a turn, and at its end.
use Rattle.std.proofs.Common.{◌≡◌, ◌≢◌, ℕ, ◌+◌, ◌%◌, ◌^◌, ◌<◌, Bool, true, false, List, [], ◌∷◌, ◌++◌, length}
use Rattle.std.proofs.Common.{Option, Some, None, MatchBool, refl, ap, sym, ◌∙◌, subst}
use mathlib.Core.List.{IsPrefix}
use mathlib.Core.Option.{none}
use Rattle.atomic_table.specs.Table.{Allows, step, rest}
use Rattle.atomic_table.specs.Seated.{TableId}
use Rattle.gr_turn.specs.declared.views.View.{View}
use Rattle.gr_turn.specs.declared.views.Stage.{Stage}
use Rattle.gr_turn.specs.declared.views.Stage.TheVariants.{Away, Waits, Holds}
use Rattle.gr_turn.specs.Views.{by, ticket_of, noted, hand_of}
use Rattle.gr_turn.specs.Seats.{Sitting, sitting_of, IsFit}
use Rattle.gr_turn.specs.Turns.{Grows}
use Rattle.gr_turn.specs.Queues.{Kept}
use Rattle.gr_turn.specs.Told.{Place, Drawn, Took, Passed, counted, passed}
use Rattle.gr_turn.specs.Midway.{HasTicket, IsServed, IsHolding, IsReady}
use Rattle.gr_turn.proofs.Lists.{prefix_trans}
use Rattle.gr_turn.proofs.Places.{turn_holds}
use Rattle.gr_turn.proofs.Steps.{counts, passes}
use Rattle.gr_turn.proofs.BetweenCalls.{is_away}

-- the value of the slot that was taken last
abbrev first_of : {A : Type 0} → A → List (ℕ × A) → A
first_of d [] = d
first_of d (z ∷ zs) = z.1

abbrev value_of : {A : Type 0} → A → Option A → A
value_of d None = d
value_of d (Some a) = a

-- a hand has one slot at most
rest_of_hand : {T E : Type 0} (st : Stage E) → rest (hand_of {T = T} st) ≡ []
rest_of_hand Away = refl
rest_of_hand (Waits k) = refl
rest_of_hand (Holds k h) = refl

module _ {T E F : Type 0} (history : T → List E) (number : E → ℕ) (fixed : T → F) where
  -- after a draw the seat has the ticket
  pub has_ticket : (m m' : Place T E F) (word : ℕ) → m.0.live ≡ true → Drawn m word m'
      → HasTicket word m'
  has_ticket m m' word live d =
      (d.1, d.2, ap (λ (v : View E F). v.stage) d.3, ap (λ (v : View E F). v.live) d.3 ∙ live)

  -- the look that finds it served
  pub served_now : (m m' : Place T E F) (word found : ℕ) → HasTicket word m → found ≡ word
      → Took history number fixed m found m' → IsServed history number fixed m m'
  served_now m m' word found t is took =
      let tick : ticket_of m.0.stage ≡ t.0 = ap ticket_of t.2 in
      let got = took.0 (is ∙ (sym t.1 ∙ ap (λ (i : ℕ). i % 2 ^ 64) (sym tick))) in record {
        ticket = ticket_of m.0.stage;
        value = got.0;
        place = got.1;
        begins = got.2;
        own = got.3;
        part = got.4;
      }

  -- any other look changes nothing
  pub not_yet : (m m' : Place T E F) (word found : ℕ) → HasTicket word m → found ≢ word
      → Took history number fixed m found m' → m' ≡ m
  not_yet m m' word found t ne took =
      took.1 (λ e. ne (e ∙ (ap (λ (i : ℕ). i % 2 ^ 64) (ap ticket_of t.2) ∙ t.1)))

  -- the seat has the slot, with the value
  pub has_slot : (m m' : Place T E F) (s : IsServed history number fixed m m')
      → m'.1 ≡ (0, Some s.value) ∷ rest m'.1
  has_slot m m' s =
      let is : m'.1 ≡ (0, Some s.value) ∷ m.1 = ap (λ (z : Place T E F). z.1) s.place in
      is ∙ ap (λ (c : List (ℕ × Option T)). (0, Some s.value) ∷ rest c) (sym is)

  -- what was in the slot is the value
  pub slot_value : (m m' : Place T E F) (s : IsServed history number fixed m m') (y : Option T)
      → m'.1 ≡ (0, y) ∷ rest m'.1 → y ≡ Some s.value
  slot_value m m' s y read = ap (first_of y) (sym read ∙ has_slot m m' s)

  -- the seat in its turn, as contracts see it, and the value that it found
  pub record HasEntered (z : TableId) (s : Sitting E F) (m : Place T E F) (x : T) : Type 0 where
    pub fit : IsFit number m
    pub seat : sitting_of z m.0 ≡ record s { in_turn = true; found = history x }
    pub seen : IsPrefix s.seen (history x)
    pub own : by number (history x) s.number ≡ s.own
    pub part : Some (fixed x) ≡ s.fixed
    pub all : by number s.seen s.number ≡ s.own

  -- once the value is moved out of the slot
  pub entered : (z z' : TableId) (s : Sitting E F) (m m1 m2 m3 : Place T E F) (word : ℕ) (x : T)
      (y : Option T) → sitting_of z m.0 ≡ s → s.in_turn ≡ false → IsFit number m
      → Drawn m word m1 → IsServed history number fixed m1 m2
      → m2.1 ≡ (0, y) ∷ rest m2.1 → m3 ≡ (m2.0, (0, None) ∷ rest m2.1) → y ≡ Some x → z' ≡ z
      → HasEntered z' s m3 x
  entered z z' s m m1 m2 m3 word x y is out fit d served read wrote got same =
      let away : m.0.stage ≡ Away = is_away number z s m is fit out in
      let value : served.value ≡ x =
      ap (value_of x) (sym (slot_value m1 m2 served y read) ∙ got) in
      let bare : m1.1 ≡ [] =
      d.0 ∙ (fit.in_hand ∙ ap (λ (st : Stage E). hand_of {T = T} st) away) in
      let now : m3 ≡ (record m.0 { stage = Holds served.ticket (history x) }, (0, None) ∷ []) =
      wrote ∙ (ap (λ (w : Place T E F). let k : Place T E F = (w.0, (0, None) ∷ rest w.1) in k)
      served.place ∙ (λ i. (
        record (d.3 i) { stage = Holds served.ticket (history (value i)) },
        (0, None) ∷ bare i,
      ))) in record {
        fit = subst (IsFit number) (sym now) record {
          live = fit.live;
          own_is = fit.own_is;
          sums = fit.sums;
          in_hand = refl;
          away = λ e. absurd (cc e);
        };
        seat = (λ i. sitting_of (same i) (now i).0)
            ∙ ap (λ (t : Sitting E F).
            let k : Sitting E F = record t { in_turn = true; found = history x } in k) is;
        seen = subst (λ (t : Sitting E F). IsPrefix t.seen (history x)) is
            (subst (λ (k : View E F × T). IsPrefix k.0.seen (history k.1))
            (λ i. (d.3 i, value i)) served.begins);
        own = subst (λ (t : Sitting E F). by number (history x) t.number ≡ t.own) is
            (subst (λ (k : View E F × T). by number (history k.1) k.0.number ≡ k.0.own)
            (λ i. (d.3 i, value i)) served.own);
        part = subst (λ (t : Sitting E F). Some (fixed x) ≡ t.fixed) is
            (subst (λ (k : View E F × T). Some (fixed k.1) ≡ k.0.fixed)
            (λ i. (d.3 i, value i)) served.part);
        all = subst (λ (t : Sitting E F). by number t.seen t.number ≡ t.own) is fit.own_is;
      }

  -- once the value is back in the slot
  handed : (m m' : Place T E F) (x : T) → IsHolding m → m' ≡ (m.0, (0, Some x) ∷ rest m.1)
      → m' ≡ (m.0, (0, Some x) ∷ [])
  handed m m' x holding is =
      is ∙ ap (λ (c : List (ℕ × Option T)). let w : Place T E F = (m.0, (0, Some x) ∷ c) in w)
      (ap rest holding.in_hand ∙ rest_of_hand m.0.stage)

  -- the entry of a turn that made one
  entry_of : (grown : Bool) (n : ℕ) (before after : List E) → grown ≡ true
      → Grows grown number n before after
      → (e : E) × (after ≡ before ++ e ∷ []) × (number e ≡ n)
  entry_of grown n before after made grows =
      subst (λ b. MatchBool b ((e : E) × (after ≡ before ++ e ∷ []) × (number e ≡ n))
      (after ≡ before)) made grows

  -- the count may come
  pub counts_back : (slots id : ℕ) (m m' : Place T E F) (x : T) (grown : Bool) → grown ≡ true
      → IsHolding m → m' ≡ (m.0, (0, Some x) ∷ rest m.1)
      → Grows grown number m.0.number (noted m.0.stage) (history x) → slots ≡ 1
      → length (history x) < 2 ^ 64
      → Allows (Kept history number fixed) slots id m' 2 (λ n. (n + 1) % 2 ^ 64)
      (counted history number (step slots 2 1 0 none) m')
  counts_back slots id m m' x grown made holding is grows one_slot short =
      let back : m' ≡ (m.0, (0, Some x) ∷ []) = handed m m' x holding is in
      let more = entry_of grown m.0.number (noted m.0.stage) (history x) made grows in
      counts history number fixed slots id m' (ticket_of m.0.stage) (noted m.0.stage) x more.0
      (ap (λ (z : Place T E F). z.0.stage) back ∙ turn_holds m.0.stage holding.turn)
      (ap (λ (z : Place T E F). z.0.live) back ∙ holding.live) one_slot
      (ap (λ (z : Place T E F). z.1) back) more.1
      (more.2 ∙ sym (ap (λ (z : Place T E F). z.0.number) back)) short

  -- the pass may come
  pub passes_back : (slots id : ℕ) (m m' : Place T E F) (x : T) (grown : Bool) → m.0.live ≡ true
      → IsReady history grown x m m' → slots ≡ 1 → Some (fixed x) ≡ m.0.fixed
      → Allows (Kept history number fixed) slots id m' 1 (λ n. (n + 1) % 2 ^ 64)
      (passed number (step slots 1 1 0 none) m')
  passes_back slots id m m' x grown live ready one_slot part =
      let at : (A : Type 0) (f : Place T E F → A)
      → f m' ≡ f (
        record m.0 {
          stage = Holds (ticket_of m.0.stage) (history x);
          seen = m'.0.seen;
          own = m'.0.own;
        },
        (0, Some x) ∷ [],
      ) = λ A f. ap f ready.place in
      passes history number fixed slots id m' (ticket_of m.0.stage) (history x) x
      (at (Stage E) (λ z. z.0.stage)) (at Bool (λ z. z.0.live) ∙ live) one_slot
      (at (List (ℕ × Option T)) (λ z. z.1)) refl (part ∙ sym (at (Option F) (λ z. z.0.fixed)))

  -- after the pass the seat has seen the history, in which its own entries are all that name it
  pub passed_on : (m m' m2 : Place T E F) (x : T) (grown : Bool) → IsReady history grown x m m'
      → Passed number m' m2
      → IsPrefix m.0.seen m2.0.seen × (by number m2.0.seen m2.0.number ≡ m2.0.own)
  passed_on m m' m2 x grown ready p =
      let seen : m2.0.seen ≡ noted m'.0.stage = ap (λ (v : View E F). v.seen) p.1 in (
        subst (IsPrefix m.0.seen) (sym seen)
            (prefix_trans m.0.seen m'.0.seen (noted m'.0.stage) ready.later p.3),
        subst (λ (v : View E F). by number v.seen v.number ≡ v.own) (sym p.1) p.2,
      )
