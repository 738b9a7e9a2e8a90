-- the rule of the lock's table: three words, the value's slot, and what the seats know
use Rattle.std.specs.Prelude.{◌≡◌, ◌⊎◌, ◌+◌, ◌%◌, ◌^◌, ◌<◌, ◌≤◌, ℕ, Bool, true, false}
use Rattle.std.specs.Prelude.{List, [], ◌∷◌, length, Option, Some}
use mathlib.Core.Option.{some}
use mathlib.Core.Option as maybe
use mathlib.Core.List.{IsPrefix}
use lib.ListN.{get_elem?}
use Rattle.atomic_table.specs.Table.{State}
use Rattle.gr_turn.specs.declared.views.View.{View}
use Rattle.gr_turn.specs.declared.views.Stage.{Stage}
use Rattle.gr_turn.specs.declared.views.Stage.TheVariants.{Away, Waits, Holds}
use Rattle.gr_turn.specs.Views.{by, ticket_of, in_line, in_turn}

-- 1 where it is so
abbrev pub one_if : Bool → ℕ
one_if true = 1
one_if false = 0

-- a number of each, added up
abbrev pub total : {A : Type 0} → (A → ℕ) → List A → ℕ
total f [] = 0
total f (x ∷ xs) = f x + total f xs

-- the tickets from `served` up to `drawn` are out; who holds the value has the one that is served,
-- and has noted the history
abbrev pub InLine : {E : Type 0} → ℕ → ℕ → List E → Stage E → Type 0
InLine served drawn h Away = Unit {0}
InLine served drawn h (Waits ticket) = (served ≤ ticket) × (ticket < drawn)
InLine served drawn h (Holds ticket history) = (ticket ≡ served) × (ticket < drawn) × (history ≡ h)

module _ {E F : Type 0} where
  -- 1 for a seat with a ticket
  abbrev pub waits_in : View E F → ℕ
  waits_in v = one_if (in_line v.stage)

  -- 1 for a seat that was not joined
  abbrev pub lives : View E F → ℕ
  lives v = one_if v.live

  -- the seat `i`: what it has seen, and what it joined last, begin the history. Where it was not
  -- joined, its number is `i`, and its own entries are all that name it
  pub record Fits (number : E → ℕ) (h : List E) (part : F) (served drawn i : ℕ)
      (v : View E F) : Type 0 where
    pub seen : IsPrefix v.seen h
    pub left : IsPrefix v.left h
    pub right : IsPrefix v.right h
    pub stage : InLine served drawn h v.stage
    pub live : v.live ≡ true
        → (v.number ≡ i) × (v.fixed ≡ Some part) × (by number h i ≡ v.own)
        × (v.splits ≡ v.out + v.joined)
    pub spent : v.live ≡ false → v.stage ≡ Away

  -- the first seat counts the splits, and the seats that were not joined
  pub record Heads (v : View E F) (views : List (View E F)) : Type 0 where
    pub here : get_elem? views 0 ≡ some v
    pub live : v.live ≡ true
    pub few : v.splits ≤ 1000000
    pub count : length views ≡ v.splits + 1
    pub out : total lives views ≡ v.out + 1

  -- what the first seat knows at the opening
  abbrev pub newcomer : F → View E F
  newcomer part = record {
    live = true;
    number = 0;
    fixed = Some part;
    seen = [];
    own = [];
    turns = 0;
    splits = 0;
    out = 0;
    joined = 0;
    stage = Away;
    left = [];
    right = [];
  }

module _ {T E F : Type 0} (history : T → List E) (number : E → ℕ) (fixed : T → F) where
  -- the value is at home, or out with a seat in its turn
  abbrev pub Homed : List E → F → List (maybe.Option (Option T)) → List (View E F) → Type 0
  Homed h part homes views =
      ((x : T) × (homes ≡ some (Some x) ∷ []) × (history x ≡ h) × (fixed x ≡ part))
      ⊎ ((length homes ≡ 1) × (i : ℕ) × (v : View E F) × (get_elem? views i ≡ some v)
      × (in_turn v.stage ≡ true))

  -- there is one history, whose length is the third word; each seat fits it, no two have one
  -- ticket, the tickets that are out are as many as the seats in line, and no entry names a seat
  -- that is still to be split off
  pub record Kept (s : State (Option T) (View E F)) : Type 0 where
    pub h : List E
    pub part : F
    pub served : ℕ
    pub drawn : ℕ
    pub words : s.words ≡ drawn % 2 ^ 64 ∷ served % 2 ^ 64 ∷ length h ∷ []
    pub home : Homed h part s.homes s.views
    pub each : (i : ℕ) (v : View E F) → get_elem? s.views i ≡ some v
        → Fits number h part served drawn i v
    pub apart : (i j : ℕ) (v w : View E F) → get_elem? s.views i ≡ some v
        → get_elem? s.views j ≡ some w → in_line v.stage ≡ true → in_line w.stage ≡ true
        → ticket_of v.stage ≡ ticket_of w.stage → i ≡ j
    pub queue : drawn ≡ served + total waits_in s.views
    pub first : (head : View E F) × Heads head s.views
    pub others : (n : ℕ) → length s.views ≤ n → by number h n ≡ []
