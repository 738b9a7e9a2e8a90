-- Facts of each element of a list, and of where a seat stands in the queue.
use Rattle.std.proofs.Common.{◌≡◌, ◌≢◌, ◌⊎◌, ℕ, zero, suc, ◌+◌, ◌<◌, ◌≤◌, Bool, true, false, cond, List, [], ◌∷◌, ◌++◌, length, set}
use Rattle.std.proofs.Common.{Option, Some, None, refl, ap, sym, subst, inl, inr, ⊎_elim, arith}
use mathlib.Core.Option.{some, some-injective, some-ne-none}
use lib.ListN.{get_elem?}
use Rattle.atomic_table.proofs.Lists.{at_set}
use Rattle.gr_turn.specs.declared.views.Stage.{Stage}
use Rattle.gr_turn.specs.declared.views.Stage.TheVariants.{Away, Waits, Holds}
use Rattle.gr_turn.specs.Views.{ticket_of, in_line, in_turn, noted}
use Rattle.gr_turn.specs.Queues.{one_if, InLine}

-- a seat counts for one at most
pub at_most_one : (b : Bool) → one_if b ≤ 1
at_most_one true = omega arith
at_most_one false = omega arith

-- where there is one slot, it is the whole list
pub one_home : {A : Type 0} (hs : List A) (a : A) → length hs ≡ 1 → set hs 0 a ≡ a ∷ []
one_home [] a e = absurd (omega arith)
one_home (x ∷ []) a e = refl
one_home (x ∷ y ∷ ys) a e = absurd (omega arith)

abbrev or_else : {A : Type 0} → A → Option A → A
or_else a None = a
or_else a (Some b) = b

-- two values in a slot are one
pub some_same : {A : Type 0} (a b : A) → Some a ≡ Some b → a ≡ b
some_same a b e = ap (or_else a) e

-- a list of one element has no other
pub only : {A : Type 0} (a : A) (i : ℕ) (b : A) → get_elem? (a ∷ []) i ≡ some b
    → (i ≡ 0) × (a ≡ b)
only a zero b e = (refl, some-injective a b e)
only a (suc i) b e = absurd (some-ne-none b (sym e))

-- an element is one of before, or the new one
at_end : {A : Type 0} (l : List A) (a b : A) (j : ℕ) → get_elem? (l ++ a ∷ []) j ≡ some b
    → (get_elem? l j ≡ some b) ⊎ ((j ≡ length l) × (a ≡ b))
at_end [] a b zero e = inr (refl, some-injective a b e)
at_end [] a b (suc j) e = absurd (some-ne-none b (sym e))
at_end (x ∷ xs) a b zero e = inl e
at_end (x ∷ xs) a b (suc j) e =
    ⊎_elim inl (λ (t : (j ≡ length xs) × (a ≡ b)). inr (ap suc t.0, t.1)) (at_end xs a b j e)

-- a fact of each element, where one became another
pub each_set : {A : Type 0} (P : ℕ → A → Type 0) (l : List A) (i : ℕ) (a : A) → P i a
    → ((j : ℕ) (b : A) → j ≢ i → get_elem? l j ≡ some b → P j b)
    → (j : ℕ) (b : A) → get_elem? (set l i a) j ≡ some b → P j b
each_set {A} P l i a here else j b e =
    ⊎_elim
    (λ (t : (j ≡ i) × (a ≡ b)). subst (λ (z : ℕ × A). P z.0 z.1) (λ k. (sym t.0 k, t.1 k)) here)
    (λ (t : (j ≢ i) × (get_elem? l j ≡ some b)). else j b t.0 t.1)
    (at_set l i j a b e)

-- and where one was added
pub each_end : {A : Type 0} (P : ℕ → A → Type 0) (l : List A) (a : A) → P (length l) a
    → ((j : ℕ) (b : A) → get_elem? l j ≡ some b → P j b)
    → (j : ℕ) (b : A) → get_elem? (l ++ a ∷ []) j ≡ some b → P j b
each_end {A} P l a here else j b e =
    ⊎_elim (else j b)
    (λ (t : (j ≡ length l) × (a ≡ b)).
    subst (λ (z : ℕ × A). P z.0 z.1) (λ k. (sym t.0 k, t.1 k)) here)
    (at_end l a b j e)

-- a fact of two lists holds of the longer one
pub longer_by : {A : Type 0} (P : List A → Type 0) (b : Bool) (xs ys : List A) → P xs → P ys
    → P (cond b ys xs)
longer_by P true xs ys p q = q
longer_by P false xs ys p q = p

-- a flag is down or up
pub dead_or_live : (b : Bool) → (b ≡ false) ⊎ (b ≡ true)
dead_or_live true = inr refl
dead_or_live false = inl refl

module _ {E : Type 0} where
  -- one more ticket is drawn
  pub line_longer : (served drawn : ℕ) (h : List E) (st : Stage E) → InLine served drawn h st
      → InLine served (drawn + 1) h st
  line_longer served drawn h Away l = tt
  line_longer served drawn h (Waits k) l = let a = l.0 in let b = l.1 in (omega arith, omega arith)
  line_longer served drawn h (Holds k g) l = let b = l.1 in (l.0, omega arith, l.2)

  -- for a seat with another ticket than the one served, the history may become another, and the
  -- next ticket may be served
  pub line_else : (served served' drawn : ℕ) (h h' : List E) (st : Stage E) → served ≤ served'
      → served' ≤ served + 1 → (in_line st ≡ true → ticket_of st ≢ served)
      → InLine served drawn h st → InLine served' drawn h' st
  line_else served served' drawn h h' Away a b ne l = tt
  line_else served served' drawn h h' (Waits k) a b ne l =
      let c = l.0 in
      let d = l.1 in
      let n : k ≢ served = ne refl in (omega arith, omega arith)
  line_else served served' drawn h h' (Holds k g) a b ne l = absurd (ne refl l.0)

  -- a ticket that is out is below those to come
  pub line_below : (served drawn : ℕ) (h : List E) (st : Stage E) → in_line st ≡ true
      → InLine served drawn h st → ticket_of st < drawn
  line_below served drawn h Away e l = absurd (cc e)
  line_below served drawn h (Waits k) e l = l.1
  line_below served drawn h (Holds k g) e l = l.1

  -- a seat in its turn is in line
  pub turn_line : (st : Stage E) → in_turn st ≡ true → in_line st ≡ true
  turn_line Away e = e
  turn_line (Waits k) e = refl
  turn_line (Holds k g) e = refl

  -- its ticket is the one served
  pub turn_ticket : (served drawn : ℕ) (h : List E) (st : Stage E) → in_turn st ≡ true
      → InLine served drawn h st → ticket_of st ≡ served
  turn_ticket served drawn h Away e l = absurd (cc e)
  turn_ticket served drawn h (Waits k) e l = absurd (cc e)
  turn_ticket served drawn h (Holds k g) e l = l.0

  -- and it has noted a history
  pub turn_holds : (st : Stage E) → in_turn st ≡ true → st ≡ Holds (ticket_of st) (noted st)
  turn_holds Away e = absurd (cc e)
  turn_holds (Waits k) e = absurd (cc e)
  turn_holds (Holds k h) e = refl
