-- what a seat's actor may do when its turn comes
use Rattle.std.proofs.Common.{◌≡◌, ◌≤◌, ◌+◌, ℕ, Some, List, [], ◌∷◌, ◌++◌, refl, ap, sym, ◌∙◌, subst, arith}
use mathlib.Core.List.{IsPrefix}
use Rattle.gr_diary.specs.declared.entries.Entry.{Entry}
use Rattle.gr_diary.specs.Entries.{actor_of}
use Rattle.gr_diary.specs.Histories.{IsLegal, IsEnabled, entries_of, state_of}
use Rattle.gr_diary.proofs.Own.{enabled-stays}
use Rattle.gr_logic.specs.Formulas.{Cnf}
use Rattle.gr_bench.specs.Exchanges.{Exchange, IsEnabledAt, Tells}
use Rattle.gr_turn.specs.Views.{by}
use Rattle.gr_turn.specs.Seats.{Sitting}
use Rattle.gr_seat.specs.declared.shelves.Fixed.{Fixed}
use Rattle.gr_diary.specs.States.{State}
use Rattle.gr_turn.proofs.Lists.{prefix_self, prefix_trans}
use Rattle.gr_seat.specs.Handles.{Handle, fixed_of, fixed_or_none, handle_of, IsSeated, Enables, HasSeenLegal}
use Rattle.gr_seat.specs.Turns.{SeesMore, TakesTurn, Makes, MakesNone}

-- what an actor may do after a beginning of the history that has all its entries, it may do after the history
pub enabled_later : (f : Cnf) (reducers capacity : ℕ) (d h : List Entry) (e : Entry) → IsLegal f reducers capacity d
    → IsLegal f reducers capacity h → IsPrefix d h → entries_of d (actor_of e) ≡ entries_of h (actor_of e)
    → IsEnabled f reducers capacity d e → IsEnabled f reducers capacity h e
enabled_later f reducers capacity d h e legal legal' begins own able =
    (enabled-stays f reducers capacity d h e
    record { legal = legal; legal_later = legal'; begins = begins; own = own }).0 able

-- what a seat's actor may do by what it has seen, it may do at the exchange that the turn lends
pub enabled_at_turn : (s : Sitting Entry Fixed) (x : Exchange) (e : Entry) → IsSeated s
    → IsPrefix s.seen x.diary.entries → by actor_of x.diary.entries s.number ≡ s.own
    → Some (fixed_of x) ≡ s.fixed
    → Tells x.formula x.reducers x.capacity x.diary → actor_of e ≡ s.number → Enables (handle_of s) e
    → IsEnabledAt x e
enabled_at_turn s x e seated begins own fixed tells names able =
    let same : fixed_or_none s.fixed ≡ fixed_of x = ap fixed_or_none (sym fixed) in
    let legal : IsLegal x.formula x.reducers x.capacity s.seen =
    subst (λ (p : Fixed). IsLegal p.formula p.reducers p.capacity s.seen) same seated.legal in
    let own' : entries_of s.seen (actor_of e) ≡ entries_of x.diary.entries (actor_of e) =
    subst (λ (n : ℕ). entries_of s.seen n ≡ entries_of x.diary.entries n) (sym names) (seated.own ∙ sym own) in
    enabled_later x.formula x.reducers x.capacity s.seen x.diary.entries e legal tells.legal begins own'
    (subst (λ (p : Fixed). IsEnabled p.formula p.reducers p.capacity s.seen e) same able)

-- a seat that waits for work has seen more, and has made nothing
pub record Waits (s t : Handle) : Type 0 where
  pub sees : SeesMore s t
  pub none : MakesNone s t
  pub turns : s.turns ≤ t.turns

-- at first it has seen what it had seen
pub waits_first : (s : Handle) → HasSeenLegal s → Waits s s
waits_first s legal = record {
  sees = record {
    same = record { lock = refl; formula = refl; reducers = refl; capacity = refl; actor = refl };
    counted = (refl, refl);
    begins = prefix_self s.seen;
    legal = legal;
  };
  none = refl;
  turns = omega arith;
}

sees_on : (s t u : Handle) → SeesMore s t → SeesMore t u → SeesMore s u
sees_on s t u first next = record {
  same = record {
    lock = next.same.lock ∙ first.same.lock;
    formula = next.same.formula ∙ first.same.formula;
    reducers = next.same.reducers ∙ first.same.reducers;
    capacity = next.same.capacity ∙ first.same.capacity;
    actor = next.same.actor ∙ first.same.actor;
  };
  counted = (next.counted.0 ∙ first.counted.0, next.counted.1 ∙ first.counted.1);
  begins = prefix_trans s.seen t.seen u.seen first.begins next.begins;
  legal = next.legal;
}

-- and goes on waiting after a turn in which it made nothing
pub waits_on : (s t u : Handle) → Waits s t → TakesTurn t u → MakesNone t u → Waits s u
waits_on s t u waits turn none =
    let before = waits.turns in
    let now = turn.turns in
    record { sees = sees_on s t u waits.sees turn.sees; none = none ∙ waits.none; turns = omega arith }

pub sees_after : (s t u : Handle) → Waits s t → TakesTurn t u → SeesMore s u
sees_after s t u waits turn = sees_on s t u waits.sees turn.sees

-- what it makes in the end, it made since it began to wait
pub makes_after : (s t u : Handle) (e : Entry) (Tells : State → Type 0) → Waits s t → Makes t u e Tells
    → Makes s u e Tells
makes_after s t u e Tells waits makes = record {
  before = makes.before;
  begins = prefix_trans s.seen t.seen makes.before waits.sees.begins makes.begins;
  ends = makes.ends;
  own = makes.own ∙ ap (λ (l : List Entry). l ++ e ∷ []) waits.none;
  tells =
      let same = waits.sees.same in
      subst Tells (λ i. state_of (same.formula i) (same.reducers i) (same.capacity i) makes.before) makes.tells;
}

-- while it waits, its actor may do what it might do before
pub enabled_waiting : (s t : Handle) (e : Entry) → HasSeenLegal s → Waits s t → actor_of e ≡ s.actor → Enables s e
    → Enables t e
enabled_waiting s t e legal waits names able =
    let same = waits.sees.same in
    let to : (A : Cnf → ℕ → ℕ → Type 0) → A s.formula s.reducers s.capacity → A t.formula t.reducers t.capacity =
    λ A a. subst (λ (k : Cnf × ℕ × ℕ). A k.0 k.1 k.2)
    (λ i. (sym same.formula i, sym same.reducers i, sym same.capacity i)) a in
    let own : entries_of s.seen (actor_of e) ≡ entries_of t.seen (actor_of e) =
    subst (λ (n : ℕ). entries_of s.seen n ≡ entries_of t.seen n) (sym names)
    (sym (ap (entries_of t.seen) (sym same.actor) ∙ waits.none)) in
    enabled_later t.formula t.reducers t.capacity s.seen t.seen e (to (λ f n w. IsLegal f n w s.seen) legal)
    waits.sees.legal waits.sees.begins own (to (λ f n w. IsEnabled f n w s.seen e) able)
