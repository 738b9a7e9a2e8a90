-- a search from a seat
use Rattle.std.proofs.Common.{◌≡◌, ◌≢◌, ◌≤◌, ℕ, Bool, ◌∙◌, List, [], ◌∷◌, ◌++◌, append-nil, append_assoc, refl, sym, ap, subst, arith, All, OnErr, Ok, Err}
use Rattle.std.specs.declared.result.Result.{Result}
use mathlib.Core.List.{IsPrefix}
use Rattle.std.proofs.lemmas.List.Elements.{All-nil, All-cons, All-head, All-tail, All-append}
use Rattle.gr_logic.specs.Formulas.{Cnf}
use Rattle.gr_diary.specs.declared.entries.Entry.{Entry}
use Rattle.gr_diary.specs.declared.entries.Entry.TheVariants.{Learn, Take, Return, Import, Drained, Forget, Close}
use Rattle.gr_diary.specs.declared.entries.Entry.TheVariants as entry
use Rattle.gr_diary.specs.Entries.{actor_of}
use Rattle.gr_diary.specs.Histories.{IsClosed, entries_of}
use Rattle.gr_diary.proofs.SearchLaws.{rules-begin}
use Rattle.gr_search.specs.declared.asks.Found.{Found}
use Rattle.gr_search.specs.declared.asks.Told.{Told}
use Rattle.gr_search.specs.declared.asks.Told.TheVariants.{Start}
use Rattle.gr_search.specs.Searches.{SearchView, IsBegun}
use Rattle.gr_bench.specs.declared.answers.Closing.{Closing}
use Rattle.gr_bench.specs.declared.answers.Closing.TheVariants.{Done, Already}
use Rattle.gr_seat.specs.Handles.{Handle, HasSeenLegal}
use Rattle.gr_seat.specs.Turns.{SeesMore, Makes, MakesNone, Anything}
use Rattle.gr_run.specs.Moves.{AreOthers, IsReached}
use Rattle.gr_run.specs.Driving.{IsDriven}
use Rattle.gr_run.specs.Runs.{IsUnderway, IsEnded, IsRun, HasRoom}
use Rattle.gr_run.specs.Answers.{settled}
use Rattle.gr_run.specs.Offers.{AreFilteredBy, AnswersUpTo, IsOfferedUpTo}
use Rattle.gr_run.specs.Shared.{IsStanding, IsFoundFrom, IsEndedAt, IsRunFrom, HasWaited}
use Rattle.gr_run.proofs.Beginning.{driven-at-first}
use Rattle.gr_run.proofs.Budgets.{budgeted}
use Rattle.gr_run.proofs.Ending.{underway, underway-reached, run-by-close, ended-by-close, run-ended-before, ended-before}
use Rattle.gr_run.proofs.Filtering.{offers-up-to}
use Rattle.gr_run.proofs.Seeing.{none-own, reached-seen, continued-seen}

pub on-err : {T E : Type 0} (r : Result T E) (P : Type 0) → P → OnErr r P
on-err (Ok x) P p = tt
on-err (Err e) P p = p

-- a beginning of a beginning is one
pub prefixes : (xs ys zs : List Entry) → IsPrefix xs ys → IsPrefix ys zs → IsPrefix xs zs
prefixes xs ys zs first second =
    (first.0 ++ second.0, sym (append_assoc xs first.0 second.0) ∙ ap (λ z. z ++ second.0) first.1 ∙ second.1)

pub sees-itself : (s : Handle) → HasSeenLegal s → SeesMore s s
sees-itself s legal = record {
  same = record { lock = refl; formula = refl; reducers = refl; capacity = refl; actor = refl };
  counted = (refl, refl);
  begins = ([], append-nil s.seen);
  legal = legal;
}

pub sees-after : (x y z : Handle) → SeesMore x y → SeesMore y z → SeesMore x z
sees-after x y z first second = record {
  same = record {
    lock = second.same.lock ∙ first.same.lock;
    formula = second.same.formula ∙ first.same.formula;
    reducers = second.same.reducers ∙ first.same.reducers;
    capacity = second.same.capacity ∙ first.same.capacity;
    actor = second.same.actor ∙ first.same.actor;
  };
  counted = (second.counted.0 ∙ first.counted.0, second.counted.1 ∙ first.counted.1);
  begins = prefixes x.seen y.seen z.seen first.begins second.begins;
  legal = second.legal;
}

-- what is said of the formula and the sizes of one seat is said of those of the same one
pub at-seat : (P : Cnf → ℕ → ℕ → Type 0) (x y : Handle) → SeesMore x y → P x.formula x.reducers x.capacity
    → P y.formula y.reducers y.capacity
at-seat P x y t p = subst (P y.formula y.reducers) (sym t.same.capacity)
    (subst (λ n. P y.formula n x.capacity) (sym t.same.reducers)
    (subst (λ f. P f x.reducers x.capacity) (sym t.same.formula) p))

pub from-seat : (P : Cnf → ℕ → ℕ → Type 0) (x y : Handle) → SeesMore x y → P y.formula y.reducers y.capacity
    → P x.formula x.reducers x.capacity
from-seat P x y t p = subst (P x.formula x.reducers) t.same.capacity
    (subst (λ n. P x.formula n y.capacity) t.same.reducers
    (subst (λ f. P f y.reducers y.capacity) t.same.formula p))

-- a search from a seat that was not used
pub driven-unused : (limit : ℕ) (keep_all : Bool) (v : SearchView) (s : Handle) → IsBegun s.formula limit keep_all v
    → 1 ≤ limit → entries_of s.seen 0 ≡ [] → HasSeenLegal s
    → IsDriven s.formula s.reducers s.capacity limit keep_all s.seen v Start
driven-unused limit keep_all v s begun some unused legal =
    driven-at-first s.formula s.reducers s.capacity limit keep_all v begun some s.seen (none-own s.seen unused) legal

-- a search that is driven stands
pub stands : (offer limit : ℕ) (keep_all : Bool) (post : ℕ → ℕ → Bool → Type 0) (x y : Handle) (v : SearchView)
    (told : Told) → AnswersUpTo offer post → SeesMore x y
    → IsDriven x.formula x.reducers x.capacity limit keep_all y.seen v told → AreFilteredBy post y.seen
    → IsStanding offer limit keep_all x y
stands offer limit keep_all post x y v told bounded sees driven filtered = record {
  sees = sees;
  underway = at-seat (λ f reducers capacity. IsUnderway f reducers capacity limit keep_all y.seen) x y sees
      (underway x.formula x.reducers x.capacity limit keep_all y.seen v told driven);
  offered = offers-up-to x.formula x.reducers x.capacity offer post bounded y.seen driven.legal filtered;
}

other-offered : (offer : ℕ) (e : Entry) → actor_of e ≢ 0 → IsOfferedUpTo offer e
other-offered offer (Learn c hints lbd offered) other = absurd (other refl)
other-offered offer (entry.Unit actor lit hints) other = tt
other-offered offer (Take actor) other = tt
other-offered offer (Return actor outcome) other = tt
other-offered offer Import other = tt
other-offered offer Drained other = tt
other-offered offer (Forget actor ids) other = tt
other-offered offer Close other = tt

others-offered : (offer : ℕ) (es : List Entry) → AreOthers es → All (IsOfferedUpTo offer) es
others-offered offer [] others = All-nil (IsOfferedUpTo offer)
others-offered offer (e ∷ es) others =
    All-cons (IsOfferedUpTo offer) e es (other-offered offer e (All-head (λ x. actor_of x ≢ 0) e es others))
    (others-offered offer es (All-tail (λ x. actor_of x ≢ 0) e es others))

offered-reached : (offer : ℕ) (f : Cnf) (reducers capacity : ℕ) (d p : List Entry) → IsReached f reducers capacity d p
    → All (IsOfferedUpTo offer) d → All (IsOfferedUpTo offer) p
offered-reached offer f reducers capacity d p r all =
    subst (All (IsOfferedUpTo offer)) r.splits
    (All-append (IsOfferedUpTo offer) d r.between all (others-offered offer r.between r.others))

-- a seat that was not used stands
pub stands-unused : (offer limit : ℕ) (keep_all : Bool) (s : Handle) → entries_of s.seen 0 ≡ [] → HasSeenLegal s
    → IsStanding offer limit keep_all s s
stands-unused offer limit keep_all s unused legal = record {
  sees = sees-itself s legal;
  underway = underway-reached s.formula s.reducers s.capacity limit keep_all [] s.seen nothing r;
  offered = offered-reached offer s.formula s.reducers s.capacity [] s.seen r (All-nil (IsOfferedUpTo offer));
}
  where
    r : IsReached s.formula s.reducers s.capacity [] s.seen
    r = record { between = s.seen; others = none-own s.seen unused; splits = refl; legal = legal }

    nothing : IsUnderway s.formula s.reducers s.capacity limit keep_all []
    nothing = record {
      legal = tt;
      rules = record {
        offers = rules-begin.0;
        drains = rules-begin.1;
        spares = rules-begin.2;
        fresh = rules-begin.3 s.formula s.reducers s.capacity;
      };
      unclosed = refl;
      kept = λ _. refl;
      within = let none : 0 ≤ limit = omega arith in none;
    }

-- and still where others came
pub stands-waiting : (offer limit : ℕ) (keep_all : Bool) (x y z : Handle) → IsStanding offer limit keep_all x y
    → HasWaited y z → IsStanding offer limit keep_all x z
stands-waiting offer limit keep_all x y z s w = record {
  sees = sees-after x y z s.sees w.0;
  underway = at-seat (λ f reducers capacity. IsUnderway f reducers capacity limit keep_all z.seen) y z w.0
      (underway-reached y.formula y.reducers y.capacity limit keep_all y.seen z.seen s.underway w.1);
  offered = offered-reached offer y.formula y.reducers y.capacity y.seen z.seen w.1 s.offered;
}

-- the exchange is closed at last
module _ (offer limit : ℕ) (keep_all : Bool) (x y z : Handle) (mine : y.actor ≡ 0)
    (s : IsStanding offer limit keep_all x y) (sees : SeesMore y z) (closing : Closing)
    (done : closing ≡ Done → Makes y z entry.Close Anything) (already : closing ≡ Already → MakesNone y z)
    (closed : IsClosed z.seen)
  where
    abbrev Grows : Closing → Type 0
    Grows c = (c ≡ Done → Makes y z entry.Close Anything) × (c ≡ Already → MakesNone y z)

    pub ended : IsEndedAt limit keep_all z
    ended = at-seat (λ f reducers capacity. IsEnded f reducers capacity limit keep_all z.seen) y z sees
        (by closing (done, already))
      where
        by : (c : Closing) → Grows c → IsEnded y.formula y.reducers y.capacity limit keep_all z.seen
        by Done grows = ended-by-close y.formula y.reducers y.capacity limit keep_all y.seen z.seen
            (continued-seen y z mine sees entry.Close Anything refl (grows.0 refl)) s.underway
        by Already grows = ended-before y.formula y.reducers y.capacity limit keep_all y.seen z.seen
            (reached-seen y z mine sees (grows.1 refl)) closed s.underway

    pub offered : All (IsOfferedUpTo offer) z.seen
    offered = by closing (done, already)
      where
        by : (c : Closing) → Grows c → All (IsOfferedUpTo offer) z.seen
        by Done grows =
            let c = continued-seen y z mine sees entry.Close Anything refl (grows.0 refl) in
            subst (All (IsOfferedUpTo offer)) c.splits
            (All-append (IsOfferedUpTo offer) c.place (entry.Close ∷ [])
            (offered-reached offer y.formula y.reducers y.capacity y.seen c.place c.reached s.offered)
            (All-cons (IsOfferedUpTo offer) entry.Close [] tt (All-nil (IsOfferedUpTo offer))))
        by Already grows = offered-reached offer y.formula y.reducers y.capacity y.seen z.seen
            (reached-seen y z mine sees (grows.1 refl)) s.offered

    module _ (what : Found) (found : IsFoundFrom limit keep_all y what) where
      pub run : IsRunFrom limit keep_all z (settled what closing)
      run = at-seat (λ f reducers capacity. IsRun f reducers capacity limit keep_all z.seen (settled what closing)) y z
          sees (by closing (done, already))
        where
          by : (c : Closing) → Grows c
              → IsRun y.formula y.reducers y.capacity limit keep_all z.seen (settled what c)
          by Done grows = run-by-close y.formula y.reducers y.capacity limit keep_all y.seen z.seen
              (continued-seen y z mine sees entry.Close Anything refl (grows.0 refl)) s.underway what found
          by Already grows = run-ended-before y.formula y.reducers y.capacity limit keep_all y.seen z.seen
              (reached-seen y z mine sees (grows.1 refl)) closed s.underway

      pub room : HasRoom z.formula limit keep_all (settled what closing)
      room = budgeted z.formula z.reducers z.capacity limit keep_all z.seen (settled what closing) run
