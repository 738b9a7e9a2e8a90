-- a search over an exchange of its own
use Rattle.std.proofs.Common.{◌≡◌, ◌≢◌, ◌≤◌, ℕ, Bool, false, ◌∙◌, List, [], ◌∷◌, refl, sym, subst, All}
use Rattle.std.specs.Prelude.{◌↔◌}
use Rattle.std.proofs.lemmas.List.Elements.{All-nil, All-cons, All-append}
use Rattle.gr_logic.specs.Formulas.{Cnf}
use Rattle.gr_diary.specs.declared.entries.Entry.{Entry}
use Rattle.gr_diary.specs.declared.entries.Entry.TheVariants as entry
use Rattle.gr_diary.specs.Entries.{actor_of}
use Rattle.gr_diary.specs.Histories.{IsLegal, state_of}
use Rattle.gr_diary.proofs.Holding.{alone-there-are-no-results}
use Rattle.gr_search.specs.declared.asks.Ask.{Ask}
use Rattle.gr_search.specs.declared.asks.Found.{Found}
use Rattle.gr_search.specs.declared.asks.Told.{Told}
use Rattle.gr_search.specs.declared.asks.Told.TheVariants.{Start, Id, Imported, Drained, Forgotten, Closed}
use Rattle.gr_search.specs.Searches.{SearchView, IsBegun}
use Rattle.gr_search.specs.Tellings.{is_imported}
use Rattle.gr_bench.specs.declared.answers.Closing.{Closing}
use Rattle.gr_bench.specs.declared.answers.Closing.TheVariants.{Done, Already}
use Rattle.gr_bench.specs.Exchanges.{Exchange, IsSameExchange, IsUnchanged, IsGrown, IsClosedAt}
use Rattle.gr_run.specs.Moves.{AreOthers, IsToldOf}
use Rattle.gr_run.specs.Driving.{IsDriven}
use Rattle.gr_run.specs.Runs.{IsFound, IsRun}
use Rattle.gr_run.specs.Answers.{settled}
use Rattle.gr_run.specs.Offers.{IsOfferedUpTo}
use Rattle.gr_run.proofs.Beginning.{driven-at-first}
use Rattle.gr_run.proofs.Answering.{stayed, grown}
use Rattle.gr_run.proofs.Ending.{run-by-close, run-ended-before}

pub same-exchange : (x : Exchange) → IsSameExchange x x
same-exchange x = record { formula = refl; reducers = refl; capacity = refl }

pub same-after : (x y z : Exchange) → IsSameExchange x y → IsSameExchange y z → IsSameExchange x z
same-after x y z first second = record {
  formula = second.formula ∙ first.formula;
  reducers = second.reducers ∙ first.reducers;
  capacity = second.capacity ∙ first.capacity;
}

-- what is said of the formula and the sizes is said of those of the same exchange
pub at-exchange : (P : Cnf → ℕ → ℕ → Type 0) (x y : Exchange) → IsSameExchange x y → P x.formula x.reducers x.capacity
    → P y.formula y.reducers y.capacity
at-exchange P x y t p = subst (P y.formula y.reducers) (sym t.capacity)
    (subst (λ n. P y.formula n x.capacity) (sym t.reducers) (subst (λ f. P f x.reducers x.capacity) (sym t.formula) p))

pub from-exchange : (P : Cnf → ℕ → ℕ → Type 0) (x y : Exchange) → IsSameExchange x y → P y.formula y.reducers y.capacity
    → P x.formula x.reducers x.capacity
from-exchange P x y t p = subst (P x.formula x.reducers) t.capacity
    (subst (λ n. P x.formula n y.capacity) t.reducers (subst (λ f. P f y.reducers y.capacity) t.formula p))

-- a search over a history with no entries
pub driven-from-nothing : (f : Cnf) (reducers capacity limit : ℕ) (keep_all : Bool) (v : SearchView)
    → IsBegun f limit keep_all v → 1 ≤ limit → (d : List Entry) → d ≡ []
    → IsDriven f reducers capacity limit keep_all d v Start
driven-from-nothing f reducers capacity limit keep_all v begun some d none =
    driven-at-first f reducers capacity limit keep_all v begun some d
    (subst AreOthers (sym none) (All-nil (λ e. actor_of e ≢ 0)))
    (subst (IsLegal f reducers capacity) (sym none) tt)

-- without reducers nothing is taken over
pub nothing-imported : (f : Cnf) (reducers capacity : ℕ) (d after : List Entry) (a : Ask) (told : Told) → reducers ≡ 0
    → IsToldOf f reducers capacity d a told after → is_imported told ≡ false
nothing-imported f reducers capacity d after a Start alone answered = refl
nothing-imported f reducers capacity d after a (Id id) alone answered = refl
nothing-imported f reducers capacity d after a (Imported old new c) alone answered =
    absurd (none reducers alone answered.1.place answered.1.reached.legal answered.2.first)
  where
    none : (n : ℕ) → n ≡ 0 → (p : List Entry) → IsLegal f n capacity p
        → (state_of f n capacity p).results ≡ record { old = old; id = new } ∷ answered.2.later → ⊥
    none n is p legal first =
        let no : (state_of f n capacity p).results ≡ [] =
        subst (λ m. IsLegal f m capacity p → (state_of f m capacity p).results ≡ []) (sym is)
        (alone-there-are-no-results f capacity p) legal in
        cc (no, first)
nothing-imported f reducers capacity d after a Drained alone answered = refl
nothing-imported f reducers capacity d after a Forgotten alone answered = refl
nothing-imported f reducers capacity d after a Closed alone answered = refl

-- the exchange is closed at last
pub closed-at-last : (x y : Exchange) (limit : ℕ) (keep_all : Bool) (found : Found) (closing : Closing)
    → IsFound x.formula x.reducers x.capacity limit keep_all x.diary.entries found
    → (closing ≡ Done → IsGrown x y entry.Close) → (closing ≡ Already → IsUnchanged x y)
    → (closing ≡ Already) ↔ IsClosedAt x
    → IsSameExchange x y
    × IsRun x.formula x.reducers x.capacity limit keep_all y.diary.entries (settled found closing)
closed-at-last x y limit keep_all found Done is grew stayed' closed =
    let g = grew refl in (
      g.same,
      run-by-close x.formula x.reducers x.capacity limit keep_all x.diary.entries y.diary.entries
          (grown x y entry.Close g) is.underway found is,
    )
closed-at-last x y limit keep_all found Already is grew stayed' closed =
    let u = stayed' refl in
    let legal : IsLegal x.formula x.reducers x.capacity y.diary.entries =
    subst (IsLegal x.formula x.reducers x.capacity) (sym u.entries) is.underway.legal in (
      u.same,
      run-ended-before x.formula x.reducers x.capacity limit keep_all x.diary.entries y.diary.entries
          (stayed x.formula x.reducers x.capacity x.diary.entries y.diary.entries (sym u.entries) legal)
          (subst Rattle.gr_diary.specs.Histories.IsClosed (sym u.entries) (closed.0 refl)) is.underway,
    )

-- `Close` is not offered
pub offered-at-last : (x y : Exchange) (closing : Closing) (offer : ℕ) → All (IsOfferedUpTo offer) x.diary.entries
    → (closing ≡ Done → IsGrown x y entry.Close) → (closing ≡ Already → IsUnchanged x y)
    → All (IsOfferedUpTo offer) y.diary.entries
offered-at-last x y Done offer all grew stayed' =
    subst (All (IsOfferedUpTo offer)) (sym (grew refl).entries)
    (All-append (IsOfferedUpTo offer) x.diary.entries (entry.Close ∷ []) all
    (All-cons (IsOfferedUpTo offer) entry.Close [] tt (All-nil (IsOfferedUpTo offer))))
offered-at-last x y Already offer all grew stayed' =
    subst (All (IsOfferedUpTo offer)) (sym (stayed' refl).entries) all
