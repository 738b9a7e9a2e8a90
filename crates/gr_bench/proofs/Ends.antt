-- whether the exchange is closed, and how it is closed
use Rattle.std.proofs.Common.{◌≡◌, ℕ, ◌+◌, length, true, false, ◌||◌, List, ◌∷◌, [], ◌∙◌, sym, refl, subst, ap}
use Rattle.gr_logic.specs.Formulas.{Cnf}
use Rattle.gr_diary.specs.declared.entries.Entry.{Entry}
use Rattle.gr_diary.specs.Diaries.{Journal, journal_lines}
use Rattle.gr_diary.specs.States.{State, has}
use Rattle.gr_diary.specs.Steps.{left_ids, lost}
use Rattle.gr_diary.specs.Histories.{IsLegal, IsClosed, lines_of}
use Rattle.gr_diary.specs.Rules.{Allowed}
use Rattle.gr_diary.specs.Invariant.{IsKept}
use Rattle.gr_diary.proofs.Among.{same-number}
use Rattle.gr_diary.proofs.Ends.{states-tell-the-end}
use Rattle.gr_diary.proofs.Lost.{only-lost-ids-leave}
use Rattle.gr_logic.proofs.LogSound.{accepts-sound}
use Rattle.gr_diary.proofs.Following.{no-line-is-refused, refuted-is-accepted}
use Rattle.gr_diary.proofs.Sound.{added-are-implied}
use Rattle.gr_diary.proofs.Taken.{returned-clauses-are-parts}
use Rattle.gr_diary.proofs.Telling.{telling}
use Rattle.gr_bench.specs.Exchanges.{Tells, IsLogged}
use Rattle.gr_bench.specs.Tables.{Table}
use Rattle.gr_bench.specs.Kept.{IsInStep}

-- a list without members is empty
none-there : (xs : List ℕ) → ((q : ℕ) → has q xs ≡ true → false ≡ true) → xs ≡ []
none-there [] none = refl
none-there (x ∷ xs) none = absurd (let no = none x (ap (λ b. b || has x xs) (same-number x)) in cc)

-- where no id loses a holder, none leaves
pub none-leaves : (f : Cnf) (reducers capacity : ℕ) (s : State) (e : Entry) → IsKept f reducers s
    → Allowed f reducers s e → lost capacity s e ≡ [] → [] ≡ left_ids f reducers capacity s e
none-leaves f reducers capacity s e k ok none =
    sym (none-there (left_ids f reducers capacity s e) (λ q there.
    subst (λ z. has q z ≡ true) none (only-lost-ids-leave f reducers capacity s e k ok q there).0))

module _ (f : Cnf) (reducers capacity : ℕ) (diary : Journal) (t : Table)
    (step : IsInStep f reducers capacity diary t) where
  -- a closed table is that of a closed history
  pub is-closed : t.closed ≡ true → IsClosed diary.entries
  is-closed is = (states-tell-the-end f reducers capacity diary.entries).0.0 (sym step.mirrors.closed ∙ is)

  -- and the other way round
  pub closed-is : IsClosed diary.entries → t.closed ≡ true
  closed-is ended = step.mirrors.closed ∙ (states-tell-the-end f reducers capacity diary.entries).0.1 ended

-- the diary's lines are the log, and what is known of it
pub logged : (f : Cnf) (reducers capacity : ℕ) (diary : Journal) → Tells f reducers capacity diary
    → IsLogged (record { formula = f; reducers = reducers; capacity = capacity; diary = diary })
logged f reducers capacity diary tells = record {
  lines = ap (journal_lines (length f.clauses + 1) diary.entries) tells.left
      ∙ telling f reducers capacity diary.entries;
  unrefused = no-line-is-refused f reducers capacity diary.entries tells.legal;
  implied = λ before e later a is adds.
      added-are-implied f reducers capacity before e later a (subst (IsLegal f reducers capacity) is tells.legal) adds;
  parts = λ before actor c hints later is.
      returned-clauses-are-parts f reducers capacity before actor c hints later
      (subst (IsLegal f reducers capacity) is tells.legal);
  refutes = λ empty.
      let accepted = refuted-is-accepted f reducers capacity diary.entries tells.legal empty in
      (accepted, accepts-sound f (lines_of f reducers capacity diary.entries) accepted);
}
