-- what a seat is answered may be told
use Rattle.std.proofs.Common.{◌≡◌, ℕ, true, List, refl, subst, IfOk, OnOk, OnErr, Ok, Err}
use Rattle.std.specs.declared.result.Result.{Result}
use Rattle.gr_logic.specs.declared.memory.OutOfMemory.{OutOfMemory}
use Rattle.gr_diary.specs.declared.entries.Entry.TheVariants as entry
use Rattle.gr_diary.specs.Histories.{IsClosed}
use Rattle.gr_search.specs.declared.asks.Ask.{Ask}
use Rattle.gr_search.specs.declared.asks.Ask.TheVariants as ask
use Rattle.gr_search.specs.declared.asks.Told.{Told}
use Rattle.gr_search.specs.declared.asks.Told.TheVariants.{Id, Imported, Drained, Forgotten, Closed}
use Rattle.gr_search.specs.Tellings.{adds_clause, is_open}
use Rattle.gr_search.specs.Turns.{asked_by, entry_of}
use Rattle.gr_bench.specs.declared.answers.BenchError.{BenchError}
use Rattle.gr_bench.specs.declared.answers.BenchError.TheVariants as refusal
use Rattle.gr_bench.specs.declared.answers.Imported.{Imported as Import}
use Rattle.gr_bench.specs.declared.answers.Imported.TheVariants as import
use Rattle.gr_bench.specs.Answers as bench
use Rattle.gr_seat.specs.Handles.{Handle}
use Rattle.gr_seat.specs.Turns.{SeesMore, Makes, MakesNone, Anything}
use Rattle.gr_run.specs.Moves.{IsToldOf}
use Rattle.gr_run.specs.Answers.{id_told, import_told, forget_told}
use Rattle.gr_run.specs.Shared.{HasWaited}
use Rattle.gr_run.proofs.Asking.{asked-of-solver}
use Rattle.gr_run.proofs.Seeing.{reached-seen, continued-seen}

-- what may be told from the seat
abbrev pub SeatTold : Handle → Handle → Ask → Told → Type 0
SeatTold x y a told = SeesMore x y × IsToldOf x.formula x.reducers x.capacity x.seen a told y.seen

module _ (x y : Handle) (mine : x.actor ≡ 0) (sees : SeesMore x y) where
  pub waited : MakesNone x y → HasWaited x y
  waited none = (sees, reached-seen x y mine sees none)

  told-ok : (t u : Told) → ◌≡◌ {A = Result Told OutOfMemory} (Ok t) (Ok u) → t ≡ u
  told-ok t u e = cc

  -- the exchange is closed
  was-closed : (a : Ask) → is_open (asked_by a) ≡ true → MakesNone x y → IsClosed y.seen → SeatTold x y a Closed
  was-closed a open' none ended = (sees, (open', reached-seen x y mine sees none, ended))

  adds-is-open : (a : Ask) → adds_clause (asked_by a) ≡ true → is_open (asked_by a) ≡ true
  adds-is-open (ask.Learn c hints lbd offered) adds = refl
  adds-is-open (ask.Unit l hints) adds = refl
  adds-is-open ask.Import adds = absurd (cc)
  adds-is-open (ask.Forget ids) adds = refl
  adds-is-open (ask.Done found) adds = absurd (cc)

  pub id-is-told : (a : Ask) (answer : Result ℕ BenchError) (told : Told) → adds_clause (asked_by a) ≡ true
      → IfOk answer (λ id. Makes x y (entry_of a) (λ s. id ≡ s.next)) → OnErr answer (MakesNone x y)
      → (answer ≡ Err refusal.Closed → IsClosed y.seen) → id_told answer ≡ Ok told → SeatTold x y a told
  unfolding continued-seen
  id-is-told a (Ok id) told adds ok err ended e =
      subst (SeatTold x y a) (told-ok (Id id) told e)
      (sees, (adds, continued-seen x y mine sees (entry_of a) (λ s. id ≡ s.next) (asked-of-solver a) ok, ok.tells))
  id-is-told a (Err refusal.Closed) told adds ok err ended e =
      subst (SeatTold x y a) (told-ok Closed told e) (was-closed a (adds-is-open a adds) err (ended refl))
  id-is-told a (Err refusal.OutOfMemory) told adds ok err ended e = absurd (cc e)

  pub import-is-told : (answer : Result Import BenchError) (told : Told)
      → IfOk answer (λ i. Makes x y (bench.entry_of i) (λ s. bench.IsImported s i)) → OnErr answer (MakesNone x y)
      → (answer ≡ Err refusal.Closed → IsClosed y.seen) → import_told answer ≡ Ok told → SeatTold x y ask.Import told
  unfolding continued-seen
  import-is-told (Ok (import.Import old new c)) told ok err ended e =
      subst (SeatTold x y ask.Import) (told-ok (Imported old new c) told e) (
        sees,
        (
          refl,
          continued-seen x y mine sees entry.Import (λ s. bench.IsFirstResult s old new c) refl ok,
          record { later = ok.tells.later; first = ok.tells.first; clause = ok.tells.clause },
        ),
      )
  import-is-told (Ok import.Drained) told ok err ended e =
      subst (SeatTold x y ask.Import) (told-ok Drained told e)
      (sees, (refl, continued-seen x y mine sees entry.Drained (λ s. bench.IsImported s import.Drained) refl ok))
  import-is-told (Err refusal.Closed) told ok err ended e =
      subst (SeatTold x y ask.Import) (told-ok Closed told e) (was-closed ask.Import refl err (ended refl))
  import-is-told (Err refusal.OutOfMemory) told ok err ended e = absurd (cc e)

  pub forget-is-told : (ids : List ℕ) (answer : Result (Unit {0}) BenchError) (told : Told)
      → OnOk answer (Makes x y (entry.Forget 0 ids) Anything) → OnErr answer (MakesNone x y)
      → (answer ≡ Err refusal.Closed → IsClosed y.seen) → forget_told answer ≡ Ok told
      → SeatTold x y (ask.Forget ids) told
  forget-is-told ids (Ok done) told ok err ended e =
      subst (SeatTold x y (ask.Forget ids)) (told-ok Forgotten told e)
      (sees, (refl, continued-seen x y mine sees (entry.Forget 0 ids) Anything refl ok))
  forget-is-told ids (Err refusal.Closed) told ok err ended e =
      subst (SeatTold x y (ask.Forget ids)) (told-ok Closed told e)
      (was-closed (ask.Forget ids) refl err (ended refl))
  forget-is-told ids (Err refusal.OutOfMemory) told ok err ended e = absurd (cc e)

  -- where memory was wanting, others alone may have come
  pub id-wants : (answer : Result ℕ BenchError) (none : OutOfMemory) → OnErr answer (MakesNone x y)
      → id_told answer ≡ Err none → HasWaited x y
  id-wants (Ok id) none err e = absurd (cc e)
  id-wants (Err why) none err e = waited err

  pub import-wants : (answer : Result Import BenchError) (none : OutOfMemory) → OnErr answer (MakesNone x y)
      → import_told answer ≡ Err none → HasWaited x y
  import-wants (Ok i) none err e = absurd (cc e)
  import-wants (Err why) none err e = waited err

  pub forget-wants : (answer : Result (Unit {0}) BenchError) (none : OutOfMemory) → OnErr answer (MakesNone x y)
      → forget_told answer ≡ Err none → HasWaited x y
  forget-wants (Ok done) none err e = absurd (cc e)
  forget-wants (Err why) none err e = waited err
