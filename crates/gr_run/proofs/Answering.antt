-- what an exchange of one's own answers may be told
use Rattle.std.proofs.Common.{◌≡◌, ◌≢◌, ℕ, true, ◌∙◌, List, [], ◌∷◌, ◌++◌, append-nil, refl, sym, subst, IfOk, OnOk, OnErr, Ok, Err}
use Rattle.std.specs.Prelude.{◌↔◌}
use Rattle.std.specs.declared.result.Result.{Result}
use Rattle.std.proofs.lemmas.List.Elements.{All-nil}
use Rattle.gr_logic.specs.Formulas.{Cnf}
use Rattle.gr_logic.specs.declared.memory.OutOfMemory.{OutOfMemory}
use Rattle.gr_diary.specs.declared.entries.Entry.{Entry}
use Rattle.gr_diary.specs.declared.entries.Entry.TheVariants as entry
use Rattle.gr_diary.specs.Entries.{actor_of}
use Rattle.gr_diary.specs.Histories.{IsLegal}
use Rattle.gr_diary.proofs.Ends.{beginnings-are-legal}
use Rattle.gr_search.specs.declared.asks.Ask.{Ask}
use Rattle.gr_search.specs.declared.asks.Ask.TheVariants as ask
use Rattle.gr_search.specs.declared.asks.Told.{Told}
use Rattle.gr_search.specs.declared.asks.Told.TheVariants.{Id, Imported, Drained, Forgotten, Closed}
use Rattle.gr_search.specs.Tellings.{adds_clause, is_open}
use Rattle.gr_search.specs.Turns.{asked_by, entry_of}
use Rattle.gr_bench.specs.declared.answers.BenchError.{BenchError}
use Rattle.gr_bench.specs.declared.answers.BenchError.TheVariants as refusal
use Rattle.gr_bench.specs.declared.answers.Imported.{Imported as Import}
use Rattle.gr_bench.specs.declared.answers.Imported.TheVariants as import
use Rattle.gr_bench.specs.Exchanges.{Exchange, IsSameExchange, IsUnchanged, IsGrown, IsClosedAt, state_at}
use Rattle.gr_bench.specs.Answers.{IsImport}
use Rattle.gr_run.specs.Moves.{IsReached, IsContinued, IsToldOf}
use Rattle.gr_run.specs.Answers.{id_told, import_told, forget_told}

-- nobody came between
pub stayed : (f : Cnf) (reducers capacity : ℕ) (d e : List Entry) → d ≡ e → IsLegal f reducers capacity e
    → IsReached f reducers capacity d e
stayed f reducers capacity d e same legal = record {
  between = [];
  others = All-nil (λ x. actor_of x ≢ 0);
  splits = append-nil d ∙ same;
  legal = legal;
}

pub went-on : (f : Cnf) (reducers capacity : ℕ) (d : List Entry) (e : Entry) (after : List Entry)
    → d ++ e ∷ [] ≡ after → IsLegal f reducers capacity after → IsContinued f reducers capacity d e after
went-on f reducers capacity d e after splits legal = record {
  place = d;
  reached = stayed f reducers capacity d d refl
      (beginnings-are-legal f reducers capacity d after (e ∷ [], splits) legal);
  splits = splits;
  legal = legal;
}

module _ (x y : Exchange) where
  abbrev pub Told_of : Ask → Told → Type 0
  Told_of a told =
      IsSameExchange x y × IsToldOf x.formula x.reducers x.capacity x.diary.entries a told y.diary.entries

  -- the sizes of a grown exchange are those before
  legal-at : IsSameExchange x y → IsLegal y.formula y.reducers y.capacity y.diary.entries
      → IsLegal x.formula x.reducers x.capacity y.diary.entries
  legal-at exchange legal = subst (λ (f : Cnf). IsLegal f x.reducers x.capacity y.diary.entries) exchange.formula
      (subst (λ n. IsLegal y.formula n x.capacity y.diary.entries) exchange.reducers
      (subst (λ n. IsLegal y.formula y.reducers n y.diary.entries) exchange.capacity legal))

  pub grown : (e : Entry) → IsGrown x y e
      → IsContinued x.formula x.reducers x.capacity x.diary.entries e y.diary.entries
  grown e g = went-on x.formula x.reducers x.capacity x.diary.entries e y.diary.entries (sym g.entries)
      (legal-at g.same g.legal)

  told-ok : (t u : Told) → ◌≡◌ {A = Result Told OutOfMemory} (Ok t) (Ok u) → t ≡ u
  told-ok t u e = cc

  -- the exchange is closed
  was-closed : (a : Ask) → is_open (asked_by a) ≡ true
      → IsLegal x.formula x.reducers x.capacity x.diary.entries → IsClosedAt x → IsUnchanged x y → Told_of a Closed
  was-closed a open' legal ended u = (
    u.same,
    (
      open',
      stayed x.formula x.reducers x.capacity x.diary.entries y.diary.entries (sym u.entries)
          (subst (IsLegal x.formula x.reducers x.capacity) (sym u.entries) legal),
      subst Rattle.gr_diary.specs.Histories.IsClosed (sym u.entries) ended,
    ),
  )

  adds-is-open : (a : Ask) → adds_clause (asked_by a) ≡ true → is_open (asked_by a) ≡ true
  adds-is-open (ask.Learn c hints lbd offered) adds = refl
  adds-is-open (ask.Unit l hints) adds = refl
  adds-is-open ask.Import adds = absurd (cc)
  adds-is-open (ask.Forget ids) adds = refl
  adds-is-open (ask.Done found) adds = absurd (cc)

  pub id-is-told : (a : Ask) (answer : Result ℕ BenchError) (told : Told) → adds_clause (asked_by a) ≡ true
      → IsLegal x.formula x.reducers x.capacity x.diary.entries → OnOk answer (IsGrown x y (entry_of a))
      → IfOk answer (λ id. id ≡ (state_at x).next) → (answer ≡ Err refusal.Closed) ↔ IsClosedAt x
      → OnErr answer (IsUnchanged x y) → id_told answer ≡ Ok told → Told_of a told
  unfolding grown went-on
  id-is-told a (Ok id) told adds legal ok is ended err e =
      subst (Told_of a) (told-ok (Id id) told e) (ok.same, (adds, grown (entry_of a) ok, is))
  id-is-told a (Err refusal.Closed) told adds legal ok is ended err e =
      subst (Told_of a) (told-ok Closed told e) (was-closed a (adds-is-open a adds) legal (ended.0 refl) err)
  id-is-told a (Err refusal.OutOfMemory) told adds legal ok is ended err e = absurd (cc e)

  pub import-is-told : (answer : Result Import BenchError) (told : Told)
      → IsLegal x.formula x.reducers x.capacity x.diary.entries → IfOk answer (λ i. IsImport x y i)
      → (answer ≡ Err refusal.Closed) ↔ IsClosedAt x → OnErr answer (IsUnchanged x y) → import_told answer ≡ Ok told
      → Told_of ask.Import told
  unfolding grown went-on
  import-is-told (Ok (import.Import old new c)) told legal ok ended err e =
      subst (Told_of ask.Import) (told-ok (Imported old new c) told e) (
        ok.0.same,
        (
          refl,
          grown entry.Import ok.0,
          record { later = ok.1.later; first = ok.1.first; clause = ok.1.clause },
        ),
      )
  import-is-told (Ok import.Drained) told legal ok ended err e =
      subst (Told_of ask.Import) (told-ok Drained told e) (ok.0.same, (refl, grown entry.Drained ok.0))
  import-is-told (Err refusal.Closed) told legal ok ended err e =
      subst (Told_of ask.Import) (told-ok Closed told e) (was-closed ask.Import refl legal (ended.0 refl) err)
  import-is-told (Err refusal.OutOfMemory) told legal ok ended err e = absurd (cc e)

  pub forget-is-told : (ids : List ℕ) (answer : Result (Unit {0}) BenchError) (told : Told)
      → IsLegal x.formula x.reducers x.capacity x.diary.entries → OnOk answer (IsGrown x y (entry.Forget 0 ids))
      → (answer ≡ Err refusal.Closed) ↔ IsClosedAt x → OnErr answer (IsUnchanged x y) → forget_told answer ≡ Ok told
      → Told_of (ask.Forget ids) told
  forget-is-told ids (Ok done) told legal ok ended err e =
      subst (Told_of (ask.Forget ids)) (told-ok Forgotten told e) (ok.same, (refl, grown (entry.Forget 0 ids) ok))
  forget-is-told ids (Err refusal.Closed) told legal ok ended err e =
      subst (Told_of (ask.Forget ids)) (told-ok Closed told e)
      (was-closed (ask.Forget ids) refl legal (ended.0 refl) err)
  forget-is-told ids (Err refusal.OutOfMemory) told legal ok ended err e = absurd (cc e)
