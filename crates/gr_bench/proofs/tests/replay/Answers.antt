use Rattle.std.proofs.Common.{◌≡◌, ℕ, suc, zero, List, [], ◌∷◌, Some, take, refl, subst, slice_get}
use Rattle.std.proofs.lemmas.Option.{slice_get_read}
use Rattle.gr_logic.specs.Formulas.{Cnf}
use Rattle.gr_diary.specs.declared.entries.Entry.{Entry}
use Rattle.gr_diary.specs.States.{State, initial_state}
use Rattle.gr_diary.specs.Steps.{after}
use Rattle.gr_diary.specs.Rules.{Allowed}
use Rattle.gr_diary.specs.Histories.{IsLegal, IsLegalFrom, state_from}
use Rattle.gr_bench.specs.Exchanges.{Exchange, IsEnabledAt}
use Rattle.gr_bench.proofs.tests.replay.Goals as goal

-- each entry of a legal history may come behind those before it
allowed-at : (f : Cnf) (reducers capacity : ℕ) (s : State) (d : List Entry) (i : ℕ) (e : Entry)
    → IsLegalFrom f reducers capacity s d → slice_get d i ≡ Some e
    → Allowed f reducers (state_from f reducers capacity s (take i d)) e
allowed-at f reducers capacity s [] i e legal at = absurd (cc)
allowed-at f reducers capacity s (x ∷ xs) zero e legal at =
    let same : x ≡ e = cc at in subst (Allowed f reducers s) same legal.0
allowed-at f reducers capacity s (x ∷ xs) (suc i) e legal at =
    allowed-at f reducers capacity (after f reducers capacity s x) xs i e legal.1 at

-- so the call that makes it may be made
enabled-at : (x : Exchange) (f : Cnf) (reducers capacity : ℕ) (d : List Entry) (i : ℕ) (e : Entry)
    → x.formula ≡ f → x.reducers ≡ reducers → x.capacity ≡ capacity → x.diary.entries ≡ take i d
    → IsLegal f reducers capacity d → slice_get d i ≡ Some e → IsEnabledAt x e
enabled-at x f reducers capacity d i e formula sizes room entries legal at =
    rw (formula, sizes, room, entries) (allowed-at f reducers capacity (initial_state f) d i e legal at).able

pub make-requires : goal.make-requires
make-requires g c =
    let made = c.rows.invariant in
    enabled-at c.rows.bench c.args.formula.now 1 c.args.capacity c.args.rows.now c.rows.row-index c.row-item.result
    made.formula made.reducers made.capacity made.made c.requires.legal
    (slice_get_read c.args.rows.now _ c.rows.row-index c.row-item.result refl c.rows-test.true c.row-item.is)
