-- a turn of the solver is a turn of the search
use Rattle.std.proofs.Common.{◌≡◌, ◌≢◌, ℕ, Bool, true, false, [], ◌∷◌, length, Option, Some, None, refl, sym, ap, ◌∙◌, subst, arith, All}
use Rattle.std.specs.Option.{is_some}
use Rattle.gr_logic.specs.Formulas.{Cnf, VarsUpTo}
use Rattle.gr_trail.specs.Trails.{IsTrail}
use Rattle.gr_prop.specs.Bases.{IsBase}
use Rattle.gr_prop.proofs.Facts.{normal-distinct}
use Rattle.gr_prop.proofs.Short.{short}
use Rattle.gr_search.specs.declared.asks.Ask.{Ask}
use Rattle.gr_search.specs.declared.asks.Ask.TheVariants.{Learn, Import, Forget, Done}
use Rattle.gr_search.specs.declared.asks.Ask.TheVariants as ask
use Rattle.gr_search.specs.declared.asks.Found.{Found}
use Rattle.gr_search.specs.declared.asks.Found.TheVariants.{Refuted}
use Rattle.gr_search.specs.declared.asks.Told.{Told}
use Rattle.gr_search.specs.declared.asks.Told.TheVariants.{Closed}
use Rattle.gr_search.specs.declared.solving.Solver.{Solver}
use Rattle.gr_search.specs.Searches.{IsBegun}
use Rattle.gr_search.specs.Searches as search
use Rattle.gr_search.specs.Tellings.{Answers, held_then, is_open}
use Rattle.gr_search.specs.Turns.{asked_by, IsLawful, AsksFresh, AsksInTime, GoesOn, IsTurn}
use Rattle.gr_search.specs.Offers.{HasShortClause}
use Rattle.gr_search.specs.Keeping.{IsProved}
use Rattle.gr_search.specs.Counting.{CountState}
use Rattle.gr_search.specs.Solvers.{asked_in, IsWaiting, MayBeTold}
use Rattle.gr_search.specs.TakingOver.{ended_by}
use Rattle.gr_search.specs.SolverTurns.{IsAsking, HasGoneOn, HasEnded, HasTurned}
use Rattle.gr_search.specs.SolverViews.{view_of, IsSearching, IsSearchingUnlessDone, IsBegunWith}
use Rattle.gr_search.proofs.Lawful.{derived-clauses-may-be-learnt, derived-units-may-be-added, held-ids-may-go, others-may-be-asked}
use Rattle.gr_search.proofs.Holding.{HasOwnPlaces, held-nothing}
use Rattle.gr_search.proofs.KnownClauses.{holds-first}
use Rattle.gr_search.proofs.TakingOver.{IsKnown, taken-over}
use Rattle.gr_search.proofs.Telling.{not-done, may-be-told, is-above}
use Rattle.gr_search.proofs.AskedOfHeld.{derived, new-to-formula, new-to-held, ids-rise, forgettable-held}
use Rattle.gr_search.proofs.Falling.{done-left, open-left, falls-on}
use Rattle.gr_search.proofs.Ending.{ends-on, ends-over}

-- a solver that begins is a search that begins
pub begun : (f : Cnf) (n : ℕ) (keeps : Bool) (s : Solver) → IsBegunWith f n keeps s → IsBegun f n keeps (view_of f s)
begun f n keeps s with = record {
  formula = refl;
  limited = ap (λ (c : CountState). c.limit) with.counts;
  keeps = with.keep_all;
  held = held-nothing (length f.clauses) s.base.clauses with.own;
  tally = ap (λ (c : CountState). c.tally) with.counts;
  asked = ap (λ r. asked_in r s.learnt) with.request;
}

pub begun-searching : (f : Cnf) (n : ℕ) (keeps : Bool) (s : Solver) → IsBegunWith f n keeps s
    → IsSearchingUnlessDone f s
begun-searching f n keeps s with = λ _. record {
  waiting = with.waiting;
  holds = holds-first f s.base.clauses with.knows with.own;
  vars = with.vars;
  first_learnt = with.first_learnt;
}

-- the request that a solver remembers is what it asks
asks-this : (s : Solver) (a : Ask) → IsAsking s a → asked_in s.request s.learnt ≡ asked_by a
asks-this s (Learn c hints lbd offered) asking =
    ap (λ r. asked_in r s.learnt) asking.0 ∙ ap (λ d. search.Learning d lbd) asking.1
asks-this s (ask.Unit l hints) asking = ap (λ r. asked_in r s.learnt) asking.0
asks-this s Import asking = ap (λ r. asked_in r s.learnt) asking.0
asks-this s (Forget ids) asking = asking.0
asks-this s (Done found) asking = ap (λ r. asked_in r s.learnt) asking.0

-- what a solver asks is lawful, new and in time
module _ (f : Cnf) (s : Solver) (searching : IsSearching f s) (own : HasOwnPlaces s.base.clauses) where
  asks-lawfully : (a : Ask) → IsAsking s a → IsLawful (view_of f s) a
  asks-lawfully (Learn c hints lbd offered) asking =
      derived-clauses-may-be-learnt (view_of f s) c hints lbd offered
      (derived (view_of f s) s.base.clauses c hints searching.holds own refl
      (subst (λ n. IsProved s.base.clauses n c hints) searching.vars asking.4))
      asking.5 (λ t. let e : false ≡ true = sym asking.2 ∙ t in absurd (cc))
  asks-lawfully (ask.Unit l hints) asking =
      derived-units-may-be-added (view_of f s) l hints
      (derived (view_of f s) s.base.clauses (l ∷ []) hints searching.holds own refl
      (subst (λ n. IsProved s.base.clauses n (l ∷ []) hints) searching.vars asking.1))
  asks-lawfully Import asking = (others-may-be-asked (view_of f s)).0
  asks-lawfully (Forget ids) asking =
      held-ids-may-go (view_of f s) ids asking.1 (ids-rise ids asking.2)
      (forgettable-held (length f.clauses) s.first_learnt s.base.clauses ids own searching.first_learnt asking.3.each)
  asks-lawfully (Done found) asking = (others-may-be-asked (view_of f s)).1 found

  asks-fresh : (a : Ask) → IsAsking s a → AsksFresh (view_of f s) a
  asks-fresh (Learn c hints lbd offered) asking = λ some. (
    new-to-formula f s.base.clauses c searching.holds asking.4.normal (asking.6 some),
    new-to-held (length f.clauses) s.base.clauses c (asking.6 some),
  )
  asks-fresh (ask.Unit l hints) asking = tt
  asks-fresh Import asking = tt
  asks-fresh (Forget ids) asking = tt
  asks-fresh (Done found) asking = tt

  asks-in-time : (a : Ask) → IsAsking s a → AsksInTime (view_of f s) a
  asks-in-time (Learn c hints lbd offered) asking = asking.3
  asks-in-time (ask.Unit l hints) asking = tt
  asks-in-time Import asking = tt
  asks-in-time (Forget ids) asking = (asking.4, asking.3.due)
  asks-in-time (Done found) asking = tt

-- a clause that is to be learnt is no longer than there are variables
asks-short : (s : Solver) (a : Ask) → IsWaiting s → IsAsking s a → HasShortClause a
asks-short s (Learn c hints lbd offered) waiting asking =
    let len = short c s.vars (normal-distinct c asking.4.normal) asking.4.within in
    let few = waiting.steady.kept.few in omega (arith, len, few)
asks-short s (ask.Unit l hints) waiting asking = tt
asks-short s Import waiting asking = tt
asks-short s (Forget ids) waiting asking = tt
asks-short s (Done found) waiting asking = tt

module _ (f : Cnf) (old new : Solver) (told : Told) (a : Ask) (within : All (VarsUpTo f.vars) f.clauses)
    (before : IsSearchingUnlessDone f old) (base : IsBase old.base) (after : IsBase new.base)
    (trail : IsTrail new.base.trail) (answers : Answers (view_of f old) told) (waiting : IsWaiting new) where
  searching : IsSearching f old
  searching = before (not-done f old told answers)

  may : MayBeTold old told
  may = may-be-told f old base.ids searching told answers

  known : HasGoneOn old told a new
      → IsKnown f new.base.clauses (held_then (view_of f old).held (view_of f old).asked told)
  known gone =
      taken-over f old new.base.clauses searching.holds base.ids after.ids told searching.first_learnt
      searching.waiting.ready may (is-above f old base.ids told answers) gone.clauses

  on-searching : HasGoneOn old told a new → IsSearching f new
  on-searching gone = record {
    waiting = waiting;
    holds = (known gone).holds;
    vars = gone.stays.vars ∙ searching.vars;
    first_learnt = gone.stays.first_learnt ∙ searching.first_learnt;
  }

  goes-on : HasGoneOn old told a new → GoesOn (view_of f old) told a (view_of f new)
  goes-on gone =
      let now = on-searching gone in
      record {
        formula = refl;
        limit = gone.stays.limit;
        keep_all = gone.stays.keep_all;
        held = (known gone).held;
        tally = gone.tally;
        lawful = asks-lawfully f new now after.ids a gone.asking;
        fresh = asks-fresh f new now after.ids a gone.asking;
        in_time = asks-in-time f new now after.ids a gone.asking;
      }

  not-closed : ended_by old told ≡ None → told ≢ Closed
  not-closed none closed =
      let e : None ≡ Some Refuted = sym none ∙ ap (ended_by old) closed in
      let w : false ≡ true = ap is_some e in cc

  turn-on : HasGoneOn old told a new → ended_by old told ≡ None → IsTurn (view_of f old) told a (view_of f new)
  turn-on gone none = record {
    asked = asks-this new a gone.asking;
    goes_on = λ _. goes-on gone;
    ends = ends-on f old new told a within searching.vars (known gone).holds gone none;
    falls = λ same. falls-on old new told a gone searching.waiting waiting trail may same (not-closed none);
  }

  turn-over : (found : Found) → HasEnded old found a new → ended_by old told ≡ Some found
      → IsTurn (view_of f old) told a (view_of f new)
  turn-over found over ended = record {
    asked = ap (λ r. asked_in r new.learnt) over.request ∙ ap asked_by (sym over.asked);
    goes_on = λ undone.
        let e : is_open (asked_by a) ≡ false = ap (λ x. is_open (asked_by x)) over.asked in
        let w : false ≡ true = sym e ∙ undone in absurd (cc);
    ends = ends-over f old new told a within searching.vars found over ended;
    falls = λ _.
        let zero = done-left new over.request in
        let some = open-left old old.request refl (not-done f old told answers) searching.waiting.more in
        omega (arith, zero, some);
  }

  turn-by : (o : Option Found) → ended_by old told ≡ o → HasTurned old told o a new
      → IsTurn (view_of f old) told a (view_of f new)
  turn-by None is turned = turn-on turned is
  turn-by (Some found) is turned = turn-over found turned is

  searching-by : (o : Option Found) → HasTurned old told o a new → IsSearchingUnlessDone f new
  searching-by None turned = λ _. on-searching turned
  searching-by (Some found) turned = λ undone. absurd (undone turned.request)

  short-by : (o : Option Found) → HasTurned old told o a new → HasShortClause a
  short-by None turned = asks-short new a waiting turned.asking
  short-by (Some found) turned = subst HasShortClause (sym turned.asked) tt

  pub is-turn : HasTurned old told (ended_by old told) a new → IsTurn (view_of f old) told a (view_of f new)
  is-turn turned = turn-by (ended_by old told) refl turned

  pub still-searching : HasTurned old told (ended_by old told) a new → IsSearchingUnlessDone f new
  still-searching turned = searching-by (ended_by old told) turned

  pub has-short-clause : HasTurned old told (ended_by old told) a new → HasShortClause a
  has-short-clause turned = short-by (ended_by old told) turned
