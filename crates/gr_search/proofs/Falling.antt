-- a number that falls with each ask, unless a clause was taken over
use Rattle.std.proofs.Common.{◌≡◌, ◌≢◌, ℕ, ◌<◌, ◌≤◌, ◌+◌, ◌-◌, ◌*◌, true, false, List, refl, sym, ap, ◌∙◌, subst, arith}
use Rattle.std.proofs.lemmas.Option.{slice_get_within}
use Rattle.gr_trail.specs.Trails.{IsTrail}
use Rattle.gr_logic.specs.Literals.{Literal}
use Rattle.gr_diary.specs.Tallies.{Tally, with_drain, with_forget}
use Rattle.gr_search.specs.declared.asks.Ask.{Ask}
use Rattle.gr_search.specs.declared.asks.Ask.TheVariants.{Learn, Import, Forget, Done}
use Rattle.gr_search.specs.declared.asks.Ask.TheVariants as ask
use Rattle.gr_search.specs.declared.asks.Told.{Told}
use Rattle.gr_search.specs.declared.asks.Told.TheVariants.{Start, Id, Imported, Drained, Forgotten, Closed}
use Rattle.gr_search.specs.declared.solving.Request.{Request}
use Rattle.gr_search.specs.declared.solving.Request.TheVariants as request
use Rattle.gr_search.specs.declared.solving.Solver.{Solver}
use Rattle.gr_search.specs.Searches as search
use Rattle.gr_search.specs.Tellings.{tally_with, tally_then, is_imported}
use Rattle.gr_search.specs.Solvers.{asked_in, IsReadyFor, IsUnsettled, IsWaiting, MayLearnMore, AsksForClause, AsksToForget, MayBeTold}
use Rattle.gr_search.specs.TakingOver.{settled_with, settled_then}
use Rattle.gr_search.specs.SolverTurns.{IsAsking, HasGoneOn}
use Rattle.gr_search.specs.SolverViews.{rank_of, units_left, learns_left, left_in}

-- the number, by the open request
pub left-by : (s : Solver) (r : Request) → s.request ≡ r
    → left_in s ≡ 4 * learns_left s r + 4 * units_left s r + rank_of r
left-by s r is = ap (λ q. 4 * learns_left s q + 4 * units_left s q + rank_of q) is

-- without the request's rank
abbrev pub room : Solver → ℕ
room s = 4 * (s.counts.limit - s.counts.tally.learns) + 4 * (s.vars - s.settled)

-- an ask to forget has the least rank but that of a clause
forgets-left : (s : Solver) (ids : List ℕ) (r : Request) → s.request ≡ r
    → asked_in r s.learnt ≡ search.Forgetting ids → left_in s ≡ room s + 1
forgets-left s ids request.Nothing is asked = absurd (cc)
forgets-left s ids (request.Learning lbd) is asked = absurd (cc)
forgets-left s ids (request.Deriving lit) is asked = absurd (cc)
forgets-left s ids request.Importing is asked = absurd (cc)
forgets-left s ids (request.Forgetting those) is asked = left-by s (request.Forgetting those) is
forgets-left s ids request.Done is asked = absurd (cc)

module _ (s : Solver) (trail : IsTrail s.base.trail) (sized : s.base.trail.vars ≡ s.vars) (waiting : IsWaiting s) where
  -- the literal of a unit clause is one of the trail's that is not settled
  unsettled-low : (l : Literal) → s.request ≡ request.Deriving l → s.settled < s.vars
  unsettled-low l is =
      let u : IsUnsettled s l = subst (IsReadyFor s) is waiting.ready in
      let low = slice_get_within s.base.trail.assigned s.settled u.is u.first in
      let short = trail.short in
      omega (arith, low, short, sized)

  unit-left : (l : Literal) → s.request ≡ request.Deriving l → left_in s < room s
  unit-left l is =
      let e = left-by s (request.Deriving l) is in
      let low = unsettled-low l is in omega (arith, e, low)

  -- every ask
  pub at-most : (a : Ask) → IsAsking s a → left_in s ≤ room s + 2
  at-most (Learn c hints lbd offered) asking = let e = left-by s (request.Learning lbd) asking.0 in omega (arith, e)
  at-most (ask.Unit l hints) asking = let e = unit-left l asking.0 in omega (arith, e)
  at-most Import asking = let e = left-by s request.Importing asking.0 in omega (arith, e)
  at-most (Forget ids) asking = let e = forgets-left s ids s.request refl asking.0 in omega (arith, e)
  at-most (Done found) asking = let e = left-by s request.Done asking.0 in omega (arith, e)

  -- one that is no import, as where no restart waits
  pub no-import : (a : Ask) → IsAsking s a → s.counts.tally.waits ≡ false → left_in s ≤ room s + 1
  no-import (Learn c hints lbd offered) asking none =
      let e = left-by s (request.Learning lbd) asking.0 in omega (arith, e)
  no-import (ask.Unit l hints) asking none = let e = unit-left l asking.0 in omega (arith, e)
  no-import Import asking none = let w : false ≡ true = sym none ∙ asking.1 in absurd (cc)
  no-import (Forget ids) asking none = let e = forgets-left s ids s.request refl asking.0 in omega (arith, e)
  no-import (Done found) asking none = let e = left-by s request.Done asking.0 in omega (arith, e)

  -- one that is neither an import nor to forget, as just after ids were let go
  pub no-forget : (a : Ask) → IsAsking s a → s.counts.tally.waits ≡ false → s.counts.tally.learns_since ≡ 0
      → left_in s ≤ room s
  no-forget (Learn c hints lbd offered) asking none since =
      let e = left-by s (request.Learning lbd) asking.0 in omega (arith, e)
  no-forget (ask.Unit l hints) asking none since = let e = unit-left l asking.0 in omega (arith, e)
  no-forget Import asking none since = let w : false ≡ true = sym none ∙ asking.1 in absurd (cc)
  no-forget (Forget ids) asking none since =
      let due = asking.3.due in absurd (omega (arith, due, since))
  no-forget (Done found) asking none since = let e = left-by s request.Done asking.0 in omega (arith, e)

-- a search that is done has nothing left, and any other has something
pub done-left : (s : Solver) → s.request ≡ request.Done → left_in s ≡ 0
done-left s is = let e = left-by s request.Done is in omega (arith, e)

pub open-left : (s : Solver) (r : Request) → s.request ≡ r → r ≢ request.Done → MayLearnMore s r → 0 < left_in s
open-left s request.Nothing is undone more = let e = left-by s request.Nothing is in omega (arith, e, more)
open-left s (request.Learning lbd) is undone more =
    let e = left-by s (request.Learning lbd) is in omega (arith, e, more)
open-left s (request.Deriving lit) is undone more =
    let e = left-by s (request.Deriving lit) is in omega (arith, e, more)
open-left s request.Importing is undone more = let e = left-by s request.Importing is in omega (arith, e, more)
open-left s (request.Forgetting ids) is undone more =
    let e = left-by s (request.Forgetting ids) is in omega (arith, e, more)
open-left s request.Done is undone more = absurd (undone refl)

module _ (old new : Solver) (told : Told) (a : Ask) (gone : HasGoneOn old told a new) (before : IsWaiting old)
    (after : IsWaiting new) (trail : IsTrail new.base.trail) where
  sized : new.base.trail.vars ≡ new.vars
  sized = after.steady.kept.sized

  most : left_in new ≤ room new + 2
  most = at-most new trail sized after a gone.asking

  by-start : old.request ≡ request.Nothing → new.counts.tally ≡ old.counts.tally → old.settled ≤ new.settled
      → left_in new < left_in old
  by-start is same more =
      let e = left-by old request.Nothing is in
      let m = most in
      let l = gone.stays.limit in
      let v = gone.stays.vars in
      let n : new.counts.tally.learns ≡ old.counts.tally.learns = ap (λ (t : Tally). t.learns) same in
      omega (arith, e, m, l, v, n, more)

  by-id : (r : Request) → old.request ≡ r → AsksForClause r
      → new.counts.tally ≡ tally_with old.counts.tally (asked_in r old.learnt)
      → settled_with old.settled r ≤ new.settled → left_in new < left_in old
  by-id request.Nothing is asks same more = absurd asks
  by-id (request.Learning lbd) is asks same more =
      let e = left-by old (request.Learning lbd) is in
      let m = most in
      let l = gone.stays.limit in
      let v = gone.stays.vars in
      let n : new.counts.tally.learns ≡ old.counts.tally.learns + 1 = ap (λ (t : Tally). t.learns) same in
      let less = gone.more in
      omega (arith, e, m, l, v, n, more, less)
  by-id (request.Deriving lit) is asks same more =
      let e = left-by old (request.Deriving lit) is in
      let m = most in
      let l = gone.stays.limit in
      let v = gone.stays.vars in
      let n : new.counts.tally.learns ≡ old.counts.tally.learns = ap (λ (t : Tally). t.learns) same in
      omega (arith, e, m, l, v, n, more)
  by-id request.Importing is asks same more = absurd asks
  by-id (request.Forgetting ids) is asks same more = absurd asks
  by-id request.Done is asks same more = absurd asks

  by-drain : old.request ≡ request.Importing → new.counts.tally ≡ with_drain old.counts.tally
      → old.settled ≤ new.settled → left_in new < left_in old
  by-drain is same more =
      let e = left-by old request.Importing is in
      let w : new.counts.tally.waits ≡ false = ap (λ (t : Tally). t.waits) same in
      let m = no-import new trail sized after a gone.asking w in
      let l = gone.stays.limit in
      let v = gone.stays.vars in
      let n : new.counts.tally.learns ≡ old.counts.tally.learns = ap (λ (t : Tally). t.learns) same in
      omega (arith, e, m, l, v, n, more)

  by-forget : (r : Request) → old.request ≡ r → AsksToForget r → IsReadyFor old r
      → new.counts.tally ≡ with_forget old.counts.tally → old.settled ≤ new.settled → left_in new < left_in old
  by-forget request.Nothing is asks ready same more = absurd asks
  by-forget (request.Learning lbd) is asks ready same more = absurd asks
  by-forget (request.Deriving lit) is asks ready same more = absurd asks
  by-forget request.Importing is asks ready same more = absurd asks
  by-forget (request.Forgetting ids) is asks ready same more =
      let e = left-by old (request.Forgetting ids) is in
      let w : new.counts.tally.waits ≡ false = ap (λ (t : Tally). t.waits) same ∙ ready.free in
      let z : new.counts.tally.learns_since ≡ 0 = ap (λ (t : Tally). t.learns_since) same in
      let m = no-forget new trail sized after a gone.asking w z in
      let l = gone.stays.limit in
      let v = gone.stays.vars in
      let n : new.counts.tally.learns ≡ old.counts.tally.learns = ap (λ (t : Tally). t.learns) same in
      omega (arith, e, m, l, v, n, more)
  by-forget request.Done is asks ready same more = absurd asks

  by-told : (t : Told) → MayBeTold old t → is_imported t ≡ false
      → new.counts.tally ≡ tally_then old.counts.tally (asked_in old.request old.learnt) t
      → settled_then old t ≤ new.settled → t ≢ Closed → left_in new < left_in old
  by-told Start may none same more undone = by-start may same more
  by-told (Id id) may none same more undone = by-id old.request refl may.0 same more
  by-told (Imported gone_id id c) may none same more undone = let e : true ≡ false = none in absurd (cc)
  by-told Drained may none same more undone = by-drain may same more
  by-told Forgotten may none same more undone = by-forget old.request refl may before.ready same more
  by-told Closed may none same more undone = absurd (undone refl)

  -- a turn of a search that goes on
  pub falls-on : MayBeTold old told → is_imported told ≡ false → told ≢ Closed → left_in new < left_in old
  falls-on may none undone = by-told told may none gone.tally gone.settled undone
