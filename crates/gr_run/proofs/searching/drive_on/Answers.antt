use Rattle.std.proofs.Common.{refl, sym, ◌∙◌, subst}
use Rattle.gr_diary.specs.Histories.{IsEnabled}
use Rattle.gr_search.specs.Filters.{OffersLow}
use Rattle.gr_search.specs.Turns.{entry_of, IsTurn, IsOfferedBy}
use Rattle.gr_run.specs.Moves.{IsToldOf}
use Rattle.gr_run.specs.Runs.{IsFound}
use Rattle.gr_run.specs.Shared.{IsSeatAnswer, IsStanding, IsFoundFrom}
use Rattle.gr_run.proofs.Answering.{stayed}
use Rattle.gr_run.proofs.Ending.{found}
use Rattle.gr_run.proofs.Filtering.{others-filtered, step-filtered}
use Rattle.gr_run.proofs.SeatRuns.{sees-itself, sees-after, at-seat, from-seat, driven-unused, stands, stands-waiting}
use Rattle.gr_run.proofs.Seeing.{none-own}
use Rattle.gr_run.proofs.Stepping.{step, may-ask}
use Rattle.gr_run.proofs.searching.drive_on.Goals as goal

pub loop-round-init : goal.loop-round-init
loop-round-init g c =
    let x = c.args.seat.now in
    let v = c.args.search.now.state in
    let unused = c.requires.seat.first in
    let legal = c.requires.seat.legal in record {
      sees = sees-itself x legal;
      filter = refl;
      driven = driven-unused v.limit v.keep_all v x c.requires.begun c.requires.some unused legal;
      filtered = others-filtered (goal.F-post g c.args.search.now.filter.f) x.seen (none-own x.seen unused);
    }

pub returns-in_err-ask-clause-standing : goal.returns-in_err-ask-clause-standing
returns-in_err-ask-clause-standing g c =
    let x = c.args.seat.now in
    let y = c.loop-round.seat in
    let v = c.args.search.now.state in
    let i = c.loop-round.invariant in
    stands c.args.offer v.limit v.keep_all (goal.F-post g c.args.search.now.filter.f) x y c.loop-round.search.state
    c.loop-round.told c.requires.bounded i.sees i.driven i.filtered

pub returns-in_err-next-clause-standing : goal.returns-in_err-next-clause-standing
returns-in_err-next-clause-standing g c =
    let x = c.args.seat.now in
    let y = c.loop-round.seat in
    let v = c.args.search.now.state in
    let i = c.loop-round.invariant in
    stands-waiting c.args.offer v.limit v.keep_all x y c.answer_on.new.seat
    (stands c.args.offer v.limit v.keep_all (goal.F-post g c.args.search.now.filter.f) x y c.loop-round.search.state
    c.loop-round.told c.requires.bounded i.sees i.driven i.filtered)
    c.in_err-next.ensures.err

pub answer_on-requires-clause-able : goal.answer_on-requires-clause-able
answer_on-requires-clause-able g c κs within =
    let x = c.args.seat.now in
    let y = c.loop-round.seat in
    let i = c.loop-round.invariant in
    let v = c.args.search.now.state in
    let a = c.in_ok-ask.ask in
    at-seat (λ f reducers capacity. IsEnabled f reducers capacity y.seen (entry_of a)) x y i.sees
    (may-ask x.formula x.reducers x.capacity v.limit v.keep_all y.seen y.seen
    c.loop-round.search.state c.loop-round.told a c.turn.new.self.state i.driven c.in_ok-ask.ensures.turn
    (stayed x.formula x.reducers x.capacity y.seen y.seen refl i.driven.legal))

pub loop-round-preserved : goal.loop-round-preserved
loop-round-preserved g c =
    let x = c.args.seat.now in
    let y = c.loop-round.seat in
    let z = c.answer_on.new.seat in
    let i = c.loop-round.invariant in
    let v = c.args.search.now.state in
    let a = c.in_ok-ask.ask in
    let told = c.in-Told.next in
    let answered = subst (λ answer. IsSeatAnswer y a answer z) c.in-Told.is c.in_ok-next.ensures.ok in
    let of : IsToldOf x.formula x.reducers x.capacity y.seen a told z.seen =
    from-seat (λ f reducers capacity. IsToldOf f reducers capacity y.seen a told z.seen) x y i.sees answered.1 in
    let low : OffersLow (goal.F-post g c.loop-round.search.filter.f) =
    subst (λ filter. OffersLow (goal.F-post g filter.f)) (sym i.filter) c.requires.low in record {
      sees = sees-after x y z i.sees answered.0;
      filter = c.in_ok-ask.ensures.filter ∙ i.filter;
      driven = step x.formula x.reducers x.capacity v.limit v.keep_all (goal.F-post g c.loop-round.search.filter.f) low
          y.seen z.seen c.loop-round.search.state c.loop-round.told c.turn.new.self.state a told i.driven
          c.in_ok-ask.ensures.turn c.in_ok-ask.ensures.offered of;
      filtered = step-filtered (goal.F-post g c.args.search.now.filter.f) x.formula x.reducers x.capacity
          y.seen z.seen a told
          (subst (λ filter. IsOfferedBy (goal.F-post g filter.f) a) i.filter c.in_ok-ask.ensures.offered) of
          i.filtered;
    }

pub returns-in-Found-clause-standing : goal.returns-in-Found-clause-standing
returns-in-Found-clause-standing g c =
    let x = c.args.seat.now in
    let y = c.loop-round.seat in
    let z = c.answer_on.new.seat in
    let v = c.args.search.now.state in
    let i = c.loop-round.invariant in
    let answered = subst (λ answer. IsSeatAnswer y c.in_ok-ask.ask answer z) c.in-Found.is c.in_ok-next.ensures.ok in
    subst (IsStanding c.args.offer v.limit v.keep_all x) (sym answered.0)
    (stands c.args.offer v.limit v.keep_all (goal.F-post g c.args.search.now.filter.f) x y c.loop-round.search.state
    c.loop-round.told c.requires.bounded i.sees i.driven i.filtered)

pub returns-in-Found-clause-found : goal.returns-in-Found-clause-found
returns-in-Found-clause-found g c =
    let x = c.args.seat.now in
    let y = c.loop-round.seat in
    let z = c.answer_on.new.seat in
    let v = c.args.search.now.state in
    let i = c.loop-round.invariant in
    let what = c.in-Found.found in
    let answered = subst (λ answer. IsSeatAnswer y c.in_ok-ask.ask answer z) c.in-Found.is c.in_ok-next.ensures.ok in
    subst (λ s. IsFoundFrom v.limit v.keep_all s what) (sym answered.0)
    (at-seat (λ f reducers capacity. IsFound f reducers capacity v.limit v.keep_all y.seen what) x y i.sees
    (found x.formula x.reducers x.capacity v.limit v.keep_all y.seen c.loop-round.search.state c.loop-round.told
    what c.turn.new.self.state i.driven
    (subst (λ asked. IsTurn c.loop-round.search.state c.loop-round.told asked c.turn.new.self.state) answered.1
    c.in_ok-ask.ensures.turn)))
