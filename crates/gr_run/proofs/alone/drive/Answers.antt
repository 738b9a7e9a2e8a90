use Rattle.std.proofs.Common.{refl, sym, ◌∙◌, subst, All}
use Rattle.gr_search.specs.Filters.{OffersLow}
use Rattle.gr_search.specs.Turns.{entry_of}
use Rattle.gr_diary.specs.Histories.{IsEnabled}
use Rattle.gr_run.specs.Alone.{IsAnswer}
use Rattle.gr_run.specs.Moves.{IsToldOf}
use Rattle.gr_run.specs.Runs.{IsFound}
use Rattle.gr_search.specs.Turns.{IsTurn}
use Rattle.gr_run.proofs.OwnExchange.{same-exchange, same-after, at-exchange, from-exchange, driven-from-nothing, nothing-imported}
use Rattle.gr_run.proofs.Answering.{stayed}
use Rattle.gr_run.proofs.Stepping.{step, may-ask}
use Rattle.gr_run.proofs.Ending.{found}
use Rattle.gr_search.specs.Turns.{IsOfferedBy}
use Rattle.std.proofs.lemmas.List.Elements.{All-nil}
use Rattle.gr_run.specs.Offers.{IsFilteredBy, AreFilteredBy, IsOfferedUpTo}
use Rattle.gr_run.proofs.Filtering.{step-filtered, offers-up-to}
use Rattle.gr_run.proofs.alone.drive.Goals as goal

pub loop-ask-init : goal.loop-ask-init
loop-ask-init g c =
    let x = c.args.bench.now in
    let v = c.args.search.now.state in record {
      same = same-exchange x;
      filter = refl;
      alone = refl;
      driven = driven-from-nothing x.formula x.reducers x.capacity v.limit v.keep_all v c.requires.begun
          c.requires.some x.diary.entries c.requires.empty;
      filtered = subst (AreFilteredBy (goal.F-post g c.args.search.now.filter.f)) (sym c.requires.empty)
          (All-nil (IsFilteredBy (goal.F-post g c.args.search.now.filter.f)));
    }

pub answer-requires-clause-able : goal.answer-requires-clause-able
answer-requires-clause-able g c =
    let x = c.args.bench.now in
    let y = c.loop-ask.bench in
    let i = c.loop-ask.invariant in
    let v = c.args.search.now.state in
    let a = c.in_ok-ask.ask in
    at-exchange (λ f reducers capacity. IsEnabled f reducers capacity y.diary.entries (entry_of a)) x y i.same
    (may-ask x.formula x.reducers x.capacity v.limit v.keep_all y.diary.entries y.diary.entries
    c.loop-ask.search.state c.loop-ask.told a c.turn.new.self.state i.driven c.in_ok-ask.ensures.turn
    (stayed x.formula x.reducers x.capacity y.diary.entries y.diary.entries refl i.driven.legal))

pub loop-ask-preserved : goal.loop-ask-preserved
loop-ask-preserved g c =
    let x = c.args.bench.now in
    let y = c.loop-ask.bench in
    let z = c.answer.new.bench in
    let i = c.loop-ask.invariant in
    let v = c.args.search.now.state in
    let a = c.in_ok-ask.ask in
    let told = c.in-Told.next in
    let answered = subst (λ answer. IsAnswer y a answer z) c.in-Told.is c.in_ok-next.ensures.ok in
    let of : IsToldOf x.formula x.reducers x.capacity y.diary.entries a told z.diary.entries =
    from-exchange (λ f reducers capacity. IsToldOf f reducers capacity y.diary.entries a told z.diary.entries) x y
    i.same answered.1 in
    let low : OffersLow (goal.F-post g c.loop-ask.search.filter.f) =
    subst (λ filter. OffersLow (goal.F-post g filter.f)) (sym i.filter) c.requires.low in record {
      same = same-after x y z i.same answered.0;
      filter = c.in_ok-ask.ensures.filter ∙ i.filter;
      alone = nothing-imported x.formula x.reducers x.capacity y.diary.entries z.diary.entries a told
          c.requires.alone of;
      driven = step x.formula x.reducers x.capacity v.limit v.keep_all (goal.F-post g c.loop-ask.search.filter.f) low
          y.diary.entries z.diary.entries c.loop-ask.search.state c.loop-ask.told c.turn.new.self.state a told
          i.driven c.in_ok-ask.ensures.turn c.in_ok-ask.ensures.offered of;
      filtered = step-filtered (goal.F-post g c.args.search.now.filter.f) x.formula x.reducers x.capacity
          y.diary.entries z.diary.entries a told
          (subst (λ filter. IsOfferedBy (goal.F-post g filter.f) a) i.filter c.in_ok-ask.ensures.offered) of
          i.filtered;
    }

pub returns-in-Found-clause-found : goal.returns-in-Found-clause-found
returns-in-Found-clause-found g c =
    let x = c.args.bench.now in
    let y = c.loop-ask.bench in
    let z = c.answer.new.bench in
    let i = c.loop-ask.invariant in
    let v = c.args.search.now.state in
    let a = c.in_ok-ask.ask in
    let what = c.in-Found.found in
    let answered = subst (λ answer. IsAnswer y a answer z) c.in-Found.is c.in_ok-next.ensures.ok in
    at-exchange (λ f reducers capacity. IsFound f reducers capacity v.limit v.keep_all z.diary.entries what) x z
    (same-after x y z i.same answered.0.same)
    (subst (λ d. IsFound x.formula x.reducers x.capacity v.limit v.keep_all d what) (sym answered.0.entries)
    (found x.formula x.reducers x.capacity v.limit v.keep_all y.diary.entries c.loop-ask.search.state c.loop-ask.told
    what c.turn.new.self.state i.driven
    (subst (λ asked. IsTurn c.loop-ask.search.state c.loop-ask.told asked c.turn.new.self.state) answered.1
    c.in_ok-ask.ensures.turn)))

pub returns-in-Found-clause-offered : goal.returns-in-Found-clause-offered
returns-in-Found-clause-offered g c =
    let y = c.loop-ask.bench in
    let z = c.answer.new.bench in
    let a = c.in_ok-ask.ask in
    let answered = subst (λ answer. IsAnswer y a answer z) c.in-Found.is c.in_ok-next.ensures.ok in
    let x = c.args.bench.now in
    subst (All (IsOfferedUpTo c.args.offer)) (sym answered.0.entries)
    (offers-up-to x.formula x.reducers x.capacity c.args.offer (goal.F-post g c.args.search.now.filter.f)
    c.requires.bounded y.diary.entries c.loop-ask.invariant.driven.legal c.loop-ask.invariant.filtered)
