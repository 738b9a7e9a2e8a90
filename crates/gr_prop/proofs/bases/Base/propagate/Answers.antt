use Rattle.std.proofs.Common.{arith, refl, ap, subst}
use Rattle.gr_prop.specs.BaseChanges.{IsGrown}
use Rattle.gr_prop.specs.Watching.{IsReady}
use Rattle.gr_prop.proofs.WalkSteps.{grown-itself}
use Rattle.gr_prop.proofs.Passing.{passed-first, passing-begins}
use Rattle.gr_prop.proofs.Keeping.{decisions-grown}
use Rattle.gr_prop.proofs.bases.Base.propagate.Answers.Endings.{kept-broken, ends-broken, kept-pair, ends-pair, kept-cut, kept-found, ends-found, kept-ended}
use Rattle.gr_prop.proofs.bases.Base.propagate.Answers.Queue.{passed-grown, ahead-low, ahead-high, passed-ahead, paired-still, decisions-still, none-broken, gone-known, walks, goes-on, indexed-still, clauses-still, grown-still, closes}
use Rattle.gr_prop.proofs.bases.Base.propagate.Goals.{After-pass, After-negate-gone, After-take-list, After-put, After-loop-self, In-Some, In-Some-pass, In-Some-2, In-None, In_default}
use Rattle.gr_prop.proofs.bases.Base.propagate.Goals as goal
mod Queue
mod Endings

pub invariant_of-self : goal.invariant_of-self
invariant_of-self c = kept-broken (goal.at.invariant_of-self c).In-Some

pub returns-in-Some-clause-ends : goal.returns-in-Some-clause-ends
returns-in-Some-clause-ends c = ends-broken (goal.at.returns-in-Some-clause-ends c).In-Some

pub loop-self-init : goal.loop-self-init
loop-self-init c =
    let s = c.self.inside in
    let none = none-broken (goal.at.loop-self-init c).In_default in
    let ready = subst (IsReady s.arena.clauses s.trail s.watches s.head) none c.self.invariant.0.ready in
    record {
      paired = c.self.invariant.1;
      low = omega arith;
      high = ready.within;
      passed = passed-first s.arena.clauses s.trail s.watches s.pairs s.head ready;
      ready = ready;
      none = none;
      indexed = c.self.invariant.0.indexed;
      clauses = ap (λ b. b.clauses) c.self.view_is;
      grown = subst (λ t. IsGrown t s.trail) (ap (λ b. b.trail) c.self.view_is) (grown-itself s.trail);
      quiet = refl;
      conflict = refl;
    }

pub pass-requires : goal.pass-requires
pass-requires c =
    let s = c.loop-self.self-inside in
    let i = c.loop-self.invariant in
    passing-begins s.arena.clauses s.trail s.watches s.pairs s.head i.ready c.loop-self.ahead i.low i.high i.paired
    i.passed

pub invariant_of-self-in-Some-pass : goal.invariant_of-self-in-Some-pass
invariant_of-self-in-Some-pass c = kept-pair (goal.at.invariant_of-self-in-Some-pass c).In-Some-pass

pub returns-in-Some-pass : goal.returns-in-Some-pass
returns-in-Some-pass c =
    let f = (goal.at.returns-in-Some-pass c).In-Some-pass in
    let grown = passed-grown (goal.at.In-Some-pass f).After-pass in
    record {
      clauses = c.loop-self.invariant.clauses;
      decisions = decisions-grown _ _ grown;
      grown = grown;
      ends = ends-pair f;
    }

pub take-list-requires : goal.take-list-requires
take-list-requires c = gone-known (goal.at.take-list-requires c).After-negate-gone

pub walk-found-requires : goal.walk-found-requires
walk-found-requires c = walks (goal.at.walk-found-requires c).After-take-list

pub invariant_of-self-in_err-place : goal.invariant_of-self-in_err-place
invariant_of-self-in_err-place c = kept-cut (goal.at.invariant_of-self-in_err-place c).After-put

pub returns-in_err-place-clause-clauses : goal.returns-in_err-place-clause-clauses
returns-in_err-place-clause-clauses c = clauses-still (goal.at.returns-in_err-place-clause-clauses c).After-put

pub returns-in_err-place-clause-decisions : goal.returns-in_err-place-clause-decisions
returns-in_err-place-clause-decisions c = decisions-still (goal.at.returns-in_err-place-clause-decisions c).After-put

pub returns-in_err-place-clause-grown : goal.returns-in_err-place-clause-grown
returns-in_err-place-clause-grown c = grown-still (goal.at.returns-in_err-place-clause-grown c).After-put

pub invariant_of-self-in-Some-2 : goal.invariant_of-self-in-Some-2
invariant_of-self-in-Some-2 c = kept-found (goal.at.invariant_of-self-in-Some-2 c).In-Some-2

pub returns-in-Some-2 : goal.returns-in-Some-2
returns-in-Some-2 c =
    let p = (goal.at.returns-in-Some-2 c).After-put in
    let f = (goal.at.returns-in-Some-2 c).In-Some-2 in
    record { clauses = clauses-still p; decisions = decisions-still p; grown = grown-still p; ends = ends-found f }

pub loop-self-preserved : goal.loop-self-preserved
loop-self-preserved c =
    let p = (goal.at.loop-self-preserved c).After-put in
    let n = (goal.at.loop-self-preserved c).In-None in
    record {
      paired = paired-still p;
      low = ahead-low n;
      high = ahead-high n;
      passed = passed-ahead n;
      ready = goes-on n;
      none = c.loop-self.invariant.none;
      indexed = indexed-still p;
      clauses = clauses-still p;
      grown = grown-still p;
      quiet = c.loop-self.invariant.quiet;
      conflict = c.loop-self.invariant.conflict;
    }

pub invariant_of-self-2 : goal.invariant_of-self-2
invariant_of-self-2 c = kept-ended (goal.at.invariant_of-self-2 c).After-loop-self

pub returns : goal.returns
returns c =
    let i = c.loop-self.invariant in
    record {
      clauses = i.clauses;
      decisions = decisions-grown _ c.loop-self.self-inside.trail i.grown;
      grown = i.grown;
      ends = (refl, i.conflict, closes (goal.at.returns c).After-loop-self);
    }
