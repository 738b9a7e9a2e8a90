use Rattle.std.proofs.Common.{◌≡◌, ◌<◌, All, IsSome, ℕ, sym, ap, ◌∙◌, subst, arith, refl}
use Rattle.gr_trail.specs.Trails.{assigned_to}
use Rattle.gr_prop.specs.Bases.{BaseState}
use Rattle.gr_search.specs.Counting.{CountState}
use Rattle.gr_search.specs.declared.solving.Solver.{Solver}
use Rattle.gr_search.specs.declared.solving.Request.TheVariants.{Learning}
use Rattle.gr_search.proofs.Learnt.{touched-some, back-low}
use Rattle.gr_search.proofs.Asking.{ready-to-learn, asks-to-learn}
use Rattle.gr_search.proofs.solving.Solver.learn.Goals as goal

pub bump-requires-clause-touched : goal.bump-requires-clause-touched
bump-requires-clause-touched c =
    let t = c.args.self.now.base.trail in
    subst (All (λ (var : ℕ). IsSome (assigned_to t.assigned var))) (sym c.touched.ensures)
    (touched-some t c.in_ok-learnt.learnt.clause c.first_uip.new.self.touched c.in_ok-learnt.ensures.touched)

pub go_back-requires-clause-level : goal.go_back-requires-clause-level
go_back-requires-clause-level c =
    back-low c.args.self.now.base c.in_ok-learnt.learnt c.trail-trail.ensures.legal c.in_ok-learnt.ensures.taught

pub returns-clause-waiting : goal.returns-clause-waiting
returns-clause-waiting c =
    let s = c.args.self.now in
    let learnt = c.in_ok-learnt.learnt in
    let g = c.go_back.new.self in
    let new : Solver = record g { request = Learning learnt.lbd; learnt = c.copy_into.new.clause } in
    let counts : g.counts ≡ s.counts = ap (λ (x : Solver). x.counts) c.go_back.ensures.same in
    record {
      steady = record { kept = c.go_back.ensures.steady.kept; analyzer = c.go_back.ensures.steady.analyzer };
      ready = ready-to-learn s.base learnt s.vars c.trail-trail.ensures.legal c.in_ok-learnt.ensures.taught
          c.requires.steady.kept.sized new (ap (λ (x : Solver). x.vars) c.go_back.ensures.same)
          (c.in_ok-copy_into.ensures ∙ c.lits-2.ensures) (ap (λ (b : BaseState). b.trail) c.go_back.ensures.base);
      more = subst (λ (n : CountState). n.tally.learns < n.limit) (sym counts) c.requires.more;
    }

pub returns-clause-searched : goal.returns-clause-searched
returns-clause-searched c =
    let s = c.args.self.now in
    let learnt = c.in_ok-learnt.learnt in
    let g = c.go_back.new.self in
    let new : Solver = record g { request = Learning learnt.lbd; learnt = c.copy_into.new.clause } in
    let counts : g.counts ≡ s.counts = ap (λ (x : Solver). x.counts) c.go_back.ensures.same in
    let settled : g.settled ≡ s.settled = ap (λ (x : Solver). x.settled) c.go_back.ensures.same in
    let clauses = ap (λ (b : BaseState). b.clauses) c.go_back.ensures.base in
    record {
      stays = record {
        vars = ap (λ (x : Solver). x.vars) c.go_back.ensures.same;
        first_learnt = ap (λ (x : Solver). x.first_learnt) c.go_back.ensures.same;
        keep_all = ap (λ (x : Solver). x.keep_all) c.go_back.ensures.same;
        limit = ap (λ (n : CountState). n.limit) counts;
      };
      clauses = clauses;
      counts = counts;
      settled = omega (arith, settled);
      asking = asks-to-learn s.base learnt s.vars c.trail-trail.ensures.legal c.in_ok-learnt.ensures.taught
          c.requires.steady.kept.sized new (ap (λ (x : Solver). x.vars) c.go_back.ensures.same)
          (c.in_ok-copy_into.ensures ∙ c.lits-2.ensures) clauses
          (ap (λ (n : CountState). n.tally.waits) counts ∙ c.requires.waits) refl;
    }
