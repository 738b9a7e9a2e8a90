use Rattle.std.proofs.Common.{◌≡◌, true, subst}
use Rattle.gr_logic.specs.Literals.{Literal}
use Rattle.gr_trail.specs.Trails.{true_in}
use Rattle.gr_trail.proofs.Standing.{at-true}
use Rattle.gr_search.specs.Solvers.{IsReadyFor, IsUnsettled}
use Rattle.gr_search.proofs.Steady.{kept-settled, ground-levels}
use Rattle.gr_search.proofs.solving.Solver.take_id.Goals as goal

pub settle-requires-clause-holds : goal.settle-requires-clause-holds
settle-requires-clause-holds c =
    let s = c.args.self.now in
    let u : IsUnsettled s c.in-Deriving.lit = subst (IsReadyFor s) c.in-Deriving.is c.requires.waiting.ready in
    subst (λ (q : Literal). true_in s.base.trail.assigned q ≡ true) u.literal
    (at-true s.base.trail.assigned s.settled u.is u.first)

pub returns-in_ok-settle-in-Deriving-clause-steady : goal.returns-in_ok-settle-in-Deriving-clause-steady
returns-in_ok-settle-in-Deriving-clause-steady c =
    let s = c.args.self.now in
    let u : IsUnsettled s c.in-Deriving.lit = subst (IsReadyFor s) c.in-Deriving.is c.requires.waiting.ready in
    record {
      kept = kept-settled s.vars s.base c.settle.new.self c.in-Deriving.lit c.args.id
          c.in_ok-settle-in-Deriving.field-0 s.settled s.chooser u.is c.trail-trail.ensures.legal
          (ground-levels s.base.trail c.trail-trail.ensures.legal u.ground) c.in_ok-settle-in-Deriving.ensures u.first
          u.literal c.requires.waiting.steady.kept;
      analyzer = c.requires.waiting.steady.analyzer;
    }
