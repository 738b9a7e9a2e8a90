use Rattle.std.proofs.Common.{◌<◌, ◌≤◌, ℕ, ◌∙◌, ap, sym, subst}
use Rattle.gr_strengthen.specs.Strengtheners.{StrengthenerState}
use Rattle.gr_reducer.proofs.Begins.{begins-in-step, begins-free}
use Rattle.gr_reducer.proofs.working.work.Goals as goal

pub work_on-ended-requires-clause-ready : goal.work_on-ended-requires-clause-ready
work_on-ended-requires-clause-ready g c κs within =
    let seat = c.args.seat in
    let range = c.actor-actor.ensures.in_range in
    let is = c.actor-actor.ensures.actor in
    record {
      lock = c.requires.lock;
      in_step = begins-in-step seat c.actor-actor.ensures.legal c.requires.first
          (subst (λ (n : ℕ). 0 < n) is range.0) (subst (λ (n : ℕ). n ≤ seat.reducers) is range.1)
          c.in-Ok.strengthener
          (ap (λ (s : StrengthenerState). s.formula) c.in-Ok.ensures ∙ sym c.requires.formula)
          (ap (λ (s : StrengthenerState). s.kept) c.in-Ok.ensures);
      free = begins-free seat c.actor-actor.ensures.legal c.requires.first;
    }
