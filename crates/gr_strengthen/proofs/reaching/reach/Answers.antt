use Rattle.std.proofs.Common.{◌≡◌, length, sym, ap, ◌∙◌, subst, arith}
use Rattle.gr_strengthen.specs.Reaching.{AreFollowed, IsMore, with_clause_of}
use Rattle.gr_strengthen.specs.Reached.{reach_in, nothing_reached}
use Rattle.gr_strengthen.proofs.Reached.{begins, more-itself, more-then, clause-covers, all-reached}
use Rattle.gr_strengthen.proofs.reaching.reach.Goals as goal

pub forced-init : goal.forced-init
forced-init c =
    let assigned = c.args.trail.now.assigned in
    let e : with_clause_of assigned nothing_reached c.args.source.now ≡ reach_in c.meet.new.reached =
    ap (λ r. with_clause_of assigned r c.args.source.now) (sym c.clear.ensures.reach) ∙ sym c.meet.ensures.met in
    record {
      sized = c.meet.ensures.sized;
      followed = subst (λ r. AreFollowed c.args.arena.now assigned r 0) e
          (begins c.args.arena.now assigned c.args.source.now c.requires.valued);
      more = subst (IsMore (with_clause_of assigned nothing_reached c.args.source.now)) e
          (more-itself (with_clause_of assigned nothing_reached c.args.source.now));
    }

pub forced-preserved : goal.forced-preserved
forced-preserved c = record {
  sized = c.follow.ensures.sized;
  followed = c.follow.ensures.followed;
  more = more-then (with_clause_of c.args.trail.now.assigned nothing_reached c.args.source.now)
      (reach_in c.forced.reached) (reach_in c.follow.new.reached) c.forced.invariant.more c.follow.ensures.more;
}

pub forced-smaller : goal.forced-smaller
forced-smaller c =
    let few = c.all.ensures.few in
    let is = ap length c.all.ensures.all in
    let s = c.forced.invariant.sized.forced in
    let test = c.forced-test.true in
    omega arith

pub returns-clause-reached : goal.returns-clause-reached
returns-clause-reached c =
    all-reached c.args.arena.now c.args.trail.now.assigned c.args.source.now (reach_in c.forced.reached) c.forced.index
    c.forced.invariant.followed
    (let is = ap length c.all.ensures.all in let test = c.forced-test.false in omega arith)
    c.forced.invariant.more
    (clause-covers c.args.trail.now.assigned nothing_reached c.args.source.now c.requires.valued)
