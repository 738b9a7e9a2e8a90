use Rattle.gr_logic.specs.Rup.{members}
use Rattle.gr_unit.proofs.Forced.{closed-list}
use Rattle.gr_unit.proofs.Growing.{push-least, push-given, push-fewer}
use Rattle.gr_unit.proofs.closing.derive.Goals as goal

pub loop-found-smaller : goal.loop-found-smaller
loop-found-smaller c =
    rw c.in_ok-derived-2.ensures
    (push-fewer c.args.clauses.now c.loop-found.derived c.in-Some.found.place c.in-Some.found.lit
    c.in-Some.ensures.forced c.in-Some.ensures.new)

pub loop-found-preserved : goal.loop-found-preserved
loop-found-preserved c =
    rw c.in_ok-derived-2.ensures
    record {
      given =
          push-given (members c.args.given.now) c.loop-found.derived c.in-Some.found.lit c.loop-found.invariant.given;
      least =
          push-least c.args.clauses.now
          (members c.args.given.now) c.loop-found.derived c.in-Some.found.place c.in-Some.found.lit
          c.loop-found.invariant.least c.in-Some.ensures.forced;
    }

-- nothing is missing, so the list is closed
pub returns : goal.returns
returns c = λ l. (
  c.loop-found.invariant.least l,
  λ derived. derived (members c.loop-found.derived) c.loop-found.invariant.given
      (closed-list c.args.clauses.now (members c.loop-found.derived) c.in_default.ensures.none),
)
