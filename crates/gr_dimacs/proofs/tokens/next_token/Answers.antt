use Rattle.std.proofs.Common.{◌≤◌, ◌∙◌, arith}
use Rattle.gr_text.specs.Places.{known}
use Rattle.gr_text.specs.Stands.{stand}
use Rattle.gr_text.proofs.Going.{goes-then}
use Rattle.gr_dimacs.proofs.Told.{comment-begun, fails-later, onward-comment, onward-goes, onward-line, rose-later, told-skip-fails}
use Rattle.gr_dimacs.proofs.tokens.next_token.Goals as goal

pub returns-then-not-first-clause-goes : goal.returns-then-not-first-clause-goes
returns-then-not-first-clause-goes g c =
    let here = stand g.S.Source.left g.S.Source.taken g.S.Source.faults in
    let n = here c.next.new.self.held c.next.new.self.source.now in
    onward-goes _ _ n c.found.invariant.onward c.next.ensures.goes

pub returns-in-Ok-End-clause-goes : goal.returns-in-Ok-End-clause-goes
returns-in-Ok-End-clause-goes g c =
    let here = stand g.S.Source.left g.S.Source.taken g.S.Source.faults in
    let n = here c.next.new.self.held c.next.new.self.source.now in
    onward-goes _ _ n c.found.invariant.onward c.next.ensures.goes

pub returns-in-Err-clause-goes : goal.returns-in-Err-clause-goes
returns-in-Err-clause-goes g c =
    let here = stand g.S.Source.left g.S.Source.taken g.S.Source.faults in
    let n = here c.next.new.self.held c.next.new.self.source.now in
    onward-goes _ _ n c.found.invariant.onward c.next.ensures.goes

pub found-preserved-in-Ok : goal.found-preserved-in-Ok
found-preserved-in-Ok g c =
    let here = stand g.S.Source.left g.S.Source.taken g.S.Source.faults in
    let q = here c.found.scanner.held c.found.scanner.source.now in
    let n = here c.next.new.self.held c.next.new.self.source.now in
    let begun = comment-begun c.in-Ok-Token.line c.in-Ok-Token.first c.begins_comment.result c.token.result.now q n
    c.if-not-first.false c.begins_comment.ensures c.if-not-begins_comment.false c.token.ensures
    (rw c.in-Ok-Token.field-0-is at c.in-Ok-Token.ensures.ok) in
    let gone = rw c.in-Ok-Token.field-0-is at c.in-Ok-Token.ensures.advances in
    record {
      same = c.skip_line.ensures.same ∙ c.next.ensures.same ∙ c.found.invariant.same;
      onward = onward-comment _ q n _ c.found.invariant.onward c.next.ensures.goes (c.in-Ok-Token.ensures.calm tt)
          c.skip_line.ensures.goes (c.in-Ok.ensures.calm tt) (omega (arith, gone, c.skip_line.ensures.onward))
          begun c.in-Ok.ensures.ok;
    }

pub found-preserved : goal.found-preserved
found-preserved g c =
    let here = stand g.S.Source.left g.S.Source.taken g.S.Source.faults in
    let q = here c.found.scanner.held c.found.scanner.source.now in
    let n = here c.next.new.self.held c.next.new.self.source.now in
    let gives = rw c.in-Ok-LineEnd.field-0-is at c.in-Ok-LineEnd.ensures.ok in
    let gone = rw c.in-Ok-LineEnd.field-0-is at c.in-Ok-LineEnd.ensures.advances in
    record {
      same = c.next.ensures.same ∙ c.found.invariant.same;
      onward = onward-line _ _ q n c.found.invariant.onward c.next.ensures.goes
          (c.in-Ok-LineEnd.ensures.calm tt) (omega (arith, gone)) gives;
    }

pub returns-in-Err-skip_line-clause-goes : goal.returns-in-Err-skip_line-clause-goes
returns-in-Err-skip_line-clause-goes g c =
    let here = stand g.S.Source.left g.S.Source.taken g.S.Source.faults in
    let q = here c.found.scanner.held c.found.scanner.source.now in
    let n = here c.next.new.self.held c.next.new.self.source.now in
    let o = here c.skip_line.new.self.held c.skip_line.new.self.source.now in
    goes-then _ n o (onward-goes _ q n c.found.invariant.onward c.next.ensures.goes)
    c.skip_line.ensures.goes

pub returns-in-Err-skip_line-clause-answer : goal.returns-in-Err-skip_line-clause-answer
returns-in-Err-skip_line-clause-answer g c =
    let here = stand g.S.Source.left g.S.Source.taken g.S.Source.faults in
    let q = here c.found.scanner.held c.found.scanner.source.now in
    let n = here c.next.new.self.held c.next.new.self.source.now in
    let o = here c.skip_line.new.self.held c.skip_line.new.self.source.now in
    let begun = comment-begun c.in-Ok-Token.line c.in-Ok-Token.first c.begins_comment.result c.token.result.now q n
    c.if-not-first.false c.begins_comment.ensures c.if-not-begins_comment.false c.token.ensures
    (rw c.in-Ok-Token.field-0-is at c.in-Ok-Token.ensures.ok) in
    let failed = c.in-Err-skip_line.failed in
    let grows : known q.place ≤ known o.place =
    omega (arith, c.next.ensures.goes.keeps.grows, c.skip_line.ensures.goes.keeps.grows) in
    fails-later failed _ q o c.found.invariant.onward.told (omega (arith, c.found.invariant.onward.draws.calm)) grows
    (told-skip-fails failed q n o c.skip_line.ensures.goes.keeps.grows begun c.in-Err-skip_line.ensures.err
    (λ e. rose-later q.faults n.faults o.faults c.next.ensures.goes.faults
    (c.in-Err-skip_line.ensures.fault e)))

pub returns-then-not-first-clause-calm : goal.returns-then-not-first-clause-calm
returns-then-not-first-clause-calm g c =
    λ told. c.in-Ok-Token.ensures.calm tt ∙ c.found.invariant.onward.draws.calm

pub returns-in-Ok-End-clause-calm : goal.returns-in-Ok-End-clause-calm
returns-in-Ok-End-clause-calm g c =
    λ told. c.in-Ok-End.ensures.calm tt ∙ c.found.invariant.onward.draws.calm

pub returns-in-Err-clause-calm : goal.returns-in-Err-clause-calm
returns-in-Err-clause-calm g c =
    λ told. c.in-Err.ensures.calm told ∙ c.found.invariant.onward.draws.calm

pub returns-in-Err-skip_line-clause-calm : goal.returns-in-Err-skip_line-clause-calm
returns-in-Err-skip_line-clause-calm g c =
    λ told.
    c.in-Err-skip_line.ensures.calm told ∙ c.in-Ok-Token.ensures.calm tt
    ∙ c.found.invariant.onward.draws.calm
