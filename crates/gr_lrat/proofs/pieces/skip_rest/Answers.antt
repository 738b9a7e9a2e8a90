use Rattle.std.proofs.Common.{◌∙◌, Ok, Err, arith}
use Rattle.gr_lrat.proofs.Telling.{onward_then, onward_ends, onward_fails, skip_comes, skip_fails}
use Rattle.gr_lrat.proofs.PartRead.{part-first, part-more, goes-past, fails-at}
use Rattle.gr_lrat.specs.declared.pieces.Ending.{Ending}
use Rattle.gr_lrat.proofs.pieces.skip_rest.Goals as goal

pub returns-in-Err-clause-tells : goal.returns-in-Err-clause-tells
returns-in-Err-clause-tells g c = λ x.
    let left = g.S.Source.left in
    let p = c.args.scanner.now in
    let q = c.skip_line.new.self in
    skip_fails c.in-Err.failed x p.held q.held (left p.source.now) (left q.source.now)
    c.in-Err.ensures.err

pub pieces-init : goal.pieces-init
pieces-init g c =
    let left = g.S.Source.left in
    let p = c.args.scanner.now in
    let q = c.skip_line.new.self in
    record {
      same = c.skip_line.ensures.same;
      goes = λ x. skip_comes x p.held q.held (left p.source.now) (left q.source.now)
          c.in-Ok.ensures.ok c.skip_line.ensures.goes.keeps.grows;
      past = part-first _ _ c.skip_line.ensures.goes (c.in-Ok.ensures.calm tt) c.skip_line.ensures.onward;
    }

pub pieces-preserved : goal.pieces-preserved
pieces-preserved g c =
    let left = g.S.Source.left in
    let p = c.args.scanner.now in
    let q = c.pieces.scanner in
    let n = c.next_piece.new.scanner in
    let i = c.pieces.invariant in
    let gone = rw c.in-Ok-Token.field-0-is at c.in-Ok-Token.ensures.onward in
    record {
      same = c.next_piece.ensures.same ∙ i.same;
      goes = λ x. onward_then (λ ws. x) (λ ws. x) (λ ws. x) p.held q.held n.held
          (left p.source.now) (left q.source.now) (left n.source.now) (i.goes x)
          (rw c.in-Ok-Token.field-0-is at (c.in-Ok-Token.ensures.ok (λ ws. x)));
      past = part-more _ _ _ i.past c.next_piece.ensures.goes.0 c.in-Ok-Token.ensures.goes.1 (omega (arith, gone));
    }

pub returns-in-Ok-End-clause-tells : goal.returns-in-Ok-End-clause-tells
returns-in-Ok-End-clause-tells g c = λ x.
    let left = g.S.Source.left in
    let p = c.args.scanner.now in
    let q = c.pieces.scanner in
    let n = c.next_piece.new.scanner in
    onward_ends (λ ws. x) (λ ws. x) x c.in-Ok-End.end p.held q.held n.held
    (left p.source.now) (left q.source.now) (left n.source.now)
    (c.pieces.invariant.goes x) c.next_piece.ensures.goes.0.keeps.grows
    (rw c.in-Ok-End.field-0-is at (c.in-Ok-End.ensures.ok (λ ws. x)))

pub returns-in-Err-next_piece-clause-tells : goal.returns-in-Err-next_piece-clause-tells
returns-in-Err-next_piece-clause-tells g c = λ x.
    let left = g.S.Source.left in
    let p = c.args.scanner.now in
    let q = c.pieces.scanner in
    let n = c.next_piece.new.scanner in
    onward_fails (λ ws. x) (λ ws. x) c.in-Err-next_piece.failed p.held q.held n.held
    (left p.source.now) (left q.source.now) (left n.source.now)
    (c.pieces.invariant.goes x) c.next_piece.ensures.goes.0.keeps.grows
    (c.in-Err-next_piece.ensures.err (λ ws. x))

pub returns-in-Err-clause-goes : goal.returns-in-Err-clause-goes
returns-in-Err-clause-goes g c =
    (c.skip_line.ensures.goes, fails-at c.in-Err.failed _ _ c.in-Err.ensures.fault c.in-Err.ensures.calm)

pub returns-in-Ok-End-clause-goes : goal.returns-in-Ok-End-clause-goes
returns-in-Ok-End-clause-goes g c =
    goes-past (Ok c.in-Ok-End.end) _ _ _ c.pieces.invariant.past c.in-Ok-End.ensures.goes

pub returns-in-Err-next_piece-clause-goes : goal.returns-in-Err-next_piece-clause-goes
returns-in-Err-next_piece-clause-goes g c =
    goes-past {T = Ending} (Err c.in-Err-next_piece.failed) _ _ _ c.pieces.invariant.past
    c.in-Err-next_piece.ensures.goes
