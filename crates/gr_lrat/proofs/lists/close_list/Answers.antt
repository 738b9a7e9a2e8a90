use Rattle.gr_lrat.specs.Lines.{NoList, closed_list}
use Rattle.gr_lrat.specs.Statements.{list_of}
use Rattle.gr_lrat.proofs.Telling.{tells_then}
use Rattle.gr_lrat.proofs.PartRead.{goes-behind}
use Rattle.gr_lrat.proofs.lists.close_list.Goals as goal

pub returns-in-Ok-Token-clause-tells : goal.returns-in-Ok-Token-clause-tells
returns-in-Ok-Token-clause-tells g c = λ made.
    let n = c.no_list.new.scanner in
    tells_then c.no_list.result (λ read. made (list_of read.list)) (λ read. read.end)
    (λ ws. made (closed_list c.args.negative c.args.ids ws)) (λ ws. made NoList) _ _ n.held _ _
    (g.S.Source.left n.source.now)
    (rw c.in-Ok-Token.field-0-is at (c.in-Ok-Token.ensures.ok (λ ws. made (closed_list
    c.args.negative c.args.ids ws))))
    c.no_list.ensures.goes.0.keeps.grows (c.no_list.ensures.tells made)

pub returns-in-Ok-End-clause-tells : goal.returns-in-Ok-End-clause-tells
returns-in-Ok-End-clause-tells g c = λ made.
    rw c.closed.ensures (rw c.in-Ok-End.field-0-is at (c.in-Ok-End.ensures.ok (λ ws. made
    (closed_list c.args.negative c.args.ids ws))))

pub returns-in-Ok-Token-clause-goes : goal.returns-in-Ok-Token-clause-goes
returns-in-Ok-Token-clause-goes g c =
    goes-behind c.no_list.result _ _ _ c.next_piece.ensures.goes.0 c.in-Ok-Token.ensures.goes.1
    c.no_list.ensures.goes
