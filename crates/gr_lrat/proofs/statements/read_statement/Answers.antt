use Rattle.std.proofs.Common.{◌≡◌, ◌∙◌, ◌∷◌, ℕ, List, true, false, sym}
use Rattle.gr_lrat.specs.Lines.{Nothing, begins_comment, spelling, statement_of}
use Rattle.gr_lrat.specs.Statements.{spelling_of}
use Rattle.gr_lrat.proofs.Telling.{onward_as, tells_then}
use Rattle.gr_lrat.proofs.Passing.{bytes_then}
use Rattle.gr_lrat.proofs.Stepping.{comments, states}
use Rattle.gr_lrat.proofs.PartRead.{goes-behind}
use Rattle.gr_lrat.proofs.statements.read_statement.Goals as goal

pub returns-in-Ok-End-clause-tells : goal.returns-in-Ok-End-clause-tells
returns-in-Ok-End-clause-tells g c = rw c.in-Ok-End.field-0-is at (c.in-Ok-End.ensures.ok (λ ws.
    spelling ws))

pub returns-then-begins_comment-clause-tells : goal.returns-then-begins_comment-clause-tells
returns-then-begins_comment-clause-tells g c =
    let left = g.S.Source.left in
    let p = c.args.scanner.now in
    let q = c.next_piece.new.scanner in
    let m = c.pass_as.new.scanner in
    let whole = λ (ws : List (List ℕ)). spelling ws in
    let behind = λ (ws : List (List ℕ)). spelling (q.held.token ∷ ws) in
    let then = λ (ws : List (List ℕ)). Nothing in
    let test : begins_comment q.held.token ≡ true = rw c.token.ensures at (sym
    c.begins_comment.ensures ∙ c.if-begins_comment.true) in
    tells_then c.pass_as.result (λ read. spelling_of read.spelt) (λ read. read.end) whole then
    p.held q.held m.held
    (left p.source.now) (left q.source.now) (left m.source.now)
    (onward_as whole behind then p.held q.held (left p.source.now) (left q.source.now)
    (rw c.in-Ok-Token.field-0-is at (c.in-Ok-Token.ensures.ok whole)) (λ ws. comments
    q.held.token ws test))
    c.pass_as.ensures.goes.0.keeps.grows c.pass_as.ensures.tells

pub returns-clause-tells : goal.returns-clause-tells
returns-clause-tells g c =
    let left = g.S.Source.left in
    let p = c.args.scanner.now in
    let q = c.next_piece.new.scanner in
    let m = c.read_tokens.new.scanner in
    let whole = λ (ws : List (List ℕ)). spelling ws in
    let behind = λ (ws : List (List ℕ)). spelling (q.held.token ∷ ws) in
    let then = λ (ws : List (List ℕ)). statement_of q.held.token ws in
    let test : begins_comment q.held.token ≡ false = rw c.token.ensures at (sym
    c.begins_comment.ensures ∙ c.if-begins_comment.false) in
    tells_then c.read_tokens.result (λ read. spelling_of read.spelt) (λ read. read.end) whole then
    p.held q.held m.held
    (left p.source.now) (left q.source.now) (left m.source.now)
    (onward_as whole behind then p.held q.held (left p.source.now) (left q.source.now)
    (rw c.in-Ok-Token.field-0-is at (c.in-Ok-Token.ensures.ok whole)) (λ ws. states
    q.held.token ws test))
    c.read_tokens.ensures.goes.0.keeps.grows c.read_tokens.ensures.tells

pub returns-then-begins_comment-clause-passes : goal.returns-then-begins_comment-clause-passes
returns-then-begins_comment-clause-passes g c =
    bytes_then c.pass_as.result c.args.scanner.now.held c.next_piece.new.scanner.held
    c.pass_as.new.scanner.held (rw c.in-Ok-Token.field-0-is at c.in-Ok-Token.ensures.onward)
    c.pass_as.ensures.onward

pub returns-clause-passes : goal.returns-clause-passes
returns-clause-passes g c =
    bytes_then c.read_tokens.result c.args.scanner.now.held c.next_piece.new.scanner.held
    c.read_tokens.new.scanner.held (rw c.in-Ok-Token.field-0-is at c.in-Ok-Token.ensures.onward)
    c.read_tokens.ensures.onward

pub returns-then-begins_comment-clause-goes : goal.returns-then-begins_comment-clause-goes
returns-then-begins_comment-clause-goes g c =
    goes-behind c.pass_as.result _ _ _ c.next_piece.ensures.goes.0 c.in-Ok-Token.ensures.goes.1 c.pass_as.ensures.goes

pub returns-clause-goes : goal.returns-clause-goes
returns-clause-goes g c =
    goes-behind c.read_tokens.result _ _ _ c.next_piece.ensures.goes.0 c.in-Ok-Token.ensures.goes.1
    c.read_tokens.ensures.goes
