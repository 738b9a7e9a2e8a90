use Rattle.std.proofs.Common.{◌≡◌, ◌∙◌, ◌∷◌, [], ℕ, List, true, false, sym, if◌then◌else◌}
use Rattle.std.specs.Option.{option_map_or}
use Rattle.gr_lrat.specs.Numerals.{is_count, id_of}
use Rattle.gr_lrat.specs.Lines.{Misspelt, is_byte, statement_of, deletion_with, ids_from, addition_from}
use Rattle.gr_lrat.specs.Statements.{spelling_of}
use Rattle.gr_lrat.proofs.Counted.{numbered, counted_id}
use Rattle.gr_lrat.proofs.Telling.{onward_as, tells_then}
use Rattle.gr_lrat.proofs.Stepping.{deletes, adds}
use Rattle.gr_lrat.proofs.PartRead.{goes-behind}
use Rattle.gr_lrat.proofs.statements.read_tokens.Goals as goal

pub returns-in-Ok-End-clause-tells : goal.returns-in-Ok-End-clause-tells
returns-in-Ok-End-clause-tells g c =
    rw c.in-Ok-End.field-0-is at (c.in-Ok-End.ensures.ok (λ ws. statement_of
    c.args.scanner.now.held.token ws))

pub returns-then-is_byte-clause-tells : goal.returns-then-is_byte-clause-tells
returns-then-is_byte-clause-tells g c =
    let left = g.S.Source.left in
    let p = c.args.scanner.now in
    let q = c.next_piece.new.scanner in
    let m = c.read_deletion.new.scanner in
    let word = p.held.token in
    let whole = λ (ws : List (List ℕ)). statement_of word ws in
    let behind = λ (ws : List (List ℕ)). statement_of word (q.held.token ∷ ws) in
    let later = λ (ws : List (List ℕ)). if c.is_some.result then deletion_with (ids_from false []
    ws) else Misspelt in
    let letter : is_byte 100 q.held.token ≡ true = rw c.token-2.ensures at (sym c.is_byte.ensures
    ∙ c.if-is_byte.true) in
    let first = rw c.token.ensures at c.count-first.ensures.count in
    let counts : c.is_some.result ≡ is_count word = c.is_some.ensures
    ∙ numbered word c.count-first.result first in
    tells_then c.read_deletion.result (λ read. spelling_of read.spelt) (λ read. read.end) whole later
    p.held q.held m.held
    (left p.source.now) (left q.source.now) (left m.source.now)
    (onward_as whole behind later p.held q.held (left p.source.now) (left q.source.now)
    (rw c.in-Ok-Token.field-0-is at (c.in-Ok-Token.ensures.ok whole)) (λ ws. deletes word
    q.held.token ws c.is_some.result letter counts))
    c.read_deletion.ensures.goes.0.keeps.grows c.read_deletion.ensures.tells

pub returns-else-is_byte-clause-tells : goal.returns-else-is_byte-clause-tells
returns-else-is_byte-clause-tells g c =
    let left = g.S.Source.left in
    let p = c.args.scanner.now in
    let q = c.next_piece.new.scanner in
    let m = c.read_addition.new.scanner in
    let word = p.held.token in
    let whole = λ (ws : List (List ℕ)). statement_of word ws in
    let behind = λ (ws : List (List ℕ)). statement_of word (q.held.token ∷ ws) in
    let later = λ (ws : List (List ℕ)). option_map_or (λ i. addition_from i [] (q.held.token ∷ ws))
    c.id_of_count.result Misspelt in
    let letter : is_byte 100 q.held.token ≡ false = rw c.token-2.ensures at (sym c.is_byte.ensures ∙
    c.if-is_byte.false) in
    let first = rw c.token.ensures at c.count-first.ensures.count in
    let id_is : c.id_of_count.result ≡ id_of word = rw first at c.id_of_count.ensures
    ∙ counted_id word in
    tells_then c.read_addition.result (λ read. spelling_of read.spelt) (λ read. read.end) whole later
    p.held q.held m.held
    (left p.source.now) (left q.source.now) (left m.source.now)
    (onward_as whole behind later p.held q.held (left p.source.now) (left q.source.now)
    (rw c.in-Ok-Token.field-0-is at (c.in-Ok-Token.ensures.ok whole)) (λ ws. adds word
    q.held.token ws c.id_of_count.result letter id_is))
    c.read_addition.ensures.goes.0.keeps.grows c.read_addition.ensures.tells

pub returns-then-is_byte-clause-goes : goal.returns-then-is_byte-clause-goes
returns-then-is_byte-clause-goes g c =
    goes-behind c.read_deletion.result _ _ _ c.next_piece.ensures.goes.0 c.in-Ok-Token.ensures.goes.1
    c.read_deletion.ensures.goes

pub returns-else-is_byte-clause-goes : goal.returns-else-is_byte-clause-goes
returns-else-is_byte-clause-goes g c =
    goes-behind c.read_addition.result _ _ _ c.next_piece.ensures.goes.0 c.in-Ok-Token.ensures.goes.1
    c.read_addition.ensures.goes
