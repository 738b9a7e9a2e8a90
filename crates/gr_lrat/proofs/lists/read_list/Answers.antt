use Rattle.std.proofs.Common.{◌≡◌, ◌∙◌, ◌++◌, ◌∷◌, [], ℕ, List, Ok, Err, true, false, refl, sym, arith, rules}
use Rattle.gr_lrat.specs.Lines.{NoList, is_byte, ids_from}
use Rattle.gr_lrat.specs.Statements.{list_of}
use Rattle.gr_lrat.proofs.Telling.{onward_here, onward_ends, onward_fails, tells_then}
use Rattle.gr_lrat.proofs.ListSteps.{listed, zero_listed, id_listed, negative_listed, other_listed}
use Rattle.gr_lrat.proofs.PartRead.{part-none, part-more, goes-past, goes-behind}
use Rattle.gr_text.specs.declared.scanners.ScanError.TheVariants.{OutOfMemory}
use Rattle.gr_lrat.specs.declared.lists.Listed.{Listed}
use Rattle.gr_lrat.proofs.lists.read_list.Goals as goal

pub tokens-init : goal.tokens-init
tokens-init g c =
    let p = c.args.scanner.now in
    record {
      same = refl;
      goes = λ made. rw c.new-ids.ensures (onward_here (λ ws. made (ids_from false [] ws))
          (λ ws. made (ids_from false [] ws)) p.held (g.S.Source.left p.source.now) (λ ws. refl));
      past = part-none _;
    }

pub returns-in-Ok-End-clause-tells : goal.returns-in-Ok-End-clause-tells
returns-in-Ok-End-clause-tells g c = λ made.
    let said = λ (ws : List (List ℕ)). listed made c.tokens.negative c.tokens.ids ws in
    let n = c.next_piece.new.scanner in
    onward_ends _ said (made NoList) c.in-Ok-End.end _ _ n.held _ _ (g.S.Source.left n.source.now)
    (c.tokens.invariant.goes made) c.next_piece.ensures.goes.0.keeps.grows
    (rw c.in-Ok-End.field-0-is at (c.in-Ok-End.ensures.ok said))

pub returns-in-Err-clause-tells : goal.returns-in-Err-clause-tells
returns-in-Err-clause-tells g c = λ made.
    let said = λ (ws : List (List ℕ)). listed made c.tokens.negative c.tokens.ids ws in
    let n = c.next_piece.new.scanner in
    onward_fails _ said c.in-Err.failed _ _ n.held _ _ (g.S.Source.left n.source.now)
    (c.tokens.invariant.goes made) c.next_piece.ensures.goes.0.keeps.grows (c.in-Err.ensures.err said)

pub returns-then-is_byte-clause-tells : goal.returns-then-is_byte-clause-tells
returns-then-is_byte-clause-tells g c = λ made.
    let said = λ (ws : List (List ℕ)). listed made c.tokens.negative c.tokens.ids ws in
    let m = c.close_list.new.scanner in
    let zero_ : is_byte 48 c.next_piece.new.scanner.held.token ≡ true =
    rw c.token.ensures at (sym c.is_byte.ensures ∙ c.if-is_byte.true) in
    tells_then c.close_list.result (λ read. made (list_of read.list)) (λ read. read.end) _ _ _ _ m.held _ _
    (g.S.Source.left m.source.now)
    (zero_listed made c.tokens.negative c.tokens.ids _ _ _ _ _ _ _ (c.tokens.invariant.goes made)
    (rw c.in-Ok-Token.field-0-is at (c.in-Ok-Token.ensures.ok said)) zero_)
    c.close_list.ensures.goes.0.keeps.grows (c.close_list.ensures.tells made)

pub tokens-preserved-else-is_err : goal.tokens-preserved-else-is_err
tokens-preserved-else-is_err g c =
    let i = c.tokens.invariant in
    let gone = rw c.in-Ok-Token.field-0-is at c.in-Ok-Token.ensures.onward in
    let other : is_byte 48 c.next_piece.new.scanner.held.token ≡ false =
    rw c.token.ensures at (sym c.is_byte.ensures ∙ c.if-is_byte.false) in
    let id_is = rw c.token-in-tokens.ensures at c.in-Id.ensures in
    let pushed : c.push.new.self ≡ c.tokens.ids ++ c.in-Id.id ∷ [] = search rules in
    record {
      same = c.next_piece.ensures.same ∙ i.same;
      goes = λ made. rw pushed (id_listed made c.tokens.negative c.tokens.ids c.in-Id.id _ _ _ _ _ _ _
          (i.goes made) (rw c.in-Ok-Token.field-0-is at (c.in-Ok-Token.ensures.ok
          (λ ws. listed made c.tokens.negative c.tokens.ids ws))) other id_is);
      past = part-more _ _ _ i.past c.next_piece.ensures.goes.0 c.in-Ok-Token.ensures.goes.1 (omega (arith, gone));
    }

pub tokens-preserved : goal.tokens-preserved
tokens-preserved g c =
    let i = c.tokens.invariant in
    let gone = rw c.in-Ok-Token.field-0-is at c.in-Ok-Token.ensures.onward in
    let other : is_byte 48 c.next_piece.new.scanner.held.token ≡ false =
    rw c.token.ensures at (sym c.is_byte.ensures ∙ c.if-is_byte.false) in
    let minus = rw c.token-in-tokens.ensures at c.in-Negative.ensures in
    record {
      same = c.next_piece.ensures.same ∙ i.same;
      goes = λ made. negative_listed made c.tokens.negative c.tokens.ids _ _ _ _ _ _ _
          (i.goes made) (rw c.in-Ok-Token.field-0-is at (c.in-Ok-Token.ensures.ok
          (λ ws. listed made c.tokens.negative c.tokens.ids ws))) other minus.0 minus.1;
      past = part-more _ _ _ i.past c.next_piece.ensures.goes.0 c.in-Ok-Token.ensures.goes.1 (omega (arith, gone));
    }

pub returns-in-Other-clause-tells : goal.returns-in-Other-clause-tells
returns-in-Other-clause-tells g c = λ made.
    let said = λ (ws : List (List ℕ)). listed made c.tokens.negative c.tokens.ids ws in
    let m = c.no_list.new.scanner in
    let other : is_byte 48 c.next_piece.new.scanner.held.token ≡ false =
    rw c.token.ensures at (sym c.is_byte.ensures ∙ c.if-is_byte.false) in
    let odd = rw c.token-in-tokens.ensures at c.in-Other.ensures in
    tells_then c.no_list.result (λ read. made (list_of read.list)) (λ read. read.end) _ _ _ _ m.held _ _
    (g.S.Source.left m.source.now)
    (other_listed made c.tokens.negative c.tokens.ids _ _ _ _ _ _ _ (c.tokens.invariant.goes made)
    (rw c.in-Ok-Token.field-0-is at (c.in-Ok-Token.ensures.ok said)) other odd.0 odd.1)
    c.no_list.ensures.goes.0.keeps.grows (c.no_list.ensures.tells made)

pub returns-in-Ok-End-clause-goes : goal.returns-in-Ok-End-clause-goes
returns-in-Ok-End-clause-goes g c =
    goes-past (Ok c.in-Ok-End.end) _ _ _ c.tokens.invariant.past c.in-Ok-End.ensures.goes

pub returns-in-Err-clause-goes : goal.returns-in-Err-clause-goes
returns-in-Err-clause-goes g c =
    goes-past {T = Listed} (Err c.in-Err.failed) _ _ _ c.tokens.invariant.past c.in-Err.ensures.goes

pub returns-then-is_err-clause-goes : goal.returns-then-is_err-clause-goes
returns-then-is_err-clause-goes g c =
    goes-past {T = Listed} (Err OutOfMemory) _ _ _ c.tokens.invariant.past (c.next_piece.ensures.goes.0, tt)

pub returns-then-is_byte-clause-goes : goal.returns-then-is_byte-clause-goes
returns-then-is_byte-clause-goes g c =
    goes-past c.close_list.result _ _ _ c.tokens.invariant.past
    (goes-behind c.close_list.result _ _ _ c.next_piece.ensures.goes.0 c.in-Ok-Token.ensures.goes.1
    c.close_list.ensures.goes)

pub returns-in-Other-clause-goes : goal.returns-in-Other-clause-goes
returns-in-Other-clause-goes g c =
    goes-past c.no_list.result _ _ _ c.tokens.invariant.past
    (goes-behind c.no_list.result _ _ _ c.next_piece.ensures.goes.0 c.in-Ok-Token.ensures.goes.1
    c.no_list.ensures.goes)
