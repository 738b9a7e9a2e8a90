use Rattle.std.proofs.Common.{◌≡◌, ◌∙◌, ◌++◌, ◌∷◌, [], ℕ, List, Some, None, Ok, Err, true, false, sym, refl, arith, rules}
use Rattle.gr_lrat.specs.Numerals.{literal_said}
use Rattle.gr_lrat.specs.Lines.{Misspelt, is_byte, addition_from}
use Rattle.gr_lrat.specs.Statements.{spelling_of}
use Rattle.gr_lrat.proofs.Telling.{onward_here, onward_then, onward_ends, onward_fails, tells_then}
use Rattle.gr_lrat.proofs.AdditionSteps.{zero_added, literal_added, other_added}
use Rattle.gr_lrat.proofs.PartRead.{part-none, part-more, part-goes, goes-past}
use Rattle.gr_lrat.specs.declared.statements.Statement.{Statement}
use Rattle.gr_lrat.proofs.additions.read_literals.Goals as goal

pub tokens-init : goal.tokens-init
tokens-init g c =
    let p = c.args.scanner.now in
    record {
      same = refl;
      goes = rw c.new-clause.ensures (onward_here
          (λ ws. addition_from c.args.id [] (p.held.token ∷ ws))
          (λ ws. addition_from c.args.id [] (p.held.token ∷ ws)) p.held (g.S.Source.left p.source.now)
          (λ ws. refl));
      within = c.requires;
      past = part-none _;
    }

pub returns-then-is_byte-clause-tells : goal.returns-then-is_byte-clause-tells
returns-then-is_byte-clause-tells g c =
    let m = c.read_hints.new.scanner in
    let zero_ : is_byte 48 c.tokens.scanner.held.token ≡ true =
    rw c.token.ensures at (sym c.is_byte.ensures ∙ c.if-is_byte.true) in
    tells_then c.read_hints.result (λ read. spelling_of read.spelt) (λ read. read.end) _ _ _ _ m.held _ _
    (g.S.Source.left m.source.now)
    (zero_added c.args.id c.tokens.clause _ _ _ _ _ c.tokens.invariant.goes zero_)
    c.read_hints.ensures.goes.0.keeps.grows c.read_hints.ensures.tells

pub returns-in-None-clause-tells : goal.returns-in-None-clause-tells
returns-in-None-clause-tells g c =
    let m = c.pass_as.new.scanner in
    let other : is_byte 48 c.tokens.scanner.held.token ≡ false =
    rw c.token.ensures at (sym c.is_byte.ensures ∙ c.if-is_byte.false) in
    let said : literal_said c.tokens.scanner.held.token ≡ None =
    rw c.token-in-tokens.ensures at (sym c.in-None.ensures) in
    tells_then c.pass_as.result (λ read. spelling_of read.spelt) (λ read. read.end) _ _ _ _ m.held _ _
    (g.S.Source.left m.source.now)
    (other_added c.args.id c.tokens.clause _ _ _ _ _ c.tokens.invariant.goes other said)
    c.pass_as.ensures.goes.0.keeps.grows c.pass_as.ensures.tells

pub tokens-preserved : goal.tokens-preserved
tokens-preserved g c =
    let i = c.tokens.invariant in
    let gone = rw c.in-Ok-Token.field-0-is at c.in-Ok-Token.ensures.onward in
    let then = λ (ws : List (List ℕ)). addition_from c.args.id (c.tokens.clause ++ c.in-Some.lit ∷ []) ws in
    let other : is_byte 48 c.tokens.scanner.held.token ≡ false =
    rw c.token.ensures at (sym c.is_byte.ensures ∙ c.if-is_byte.false) in
    let said : literal_said c.tokens.scanner.held.token ≡ Some c.in-Some.lit =
    rw c.token-in-tokens.ensures at (sym c.in-Some.ensures) in
    let pushed : c.push.new.self ≡ c.tokens.clause ++ c.in-Some.lit ∷ [] = search rules in
    record {
      same = c.next_piece.ensures.same ∙ i.same;
      goes = rw pushed (onward_then _ then (λ ws. then (c.next_piece.new.scanner.held.token ∷ ws)) _ _ _ _ _ _
          (literal_added c.args.id c.tokens.clause c.in-Some.lit _ _ _ _ _ i.goes other said)
          (rw c.in-Ok-Token.field-0-is at (c.in-Ok-Token.ensures.ok then)));
      within = c.next_piece.ensures.goes.0.keeps.within;
      past = part-more _ _ _ i.past c.next_piece.ensures.goes.0 c.in-Ok-Token.ensures.goes.1 (omega (arith, gone));
    }

pub returns-in-Ok-End-clause-tells : goal.returns-in-Ok-End-clause-tells
returns-in-Ok-End-clause-tells g c =
    let n = c.next_piece.new.scanner in
    let then = λ (ws : List (List ℕ)). addition_from c.args.id (c.tokens.clause ++ c.in-Some.lit ∷ []) ws in
    let other : is_byte 48 c.tokens.scanner.held.token ≡ false =
    rw c.token.ensures at (sym c.is_byte.ensures ∙ c.if-is_byte.false) in
    let said : literal_said c.tokens.scanner.held.token ≡ Some c.in-Some.lit =
    rw c.token-in-tokens.ensures at (sym c.in-Some.ensures) in
    onward_ends _ then Misspelt c.in-Ok-End.end _ _ n.held _ _ (g.S.Source.left n.source.now)
    (literal_added c.args.id c.tokens.clause c.in-Some.lit _ _ _ _ _ c.tokens.invariant.goes other said)
    c.next_piece.ensures.goes.0.keeps.grows
    (rw c.in-Ok-End.field-0-is at (c.in-Ok-End.ensures.ok then))

pub returns-in-Err-clause-tells : goal.returns-in-Err-clause-tells
returns-in-Err-clause-tells g c =
    let n = c.next_piece.new.scanner in
    let then = λ (ws : List (List ℕ)). addition_from c.args.id (c.tokens.clause ++ c.in-Some.lit ∷ []) ws in
    let other : is_byte 48 c.tokens.scanner.held.token ≡ false =
    rw c.token.ensures at (sym c.is_byte.ensures ∙ c.if-is_byte.false) in
    let said : literal_said c.tokens.scanner.held.token ≡ Some c.in-Some.lit =
    rw c.token-in-tokens.ensures at (sym c.in-Some.ensures) in
    onward_fails _ then c.in-Err.failed _ _ n.held _ _ (g.S.Source.left n.source.now)
    (literal_added c.args.id c.tokens.clause c.in-Some.lit _ _ _ _ _ c.tokens.invariant.goes other said)
    c.next_piece.ensures.goes.0.keeps.grows (c.in-Err.ensures.err then)

pub returns-in-Ok-End-clause-goes : goal.returns-in-Ok-End-clause-goes
returns-in-Ok-End-clause-goes g c =
    goes-past (Ok c.in-Ok-End.end) _ _ _ c.tokens.invariant.past c.in-Ok-End.ensures.goes

pub returns-in-Err-clause-goes : goal.returns-in-Err-clause-goes
returns-in-Err-clause-goes g c =
    goes-past {T = Statement} (Err c.in-Err.failed) _ _ _ c.tokens.invariant.past c.in-Err.ensures.goes

pub returns-then-is_byte-clause-goes : goal.returns-then-is_byte-clause-goes
returns-then-is_byte-clause-goes g c =
    goes-past c.read_hints.result _ _ _ c.tokens.invariant.past c.read_hints.ensures.goes

pub returns-in-None-clause-goes : goal.returns-in-None-clause-goes
returns-in-None-clause-goes g c =
    goes-past c.pass_as.result _ _ _ c.tokens.invariant.past c.pass_as.ensures.goes

pub returns-then-is_err-clause-goes : goal.returns-then-is_err-clause-goes
returns-then-is_err-clause-goes g c =
    (part-goes _ _ c.tokens.invariant.past c.tokens.invariant.within, tt)
