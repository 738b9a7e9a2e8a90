use Rattle.std.proofs.Common.{◌≤◌, ◌∙◌, sym, arith}
use Rattle.gr_text.specs.Places.{known, limit_of}
use Rattle.gr_dimacs.specs.Faults.{Fine}
use Rattle.gr_dimacs.proofs.Reading.{closes-answers, end-answers, fault-undecided, grown, judged-as-number, token-goes-on}
use Rattle.gr_text.specs.Stands.{stand}
use Rattle.gr_text.proofs.Going.{goes-then}
use Rattle.gr_dimacs.proofs.readers.read_body.Goals as goal

pub returns-in-Ok-End-clause-goes : goal.returns-in-Ok-End-clause-goes
returns-in-Ok-End-clause-goes g c =
    goes-then _ _ _ c.tokens.invariant.goes c.next_token.ensures.goes

pub returns-in-Err-TooLong-clause-goes : goal.returns-in-Err-TooLong-clause-goes
returns-in-Err-TooLong-clause-goes g c =
    goes-then _ _ _ c.tokens.invariant.goes c.next_token.ensures.goes

pub returns-in-Err-ReadFault-clause-goes : goal.returns-in-Err-ReadFault-clause-goes
returns-in-Err-ReadFault-clause-goes g c =
    goes-then _ _ _ c.tokens.invariant.goes c.next_token.ensures.goes

pub returns-in-Err-OutOfMemory-clause-goes : goal.returns-in-Err-OutOfMemory-clause-goes
returns-in-Err-OutOfMemory-clause-goes g c =
    goes-then _ _ _ c.tokens.invariant.goes c.next_token.ensures.goes

pub returns-then-closes-clause-goes : goal.returns-then-closes-clause-goes
returns-then-closes-clause-goes g c =
    goes-then _ _ _ c.tokens.invariant.goes c.next_token.ensures.goes

pub returns-in-Err-Bad-clause-goes : goal.returns-in-Err-Bad-clause-goes
returns-in-Err-Bad-clause-goes g c =
    goes-then _ _ _ c.tokens.invariant.goes c.next_token.ensures.goes

pub returns-in-Err-OutOfMemory-take-clause-goes : goal.returns-in-Err-OutOfMemory-take-clause-goes
returns-in-Err-OutOfMemory-take-clause-goes g c =
    goes-then _ _ _ c.tokens.invariant.goes c.next_token.ensures.goes

pub returns-in-Err-ReadFault-clause-answer : goal.returns-in-Err-ReadFault-clause-answer
returns-in-Err-ReadFault-clause-answer g c =
    let here = stand g.S.Source.left g.S.Source.taken g.S.Source.faults in
    let p = here c.args.scanner.now.held c.args.scanner.now.source.now in
    let q = here c.tokens.scanner.held c.tokens.scanner.source.now in
    let n = here c.next_token.new.scanner.held c.next_token.new.scanner.source.now in
    let fails = rw c.in-Err-ReadFault.field-0-is at c.in-Err-ReadFault.ensures.answer in
    fault-undecided c.args.builder c.tokens.builder p q n c.tokens.invariant.comes
    c.next_token.ensures.goes.keeps.grows fails

pub returns-then-closes-clause-answer : goal.returns-then-closes-clause-answer
returns-then-closes-clause-answer g c =
    let here = stand g.S.Source.left g.S.Source.taken g.S.Source.faults in
    let p = here c.args.scanner.now.held c.args.scanner.now.source.now in
    let q = here c.tokens.scanner.held c.tokens.scanner.source.now in
    let n = here c.next_token.new.scanner.held c.next_token.new.scanner.source.now in
    let finds = rw c.in-Ok-Token.field-0-is at c.in-Ok-Token.ensures.answer in
    let goes = c.next_token.ensures.goes in
    let within : known n.place ≤ limit_of p.place =
    omega (arith, goes.keeps.within, goes.keeps.limit, c.tokens.invariant.goes.keeps.limit) in
    closes-answers c.finish-then-closes.result c.in-Ok-Token.line c.args.builder c.tokens.builder p
    q n
    c.tokens.invariant.comes goes.keeps.grows within finds.0
    (rw c.token.ensures at (sym c.closes.ensures ∙ c.if-closes.true))
    c.finish-then-closes.ensures.concludes

pub tokens-preserved : goal.tokens-preserved
tokens-preserved g c =
    let here = stand g.S.Source.left g.S.Source.taken g.S.Source.faults in
    let p = here c.args.scanner.now.held c.args.scanner.now.source.now in
    let q = here c.tokens.scanner.held c.tokens.scanner.source.now in
    let n = here c.next_token.new.scanner.held c.next_token.new.scanner.source.now in
    let i = c.tokens.invariant in
    let goes = c.next_token.ensures.goes in
    let finds = rw c.in-Ok-Token.field-0-is at c.in-Ok-Token.ensures.answer in
    let fine = judged-as-number c.tokens.builder c.token.result.now c.token-in-tokens.result.now
    n.place.token c.closes.result Fine
    c.token.ensures c.token-in-tokens.ensures c.closes.ensures c.if-closes.false
    c.in-Ok.ensures.ok.0 in
    let after = grown c.tokens.builder c.take.new.self c.token-in-tokens.result.now n.place.token
    c.token-in-tokens.ensures c.in-Ok.ensures.ok.1 in
    record {
      same = c.next_token.ensures.same ∙ i.same;
      comes = token-goes-on c.in-Ok-Token.line c.args.builder c.tokens.builder c.take.new.self p q n
          i.comes goes.keeps.grows goes.faults finds.0 fine after;
      goes = goes-then p q n i.goes goes;
      calm = c.in-Ok-Token.ensures.calm tt ∙ i.calm;
    }

pub returns-in-Ok-End-clause-answer : goal.returns-in-Ok-End-clause-answer
returns-in-Ok-End-clause-answer g c =
    let here = stand g.S.Source.left g.S.Source.taken g.S.Source.faults in
    let p = here c.args.scanner.now.held c.args.scanner.now.source.now in
    let q = here c.tokens.scanner.held c.tokens.scanner.source.now in
    let n = here c.next_token.new.scanner.held c.next_token.new.scanner.source.now in
    let finds = rw c.in-Ok-End.field-0-is at c.in-Ok-End.ensures.answer in
    let goes = c.next_token.ensures.goes in
    let within : known n.place ≤ limit_of p.place =
    omega (arith, goes.keeps.within, goes.keeps.limit, c.tokens.invariant.goes.keeps.limit) in
    end-answers c.finish.result c.in-Ok-End.line c.args.builder c.tokens.builder p q n
    c.tokens.invariant.comes goes.keeps.grows within finds c.finish.ensures.concludes

pub returns-in-Ok-End-clause-calm : goal.returns-in-Ok-End-clause-calm
returns-in-Ok-End-clause-calm g c = λ told. c.in-Ok-End.ensures.calm tt ∙ c.tokens.invariant.calm

pub returns-in-Ok-End-clause-full : goal.returns-in-Ok-End-clause-full
returns-in-Ok-End-clause-full g c = λ long. absurd (c.finish.ensures.other long)

pub returns-then-closes-clause-calm : goal.returns-then-closes-clause-calm
returns-then-closes-clause-calm g c =
    λ told. c.in-Ok-Token.ensures.calm tt ∙ c.tokens.invariant.calm

pub returns-then-closes-clause-full : goal.returns-then-closes-clause-full
returns-then-closes-clause-full g c = λ long. absurd (c.finish-then-closes.ensures.other long)
