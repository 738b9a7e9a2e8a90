use Rattle.std.proofs.Common.{◌≡◌, ◌∙◌, ℤ, w32, w64, to_z, of_z, SFits, rules}
use Rattle.std.proofs.lemmas.Int.{to_z-of_z}
use Rattle.gr_logic.specs.Literals.{number_of}
use Rattle.gr_lrat.proofs.Printed.{ok-spaced, err-spaced, part-spaced}
use Rattle.gr_lrat.proofs.writers.write_literal.Goals as goal

-- a number that fits 32 bits is widened to itself
widened : (a b n : ℤ) → SFits w32 a → SFits w64 b → b ≡ to_z w32 (of_z w32 a) → a ≡ n →
    to_z w64 (of_z w64 b) ≡ n
widened a b n narrow wide e same = to_z-of_z w64 b wide ∙ e ∙ to_z-of_z w32 a narrow ∙ same

pub returns-in-Ok-clause-ok : goal.returns-in-Ok-clause-ok
returns-in-Ok-clause-ok g c =
    let written = g.K.Sink.written in
    let n = number_of c.args.lit in
    let narrow : SFits w32 c.number.result = search rules in
    let wide : SFits w64 c.from.result = search rules in
    ok-spaced _ n (written c.args.printer.now.sink.now) (written c.number-2.new.self.sink.now) _
    c.args.printer.now.pending c.number-2.new.self.pending _ c.bytes.result
    (widened c.number.result c.from.result n narrow wide c.from.ensures c.number.ensures)
    c.in-Ok.ensures.ok c.bytes.ensures.ok

pub returns-in-Ok-clause-err : goal.returns-in-Ok-clause-err
returns-in-Ok-clause-err g c =
    let written = g.K.Sink.written in
    let n = number_of c.args.lit in
    let narrow : SFits w32 c.number.result = search rules in
    let wide : SFits w64 c.from.result = search rules in
    err-spaced _ n (written c.args.printer.now.sink.now) (written c.number-2.new.self.sink.now) _
    c.args.printer.now.pending c.number-2.new.self.pending c.bytes.result
    (widened c.number.result c.from.result n narrow wide c.from.ensures c.number.ensures)
    c.in-Ok.ensures.ok c.bytes.ensures.err

pub returns-in-Err-clause-err : goal.returns-in-Err-clause-err
returns-in-Err-clause-err g c =
    let n = number_of c.args.lit in
    let narrow : SFits w32 c.number.result = search rules in
    let wide : SFits w64 c.from.result = search rules in
    part-spaced _ n c.args.printer.now.pending _ _
    (widened c.number.result c.from.result n narrow wide c.from.ensures c.number.ensures)
    c.in-Err.ensures.err
