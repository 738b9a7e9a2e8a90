use Rattle.std.proofs.Common.{◌≡◌, ◌∙◌, ℤ, w32, w64, to_z, of_z, SFits, rules}
use Rattle.std.proofs.lemmas.Int.{to_z-of_z}
use Rattle.std.specs.Fmt.{signed_decimal}
use Rattle.gr_logic.specs.Literals.{number_of}
use Rattle.gr_top.specs.Texts.{gap}
use Rattle.gr_lrat.proofs.Printed.{part-longer, ok-then, err-then}
use Rattle.gr_top.proofs.Pieces.{on-err}
use Rattle.gr_top.proofs.texts.print_literal.Goals as goal

-- a number that fits 32 bits is widened to itself
widened : (a b n : ℤ) → SFits w32 a → SFits w64 b → b ≡ to_z w32 (of_z w32 a) → a ≡ n → to_z w64 (of_z w64 b) ≡ n
widened a b n narrow wide e same = to_z-of_z w64 b wide ∙ e ∙ to_z-of_z w32 a narrow ∙ same

pub returns-in_err-bytes-clause-err : goal.returns-in_err-bytes-clause-err
returns-in_err-bytes-clause-err g c =
    let before : c.as_bytes.result.now ≡ gap c.args.place = c.as_bytes.ensures.value ∙ c.gap.ensures in
    on-err c.from_residual.result
    (part-longer (gap c.args.place) (signed_decimal (number_of c.args.lit)) c.args.printer.now.pending _ _
    (rw before at c.in_err-bytes.ensures.err))

pub returns-clause-ok : goal.returns-clause-ok
returns-clause-ok g c =
    let before : c.as_bytes.result.now ≡ gap c.args.place = c.as_bytes.ensures.value ∙ c.gap.ensures in
    let narrow : SFits w32 c.number.result = search rules in
    let wide : SFits w64 c.from.result = search rules in
    let same =
    widened c.number.result c.from.result (number_of c.args.lit) narrow wide c.from.ensures c.number.ensures in
    ok-then (gap c.args.place) (signed_decimal (number_of c.args.lit)) _ _ _ _ _ _ c.number-2.result
    (rw before at c.in_ok-bytes.ensures.ok) (rw same at c.number-2.ensures.ok)

pub returns-clause-err : goal.returns-clause-err
returns-clause-err g c =
    let before : c.as_bytes.result.now ≡ gap c.args.place = c.as_bytes.ensures.value ∙ c.gap.ensures in
    let narrow : SFits w32 c.number.result = search rules in
    let wide : SFits w64 c.from.result = search rules in
    let same =
    widened c.number.result c.from.result (number_of c.args.lit) narrow wide c.from.ensures c.number.ensures in
    err-then (gap c.args.place) (signed_decimal (number_of c.args.lit)) _ _ _ _ _ c.number-2.result
    (rw before at c.in_ok-bytes.ensures.ok) (rw same at c.number-2.ensures.err)
