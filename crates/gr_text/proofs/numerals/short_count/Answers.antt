use Rattle.std.proofs.Common.{◌≡◌, ◌∙◌, ◌≤◌, ◌+◌, ◌*◌, ◌-◌, length, get_or, sym, arith, true}
use Rattle.std.specs.List.{list_all}
use Rattle.std.proofs.lemmas.List.{at_drop_all, drop_more}
use Rattle.gr_text.specs.Numerals.{value, value_after, is_digit}
use Rattle.gr_text.proofs.Capped.{below-power, counted-whole, digit-is, one-more-digit}
use Rattle.gr_text.proofs.numerals.short_count.Goals as goal

pub overflow_mul-size : goal.overflow_mul-size
overflow_mul-size c =
    let small = below-power c.loop-byte.size c.loop-byte.byte-index 17 c.loop-byte.invariant.small
    (omega arith) in
    omega (arith, small)

pub overflow_add-size : goal.overflow_add-size
overflow_add-size c =
    let small = below-power c.loop-byte.size c.loop-byte.byte-index 17 c.loop-byte.invariant.small
    (omega arith) in
    omega (arith, small, c.from.ensures)

pub returns : goal.returns
returns c =
    let i = c.loop-byte.invariant in
    let token = c.args.token.now in
    let size = c.loop-byte.size in
    let index = c.loop-byte.byte-index in
    let at_end : length token ≤ index = omega arith in
    let all : list_all is_digit token ≡ true =
    sym i.digits ∙ at_drop_all (list_all is_digit) token index at_end in
    let same : value token ≡ size =
    sym i.rest ∙ at_drop_all (value_after size) token index at_end in
    counted-whole token size (sym c.is_empty.ensures ∙ c.if-is_empty.false) all same
    (omega (arith, below-power size index 18 i.small (omega arith)))

pub loop-byte-preserved : goal.loop-byte-preserved
loop-byte-preserved c =
    let i = c.loop-byte.invariant in
    let split = drop_more c.args.token.now c.loop-byte.byte-index 0 c.loop-byte-test.true in
    let rest = rw split at i.rest in
    let digits = rw split at i.digits in
    let byte = get_or c.args.token.now c.loop-byte.byte-index 0 in
    let value : byte ≡ c.digit_value-value.result + 48 =
    c.digit_value-value.ensures.digit c.if-value-gt9.false in
    let digit : is_digit byte ≡ true = digit-is byte (omega (arith, value)) (omega (arith, value)) in
    let size = c.loop-byte.size in
    let same : size * 10 + c.from.result ≡ 10 * size + (byte - 48) =
    omega (arith, c.from.ensures, value) in
    rw same (record {
      small = one-more-digit size c.loop-byte.byte-index (byte - 48) i.small (omega arith);
      rest = rest;
      digits = rw digit at digits;
    })
