use Rattle.std.proofs.Common.{◌≡◌, ◌∙◌, ◌+◌, ◌*◌, ◌-◌, ◌^◌, drop, get_or, arith, true}
use Rattle.std.proofs.lemmas.List.{drop_more}
use Rattle.gr_text.specs.Numerals.{is_digit}
use Rattle.gr_text.proofs.Capped.{capped, digit-is}
use Rattle.gr_text.proofs.numerals.long_count.Goals as goal

pub loop-byte-preserved : goal.loop-byte-preserved
loop-byte-preserved c =
    let i = c.loop-byte.invariant in
    let split = drop_more c.args.token.now c.loop-byte.byte-index 0 c.loop-byte-test.true in
    let rest = rw split at i.rest in
    let digits = rw split at i.digits in
    let byte = get_or c.args.token.now c.loop-byte.byte-index 0 in
    let later = drop (c.loop-byte.byte-index + 1) c.args.token.now in
    let digit : is_digit byte ≡ true = digit-is byte c.if-byte-lt48.false c.if-byte-gt57.false in
    rw c.next_size-size.ensures (record {
      small = omega arith;
      rest = capped later (10 * c.loop-byte.size + (byte - 48)) (2 ^ 63) ∙ rest;
      digits = rw digit at digits;
    })
