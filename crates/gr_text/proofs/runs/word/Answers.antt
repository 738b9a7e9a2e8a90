use Rattle.std.proofs.Common.{◌∙◌, sym, arith}
use Rattle.gr_text.proofs.Lanes.{run-in-front}
use Rattle.gr_text.proofs.runs.word.Goals as goal

pub returns-then-count-lt-LANES-clause-count : goal.returns-then-count-lt-LANES-clause-count
returns-then-count-lt-LANES-clause-count c =
    let count = c.word_in_lanes-count.ensures in
    count
    ∙ sym (run-in-front _ 16 c.args.bytes.now (omega (arith, count, c.if-count-lt-LANES.true))
    c.if-bytes-ge-LANES.true)
