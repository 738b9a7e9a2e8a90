use Rattle.std.proofs.Common.{◌≡◌, ◌+◌, drop, not}
use Rattle.std.specs.List.{prefix_len}
use Rattle.gr_text.specs.Tokens.{is_blank}
use Rattle.gr_text.proofs.runs.word_by_bytes.Given as goal

-- each byte so far was of the run
abbrev pub invariant-loop-i : goal.invariant-loop-i
invariant-loop-i l =
    l.i + prefix_len (λ b. not (is_blank b)) (drop l.i l.bytes)
    ≡ prefix_len (λ b. not (is_blank b)) l.bytes
