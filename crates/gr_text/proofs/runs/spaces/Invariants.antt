use Rattle.std.proofs.Common.{◌≡◌, ◌+◌, drop}
use Rattle.std.specs.List.{prefix_len}
use Rattle.gr_text.specs.Tokens.{is_space}
use Rattle.gr_text.proofs.runs.spaces.Given as goal

-- each byte so far was of the run
abbrev pub invariant-loop-i : goal.invariant-loop-i
invariant-loop-i l = l.i + prefix_len is_space (drop l.i l.bytes) ≡ prefix_len is_space l.bytes
