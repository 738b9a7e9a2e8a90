use Rattle.std.proofs.Common.{◌≡◌, ◌≤◌, ◌^◌, drop, min}
use Rattle.std.specs.List.{list_all}
use Rattle.gr_text.specs.Numerals.{value, value_after, is_digit}
use Rattle.gr_text.proofs.numerals.long_count.Given as goal

-- what is left gives the whole value, up to the cap
abbrev pub invariant-loop-byte : goal.invariant-loop-byte
invariant-loop-byte l = record {
  small : l.size ≤ 2 ^ 63;
  rest : min (value_after l.size (drop l.byte-index l.token)) (2 ^ 63) ≡ min
      (value l.token) (2 ^ 63);
  digits : list_all is_digit (drop l.byte-index l.token) ≡ list_all is_digit l.token;
}
