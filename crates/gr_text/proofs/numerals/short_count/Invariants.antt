use Rattle.std.proofs.Common.{◌≡◌, ◌<◌, ◌^◌, drop}
use Rattle.std.specs.List.{list_all}
use Rattle.gr_text.specs.Numerals.{value, value_after, is_digit}
use Rattle.gr_text.proofs.numerals.short_count.Given as goal

-- what is left gives the whole value, and the digits so far a number of no more digits
abbrev pub invariant-loop-byte : goal.invariant-loop-byte
invariant-loop-byte l = record {
  small : l.size < 10 ^ l.byte-index;
  rest : value_after l.size (drop l.byte-index l.token) ≡ value l.token;
  digits : list_all is_digit (drop l.byte-index l.token) ≡ list_all is_digit l.token;
}
