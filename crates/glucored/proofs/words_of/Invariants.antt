use Rattle.std.proofs.Common.{◌≡◌, map, string_bytes}
use Rattle.std.specs.Prelude.{take}
use Rattle.glucored.proofs.words_of.Given as goal

-- the words so far were pushed
abbrev pub invariant-loop-text : goal.invariant-loop-text
invariant-loop-text l = l.words ≡ map string_bytes (take l.text-index l.texts)
