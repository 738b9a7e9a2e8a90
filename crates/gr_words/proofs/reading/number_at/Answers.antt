use Rattle.std.proofs.Common.{rules, ◌≡◌, ◌∙◌, sym}
use Rattle.std.specs.Prelude.{Some}
use Rattle.clap.specs.Lexer.{without_minus}
use Rattle.clap.specs.Words.{one_of, rows_of, found_of}
use Rattle.clap.proofs.WalkLemmas.{one_text-rows}
use Rattle.gr_words.proofs.reading.number_at.Goals as goal

pub returns-clause-value : goal.returns-clause-value
returns-clause-value c =
    let one = c.get_one.ensures.value (without_minus c.requires.0) c.requires.1 in
    let some : c.get_one.result ≡ Some c.unwrap.result = search (rules, c.unwrap.ensures) in
    let read = rw some at one in
    let text : one_of c.args.id.now (rows_of (found_of c.args.matches.now)) ≡ Some (without_minus c.requires.0) =
    sym (one_text-rows (found_of c.args.matches.now) c.args.id.now) ∙ c.requires.1 in
    rw text read.0.1
