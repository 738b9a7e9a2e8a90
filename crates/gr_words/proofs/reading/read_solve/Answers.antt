use Rattle.std.proofs.Common.{◌≡◌, ◌∙◌, arith, refl, ap, codes, map}
use Rattle.std.specs.Prelude.{pos, string_bytes}
use Rattle.clap.specs.Words.{app_of, found_of, rows_of}
use Rattle.clap.specs.declared.builder.ValueParser.TheVariants as value_parser
use Rattle.gr_words.specs.Commands.{solve_app, option_rule, reducers_rule, text_rule, most_reducers}
use Rattle.gr_words.specs.Meanings.{solving_in}
use Rattle.gr_words.proofs.OptionReads.{text_given, option_read}
use Rattle.gr_words.proofs.Matching.{faultless, rows_are}
use Rattle.gr_words.proofs.reading.read_solve.Goals as goal

pub text_at-requires : goal.text_at-requires
text_at-requires c =
    text_given solve_app c.in-Ok.command c.in-Ok.ensures refl 0 (text_rule (codes "cnf")) (omega arith) (λ e. refl)
    refl refl refl c.in-Ok-try_get_matches_from.matches c.in-Ok-try_get_matches_from.ensures.parsed refl

pub text_at-requires-2 : goal.text_at-requires-2
text_at-requires-2 c =
    text_given solve_app c.in-Ok.command c.in-Ok.ensures refl 1 (text_rule (codes "log")) (omega arith) (λ e. refl)
    refl refl refl c.in-Ok-try_get_matches_from.matches c.in-Ok-try_get_matches_from.ensures.parsed refl

pub number_at-requires : goal.number_at-requires
number_at-requires c =
    option_read solve_app c.in-Ok.command c.in-Ok.ensures refl 2 reducers_rule (omega arith) (λ e. refl)
    refl refl refl c.in-Ok-try_get_matches_from.matches c.in-Ok-try_get_matches_from.ensures.parsed (omega arith)
    (value_parser.Signed (pos 0) (pos most_reducers)) refl

pub number_at-requires-2 : goal.number_at-requires-2
number_at-requires-2 c =
    option_read solve_app c.in-Ok.command c.in-Ok.ensures refl 3
    (option_rule (codes "conflicts") (codes "1000000") 1 4000000) (omega arith) (λ e. refl)
    refl refl refl c.in-Ok-try_get_matches_from.matches c.in-Ok-try_get_matches_from.ensures.parsed (omega arith)
    (value_parser.Signed (pos 1) (pos 4000000)) refl

pub number_at-requires-3 : goal.number_at-requires-3
number_at-requires-3 c =
    option_read solve_app c.in-Ok.command c.in-Ok.ensures refl 4
    (option_rule (codes "capacity") (codes "1000") 1 100000) (omega arith) (λ e. refl)
    refl refl refl c.in-Ok-try_get_matches_from.matches c.in-Ok-try_get_matches_from.ensures.parsed (omega arith)
    (value_parser.Signed (pos 1) (pos 100000)) refl

pub number_at-requires-4 : goal.number_at-requires-4
number_at-requires-4 c =
    option_read solve_app c.in-Ok.command c.in-Ok.ensures refl 5
    (option_rule (codes "offer") (codes "1000000") 2 1000000) (omega arith) (λ e. refl)
    refl refl refl c.in-Ok-try_get_matches_from.matches c.in-Ok-try_get_matches_from.ensures.parsed (omega arith)
    (value_parser.Signed (pos 2) (pos 1000000)) refl

pub returns-clause-lawful : goal.returns-clause-lawful
returns-clause-lawful c =
    faultless (app_of c.in-Ok.command) solve_app (map string_bytes c.args.words.now) c.in-Ok.ensures refl
    c.in-Ok-try_get_matches_from.ensures.kinds

pub returns-clause-meaning : goal.returns-clause-meaning
returns-clause-meaning c =
    let as_command = rows_are (app_of c.in-Ok.command) solve_app (map string_bytes c.args.words.now)
    (rows_of (found_of c.in-Ok-try_get_matches_from.matches)) c.in-Ok.ensures refl
    (λ simple. (c.in-Ok-try_get_matches_from.ensures.matches simple).0) in
    let read : record {
      cnf = c.text_at.result.now;
      log = c.text_at-2.result.now;
      reducers = c.number_at.result;
      conflicts = c.number_at-2.result;
      capacity = c.number_at-3.result;
      offer = c.number_at-4.result;
      keep_all = c.is_set.result;
    } ≡ solving_in (rows_of (found_of c.in-Ok-try_get_matches_from.matches)) =
    rw (
      c.text_at.ensures,
      c.text_at-2.ensures,
      ← c.number_at.ensures.value,
      ← c.number_at-2.ensures.value,
      ← c.number_at-3.ensures.value,
      ← c.number_at-4.ensures.value,
      ← c.is_set.ensures,
    ) refl in
    read ∙ ap solving_in as_command

pub returns-clause-limits : goal.returns-clause-limits
returns-clause-limits c = record {
  reducers = c.number_at.ensures.range.1;
  some_conflicts = c.number_at-2.ensures.range.0;
  conflicts = c.number_at-2.ensures.range.1;
  some_capacity = c.number_at-3.ensures.range.0;
  capacity = c.number_at-3.ensures.range.1;
  low_offer = c.number_at-4.ensures.range.0;
  offer = c.number_at-4.ensures.range.1;
}
