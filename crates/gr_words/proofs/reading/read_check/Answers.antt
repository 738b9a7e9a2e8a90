use Rattle.std.proofs.Common.{◌≡◌, ◌∙◌, arith, refl, ap, codes, map}
use Rattle.std.specs.Prelude.{string_bytes}
use Rattle.clap.specs.Words.{app_of, found_of, rows_of}
use Rattle.gr_words.specs.Commands.{check_app, text_rule}
use Rattle.gr_words.specs.Meanings.{checking_in}
use Rattle.gr_words.proofs.OptionReads.{text_given}
use Rattle.gr_words.proofs.Matching.{faultless, rows_are}
use Rattle.gr_words.proofs.reading.read_check.Goals as goal

pub text_at-requires : goal.text_at-requires
text_at-requires c =
    text_given check_app c.in-Ok.command c.in-Ok.ensures refl 0 (text_rule (codes "cnf")) (omega arith) (λ e. refl)
    refl refl refl c.in-Ok-try_get_matches_from.matches c.in-Ok-try_get_matches_from.ensures.parsed refl

pub text_at-requires-2 : goal.text_at-requires-2
text_at-requires-2 c =
    text_given check_app c.in-Ok.command c.in-Ok.ensures refl 1 (text_rule (codes "log")) (omega arith) (λ e. refl)
    refl refl refl c.in-Ok-try_get_matches_from.matches c.in-Ok-try_get_matches_from.ensures.parsed refl

pub returns-clause-lawful : goal.returns-clause-lawful
returns-clause-lawful c =
    faultless (app_of c.in-Ok.command) check_app (map string_bytes c.args.words.now) c.in-Ok.ensures refl
    c.in-Ok-try_get_matches_from.ensures.kinds

pub returns-clause-meaning : goal.returns-clause-meaning
returns-clause-meaning c =
    let as_command = rows_are (app_of c.in-Ok.command) check_app (map string_bytes c.args.words.now)
    (rows_of (found_of c.in-Ok-try_get_matches_from.matches)) c.in-Ok.ensures refl
    (λ simple. (c.in-Ok-try_get_matches_from.ensures.matches simple).0) in
    let read : record { cnf = c.text_at.result.now; log = c.text_at-2.result.now }
    ≡ checking_in (rows_of (found_of c.in-Ok-try_get_matches_from.matches)) =
    rw (c.text_at.ensures, c.text_at-2.ensures) refl in
    read ∙ ap checking_in as_command
