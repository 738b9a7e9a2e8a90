use Rattle.std.proofs.Common.{◌≡◌, ◌∙◌, arith, refl, subst, inr, false, codes, map}
use Rattle.std.specs.Prelude.{pos, string_bytes}
use Rattle.clap.specs.Words.{app_of, found_of, rows_of}
use Rattle.clap.specs.declared.builder.ValueParser.TheVariants as value_parser
use Rattle.gr_words.specs.Commands.{large_app, number_rule, text_rule}
use Rattle.gr_words.specs.Meanings.{Making, making}
use Rattle.gr_words.specs.Calls.{can_be_made}
use Rattle.gr_words.proofs.OptionReads.{text_given, required_read}
use Rattle.gr_words.proofs.Matching.{faultless, rows_are}
use Rattle.gr_words.proofs.reading.read_large.Goals as goal

pub text_at-kind-requires : goal.text_at-kind-requires
text_at-kind-requires c =
    text_given large_app c.in-Ok.command c.in-Ok.ensures refl 0 (text_rule (codes "kind")) (omega arith) (λ e. refl)
    refl refl refl c.in-Ok-try_get_matches_from.matches c.in-Ok-try_get_matches_from.ensures.parsed refl

pub number_at-n-requires : goal.number_at-n-requires
number_at-n-requires c =
    required_read large_app c.in-Ok.command c.in-Ok.ensures refl 1 (number_rule (codes "n")) (omega arith) (λ e. refl)
    refl refl refl c.in-Ok-try_get_matches_from.matches c.in-Ok-try_get_matches_from.ensures.parsed refl
    (value_parser.Signed (pos 0) (pos 4294967295)) refl

pub returns-in-Some-clause-lawful : goal.returns-in-Some-clause-lawful
returns-in-Some-clause-lawful c =
    faultless (app_of c.in-Ok.command) large_app (map string_bytes c.args.words.now) c.in-Ok.ensures refl
    c.in-Ok-try_get_matches_from.ensures.kinds

pub returns-in-Some-clause-meaning : goal.returns-in-Some-clause-meaning
returns-in-Some-clause-meaning c =
    let as_command = rows_are (app_of c.in-Ok.command) large_app (map string_bytes c.args.words.now)
    (rows_of (found_of c.in-Ok-try_get_matches_from.matches)) c.in-Ok.ensures refl
    (λ simple. (c.in-Ok-try_get_matches_from.ensures.matches simple).0) in
    let meant : ◌≡◌ {A = Making} (record { kind = c.text_at-kind.result.now; n = c.number_at-n.result })
    (making (map string_bytes c.args.words.now)) =
    rw (← as_command, c.text_at-kind.ensures, ← c.number_at-n.ensures.value) refl in
    (λ i. record { kind = c.in-Some.ensures.kind i; n = c.in-Some.ensures.number i }) ∙ meant

pub returns-clause-usage : goal.returns-clause-usage
returns-clause-usage c _ =
    let as_command = rows_are (app_of c.in-Ok.command) large_app (map string_bytes c.args.words.now)
    (rows_of (found_of c.in-Ok-try_get_matches_from.matches)) c.in-Ok.ensures refl
    (λ simple. (c.in-Ok-try_get_matches_from.ensures.matches simple).0) in
    let meant : ◌≡◌ {A = Making} (record { kind = c.text_at-kind.result.now; n = c.number_at-n.result })
    (making (map string_bytes c.args.words.now)) =
    rw (← as_command, c.text_at-kind.ensures, ← c.number_at-n.ensures.value) refl in
    inr (subst (λ m. can_be_made m ≡ false) meant c.in-None.ensures.none)
