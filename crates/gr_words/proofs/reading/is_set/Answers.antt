use Rattle.std.proofs.Common.{◌≡◌, ◌∙◌, sym, ap}
use Rattle.std.specs.Prelude.{Some, None, option_map}
use Rattle.clap.specs.Words.{first_of, rows_of, found_of}
use Rattle.clap.proofs.WalkLemmas.{first_value-rows}
use Rattle.gr_words.specs.Meanings.{is_given}
use Rattle.gr_words.proofs.reading.is_set.Goals as goal

pub returns-in-Some : goal.returns-in-Some
returns-in-Some c =
    let f = found_of c.args.matches.now in
    let first : first_of c.args.id.now (rows_of f) ≡ Some c.in-Some.text.now =
    sym (first_value-rows f c.args.id.now) ∙ sym c.get_str.ensures ∙ ap (option_map (λ s. s.now)) c.in-Some.is in
    c.eq.ensures ∙ ap is_given (sym first)

pub returns-in-None : goal.returns-in-None
returns-in-None c =
    let f = found_of c.args.matches.now in
    let first : first_of c.args.id.now (rows_of f) ≡ None =
    sym (first_value-rows f c.args.id.now) ∙ sym c.get_str.ensures ∙ ap (option_map (λ s. s.now)) c.in-None.is in
    ap is_given (sym first)
