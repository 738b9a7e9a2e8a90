use Rattle.std.proofs.Common.{rules, ◌≡◌, ◌∙◌, sym, ap, is_some, true}
use Rattle.std.specs.Prelude.{Some, option_map}
use Rattle.clap.specs.Words.{first_value, found_of}
use Rattle.clap.proofs.WalkLemmas.{first_value-rows}
use Rattle.clap.proofs.CallerLemmas.{some_of_text}
use Rattle.gr_words.proofs.reading.text_at.Goals as goal

pub unwrap-requires : goal.unwrap-requires
unwrap-requires c =
    let f = found_of c.args.matches.now in
    let there : is_some (first_value f c.args.id.now) ≡ true =
    ap is_some (first_value-rows f c.args.id.now) ∙ c.requires in
    let some = some_of_text _ c.get_str.result _ c.get_str.ensures there in
    search (rules, some)

pub returns : goal.returns
returns c =
    let f = found_of c.args.matches.now in
    let some : c.get_str.result ≡ Some c.unwrap.result = search (rules, c.unwrap.ensures) in
    sym (first_value-rows f c.args.id.now) ∙ sym c.get_str.ensures ∙ ap (option_map (λ s. s.now)) some
