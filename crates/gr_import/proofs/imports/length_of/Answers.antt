use Rattle.std.proofs.Common.{◌≡◌, ap, ◌∙◌, subst, arith, length, All}
use Rattle.std.proofs.lemmas.List.{length-map}
use Rattle.gr_logic.specs.Words.{IsNumbered, word_of}
use Rattle.gr_import.proofs.Lengths.{few-literals}
use Rattle.gr_import.proofs.imports.length_of.Goals as goal

pub overflow_cast-result : goal.overflow_cast-result
overflow_cast-result c =
    let few = few-literals c.args.clause.now c.requires
    (subst (All IsNumbered) c.lits.ensures c.as_words.ensures.1) in
    let len : length c.as_words.result.now ≡ length c.args.clause.now =
    ap length c.as_words.ensures.0 ∙ length-map c.lits.result.now word_of ∙ ap length c.lits.ensures in
    omega (arith, few, len)
