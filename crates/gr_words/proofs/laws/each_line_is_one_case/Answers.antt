use Rattle.gr_words.proofs.Cases.{some-case, one-case}
use Rattle.gr_words.proofs.laws.each_line_is_one_case.Goals as goal

pub returns : goal.returns
returns c = λ words. (some-case words, one-case words)
