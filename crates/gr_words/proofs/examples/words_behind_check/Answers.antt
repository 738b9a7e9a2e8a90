use Rattle.std.proofs.Common.{refl}
use Rattle.clap.proofs.OnLiterals.{clap_on_literals}
use Rattle.gr_words.proofs.examples.words_behind_check.Goals as goal

pub returns : goal.returns
unfolding clap_on_literals
returns c = refl
