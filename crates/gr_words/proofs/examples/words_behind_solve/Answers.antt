use Rattle.std.proofs.Common.{refl}
use Rattle.clap.proofs.OnLiterals.{clap_on_literals}
use Rattle.gr_words.proofs.examples.words_behind_solve.Goals as goal

pub returns-clause-defaults : goal.returns-clause-defaults
unfolding clap_on_literals
returns-clause-defaults c = refl

pub returns-clause-given : goal.returns-clause-given
unfolding clap_on_literals
returns-clause-given c = refl
