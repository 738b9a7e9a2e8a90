use Rattle.std.proofs.Common.{refl}
use Rattle.clap.proofs.OnLiterals.{clap_on_literals}
use Rattle.gr_words.proofs.examples.lawful_lines.Goals as goal

pub returns-clause-some : goal.returns-clause-some
unfolding clap_on_literals
returns-clause-some c = (refl, refl, refl)

pub returns-clause-others : goal.returns-clause-others
unfolding clap_on_literals
returns-clause-others c = (refl, refl, refl, refl, refl, refl, refl, refl, refl)
