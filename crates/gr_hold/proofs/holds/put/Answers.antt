-- a word with a holder more is not zero
use Rattle.std.proofs.Common.{◌<◌, nat_eq}
use Rattle.std.proofs.lemmas.Map.Views.{All-values-PutsEntry}
use Rattle.gr_hold.proofs.holds.put.Goals as goal

pub returns-clause-held : goal.returns-clause-held
returns-clause-held c = λ all.
    All-values-PutsEntry nat_eq (λ word. 0 < word) c.args.words.now c.insert.new.self c.args.id c.args.word _
    c.in_ok-insert.ensures.entries all c.requires
