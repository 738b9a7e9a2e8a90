-- a word that is zero goes, and another is written
use Rattle.std.proofs.Common.{◌<◌, nat_eq, arith}
use Rattle.std.proofs.lemmas.Map.Views.{All-values-PutsEntry, All-map-IsPermutation, All-map-remove_entry}
use Rattle.gr_hold.proofs.holds.replace.Goals as goal

pub returns-then-word-eq0-clause-held : goal.returns-then-word-eq0-clause-held
returns-then-word-eq0-clause-held c = λ all.
    All-map-IsPermutation (λ e. e.1) (λ word. 0 < word) _ _ c.remove.ensures.entries
    (All-map-remove_entry (nat_eq c.args.id) (λ e. e.1) (λ word. 0 < word) c.args.words.now.entries all)

pub returns-in-Ok-clause-held : goal.returns-in-Ok-clause-held
returns-in-Ok-clause-held c = λ all.
    All-values-PutsEntry nat_eq (λ word. 0 < word) c.args.words.now c.insert.new.self c.args.id c.args.word _
    c.in-Ok.ensures.entries all (omega (arith, c.if-word-eq0.false))
