-- where none is left that is known, all stand unmet
use Rattle.std.proofs.Common.{length, replicate, drop, ap, ◌∙◌}
use Rattle.std.proofs.lemmas.List.{drop_all}
use Rattle.gr_analyze.specs.declared.standings.Standing.TheVariants.{Unmet}
use Rattle.gr_analyze.proofs.KnownStandings.{none-known}
use Rattle.gr_analyze.proofs.standings.forget.Goals as goal

pub returns : goal.returns
returns c =
    none-known c.loop-index.by_index.items (drop c.loop-index.index-index c.args.known.now) c.loop-index.invariant.known
    (ap length (drop_all c.loop-index.index-index c.args.known.now c.loop-index-test.false))
    ∙ ap (λ n. replicate n Unmet) c.loop-index.invariant.long
