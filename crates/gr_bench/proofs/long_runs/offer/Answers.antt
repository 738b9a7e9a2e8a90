-- a clause that follows from the formula may come in at any time
use Rattle.std.proofs.Common.{true}
use Rattle.gr_diary.specs.declared.entries.Entry.TheVariants.{Learn}
use Rattle.gr_bench.proofs.LongRuns.{may-offer, over-grown}
use Rattle.gr_bench.proofs.long_runs.offer.Goals as goal

pub learn-requires : goal.learn-requires
learn-requires c =
    may-offer c.args.bench.now c.in_ok-clause.clause c.in_ok-hints.hints c.requires c.in_ok-clause.ensures
    c.in_ok-hints.ensures

pub returns : goal.returns
returns c =
    over-grown c.args.bench.now c.learn.new.self (Learn c.in_ok-clause.clause c.in_ok-hints.hints 2 true) c.requires
    c.in_ok-id.ensures.ok
