-- so may a unit clause
use Rattle.gr_diary.specs.declared.entries.Entry.TheVariants as entry
use Rattle.gr_bench.proofs.LongRuns.{may-share, over-grown}
use Rattle.gr_bench.proofs.long_runs.share.Goals as goal

pub unit-requires : goal.unit-requires
unit-requires c =
    may-share c.args.bench.now c.args.actor c.in_ok-lit.lit c.in_ok-hints.hints c.requires.over c.requires.actor
    c.in_ok-lit.ensures c.in_ok-hints.ensures

pub returns : goal.returns
returns c =
    over-grown c.args.bench.now c.unit.new.self (entry.Unit c.args.actor c.in_ok-lit.lit c.in_ok-hints.hints)
    c.requires.over c.in_ok-id.ensures.ok
