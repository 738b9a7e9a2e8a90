use Rattle.gr_run.proofs.SeatRuns.{stands-unused}
use Rattle.gr_run.proofs.searching.search_from.Goals as goal

pub returns-in_err-search-clause-standing : goal.returns-in_err-search-clause-standing
returns-in_err-search-clause-standing g c =
    stands-unused c.args.options.now.offer c.args.options.now.conflicts c.args.options.now.keep_all c.args.seat.now
    c.requires.seat.first c.requires.seat.legal
