use Rattle.std.proofs.Common.{◌≡◌, rules}
use Rattle.gr_top.proofs.checks.check_log.Goals as goal

pub returns-clause-gives : goal.returns-clause-gives
returns-clause-gives g c =
    let begun : c.over-scanner.result.source.now ≡ c.args.log.now = c.over-scanner.ensures.source in
    let ended : c.log-1.given.0 ≡ c.check_lines.new.scanner.source.now = search rules in
    rw ended (rw begun at c.check_lines.ensures.gives)

pub returns-clause-calm : goal.returns-clause-calm
returns-clause-calm g c =
    let begun : c.over-scanner.result.source.now ≡ c.args.log.now = c.over-scanner.ensures.source in
    let ended : c.log-1.given.0 ≡ c.check_lines.new.scanner.source.now = search rules in
    rw ended (rw begun at c.check_lines.ensures.calm)
