use Rattle.std.proofs.Common.{◌≡◌, ◌+◌, length}
use Rattle.gr_text.specs.Stands.{stand}
use Rattle.gr_dimacs.proofs.Told.{Onward}
use Rattle.gr_dimacs.proofs.tokens.next_token.Given as goal

-- no token was passed so far but in comments
abbrev pub invariant-found : goal.invariant-found
invariant-found g l = record {
  same : l.scanner.source.ghost_name ≡ l.fn.scanner.source.ghost_name;
  onward : Onward
      (stand g.S.Source.left g.S.Source.taken g.S.Source.faults l.fn.scanner.held
      l.fn.scanner.source.now)
      (stand g.S.Source.left g.S.Source.taken g.S.Source.faults l.scanner.held l.scanner.source.now);
}

abbrev pub decreases-found : goal.decreases-found
decreases-found g l = length l.scanner.held.ahead + l.scanner.held.spare
