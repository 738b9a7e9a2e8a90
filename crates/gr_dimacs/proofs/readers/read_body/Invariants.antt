use Rattle.std.proofs.Common.{◌≡◌, ◌+◌, length}
use Rattle.gr_text.specs.Stands.{Goes, stand}
use Rattle.gr_dimacs.proofs.Reading.{Comes}
use Rattle.gr_dimacs.proofs.readers.read_body.Given as goal

-- what was read so far and what is to come give the whole outcome
abbrev pub invariant-tokens : goal.invariant-tokens
invariant-tokens g l = record {
  same : l.scanner.source.ghost_name ≡ l.fn.scanner.source.ghost_name;
  comes : Comes l.fn.builder
      (stand g.S.Source.left g.S.Source.taken g.S.Source.faults l.fn.scanner.held
      l.fn.scanner.source.now)
      l.builder
      (stand g.S.Source.left g.S.Source.taken g.S.Source.faults l.scanner.held l.scanner.source.now);
  goes : Goes
      (stand g.S.Source.left g.S.Source.taken g.S.Source.faults l.fn.scanner.held
      l.fn.scanner.source.now)
      (stand g.S.Source.left g.S.Source.taken g.S.Source.faults l.scanner.held l.scanner.source.now);
  calm : g.S.Source.faults l.scanner.source.now ≡ g.S.Source.faults l.fn.scanner.source.now;
}

abbrev pub decreases-tokens : goal.decreases-tokens
decreases-tokens g l = length l.scanner.held.ahead + l.scanner.held.spare
