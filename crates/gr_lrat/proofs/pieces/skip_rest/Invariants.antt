use Rattle.std.proofs.Common.{◌≡◌, ◌+◌, length}
use Rattle.gr_text.specs.Stands.{stand}
use Rattle.gr_lrat.specs.Lines.{Spelling}
use Rattle.gr_lrat.specs.Stages.{Onward}
use Rattle.gr_lrat.proofs.PartRead.{ReadsPart}
use Rattle.gr_lrat.proofs.pieces.skip_rest.Given as goal

-- what is left of the line is still to be passed
abbrev pub invariant-pieces : goal.invariant-pieces
invariant-pieces g l = record {
  same : l.scanner.source.ghost_name ≡ l.fn.scanner.source.ghost_name;
  goes : (x : Spelling) → Onward (λ ws. x) l.fn.scanner.held (g.S.Source.left
      l.fn.scanner.source.now)
      (λ ws. x) l.scanner.held (g.S.Source.left l.scanner.source.now);
  past : ReadsPart
      (stand g.S.Source.left g.S.Source.taken g.S.Source.faults l.fn.scanner.held
      l.fn.scanner.source.now)
      (stand g.S.Source.left g.S.Source.taken g.S.Source.faults l.scanner.held l.scanner.source.now);
}

abbrev pub decreases-pieces : goal.decreases-pieces
decreases-pieces g l = length l.scanner.held.ahead + l.scanner.held.spare
