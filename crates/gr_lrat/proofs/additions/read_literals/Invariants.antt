use Rattle.std.proofs.Common.{◌≡◌, ◌≤◌, ◌+◌, ◌∷◌, [], length}
use Rattle.gr_text.specs.Places.{known, limit_of}
use Rattle.gr_text.specs.Stands.{stand}
use Rattle.gr_lrat.specs.Lines.{addition_from}
use Rattle.gr_lrat.specs.Stages.{Onward}
use Rattle.gr_lrat.proofs.PartRead.{ReadsPart}
use Rattle.gr_lrat.proofs.additions.read_literals.Given as goal

-- the literals so far, the present token and the tokens to come make the addition
abbrev pub invariant-tokens : goal.invariant-tokens
invariant-tokens g l = record {
  same : l.scanner.source.ghost_name ≡ l.fn.scanner.source.ghost_name;
  goes : Onward (λ ws. addition_from l.id [] (l.fn.scanner.held.token ∷ ws))
      l.fn.scanner.held (g.S.Source.left l.fn.scanner.source.now)
      (λ ws. addition_from l.id l.clause (l.scanner.held.token ∷ ws))
      l.scanner.held (g.S.Source.left l.scanner.source.now);
  within : known l.scanner.held ≤ limit_of l.scanner.held;
  past : ReadsPart
      (stand g.S.Source.left g.S.Source.taken g.S.Source.faults l.fn.scanner.held
      l.fn.scanner.source.now)
      (stand g.S.Source.left g.S.Source.taken g.S.Source.faults l.scanner.held l.scanner.source.now);
}

abbrev pub decreases-tokens : goal.decreases-tokens
decreases-tokens g l = length l.scanner.held.ahead + l.scanner.held.spare
