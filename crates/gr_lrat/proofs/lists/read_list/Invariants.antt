use Rattle.std.proofs.Common.{◌≡◌, ◌+◌, false, [], length}
use Rattle.gr_text.specs.Stands.{stand}
use Rattle.gr_lrat.specs.Lines.{Spelling, IdList, ids_from}
use Rattle.gr_lrat.specs.Stages.{Onward}
use Rattle.gr_lrat.proofs.PartRead.{ReadsPart}
use Rattle.gr_lrat.proofs.lists.read_list.Given as goal

-- the ids so far and the tokens to come make the list
abbrev pub invariant-tokens : goal.invariant-tokens
invariant-tokens g l = record {
  same : l.scanner.source.ghost_name ≡ l.fn.scanner.source.ghost_name;
  goes : (made : IdList → Spelling) →
      Onward (λ ws. made (ids_from false [] ws)) l.fn.scanner.held (g.S.Source.left
      l.fn.scanner.source.now)
      (λ ws. made (ids_from l.negative l.ids ws)) l.scanner.held (g.S.Source.left
      l.scanner.source.now);
  past : ReadsPart
      (stand g.S.Source.left g.S.Source.taken g.S.Source.faults l.fn.scanner.held
      l.fn.scanner.source.now)
      (stand g.S.Source.left g.S.Source.taken g.S.Source.faults l.scanner.held l.scanner.source.now);
}

abbrev pub decreases-tokens : goal.decreases-tokens
decreases-tokens g l = length l.scanner.held.ahead + l.scanner.held.spare
