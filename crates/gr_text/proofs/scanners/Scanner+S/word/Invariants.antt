use Rattle.std.proofs.Common.{◌≡◌, ◌<◌, ◌+◌, length, if◌then◌else◌}
use Rattle.gr_text.specs.Places.{BeginsBlank, Leads, between, inside}
use Rattle.gr_text.specs.Stands.{stand}
use Rattle.gr_text.proofs.Going.{Draws}
use Rattle.gr_text.proofs.scanners.Scanner+S.word.Given as goal

-- the token has begun, and the bytes so far are its bytes
abbrev pub invariant-loop-self : goal.invariant-loop-self
invariant-loop-self g l = record {
  same : l.self.source.ghost_name ≡ l.fn.self.source.ghost_name;
  leads :
      Leads (between l.fn.self.held) l.fn.self.held (g.S.Source.left l.fn.self.source.now)
      (inside l.self.held) l.self.held (g.S.Source.left l.self.source.now);
  some : 0 < length l.self.held.token;
  last : l.self.held.last ≡ l.self.held.line;
  blank : BeginsBlank l.self.held.ahead;
  onward : l.fn.self.held.passed < l.self.held.passed;
  draws :
      Draws (stand g.S.Source.left g.S.Source.taken g.S.Source.faults l.fn.self.held l.fn.self.source.now)
      (stand g.S.Source.left g.S.Source.taken g.S.Source.faults l.self.held l.self.source.now);
}

abbrev pub decreases-loop-self : goal.decreases-loop-self
decreases-loop-self g l = l.self.held.spare + (if l.self.held.ended then 0 else 1)
