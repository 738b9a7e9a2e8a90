-- the literals that are still marked
use Rattle.std.proofs.Common.{◌≡◌, ◌*◌, ◌≤◌, ◌<◌, true, false, length, get_or, All}
use Rattle.gr_logic.specs.Literals.{Literal}
use Rattle.gr_logic.specs.Codes.{code_of}
use Rattle.gr_logic.specs.Rup.{members}
use Rattle.gr_check.proofs.marks.Marks.clear.Given as goal

-- each flag that is still set is that of a literal that is still listed
abbrev pub invariant-loop-lit : goal.invariant-loop-lit
invariant-loop-lit l =
    record {
      same_vars : l.self-inside.vars ≡ l.fn.self.vars;
      room : length l.self-inside.flags.items ≡ 2 * l.self-inside.vars;
      small : l.self-inside.vars ≤ 1000000;
      within : All (λ q. q.index < l.self-inside.vars) l.self-inside.marked.items;
      listed : (q : Literal) → get_or l.self-inside.flags.items (code_of q) false ≡ true
          → members l.self-inside.marked.items q ≡ true;
    }

-- the literals that are still listed
abbrev pub decreases-loop-lit : goal.decreases-loop-lit
decreases-loop-lit l = length l.self-inside.marked.items
