-- what the steps of an analysis leave: the conflict met, the first UIP, and what the clause rests on
use Rattle.std.proofs.Common.{◌≡◌, ◌≢◌, ◌<◌, ℕ, true, length, ◌∙◌, arith}
use Rattle.gr_logic.specs.Literals.{Literal}
use Rattle.gr_arena.specs.Arenas.{at}
use Rattle.gr_hints.specs.Gathering.{literals_at}
use Rattle.gr_analyze.specs.Noting.{no_notes, noted_in}
use Rattle.gr_analyze.specs.Resolving.{IsCovered}
use Rattle.gr_analyze.specs.Minimizing.{IsMinimizing}
use Rattle.gr_analyze.proofs.MoreNoted.{covered-more}
use Rattle.gr_analyze.proofs.Meetings.{AreMet}
use Rattle.gr_analyze.proofs.Analyses.{IsFirst, conflict-begins, found-minimizing, found-first}
use Rattle.gr_analyze.proofs.analyzing.analyze.Goals.{In_ok-meet, In_ok-uip, After-negate}
use Rattle.gr_analyze.proofs.analyzing.analyze.Goals as goal

-- a depth that is told, and is not zero
pub deep : (told depth : ℕ) → told ≡ depth → told ≢ 0 → 0 < depth
deep told depth same up = let v : depth ≢ 0 = (λ z. up (same ∙ z)) in omega arith

pub met : (c : In_ok-meet) → AreMet c.args.arena.now c.args.trail.now
    (length c.args.trail.now.assigned) (no_notes (length c.args.notes.now.standings))
    (noted_in c.meet.new.notes) (at c.args.arena.now c.args.conflict).lits
met c = conflict-begins c.args.arena.now c.args.trail.now c.args.conflict (noted_in c.clear.new.self)
    (noted_in c.meet.new.notes) (length c.args.notes.now.standings) c.lits.result.now
    c.requires.graph.trail c.requires.sized.standings c.clear.ensures.noted c.lits.ensures
    c.requires.gone c.in_ok-meet.ensures.met

pub minimizing : (c : In_ok-uip) → IsMinimizing c.args.arena.now c.args.trail.now c.in_ok-uip.uip
    (noted_in c.walk_back.new.notes)
minimizing c = found-minimizing c.args.arena.now c.args.trail.now (noted_in c.walk_back.new.notes)
    c.in_ok-uip.uip c.requires.graph.trail c.in_ok-uip.ensures.found

-- what the conflict names is covered once the walk is done
pub covered : (c : In_ok-uip) (q : Literal)
    → literals_at c.args.arena.now c.args.conflict q ≡ true → IsCovered (noted_in c.walk_back.new.notes) q
covered c q has = covered-more (noted_in c.meet.new.notes) (noted_in c.walk_back.new.notes) q
    c.in_ok-uip.ensures.more ((met (goal.at.In_ok-uip c).In_ok-meet).covered q has)

pub first : (c : After-negate) → IsFirst c.args.trail.now c.in_ok-uip.uip c.negate.result
first c = found-first c.args.arena.now c.args.trail.now (noted_in c.walk_back.new.notes)
    c.in_ok-uip.uip c.negate.result c.requires.graph.trail c.in_ok-uip.ensures.found c.negate.ensures
