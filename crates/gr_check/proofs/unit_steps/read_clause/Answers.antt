-- the first literal is found before the loop
use Rattle.gr_logic.specs.Rup.{members}
use Rattle.gr_check.proofs.Reading.{start, open_within, first_within}
use Rattle.gr_check.proofs.unit_steps.read_clause.Goals as goal

pub open_one-open-requires : goal.open_one-open-requires
open_one-open-requires c =
    rw c.requires.first (first_within c.args.marks.now.vars c.args.lits.now c.requires.vars)

pub loop-lit-init : goal.loop-lit-init
loop-lit-init c =
    rw (c.open_one-open.ensures, c.requires.first)
    record {
      same_reading = start (members c.args.marks.now.list) c.args.lits.now;
      within = open_within c.args.marks.now.vars (members c.args.marks.now.list) c.args.lits.now c.requires.vars;
    }
