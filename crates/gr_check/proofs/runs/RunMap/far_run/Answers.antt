-- a run is found in the slot at its id's place
use Rattle.std.proofs.Common.{sym, ap, ◌∙◌, get_or, None}
use Rattle.gr_check.proofs.FarEntries.{found, absent, from_start}
use Rattle.gr_check.proofs.runs.RunMap.far_run.Goals as goal

pub returns-in-None : goal.returns-in-None
returns-in-None c = sym (absent c.args.id c.args.self.now.far_ids c.args.self.now.far.items 0 c.in-None.ensures)

pub returns-in-Some : goal.returns-in-Some
returns-in-Some c =
    c.slot_at.ensures ∙ ap (λ slots. get_or slots c.in-Some.place None) c.deref.ensures.value
    ∙ sym (found c.args.id c.args.self.now.far_ids c.args.self.now.far.items 0 c.in-Some.place c.in-Some.ensures
    ∙ from_start c.args.self.now.far.items c.in-Some.place)
