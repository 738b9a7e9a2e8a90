use Rattle.gr_top.proofs.refusal_texts.write_not_verified.Goals as goal

pub returns-in-Line-clause-ok : goal.returns-in-Line-clause-ok
returns-in-Line-clause-ok g c = rw c.in-Line.is c.write_refused_line.ensures.ok
