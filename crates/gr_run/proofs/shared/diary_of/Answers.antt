use Rattle.gr_run.proofs.Beside.{concluded}
use Rattle.gr_run.proofs.shared.diary_of.Goals as goal

pub returns : goal.returns
returns c =
    concluded c.args.solver c.join_all.new.solver c.finish.result c.into_diary.result c.requires.closed
    c.join_all.ensures.same c.join_all.ensures.seen c.finish.ensures.seen c.finish.ensures.fixed
    c.into_diary.ensures.diary c.into_diary.ensures.tells c.into_diary.ensures.few
