use Rattle.std.proofs.Common.{◌∙◌, refl, sym}
use Rattle.gr_top.proofs.JudgedLogs.{stopped-unread}
use Rattle.gr_top.proofs.Answered.{where-written}
use Rattle.gr_top.proofs.Checked.{told-checks, stopped-checks, due-is-no-read-fault}
use Rattle.gr_top.proofs.checks.run_check.Goals as goal

pub returns-in-Ok-clause-checks : goal.returns-in-Ok-clause-checks
returns-in-Ok-clause-checks g c =
    told-checks c.write_check.result c.in-Ok.due _ _ _ _ c.ended.result c.in-Ok.ensures.judges
    c.write_check.ensures.ok c.write_check.ensures.err c.write_check.ensures.fault
    c.ended.ensures.status c.ended.ensures.bare

pub returns-in-Err-clause-checks : goal.returns-in-Err-clause-checks
returns-in-Err-clause-checks g c =
    stopped-checks c.in-Err.stopped _ _ _ _ c.bare.result c.in-Err.ensures.judges refl
    (c.bare.ensures.status ∙ c.stop_status.ensures)
    (record { model = c.bare.ensures.model; diary = c.bare.ensures.diary })

pub returns-in-Ok-clause-out : goal.returns-in-Ok-clause-out
returns-in-Ok-clause-out g c is =
    absurd (due-is-no-read-fault c.write_check.result c.in-Ok.due _ _ c.in-Ok.ensures.judges
    (sym c.ended.ensures.status ∙ is))

pub returns-in-Ok-clause-calm : goal.returns-in-Ok-clause-calm
returns-in-Ok-clause-calm g c well = c.in-Ok.ensures.calm

pub returns-in-Err-clause-calm : goal.returns-in-Err-clause-calm
returns-in-Err-clause-calm g c well =
    absurd (stopped-unread c.in-Err.stopped _ (c.bare.ensures.status ∙ c.stop_status.ensures) well)

pub returns-in-Ok-clause-calm_out : goal.returns-in-Ok-clause-calm_out
returns-in-Ok-clause-calm_out g c well =
    where-written c.write_check.result _ _ c.ended.ensures.status well c.write_check.ensures.calm
