use Rattle.std.proofs.Common.{◌∙◌, refl, subst, sym}
use Rattle.gr_top.specs.Statuses.{IsWellRead}
use Rattle.gr_top.proofs.Called.{fault-solves, read-fault-solves, no-memory-solves}
use Rattle.gr_top.proofs.Answered.{fault-is-no-read-fault, where-written}
use Rattle.gr_top.proofs.reading.report_unread.Goals as goal

pub returns-in-Grammar-clause-solves : goal.returns-in-Grammar-clause-solves
returns-in-Grammar-clause-solves g c o left rest n m proof k reads rose =
    fault-solves c.write_fault.result o _ _ c.in-Grammar.fault c.ended.result (rw c.in-Grammar.is at reads)
    c.write_fault.ensures.ok c.write_fault.ensures.err c.write_fault.ensures.fault refl
    c.ended.ensures.status c.ended.ensures.bare

pub returns-in-ReadFault-clause-solves : goal.returns-in-ReadFault-clause-solves
returns-in-ReadFault-clause-solves g c o left rest n m proof k reads rose =
    read-fault-solves o _ _ c.bare.result (rose c.in-ReadFault.is) (rw c.in-ReadFault.is at reads)
    (record { out = refl; proof = refl }) c.bare.ensures.status
    (record { model = c.bare.ensures.model; diary = c.bare.ensures.diary })

pub returns-in-OutOfMemory-clause-solves : goal.returns-in-OutOfMemory-clause-solves
returns-in-OutOfMemory-clause-solves g c o left rest n m proof k reads rose =
    let bare = c.bare-in-OutOfMemory.ensures in
    no-memory-solves o _ _ c.bare-in-OutOfMemory.result (rw c.in-OutOfMemory.is at reads)
    (record { out = refl; proof = refl }) bare.status (record { model = bare.model; diary = bare.diary })

pub returns-in-Grammar-clause-out : goal.returns-in-Grammar-clause-out
returns-in-Grammar-clause-out g c is =
    absurd (fault-is-no-read-fault c.write_fault.result c.in-Grammar.fault (sym c.ended.ensures.status ∙ is))

pub returns-in-Grammar-clause-told : goal.returns-in-Grammar-clause-told
returns-in-Grammar-clause-told g c well = rw c.in-Grammar.is tt

pub returns-in-ReadFault-clause-told : goal.returns-in-ReadFault-clause-told
returns-in-ReadFault-clause-told g c well = absurd (subst IsWellRead c.bare.ensures.status well)

pub returns-in-OutOfMemory-clause-told : goal.returns-in-OutOfMemory-clause-told
returns-in-OutOfMemory-clause-told g c well =
    absurd (subst IsWellRead c.bare-in-OutOfMemory.ensures.status well)

pub returns-in-Grammar-clause-calm_out : goal.returns-in-Grammar-clause-calm_out
returns-in-Grammar-clause-calm_out g c well =
    where-written c.write_fault.result _ _ c.ended.ensures.status well c.write_fault.ensures.calm
