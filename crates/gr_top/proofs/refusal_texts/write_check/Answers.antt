use Rattle.gr_top.proofs.refusal_texts.write_check.Goals as goal

pub returns-in-NotVerified-clause-ok : goal.returns-in-NotVerified-clause-ok
returns-in-NotVerified-clause-ok g c = rw c.in-NotVerified.is c.write_not_verified.ensures.ok

pub returns-in-LogGrammar-clause-ok : goal.returns-in-LogGrammar-clause-ok
returns-in-LogGrammar-clause-ok g c = rw c.in-LogGrammar.is c.write_log_fault.ensures.ok

pub returns-in-Grammar-clause-ok : goal.returns-in-Grammar-clause-ok
returns-in-Grammar-clause-ok g c = rw c.in-Grammar.is c.write_fault.ensures.ok
