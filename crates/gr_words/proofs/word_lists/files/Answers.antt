use Rattle.std.proofs.Common.{inl, inr, subst}
use Rattle.gr_words.specs.Calls.{Means}
use Rattle.gr_words.proofs.Naming.{names-two, names-none, names-solve, names-check}
use Rattle.gr_words.proofs.word_lists.files.Goals as goal

pub returns-in-Ok-Solve : goal.returns-in-Ok-Solve
returns-in-Ok-Solve c =
    let words = c.args.words.now in
    let solve = c.in-Ok-Solve.solve in
    names-two words c.named.result solve.cnf.now solve.log.now c.named.ensures.cnf c.named.ensures.log
    c.in-Ok-Solve.ensures.lawful
    (names-solve words c.named.result solve
    (subst (Means words) c.in-Ok-Solve.field-0-is c.in-Ok-Solve.ensures.meaning))

pub returns-in-Ok-Check : goal.returns-in-Ok-Check
returns-in-Ok-Check c =
    let words = c.args.words.now in
    let check = c.in-Ok-Check.check in
    names-two words c.named-in-Ok-Check.result check.cnf.now check.log.now c.named-in-Ok-Check.ensures.cnf
    c.named-in-Ok-Check.ensures.log c.in-Ok-Check.ensures.lawful
    (names-check words c.named-in-Ok-Check.result check
    (subst (Means words) c.in-Ok-Check.field-0-is c.in-Ok-Check.ensures.meaning))

pub returns-in-Ok-Large : goal.returns-in-Ok-Large
returns-in-Ok-Large c =
    let words = c.args.words.now in
    let meant = subst (Means words) c.in-Ok-Large.field-0-is c.in-Ok-Large.ensures.meaning in
    names-none words c.named-in-Ok-Large.result (inr (meant.0, meant.1)) c.named-in-Ok-Large.ensures.cnf
    c.named-in-Ok-Large.ensures.log

pub returns-in-Err-Usage : goal.returns-in-Err-Usage
returns-in-Err-Usage c =
    names-none c.args.words.now c.named-in-Err-Usage.result
    (inl (c.in-Err-Usage.ensures.usage c.in-Err-Usage.field-0-is))
    c.named-in-Err-Usage.ensures.cnf c.named-in-Err-Usage.ensures.log
