use Rattle.std.proofs.Common.{◌∷◌, [], refl}
use Rattle.gr_dimacs.specs.Grammar.{p_word, cnf_word}
use Rattle.gr_dimacs.specs.declared.faults.FaultKind.TheVariants.{NoHeader, BadHeader}
use Rattle.gr_dimacs.proofs.Staged.{first-fails, heads-builder, staged-count, staged-fails, staged-p, staged-vars, staged-words}
use Rattle.gr_text.proofs.Going.{goes-then}
use Rattle.gr_dimacs.proofs.headers.read_header.Goals as goal

pub returns-in-Err-clause-answer : goal.returns-in-Err-clause-answer
returns-in-Err-clause-answer g c =
    first-fails c.args.limits.now NoHeader c.in-Err.failed _ _ c.header_word.ensures.goes refl
    c.in-Err.ensures.answer

pub returns-in-Err-header_word-clause-goes : goal.returns-in-Err-header_word-clause-goes
returns-in-Err-header_word-clause-goes g c =
    goes-then _ _ _ c.header_word.ensures.goes c.header_word-2.ensures.goes

pub returns-in-Err-header_word-clause-answer : goal.returns-in-Err-header_word-clause-answer
returns-in-Err-header_word-clause-answer g c =
    let limits = c.args.limits.now in
    let behind_p = staged-p limits _ _ c.header_word.ensures.goes c.in-Ok.ensures.answer in
    staged-fails limits (p_word ∷ []) BadHeader c.in-Err-header_word.failed _ _ _ behind_p
    c.header_word-2.ensures.goes refl c.in-Err-header_word.ensures.answer

pub returns-in-Err-header_count-clause-goes : goal.returns-in-Err-header_count-clause-goes
returns-in-Err-header_count-clause-goes g c =
    let limits = c.args.limits.now in
    let behind_cnf = staged-words limits _ _ _ c.header_word.ensures.goes c.in-Ok.ensures.answer
    c.header_word-2.ensures.goes c.in-Ok-header_word.ensures.answer in
    goes-then _ _ _ behind_cnf.goes c.header_count.ensures.goes

pub returns-in-Err-header_count-clause-answer : goal.returns-in-Err-header_count-clause-answer
returns-in-Err-header_count-clause-answer g c =
    let limits = c.args.limits.now in
    let behind_cnf = staged-words limits _ _ _ c.header_word.ensures.goes c.in-Ok.ensures.answer
    c.header_word-2.ensures.goes c.in-Ok-header_word.ensures.answer in
    staged-fails limits (p_word ∷ cnf_word ∷ []) BadHeader c.in-Err-header_count.failed _ _ _
    behind_cnf c.header_count.ensures.goes refl c.in-Err-header_count.ensures.answer

pub returns-in-Err-header_count-2-clause-goes : goal.returns-in-Err-header_count-2-clause-goes
returns-in-Err-header_count-2-clause-goes g c =
    let limits = c.args.limits.now in
    let behind_cnf = staged-words limits _ _ _ c.header_word.ensures.goes c.in-Ok.ensures.answer
    c.header_word-2.ensures.goes c.in-Ok-header_word.ensures.answer in
    let behind_vars = staged-vars limits c.in-Ok-header_count.vars _ _ _ behind_cnf
    c.header_count.ensures.goes c.in-Ok-header_count.ensures.answer in
    goes-then _ _ _ behind_vars.goes c.header_count-2.ensures.goes

pub returns-in-Err-header_count-2-clause-answer : goal.returns-in-Err-header_count-2-clause-answer
returns-in-Err-header_count-2-clause-answer g c =
    let limits = c.args.limits.now in
    let behind_cnf = staged-words limits _ _ _ c.header_word.ensures.goes c.in-Ok.ensures.answer
    c.header_word-2.ensures.goes c.in-Ok-header_word.ensures.answer in
    let behind_vars = staged-vars limits c.in-Ok-header_count.vars _ _ _ behind_cnf
    c.header_count.ensures.goes c.in-Ok-header_count.ensures.answer in
    staged-fails limits _ BadHeader c.in-Err-header_count-2.failed _ _ _ behind_vars
    c.header_count-2.ensures.goes refl c.in-Err-header_count-2.ensures.answer

pub returns-clause-goes : goal.returns-clause-goes
returns-clause-goes g c =
    let limits = c.args.limits.now in
    let behind_cnf = staged-words limits _ _ _ c.header_word.ensures.goes c.in-Ok.ensures.answer
    c.header_word-2.ensures.goes c.in-Ok-header_word.ensures.answer in
    let behind_vars = staged-vars limits c.in-Ok-header_count.vars _ _ _ behind_cnf
    c.header_count.ensures.goes c.in-Ok-header_count.ensures.answer in
    let behind_count = staged-count limits _ c.in-Ok-header_count-2.count _ _ _ behind_vars
    c.header_count-2.ensures.goes c.in-Ok-header_count-2.ensures.answer in
    behind_count.goes

pub returns-clause-answer : goal.returns-clause-answer
returns-clause-answer g c =
    let limits = c.args.limits.now in
    let behind_cnf = staged-words limits _ _ _ c.header_word.ensures.goes c.in-Ok.ensures.answer
    c.header_word-2.ensures.goes c.in-Ok-header_word.ensures.answer in
    let behind_vars = staged-vars limits c.in-Ok-header_count.vars _ _ _ behind_cnf
    c.header_count.ensures.goes c.in-Ok-header_count.ensures.answer in
    let behind_count = staged-count limits _ c.in-Ok-header_count-2.count _ _ _ behind_vars
    c.header_count-2.ensures.goes c.in-Ok-header_count-2.ensures.answer in
    heads-builder limits _ _ _ _ _ behind_count
    (rw (
      c.new.ensures,
      c.in-Ok-header_count.ensures.answer.value_is,
      c.in-Ok-header_count-2.ensures.answer.value_is,
    ) refl)
