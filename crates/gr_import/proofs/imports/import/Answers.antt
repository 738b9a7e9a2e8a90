use Rattle.gr_import.proofs.Replacing.{leaves-lack, imported}
use Rattle.gr_import.proofs.imports.import.Goals as goal

pub add-requires-clause-unused : goal.add-requires-clause-unused
add-requires-clause-unused c =
    leaves-lack c.args.base.now.clauses c.args.old c.length_of-len.result c.let_go-lbd.new.base.clauses
    c.let_go-lbd.result c.args.new c.let_go-lbd.ensures.leaves c.requires.unused

pub returns : goal.returns
returns c =
    imported c.args.base.now c.let_go-lbd.new.base c.add.new.self c.args.old c.args.new c.length_of-len.result
    c.let_go-lbd.result c.args.clause.now c.in_ok-add.field-0 c.let_go-lbd.ensures.leaves c.let_go-lbd.ensures.trail
    c.length_of-len.ensures c.in_ok-add.ensures
