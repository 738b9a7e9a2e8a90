use Rattle.gr_text.specs.Stands.{stand}
use Rattle.gr_text.proofs.Going.{goes-then}
use Rattle.gr_dimacs.proofs.Whole.{header-decides, body-decides}
use Rattle.gr_dimacs.proofs.readers.read_scanned.Goals as goal

pub returns-in-Err-clause-answer : goal.returns-in-Err-clause-answer
returns-in-Err-clause-answer g c =
    let here = stand g.S.Source.left g.S.Source.taken g.S.Source.faults in
    let p = here c.args.scanner.now.held c.args.scanner.now.source.now in
    let q = here c.read_header.new.scanner.held c.read_header.new.scanner.source.now in
    header-decides c.args.limits.now c.in-Err.failed p q c.requires.start c.in-Err.ensures.answer

pub returns-clause-goes : goal.returns-clause-goes
returns-clause-goes g c =
    let here = stand g.S.Source.left g.S.Source.taken g.S.Source.faults in
    let p = here c.args.scanner.now.held c.args.scanner.now.source.now in
    let q = here c.read_header.new.scanner.held c.read_header.new.scanner.source.now in
    let n = here c.read_body.new.scanner.held c.read_body.new.scanner.source.now in
    goes-then p q n c.read_header.ensures.goes c.read_body.ensures.goes

pub returns-clause-answer : goal.returns-clause-answer
returns-clause-answer g c =
    let here = stand g.S.Source.left g.S.Source.taken g.S.Source.faults in
    let p = here c.args.scanner.now.held c.args.scanner.now.source.now in
    let q = here c.read_header.new.scanner.held c.read_header.new.scanner.source.now in
    let n = here c.read_body.new.scanner.held c.read_body.new.scanner.source.now in
    body-decides c.args.limits.now c.read_body.result c.in-Ok.builder p q n c.requires.start
    c.read_header.ensures.goes c.read_body.ensures.goes c.in-Ok.ensures.answer c.read_body.ensures.answer
