use Rattle.std.proofs.Common.{◌≡◌, ◌∙◌, ap, rules, sym}
use Rattle.gr_dimacs.specs.Reads.{Reads}
use Rattle.gr_text.specs.Places.{at_start}
use Rattle.gr_dimacs.proofs.Decided.{calm-at, counted-at, counted-bytes, decided-reads, reads-at}
use Rattle.gr_text.specs.Stands.{stand}
use Rattle.gr_dimacs.proofs.readers.read.Goals as goal

pub returns-clause-answer : goal.returns-clause-answer
returns-clause-answer g c =
    let left = g.S.Source.left in
    let here = stand left g.S.Source.taken g.S.Source.faults in
    let limits = c.args.limits.now in
    let p = here c.over-scanner.result.held c.over-scanner.result.source.now in
    let n = here c.read_scanned.new.scanner.held c.read_scanned.new.scanner.source.now in
    let start : p.place ≡ at_start limits.bytes = c.over-scanner.ensures.held
    ∙ c.new-held.ensures in
    let reads : Reads limits c.read_scanned.result p.left n.left =
    decided-reads limits c.read_scanned.result p n start c.requires c.read_scanned.ensures.goes
    c.read_scanned.ensures.answer in
    reads-at limits c.read_scanned.result p.left n.left _ _ reads
    (ap left (sym c.over-scanner.ensures.source)) (search rules)

pub returns-clause-counts : goal.returns-clause-counts
returns-clause-counts g c =
    let here = stand g.S.Source.left g.S.Source.taken g.S.Source.faults in
    let limits = c.args.limits.now in
    let p = here c.over-scanner.result.held c.over-scanner.result.source.now in
    let n = here c.read_scanned.new.scanner.held c.read_scanned.new.scanner.source.now in
    let start : p.place ≡ at_start limits.bytes = c.over-scanner.ensures.held
    ∙ c.new-held.ensures in
    counted-at limits.bytes c.read_scanned.result p.count n.count _ _
    (counted-bytes limits c.read_scanned.result p n start c.read_scanned.ensures.goes
    c.read_scanned.ensures.full)
    (ap g.S.Source.taken (sym c.over-scanner.ensures.source)) (search rules)

pub returns-clause-calm : goal.returns-clause-calm
returns-clause-calm g c = λ told.
    let faults = g.S.Source.faults in
    calm-at (faults c.over-scanner.result.source.now) (faults c.read_scanned.new.scanner.source.now) _ _
    (c.read_scanned.ensures.calm told) (ap faults (sym c.over-scanner.ensures.source)) (search rules)
