use Rattle.std.proofs.Common.{◌∙◌, refl, arith}
use Rattle.gr_lrat.specs.Lines.{Spelled}
use Rattle.gr_lrat.proofs.Reading.{blanks_here, blank_comes, line_comes, bad_comes, rat_comes, none_comes}
use Rattle.gr_lrat.proofs.PartRead.{part-none, part-more}
use Rattle.gr_lrat.proofs.GoingOn.{goes_here, goes_later, rose_line, calm_line}
use Rattle.gr_lrat.proofs.readers.next_line.Goals as goal

pub lines-init : goal.lines-init
lines-init g c =
    let p = c.args.scanner.now in
    record {
      same = refl;
      blanks = blanks_here c.args.ended.now p.held (g.S.Source.left p.source.now);
      within = λ h. h;
      past = part-none _;
    }

pub lines-preserved : goal.lines-preserved
lines-preserved g c =
    let i = c.lines.invariant in
    let k = c.read_statement.ensures.goes.0.keeps in
    let passed = rw c.in-Nothing.is at c.in-Ok.ensures.passes in
    record {
      same = c.read_statement.ensures.same ∙ i.same;
      blanks = blank_comes c.in-Ok.statement.end _ _ _ _ _ _ _ _ i.blanks c.lines-test.true k.grows
          (rw c.in-Nothing.is at c.in-Ok.ensures.tells);
      within = λ _. k.within;
      past = part-more _ _ _ i.past c.read_statement.ensures.goes.0 c.in-Ok.ensures.goes.1 (omega (arith, passed));
    }

pub returns-in-Err-clause-answers : goal.returns-in-Err-clause-answers
returns-in-Err-clause-answers g c =
    rw c.line_error.ensures (none_comes c.in-Err.failed _ _ _ _ _ _ _ _ _ c.lines.invariant.blanks
    c.lines-test.true c.read_statement.ensures.goes.0.keeps.grows c.in-Err.ensures.tells)

pub returns-in-Spelled-clause-answers : goal.returns-in-Spelled-clause-answers
returns-in-Spelled-clause-answers g c =
    let n = c.read_statement.new.scanner.held in
    rw c.in-Spelled.is (line_comes (Spelled c.in-Spelled.line) c.in-Ok.statement.end _ _ _ n _ _ _ _
    c.lines.invariant.blanks c.lines-test.true c.read_statement.ensures.goes.0.keeps.grows
    (rw c.in-Spelled.is at c.in-Ok.ensures.tells))

pub returns-in-Misspelt-clause-answers : goal.returns-in-Misspelt-clause-answers
returns-in-Misspelt-clause-answers g c =
    let n = c.read_statement.new.scanner.held in
    bad_comes c.in-Ok.statement.end _ _ _ n _ _ _ _ c.lines.invariant.blanks c.lines-test.true
    c.read_statement.ensures.goes.0.keeps.grows (rw c.in-Misspelt.is at c.in-Ok.ensures.tells)

pub returns-in-HasNegativeHint-clause-answers : goal.returns-in-HasNegativeHint-clause-answers
returns-in-HasNegativeHint-clause-answers g c =
    let n = c.read_statement.new.scanner.held in
    rat_comes c.in-Ok.statement.end _ _ _ n _ _ _ _ c.lines.invariant.blanks c.lines-test.true
    c.read_statement.ensures.goes.0.keeps.grows (rw c.in-HasNegativeHint.is at c.in-Ok.ensures.tells)

pub returns-in-Spelled-clause-passes : goal.returns-in-Spelled-clause-passes
returns-in-Spelled-clause-passes g c =
    let passed = rw c.in-Spelled.is at c.in-Ok.ensures.passes in
    omega (
      arith,
      c.lines.invariant.past.onward,
      c.lines.invariant.past.limit,
      c.read_statement.ensures.goes.0.keeps.limit,
      passed,
    )

pub returns-in-Err-clause-goes : goal.returns-in-Err-clause-goes
returns-in-Err-clause-goes g c = goes_later _ _ _ c.lines.invariant.past c.read_statement.ensures.goes.0

pub returns-in-Spelled-clause-goes : goal.returns-in-Spelled-clause-goes
returns-in-Spelled-clause-goes g c = goes_later _ _ _ c.lines.invariant.past c.read_statement.ensures.goes.0

pub returns-in-Misspelt-clause-goes : goal.returns-in-Misspelt-clause-goes
returns-in-Misspelt-clause-goes g c = goes_later _ _ _ c.lines.invariant.past c.read_statement.ensures.goes.0

pub returns-in-HasNegativeHint-clause-goes : goal.returns-in-HasNegativeHint-clause-goes
returns-in-HasNegativeHint-clause-goes g c = goes_later _ _ _ c.lines.invariant.past c.read_statement.ensures.goes.0

pub returns-in-Spelled-clause-calm : goal.returns-in-Spelled-clause-calm
returns-in-Spelled-clause-calm g c = λ told. c.in-Ok.ensures.goes.1 ∙ c.lines.invariant.past.draws.calm

pub returns-in-Misspelt-clause-calm : goal.returns-in-Misspelt-clause-calm
returns-in-Misspelt-clause-calm g c = λ told. c.in-Ok.ensures.goes.1 ∙ c.lines.invariant.past.draws.calm

pub returns-in-HasNegativeHint-clause-calm : goal.returns-in-HasNegativeHint-clause-calm
returns-in-HasNegativeHint-clause-calm g c = λ told. c.in-Ok.ensures.goes.1 ∙ c.lines.invariant.past.draws.calm

pub returns-in-Err-clause-fault : goal.returns-in-Err-clause-fault
returns-in-Err-clause-fault g c =
    rose_line c.in-Err.failed _ _ _ _ c.line_error.ensures c.lines.invariant.past.draws.calm c.in-Err.ensures.goes.1

pub returns-in-Err-clause-calm : goal.returns-in-Err-clause-calm
returns-in-Err-clause-calm g c =
    calm_line c.in-Err.failed _ _ _ _ c.line_error.ensures c.lines.invariant.past.draws.calm c.in-Err.ensures.goes.1

pub returns-clause-goes : goal.returns-clause-goes
returns-clause-goes g c = goes_here _ _ c.lines.invariant.past c.lines.invariant.within

pub returns-clause-calm : goal.returns-clause-calm
returns-clause-calm g c = λ told. c.lines.invariant.past.draws.calm
