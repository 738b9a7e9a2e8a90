use Rattle.gr_dimacs.specs.Tokens.{tokens_of, ending_of}
use Rattle.gr_dimacs.proofs.Header.{no-fault-spells, spells-no-fault}
use Rattle.gr_dimacs.proofs.laws.fault_is_exact.Goals as goal

pub returns : goal.returns
returns c = λ limits text. (
  λ h. let some =
      no-fault-spells (tokens_of limits.bytes text) limits (ending_of limits.bytes text) h in
      (some.formula, some.spells, some.within),
  λ s. spells-no-fault (tokens_of limits.bytes text) limits (ending_of limits.bytes text) s.0 s.1
      s.2,
)
