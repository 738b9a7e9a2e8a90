use Rattle.gr_logic.proofs.Closures.{closure-grows}
use Rattle.gr_logic.proofs.laws.closure_grows.Goals as goal

pub returns : goal.returns
returns c = closure-grows
