-- a view of a formula owns nothing, so it may go to any thread
use denote.Param.Send.{IsSend, view_send, owning_send}
use Rattle.gr_bench.specs.contracts.formula_views.FormulaView.{the_row}
use Rattle.gr_bench.specs.contracts.formula_views.FormulaView.TheInside as inside

pub send : IsSend the_row
send = view_send inside.the_row _ _ _ _ (owning_send inside.the_type tt (λ d. tt) (λ k x w. tt))
