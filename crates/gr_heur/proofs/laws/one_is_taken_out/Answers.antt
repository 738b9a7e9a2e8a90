use Rattle.gr_heur.proofs.Membership.{taken_is_out, taking_keeps}
use Rattle.gr_heur.proofs.laws.one_is_taken_out.Goals as goal

pub returns : goal.returns
returns c = λ s var order some low. (
  taken_is_out s var order some low,
  λ other apart. taking_keeps s var other some apart,
)
