use Rattle.gr_heur.proofs.Membership.{put_is_in, put_keeps}
use Rattle.gr_heur.proofs.laws.one_is_put_in.Goals as goal

pub returns : goal.returns
returns c = λ s var order some low. (
  put_is_in s var order some low,
  λ other apart. put_keeps s var other some apart,
)
