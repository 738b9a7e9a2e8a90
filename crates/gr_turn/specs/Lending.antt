-- what a turn lends
use Rattle.std.specs.Borrow.{Lends, MutBor, Fml}
use denote.RattleType.{RattleType}
use Rattle.gr_turn.specs.declared.locks.Held.{Held}
use Rattle.gr_turn.specs.contracts.locks.Held.{the_row}

-- what is written through the reference is the value
abbrev pub LendsValue : (R S P : RattleType)
    → MutBor (Held R.Denot S.Denot P.Denot) → MutBor R.Denot → Fml
LendsValue R S P held lent = Lends (the_row R S P) R held lent (λ w. record { value = w })
