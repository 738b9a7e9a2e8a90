-- who is in after one variable was put in or taken out
use Rattle.std.proofs.Common.{◌≡◌, ◌≢◌, ◌↔◌, ℕ, ◌-◌, ◌≤◌, Bool, true, false, List, set, sym, ◌∙◌, arith, get_or-set_same, get_or-set_other}
use Rattle.std.specs.Prelude.{slice_index_or, Some}
use Rattle.std.proofs.lemmas.Bool.{false≢true}
use Rattle.gr_heur.specs.Orders.{OrderState, IsOrder, IsIn, put_in, without}

-- one variable's presence says nothing of another's
others_stay : (present : List Bool) (var other : ℕ) (b : Bool) → 1 ≤ var → other ≢ var
    → ((1 ≤ other) × (slice_index_or (set present (var - 1) b) (other - 1) false ≡ true))
    ↔ ((1 ≤ other) × (slice_index_or present (other - 1) false ≡ true))
others_stay present var other b some apart = (
  λ now. (
    now.0,
    sym (get_or-set_other present (var - 1) (other - 1) b false
        (let low = now.0 in omega (arith, low, some, apart))) ∙ now.1,
  ),
  λ was. (
    was.0,
    get_or-set_other present (var - 1) (other - 1) b false
        (let low = was.0 in omega (arith, low, some, apart)) ∙ was.1,
  ),
)

pub put_is_in : (s : OrderState) (var : ℕ) → IsOrder s → 1 ≤ var → var ≤ s.vars → IsIn (put_in s var) var
put_is_in s var order some low =
    (some, get_or-set_same s.present (var - 1) true false (omega (arith, some, low, order.each_known)))

pub put_keeps : (s : OrderState) (var other : ℕ) → 1 ≤ var → other ≢ var → IsIn (put_in s var) other ↔ IsIn s other
put_keeps s var other some apart = others_stay s.present var other true some apart

pub taken_is_out : (s : OrderState) (var : ℕ) → IsOrder s → 1 ≤ var → var ≤ s.vars
    → ¬ IsIn (without s (Some var)) var
taken_is_out s var order some low is_in = false≢true (sym (get_or-set_same s.present (var - 1) false false
    (omega (arith, some, low, order.each_known))) ∙ is_in.1)

pub taking_keeps : (s : OrderState) (var other : ℕ) → 1 ≤ var → other ≢ var
    → IsIn (without s (Some var)) other ↔ IsIn s other
taking_keeps s var other some apart = others_stay s.present var other false some apart
