-- the products fit
use Rattle.std.proofs.Common.{◌*◌, arith}
use Rattle.std.proofs.lemmas.List.Sums.{sum_by-le}
use Rattle.std.proofs.lemmas.Nat.{mul-le}
use Rattle.gr_heur.proofs.restarts.Restart.due.Goals as goal

pub overflow_mul-self-inside : goal.overflow_mul-self-inside
overflow_mul-self-inside c =
    let window = c.self.invariant in
    let short = window.short in
    let most = sum_by-le (λ x. x) 1000000 c.self.inside.window.items window.small in
    let sum_is = window.sum_is in
    omega arith

pub overflow_mul-self-inside-then-held-eq-WINDOW : goal.overflow_mul-self-inside-then-held-eq-WINDOW
overflow_mul-self-inside-then-held-eq-WINDOW c =
    let window = c.self.invariant in
    let short = window.short in
    let most = sum_by-le (λ x. x) 1000000 c.self.inside.window.items window.small in
    let sum_is = window.sum_is in
    let product =
    mul-le (c.self.inside.window_sum * 8) c.self.inside.pushes 400000000 4000000 (omega arith) window.few in
    omega arith
