-- the window slides, and the sums follow
use Rattle.std.proofs.Common.{◌≡◌, ◌<◌, ◌++◌, ◌∷◌, [], length, ap, ◌∙◌, rules, arith}
use Rattle.std.specs.Prelude.{slice_get, None, unwrap_or, if◌then◌else◌, nat_lt}
use Rattle.std.proofs.lemmas.List.Sums.{sum_by-le}
use Rattle.circular_buffer.specs.Buffer.{keep_last, buffer}
use Rattle.gr_heur.proofs.Sliding.{slid, still_short, still_small, pushed_out}
use Rattle.gr_heur.proofs.restarts.Restart.push.Goals as goal

pub overflow_add-self : goal.overflow_add-self
overflow_add-self c =
    let window = c.self.invariant in
    let most = sum_by-le (λ x. x) 1000000 c.self.inside.window.items window.small in
    let sum_is = window.sum_is in
    let short = window.short in
    let small = c.requires.small in
    omega arith

pub invariant_of-self : goal.invariant_of-self
invariant_of-self c =
    let before = c.self.inside.window.items in
    let lbd = c.args.lbd in
    let window = c.self.invariant in
    let now : c.push_back.new.self ≡ buffer (keep_last 50 (before ++ lbd ∷ [])) 50 =
    rw window.capacity at c.push_back.ensures.items in
    let items : c.push_back.new.self.items ≡ keep_last 50 (before ++ lbd ∷ []) = ap (λ b. b.items) now in
    let handed : c.push_back.result
    ≡ (if nat_lt (length before) 50 then None else slice_get (before ++ lbd ∷ []) 0) =
    rw window.capacity at c.push_back.ensures.value in
    let out : c.unwrap_or-oldest.result ≡ pushed_out before lbd =
    c.unwrap_or-oldest.ensures ∙ ap (λ r. unwrap_or r 0) handed in
    let sums = slid before lbd window.short in
    let sum_is = window.sum_is in
    let few : c.self.inside.pushes < 4000000 = search (rules, c.requires.few, c.self.view_is) in
    let small = c.requires.small in
    let bounded = window.bounded in
    record {
      capacity = ap (λ b. b.capacity) now;
      sum_is = rw items (omega arith);
      short = rw items (still_short before lbd window.short);
      small = rw items (still_small 1000000 before lbd window.small small);
      few = omega arith;
      bounded = omega arith;
    }
