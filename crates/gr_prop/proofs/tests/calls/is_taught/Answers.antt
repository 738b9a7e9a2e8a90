-- a literal that is false was assigned to its variable
use Rattle.std.proofs.Common.{◌≡◌, Bool, true, false, ◌&&◌, ◌||◌, List, [], ◌∷◌, Some, None, IsSome, refl, sym, ap, ◌∙◌, arith, nat_eq, if◌then◌else◌, cond}
use Rattle.std.specs.List.{find}
use Rattle.std.proofs.lemmas.Bool.Decides.{nat_tests}
use Rattle.gr_logic.specs.Literals.{Literal, negation, same_literal, same_sign, var_of}
use Rattle.gr_trail.specs.Trails.{Assigned, true_in, assigned_to}
use Rattle.gr_prop.proofs.tests.calls.is_taught.Goals as goal

-- a variable whose literal is true was assigned
true-assigned : (xs : List Assigned) (l : Literal) → true_in xs l ≡ true → IsSome (assigned_to xs (var_of l))
true-assigned [] l now = absurd (cc)
true-assigned (x ∷ xs) l now =
    elim (nat_eq (var_of x.lit) (var_of l)) as (λ e. nat_eq (var_of x.lit) (var_of l) ≡ e
    → IsSome (cond e (Some x) (find (λ a. nat_eq (var_of a.lit) (var_of l)) xs))) [
      | true ↦ λ same. refl
      | false ↦ λ apart.
          true-assigned xs l (later (same_literal l x.lit) (true_in xs l) (not-here l x.lit apart) now)
    ] refl
  where
    not-here : (l y : Literal) → nat_eq (var_of y) (var_of l) ≡ false → same_literal l y ≡ false
    not-here l y apart = let e : nat_eq l.index y.index ≡ false = grind (arith, nat_tests) in ap
        (λ t. t && same_sign l.positive y.positive) e

    later : (a b : Bool) → a ≡ false → (a || b) ≡ true → b ≡ true
    later true b gone now = absurd (cc)
    later false b gone now = now

-- where a literal is false, its negation is true
false-negation : (a b : Bool) → (if a then Some true else (if b then Some false else None)) ≡ Some false → b ≡ true
false-negation true b is = absurd (cc)
false-negation false true is = refl
false-negation false false is = absurd (cc)

pub level-requires : goal.level-requires
level-requires c =
    let second : Literal = c.args.second in
    let assigned : List Assigned = c.args.trail.now.assigned in
    rw c.var.ensures.number
    (true-assigned assigned (negation second) (false-negation (true_in assigned second)
    (true_in assigned (negation second)) (sym c.in-Some-false.ensures ∙ ap Some c.in-Some-false.field-0-test)))
