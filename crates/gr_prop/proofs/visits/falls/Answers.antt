-- a literal whose negation is true is not true
use Rattle.std.proofs.Common.{◌≡◌, Bool, true, false, not, Option, Some, None, refl, sym, ◌∙◌, if◌then◌else◌}
use Rattle.gr_logic.specs.Literals.{negation}
use Rattle.gr_trail.specs.Trails.{true_in}
use Rattle.gr_trail.proofs.Standing.{not-both}
use Rattle.gr_prop.proofs.visits.falls.Goals as goal

-- what the value says of the negation, where not both are true
abbrev told : Bool → Bool → Option Bool
told a b = if a then Some true else (if b then Some false else None)

valued : (a b v : Bool) → (b ≡ true → a ≡ false) → told a b ≡ Some v → not v ≡ b
valued true true v apart e = let f = apart refl in absurd (cc)
valued true false true apart e = refl
valued true false false apart e = absurd (cc)
valued false true true apart e = absurd (cc)
valued false true false apart e = refl
valued false false v apart e = absurd (cc)

unvalued : (a b : Bool) → told a b ≡ None → false ≡ b
unvalued true b e = absurd (cc)
unvalued false true e = absurd (cc)
unvalued false false e = refl

pub returns-in-Some : goal.returns-in-Some
returns-in-Some c =
    valued (true_in c.args.trail.now.assigned c.args.lit) (true_in c.args.trail.now.assigned (negation c.args.lit))
    c.in-Some.value (not-both c.args.trail.now c.args.lit c.depth-depth.ensures.trail)
    (sym c.value.ensures ∙ c.in-Some.is)

pub returns-in-None : goal.returns-in-None
returns-in-None c =
    unvalued (true_in c.args.trail.now.assigned c.args.lit) (true_in c.args.trail.now.assigned (negation c.args.lit))
    (sym c.value.ensures ∙ c.in-None.is)
