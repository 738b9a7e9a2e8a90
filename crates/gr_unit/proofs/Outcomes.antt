-- greedy strengthening by a list of clauses has an outcome, since its closures can be listed
use Rattle.std.proofs.Common.{◌≡◌, ◌≤◌, ◌<◌, ◌⊎◌, ℕ, zero, suc, Bool, true, false, List, [], ◌∷◌, ◌++◌, map, inl, inr, refl, arith, All}
use Rattle.gr_logic.specs.Literals.{Literal, negation}
use Rattle.gr_logic.specs.Rup.{members}
use Rattle.gr_logic.specs.Closure.{listed, IsWithin, InClosure}
use Rattle.gr_logic.specs.Greedy.{WalkKeeps}
use Rattle.gr_unit.specs.Closing.{IsClosureOf, is_conflict_of}
use Rattle.gr_unit.specs.Forcing.{HasForced}
use Rattle.gr_unit.specs.GreedyLaws.{GreedyHasAnOutcome}
use Rattle.gr_unit.proofs.Forced.{closed-list}
use Rattle.gr_unit.proofs.Growing.{push-least, push-given, unset_in, push-fewer}
use Rattle.gr_unit.proofs.Missing.{NewAt, new-among}
use Rattle.gr_unit.proofs.Verdicts.{conflicting, quiet, absent}

-- the derived literals are within the closure
abbrev AreLeast : List (List Literal) → List Literal → List Literal → Type 0
AreLeast cs given derived = (q : Literal) → members derived q ≡ true → InClosure (listed cs) (members given) q

-- where the clauses have what they force, the derived literals are the closure
closed : (cs : List (List Literal)) (given derived : List Literal) → IsWithin (members given) (members derived)
    → AreLeast cs given derived → All (HasForced (members derived)) cs → IsClosureOf cs given derived
closed cs given derived within least all l =
    (least l, λ inside. inside (members derived) within (closed-list cs (members derived) all))

-- what is new is derived until nothing is: each step leaves fewer literals of the clauses out
close : (cs : List (List Literal)) (given : List Literal) (n : ℕ) (derived : List Literal)
    → unset_in derived cs ≤ n → IsWithin (members given) (members derived) → AreLeast cs given derived
    → (closure : List Literal) × IsClosureOf cs given closure
close cs given zero derived few within least = at (new-among cs (members derived))
  where
    at : NewAt cs (members derived) ⊎ All (HasForced (members derived)) cs
        → (closure : List Literal) × IsClosureOf cs given closure
    at (inr all) = (derived, closed cs given derived within least all)
    at (inl new) =
        let fewer = push-fewer cs derived new.0 new.1.0 new.1.1.1 new.1.1.0 in absurd (omega (arith, fewer, few))
close cs given (suc n) derived few within least =
    at (new-among cs (members derived)) (λ l. close cs given n (derived ++ l ∷ []))
  where
    at : NewAt cs (members derived) ⊎ All (HasForced (members derived)) cs
        → ((l : Literal) → unset_in (derived ++ l ∷ []) cs ≤ n → IsWithin (members given) (members (derived ++ l ∷ []))
        → AreLeast cs given (derived ++ l ∷ []) → (closure : List Literal) × IsClosureOf cs given closure)
        → (closure : List Literal) × IsClosureOf cs given closure
    at (inr all) next = (derived, closed cs given derived within least all)
    at (inl new) next =
        let fewer = push-fewer cs derived new.0 new.1.0 new.1.1.1 new.1.1.0 in
        next new.1.0 (omega (arith, fewer, few)) (push-given (members given) derived new.1.0 within)
        (push-least cs (members given) derived new.0 new.1.0 least new.1.1.1)

closure-of : (cs : List (List Literal)) (given : List Literal) → (closure : List Literal) × IsClosureOf cs given closure
closure-of cs given =
    close cs given (unset_in given cs) given (omega arith) (λ l m. m) (λ q m set within closed. within q m)

walk-ends : (cs : List (List Literal)) (rest kept : List Literal)
    → (outcome : List Literal) × WalkKeeps (listed cs) kept rest outcome
walk-ends cs [] kept = (kept, refl)
walk-ends cs (l ∷ rest) kept =
    let closure = closure-of cs (map negation kept) in
    at closure.0 closure.1 (is_conflict_of cs closure.0) (members closure.0 (negation l)) (members closure.0 l)
    refl refl refl (walk-ends cs rest kept) (walk-ends cs rest (kept ++ l ∷ []))
  where
    at : (d : List Literal) → IsClosureOf cs (map negation kept) d → (conflict fails holds : Bool)
        → is_conflict_of cs d ≡ conflict → members d (negation l) ≡ fails → members d l ≡ holds
        → (outcome : List Literal) × WalkKeeps (listed cs) kept rest outcome
        → (outcome : List Literal) × WalkKeeps (listed cs) (kept ++ l ∷ []) rest outcome
        → (outcome : List Literal) × WalkKeeps (listed cs) kept (l ∷ rest) outcome
    at d closure true fails holds e f h without with =
        (kept, inl (conflicting cs kept d closure e, refl))
    at d closure false true holds e f h without with =
        (without.0, inr (quiet cs kept d closure e, inl ((closure (negation l)).0 f, without.1)))
    at d closure false false true e f h without with =
        (kept ++ l ∷ [], inr (quiet cs kept d closure e, inr (inl ((closure l).0 h, refl))))
    at d closure false false false e f h without with = (
      with.0,
      inr (
        quiet cs kept d closure e,
        inr (inr (absent cs kept d (negation l) closure f, absent cs kept d l closure h, with.1)),
      ),
    )

pub greedy-ends : GreedyHasAnOutcome
greedy-ends cs c = walk-ends cs c []
