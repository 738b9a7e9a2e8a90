-- a reason in the implication graph, and what stands before its literal
use Rattle.std.proofs.Common.{◌≡◌, ℕ, zero, suc, Bool, true, false, ◌||◌, List, [], ◌∷◌, take, Some, refl, sym, ap, ◌∙◌, subst}
use Rattle.std.specs.Prelude.{slice_get}
use Rattle.gr_logic.specs.Literals.{Literal, negation, same_literal}
use Rattle.gr_logic.specs.Rup.{LiteralSet, with_literal}
use Rattle.gr_logic.specs.Closure.{no_literals, Forces}
use Rattle.gr_logic.specs.declared.places.Place.{Place}
use Rattle.gr_logic.proofs.Closures.{Forces-within}
use Rattle.gr_arena.specs.Arenas.{ArenaState, Has}
use Rattle.gr_trail.specs.Trails.{Assigned, true_in}
use Rattle.gr_hints.specs.Gathering.{literals_at}
use Rattle.gr_hints.specs.Graphs.{IsReasoned, AreReasoned}

same : {A : Type 0} (x y : A) → Some x ≡ Some y → x ≡ y
same x y e = cc

-- a reason forces its literal from the literals before it
pub reasoned-at : (arena : ArenaState) (before : LiteralSet) (xs : List Assigned) (place : ℕ)
    (a : Assigned) (r : Place) → AreReasoned arena before xs → slice_get xs place ≡ Some a → a.reason ≡ Some r
    → Has arena r × Forces (λ q. true_in (take place xs) q || before q) (literals_at arena r) a.lit
reasoned-at arena before [] place a r reasoned at is = absurd (cc)
reasoned-at arena before (x ∷ xs) zero a r reasoned at is =
    let e = same x a at in
    let reason : x.reason ≡ Some r = ap (λ (y : Assigned). y.reason) e ∙ is in
    let here = subst (IsReasoned arena before x.lit) reason reasoned.0 in
    (here.0, subst (λ (y : Assigned). Forces before (literals_at arena r) y.lit) e here.1)
reasoned-at arena before (x ∷ xs) (suc place) a r reasoned at is =
    let rest = reasoned-at arena (with_literal before x.lit) xs place a r reasoned.1 at is in (
      rest.0,
      Forces-within (λ q. true_in (take place xs) q || with_literal before x.lit q)
          (λ q. true_in (take (suc place) (x ∷ xs)) q || before q) (literals_at arena r) a.lit
          (λ q e. turn (same_literal q x.lit) (true_in (take place xs) q) (before q) e) rest.1,
    )
  where
    turn : (a b c : Bool) → (b || (a || c)) ≡ true → ((a || b) || c) ≡ true
    turn true b c e = refl
    turn false b c e = e

none-or : (b : Bool) → (b || false) ≡ b
none-or true = refl
none-or false = refl

-- the other literals of a reason are false by what stands before
pub reason-others : (arena : ArenaState) (xs : List Assigned) (place : ℕ) (a : Assigned) (r : Place)
    → AreReasoned arena no_literals xs → slice_get xs place ≡ Some a → a.reason ≡ Some r
    → (q : Literal) → literals_at arena r q ≡ true → same_literal q a.lit ≡ false
    → true_in (take place xs) (negation q) ≡ true
reason-others arena xs place a r reasoned at is q has apart =
    sym (none-or (true_in (take place xs) (negation q)))
    ∙ (reasoned-at arena no_literals xs place a r reasoned at is).1.others q has apart

-- a literal of the first ones is one of all
pub take-true : (xs : List Assigned) (n : ℕ) (q : Literal) → true_in (take n xs) q ≡ true
    → true_in xs q ≡ true
take-true [] zero q e = e
take-true [] (suc n) q e = e
take-true (x ∷ xs) zero q e = absurd (cc)
take-true (x ∷ xs) (suc n) q e = go (same_literal q x.lit) e (take-true xs n q)
  where
    go : (b : Bool) → (b || true_in (take n xs) q) ≡ true
        → (true_in (take n xs) q ≡ true → true_in xs q ≡ true)
        → (b || true_in xs q) ≡ true
    go true e f = refl
    go false e f = f e
