-- the derived literals grow by what is forced
use Rattle.std.proofs.Common.{◌≡◌, ◌≤◌, ◌<◌, ℕ, zero, suc, ◌+◌, Bool, true, false, ◌||◌, List, [], ◌∷◌, ◌++◌, refl, sym, ap, ◌∙◌, subst, arith, slice_index_or, if◌then◌else◌}
use Rattle.std.specs.Option.{option_map}
use Rattle.std.proofs.lemmas.Option.{slice_get-get_or}
use Rattle.gr_logic.specs.Literals.{Literal, same_literal}
use Rattle.gr_logic.specs.Rup.{LiteralSet, members}
use Rattle.gr_logic.specs.Closure.{listed, IsWithin, InClosure}
use Rattle.gr_logic.proofs.Members.{members-push_at}
use Rattle.gr_logic.proofs.Sound.{same_literal-is}
use Rattle.gr_logic.proofs.SameLiteral.{same_literal-itself, or-true}
use Rattle.gr_logic.proofs.Closures.{Forces-within}
use Rattle.gr_unit.specs.Forcing.{IsForcedAt}

-- what a clause of the list forces is derived, where all literals so far are
pub push-least : (cs : List (List Literal)) (given : LiteralSet) (derived : List Literal) (place : ℕ) (l : Literal)
    → ((q : Literal) → members derived q ≡ true → InClosure (listed cs) given q)
    → IsForcedAt cs (members derived) place l
    → (q : Literal) → members (derived ++ l ∷ []) q ≡ true → InClosure (listed cs) given q
push-least cs given derived place l least forced q m set within closed =
    elim (same_literal q l) as (λ b. same_literal q l ≡ b → (b || members derived q) ≡ true → set q ≡ true) [
      | true ↦ λ same _. ap set (same_literal-is q l same) ∙ in-set
      | false ↦ λ _ m. least q m set within closed
    ] refl (sym (members-push_at q derived l) ∙ m)
  where
    clause : List Literal
    clause = slice_index_or cs place []

    in-set : set l ≡ true
    in-set =
        closed place (members clause) l (ap (option_map members) (slice_get-get_or cs place [] forced.0))
        (Forces-within (members derived) set (members clause) l (λ x h. least x h set within closed) forced.1)

pub push-given : (given : LiteralSet) (derived : List Literal) (l : Literal)
    → IsWithin given (members derived) → IsWithin given (members (derived ++ l ∷ []))
push-given given derived l within q g =
    members-push_at q derived l ∙ ap (λ b. same_literal q l || b) (within q g) ∙ or-true (same_literal q l)

-- how many of a clause's literals were not derived
abbrev pub unset_of : List Literal → List Literal → ℕ
unset_of derived [] = 0
unset_of derived (l ∷ ls) = (if members derived l then 0 else 1) + unset_of derived ls

-- and how many of all clauses' literals
abbrev pub unset_in : List Literal → List (List Literal) → ℕ
unset_in derived [] = 0
unset_in derived (c ∷ cs) = unset_of derived c + unset_in derived cs

ones : (s m : Bool) → (if s || m then 0 else 1) ≤ (if m then 0 else 1)
ones true true = omega arith
ones true false = omega arith
ones false true = omega arith
ones false false = omega arith

-- a literal that comes in leaves no more out
clause-less : (c derived : List Literal) (l : Literal) → unset_of (derived ++ l ∷ []) c ≤ unset_of derived c
clause-less [] derived l = omega arith
clause-less (x ∷ xs) derived l =
    rw members-push_at (omega (arith, ones (same_literal x l) (members derived x), clause-less xs derived l))

list-less : (cs : List (List Literal)) (derived : List Literal) (l : Literal)
    → unset_in (derived ++ l ∷ []) cs ≤ unset_in derived cs
list-less [] derived l = omega arith
list-less (c ∷ cs) derived l = omega (arith, clause-less c derived l, list-less cs derived l)

-- and one of the clause's own leaves fewer
clause-fewer : (c derived : List Literal) (l : Literal) → members c l ≡ true → members derived l ≡ false
    → unset_of (derived ++ l ∷ []) c < unset_of derived c
clause-fewer [] derived l m new = absurd (cc)
clause-fewer (x ∷ xs) derived l m new =
    elim (same_literal l x) as (λ b. same_literal l x ≡ b → (b || members xs l) ≡ true
    → unset_of (derived ++ l ∷ []) (x ∷ xs) < unset_of derived (x ∷ xs)) [
      | true ↦ λ same _.
          let is : l ≡ x = same_literal-is l x same in
          let was : members derived x ≡ false = subst (λ y. members derived y ≡ false) is new in
          let now : members (derived ++ l ∷ []) x ≡ true =
          members-push_at x derived l ∙ rw (subst (λ y. same_literal y l ≡ true) is (same_literal-itself l)) refl in
          rw (was, now) (omega (arith, clause-less xs derived l))
      | false ↦ λ _ m.
          rw members-push_at (omega (
            arith,
            ones (same_literal x l) (members derived x),
            clause-fewer xs derived l m new,
          ))
    ] refl m

pub push-fewer : (cs : List (List Literal)) (derived : List Literal) (place : ℕ) (l : Literal)
    → IsForcedAt cs (members derived) place l → members derived l ≡ false
    → unset_in (derived ++ l ∷ []) cs < unset_in derived cs
push-fewer [] derived place l forced new = absurd (omega (arith, forced.0))
push-fewer (c ∷ cs) derived zero l forced new =
    omega (arith, clause-fewer c derived l forced.1.has new, list-less cs derived l)
push-fewer (c ∷ cs) derived (suc place) l forced new =
    omega (arith, clause-less c derived l, push-fewer cs derived place l (omega (arith, forced.0), forced.1) new)
