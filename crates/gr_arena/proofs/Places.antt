-- what is at a place after a call, for callers
use Rattle.std.specs.Prelude.{◌≡◌, ◌≢◌, ℕ, Bool, true, false, Option, Some, None, IsSome, is_some, nat_eq, refl, cond}
use Rattle.std.proofs.Common.{ap, sym, ◌∙◌}
use Rattle.std.proofs.lemmas.Bool.{eq-eqb, ne_eqb}
use Rattle.std.specs.Ordering.{nat_cmp}
use Rattle.std.specs.Cmp.{nat_cmp_total, unsigned_tied}
use Rattle.std.specs.FinMap as map'
use Rattle.gr_arena.specs.Arenas.{Stored}

abbrev pub Clauses : Type 0
Clauses = map'.FinMap nat_cmp Stored

inserted : (m : Clauses) (k : ℕ) (s : Stored) (q : ℕ)
    → map'.get (map'.insert m k s) q ≡ cond (nat_eq q k) (Some s) (map'.get m q)
inserted m k s q =
    map'.get-insert nat_cmp_total m k s q ∙ ap (λ t. cond t (Some s) (map'.get m q)) (unsigned_tied q k)

-- the place has the clause that it was given
pub own : (m n : Clauses) (k : ℕ) (s : Stored) → n ≡ map'.insert m k s → map'.get n k ≡ Some s
own m n k s is =
    ap (λ z. map'.get z k) is ∙ inserted m k s k ∙ ap (λ t. cond t (Some s) (map'.get m k)) (eq-eqb k k refl)

either : (t : Bool) (s : Stored) (o : Option Stored) → IsSome o → IsSome (cond t (Some s) o)
either true s o h = refl
either false s o h = h

-- a place keeps a clause
pub still : (m n : Clauses) (k : ℕ) (s : Stored) (q : ℕ)
    → n ≡ map'.insert m k s → IsSome (map'.get m q) → IsSome (map'.get n q)
still m n k s q is h =
    ap (λ z. is_some (map'.get z q)) is ∙ ap is_some (inserted m k s q) ∙ either (nat_eq q k) s (map'.get m q) h

-- a place keeps its clause where another's is removed
pub spared : (m n : Clauses) (k q : ℕ) → n ≡ map'.remove m k → q ≢ k → map'.get n q ≡ map'.get m q
spared m n k q is other =
    ap (λ z. map'.get z q) is ∙ map'.get-remove nat_cmp_total m k q
    ∙ ap (λ t. cond t None (map'.get m q)) (unsigned_tied q k ∙ ne_eqb q k other)

-- a place that had no clause is not one that had
pub differ : (m : Clauses) (k q : ℕ) → map'.get m q ≡ None → IsSome (map'.get m k) → q ≢ k
differ m k q none h same =
    absurd (none_some (sym (ap is_some none) ∙ ap (λ p. is_some (map'.get m p)) same ∙ h))
  where
    none_some : is_some {T = Stored} None ≡ true → ⊥
    none_some e = cc
