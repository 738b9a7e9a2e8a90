-- clauses by their places
use Rattle.std.proofs.Common.{◌≡◌, ℕ, List, Option, Some, None, refl, sym, ap, ◌∙◌, subst}
use Rattle.std.specs.Prelude.{IsSome}
use Rattle.std.specs.Option.{option_map, unwrap_or, is_some}
use Rattle.std.specs.Ordering.{nat_cmp}
use Rattle.std.specs.FinMap as finite
use Rattle.gr_logic.specs.Literals.{Literal}
use Rattle.gr_logic.specs.Rup.{LiteralSet, members}
use Rattle.gr_logic.specs.Closure.{Forces}
use Rattle.gr_logic.specs.declared.places.Place.{Place}
use Rattle.gr_arena.specs.Arenas.{Stored, ArenaState, Has, at, no_clause}
use Rattle.gr_prop.proofs.Stores.{family-at, family-some, get-clauses_in, some-is}
use Rattle.gr_prop.specs.Bases.{base_clause, clauses_in, family, Clauses, IsFoundedBy}

-- where the clauses have a place, so has the arena that they are those of, with these literals
pub stored-there : (k : finite.FinMap nat_cmp Stored) (clauses : Clauses) (q : ℕ) (c : LiteralSet)
    → clauses_in k ≡ clauses → family clauses q ≡ Some c
    → (s : Stored) × ((finite.get k q ≡ Some s) × (members s.lits ≡ c))
stored-there k clauses q c is there = go (finite.get k q) (sym (family-at k q) ∙ ap (λ x. family x q) is ∙ there)
  where
    go : (o : Option Stored) → option_map (λ (s : Stored). members s.lits) o ≡ Some c
        → (s : Stored) × ((o ≡ Some s) × (members s.lits ≡ c))
    go (Some s) e = (s, (refl, ap (λ (x : Option LiteralSet). unwrap_or x c) e))
    go None e = absurd (cc)

-- a place of the clauses is one of the arena
pub some-stored : (k : finite.FinMap nat_cmp Stored) (clauses : Clauses) (q : ℕ) → clauses_in k ≡ clauses
    → IsSome (finite.get clauses q) → IsSome (finite.get k q)
some-stored k clauses q is there = go (finite.get k q) (subst (λ x. IsSome (finite.get x q)) (sym is) there) refl
  where
    go : (o : Option Stored) → IsSome (finite.get (clauses_in k) q) → finite.get k q ≡ o → IsSome (finite.get k q)
    go (Some s) h e = ap is_some e
    go None h e = absurd (let f = get-clauses_in k q ∙ ap (option_map base_clause) e in let g = ap is_some f in cc)

-- its literals are what the arena lends
pub family-stored : (k : finite.FinMap nat_cmp Stored) (clauses : Clauses) (q : ℕ) (lits : List Literal)
    → clauses_in k ≡ clauses → IsSome (finite.get clauses q) → lits ≡ (unwrap_or (finite.get k q) no_clause).lits
    → family clauses q ≡ Some (members lits)
family-stored k clauses q lits is there told =
    sym (ap (λ x. family x q) is) ∙ family-at k q ∙ go (finite.get k q) (some-stored k clauses q is there)
    ∙ ap (λ c. Some (members c)) (sym told)
  where
    go : (o : Option Stored) → IsSome o → option_map (λ (s : Stored). members s.lits) o ≡ Some
        (members (unwrap_or o no_clause).lits)
    go None h = absurd (cc)
    go (Some s) h = refl

-- where each clause of the arena has such literals, the lent ones are such
pub known-stored : (P : List Literal → Type 0) (k : finite.FinMap nat_cmp Stored) (clauses : Clauses) (q : ℕ)
    (lits : List Literal) → clauses_in k ≡ clauses → IsSome (finite.get clauses q)
    → lits ≡ (unwrap_or (finite.get k q) no_clause).lits
    → ((p : ℕ) (s : Stored) → finite.get k p ≡ Some s → P s.lits) → P lits
known-stored P k clauses q lits is there told each =
    subst P (sym told) (go (finite.get k q) (some-stored k clauses q is there) refl)
  where
    go : (o : Option Stored) → IsSome o → finite.get k q ≡ o → P (unwrap_or o no_clause).lits
    go None h e = absurd (cc)
    go (Some s) h e = each q s e

-- what is known of each clause of the arena is known of the one at a place
pub stored-each : (arena : ArenaState) (place : Place) (P : List Literal → Type 0)
    → ((p : ℕ) (s : Stored) → finite.get arena.clauses p ≡ Some s → P s.lits)
    → Has arena place → P (at arena place).lits
stored-each arena place P each has = each place.0 (at arena place)
    (some-is arena.clauses place.0 has)

-- a reason is a clause of the arena, and forces its literal
pub reason-stored : (arena : ArenaState) (before : LiteralSet) (l : Literal) (place : Place)
    → IsFoundedBy (family (clauses_in arena.clauses)) before l (Some place)
    → Has arena place × Forces before (members (at arena place).lits) l
reason-stored arena before l place f =
    let s = family-some arena.clauses place.0 f.0 f.1.0 in
    (s.0, subst (λ c. Forces before c l) (sym s.1) f.1.1)
