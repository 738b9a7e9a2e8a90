-- what is held, and what stays, once something was told
use Rattle.std.proofs.Common.{◌≡◌, ℕ, ◌<◌, ◌+◌, List, [], ◌∷◌, length, Option, Some, None, refl, sym, ap, subst, arith, inl, inr}
use Rattle.std.proofs.lemmas.List.Elements.{All-weaker}
use Rattle.std.specs.FinMap as finite
use Rattle.std.specs.FinSet as set
use Rattle.gr_logic.specs.Literals.{Literal}
use Rattle.gr_logic.specs.Formulas.{Cnf}
use Rattle.gr_prop.specs.Bases.{Clauses, LacksId}
use Rattle.gr_import.specs.Imports.{Leaves}
use Rattle.gr_search.specs.declared.asks.Told.{Told}
use Rattle.gr_search.specs.declared.asks.Told.TheVariants.{Start, Id, Imported, Drained, Forgotten, Closed}
use Rattle.gr_search.specs.declared.solving.Request.{Request}
use Rattle.gr_search.specs.declared.solving.Request.TheVariants.{Nothing, Learning, Deriving, Importing, Forgetting, Done}
use Rattle.gr_search.specs.declared.solving.Solver.{Solver}
use Rattle.gr_search.specs.HeldClauses.{held_in, HoldsFormula}
use Rattle.gr_search.specs.Searches.{HeldClauses}
use Rattle.gr_search.specs.Tellings.{held_with, held_without, held_then, without_id}
use Rattle.gr_search.specs.Solvers.{asked_in, IsReadyFor, IsForgettable, MayBeTold}
use Rattle.gr_search.specs.TakingOver.{IsWith, ClausesWithId, ClausesLeft, ClausesThen}
use Rattle.gr_search.proofs.Holding.{HasOwnPlaces}
use Rattle.gr_search.proofs.HeldChanges.{held-with-clause, held-lacking, left-old, left-own, held-left, held-without-ids}
use Rattle.gr_search.proofs.KnownClauses.{holds-with, holds-left, holds-without}

-- the ids that are told are above this one
abbrev pub IsAbove : ℕ → Told → Type 0
IsAbove last Start = Unit {0}
IsAbove last (Id id) = last < id
IsAbove last (Imported old new c) = (last < new) × ((id : ℕ) → old ≡ Some id → last < id)
IsAbove last Drained = Unit {0}
IsAbove last Forgotten = Unit {0}
IsAbove last Closed = Unit {0}

-- this is held then, and the formula's clauses stay
pub record IsKnown (f : Cnf) (n : Clauses) (h : HeldClauses) : Type 0 where
  pub held : held_in (length f.clauses) n ≡ h
  pub holds : HoldsFormula f n

module _ (f : Cnf) (s : Solver) (n : Clauses) (holds : HoldsFormula f s.base.clauses)
    (own : HasOwnPlaces s.base.clauses) (other : HasOwnPlaces n) where
  by-same : n ≡ s.base.clauses → IsKnown f n (held_in (length f.clauses) s.base.clauses)
  by-same same = record {
    held = ap (held_in (length f.clauses)) same;
    holds = subst (HoldsFormula f) (sym same) holds;
  }

  by-with : (id lbd : ℕ) (c : List Literal) → LacksId s.base.clauses id → length f.clauses < id
      → IsWith s.base.clauses n id lbd c
      → IsKnown f n (finite.insert (held_in (length f.clauses) s.base.clauses) id (set.from_list c))
  by-with id lbd c lacks above with = record {
    held = held-with-clause s.base.clauses n id lbd c with (length f.clauses) own other lacks above;
    holds = holds-with f s.base.clauses n id lbd c holds above with;
  }

  by-id : (r : Request) (id : ℕ) → LacksId s.base.clauses id → length f.clauses < id → ClausesWithId s r id n
      → IsKnown f n (held_with (held_in (length f.clauses) s.base.clauses) (asked_in r s.learnt) id)
  by-id Nothing id lacks above then = absurd then
  by-id (Learning lbd) id lacks above then = by-with id lbd s.learnt lacks above then
  by-id (Deriving lit) id lacks above then = by-with id 1 (lit ∷ []) lacks above then
  by-id Importing id lacks above then = absurd then
  by-id (Forgetting ids) id lacks above then = absurd then
  by-id Done id lacks above then = absurd then

  by-left : (first : s.first_learnt ≡ length f.clauses + 1) (r : Request) → IsReadyFor s r → ClausesLeft s r n
      → IsKnown f n (held_without (held_in (length f.clauses) s.base.clauses) (asked_in r s.learnt))
  by-left first Nothing ready then = absurd then
  by-left first (Learning lbd) ready then = absurd then
  by-left first (Deriving lit) ready then = absurd then
  by-left first Importing ready then = absurd then
  by-left first (Forgetting ids) ready then = record {
    held = held-without-ids s.base.clauses n ids.items own other then (length f.clauses);
    holds = holds-without f s.base.clauses n ids.items holds
        (All-weaker (IsForgettable s.base.clauses s.first_learnt) (λ id. length f.clauses < id)
        (λ id forgettable. let l = forgettable.learnt in omega (arith, l, first)) ids.items ready.each) then;
  }
  by-left first Done ready then = absurd then

  -- a clause comes in for another one
  by-left-with : (left : Clauses) (new lbd : ℕ) (c : List Literal) → HasOwnPlaces left → HoldsFormula f left
      → LacksId left new → length f.clauses < new → IsWith left n new lbd c
      → IsKnown f n (finite.insert (held_in (length f.clauses) left) new (set.from_list c))
  by-left-with left new lbd c proper still lacks above with = record {
    held = held-with-clause left n new lbd c with (length f.clauses) proper other lacks above;
    holds = holds-with f left n new lbd c still above with;
  }

  by-import : (old : Option ℕ) (new : ℕ) (c : List Literal) → LacksId s.base.clauses new → length f.clauses < new
      → ((id : ℕ) → old ≡ Some id → length f.clauses < id) → (left : Clauses) (lbd : ℕ)
      → Leaves s.base.clauses old (length c) left lbd → IsWith left n new lbd c
      → IsKnown f n
      (finite.insert (without_id (held_in (length f.clauses) s.base.clauses) old) new (set.from_list c))
  by-import None new c lacks above high left lbd leaves with =
      by-with new lbd c lacks above (subst (λ k. IsWith k n new lbd c) leaves.0 with)
  by-import (Some id) new c lacks above high left lbd (inl gone) with =
      subst (λ h. IsKnown f n (finite.insert h new (set.from_list c)))
      (held-left s.base.clauses left id (length c) lbd own gone (length f.clauses))
      (by-left-with left new lbd c (left-own s.base.clauses left id (length c) lbd own gone)
      (holds-left f s.base.clauses left id (length c) lbd holds own (high id refl) gone)
      (λ p d at. lacks p d (left-old s.base.clauses left id (length c) lbd own gone p d at)) above with)
  by-import (Some id) new c lacks above high left lbd (inr same) with =
      subst (λ h. IsKnown f n (finite.insert h new (set.from_list c)))
      (held-lacking (length f.clauses) s.base.clauses id same.0)
      (by-with new lbd c lacks above (subst (λ k. IsWith k n new lbd c) same.1.0 with))

  pub taken-over : (told : Told) → s.first_learnt ≡ length f.clauses + 1 → IsReadyFor s s.request → MayBeTold s told
      → IsAbove (length f.clauses) told → ClausesThen s told n
      → IsKnown f n (held_then (held_in (length f.clauses) s.base.clauses) (asked_in s.request s.learnt) told)
  taken-over Start first ready may above then = by-same then
  taken-over (Id id) first ready may above then = by-id s.request id may.1 above then
  taken-over (Imported old new c) first ready may above then =
      by-import old new c may.unused above.0 above.1 then.left then.lbd then.leaves then.added
  taken-over Drained first ready may above then = by-same then
  taken-over Forgotten first ready may above then = by-left first s.request ready then
  taken-over Closed first ready may above then = by-same then
