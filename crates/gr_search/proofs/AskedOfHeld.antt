-- what a solver asks is lawful, new and in time
use Rattle.std.proofs.Common.{◌≡◌, ◌⊎◌, ℕ, suc, ◌<◌, ◌≤◌, ◌+◌, Bool, true, false, ◌||◌, List, [], ◌∷◌, length, Option, Some, None, refl, sym, ap, ◌∙◌, arith, inl, inr, All, AllPairs, IsSome, IsTrue, nat_le, if◌then◌else◌}
use Rattle.std.specs.List.{list_any}
use Rattle.std.specs.Option.{option_map, is_some}
use Rattle.std.specs.Ordering.{eq_by_cmp}
use Rattle.std.proofs.lemmas.Bool.Decides.{nat_tests}
use Rattle.std.proofs.lemmas.List.Elements.{All-head, All-weaker}
use Rattle.std.specs.FinMap as finite
use Rattle.std.specs.FinSet as set
use Rattle.gr_logic.specs.Literals.{Literal}
use Rattle.gr_logic.specs.LiteralSets.{FiniteSet, literal_cmp}
use Rattle.gr_logic.specs.Formulas.{Cnf, VarsUpTo}
use Rattle.gr_logic.specs.NormalForms.{IsTautology, IsNormal}
use Rattle.gr_logic.specs.Rup.{Live, members}
use Rattle.gr_logic.specs.Closure.{IsWithin, family_of}
use Rattle.gr_logic.specs.Truth.{Meets, MeetsAll}
use Rattle.gr_logic.proofs.FiniteSets.{eq_by_cmp-literal}
use Rattle.gr_diary.specs.States.{initial_state}
use Rattle.gr_diary.specs.Rules.{RisesFrom, IsSubclause}
use Rattle.gr_prop.specs.Bases.{BaseClause, Clauses, HasId}
use Rattle.gr_analyze.specs.Learning.{Cites}
use Rattle.gr_search.specs.Searches.{SearchView, HeldClauses, held_family, cited_family}
use Rattle.gr_search.specs.HeldClauses.{held_in, IsUnderOwnId, HoldsFormula}
use Rattle.gr_search.specs.Keeping.{IsProved, IsNewTo, IsModelOf}
use Rattle.gr_search.specs.AskLaws.{IsDerived}
use Rattle.gr_search.specs.Solvers.{IsForgettable}
use Rattle.gr_search.proofs.Holding.{HasOwnPlaces, held-of, of-held}
use Rattle.gr_search.proofs.Tautologies.{never-both, tautology-met}

-- a finite set of literals has the members of its list
any-same : (q : Literal) (ls : List Literal) → list_any (eq_by_cmp literal_cmp q) ls ≡ members ls q
any-same q [] = refl
any-same q (l ∷ ls) = λ i. eq_by_cmp-literal q l i || any-same q ls i

items-members : (s : FiniteSet) → members (set.items s) ≡ set.contains s
items-members s = λ i q. (sym (any-same q (set.items s)) ∙ sym (set.contains-items s q)) i

-- the clauses that may be cited, as lists
abbrev listed_held : HeldClauses → Live
listed_held held id = option_map set.items (finite.get held id)

abbrev lists_of : Cnf → HeldClauses → Live
lists_of f held id =
    if nat_le id (length f.clauses) then finite.get (initial_state f).live id else listed_held held id

lists-held : (o : Option FiniteSet) → option_map members (option_map set.items o) ≡ option_map set.contains o
lists-held None = refl
lists-held (Some s) = ap Some (items-members s)

lists-are : (f : Cnf) (held : HeldClauses) (id : ℕ) → family_of (lists_of f held) id ≡ cited_family f held id
lists-are f held id = by (nat_le id (length f.clauses))
  where
    by : (b : Bool)
        → option_map members (if b then finite.get (initial_state f).live id else listed_held held id)
        ≡ (if b then family_of (finite.get (initial_state f).live) id else held_family held id)
    by true = refl
    by false = lists-held (finite.get held id)

-- the search may cite each clause of the database under its id
pub cited-at : (f : Cnf) (k : Clauses) → HoldsFormula f k → HasOwnPlaces k → (p : ℕ) (c : BaseClause)
    → finite.get k p ≡ Some c
    → cited_family f (held_in (length f.clauses) k) c.id ≡ Some (set.contains c.literals)
cited-at f k holds own p c at = by (nat_le c.id (length f.clauses)) refl
  where
    by : (b : Bool) → nat_le c.id (length f.clauses) ≡ b
        → (if nat_le c.id (length f.clauses) then family_of (finite.get (initial_state f).live) c.id
        else held_family (held_in (length f.clauses) k) c.id) ≡ Some (set.contains c.literals)
    by true low =
        ap (λ b. if b then family_of (finite.get (initial_state f).live) c.id
        else held_family (held_in (length f.clauses) k) c.id) low
        ∙ holds.cited p c at (grind (arith, nat_tests))
    by false high =
        ap (λ b. if b then family_of (finite.get (initial_state f).live) c.id
        else held_family (held_in (length f.clauses) k) c.id) high
        ∙ ap (option_map set.contains)
        (held-of (length f.clauses) k own p c at (grind (arith, nat_tests)))

some-listed : (o : Option (List Literal)) (s : _) → option_map members o ≡ Some s → IsSome o
some-listed None s e = ap is_some e
some-listed (Some c) s e = refl

-- what is proved from the database is derived from what the search may cite
pub derived : (v : SearchView) (k : Clauses) (c : List Literal) (hints : List ℕ) → HoldsFormula v.formula k
    → HasOwnPlaces k → v.held ≡ held_in (length v.formula.clauses) k → IsProved k v.formula.vars c hints
    → IsDerived v c hints
derived v k c hints holds own held proved = record {
  normal = proved.normal;
  within = proved.within;
  lists = lists_of v.formula v.held;
  named = All-weaker (HasId k) (λ id. IsSome (lists_of v.formula v.held id)
      × (family_of (lists_of v.formula v.held) id ≡ cited_family v.formula v.held id))
      (λ id has. (
        some-listed (lists_of v.formula v.held id) (set.contains has.1.0.literals)
            (ap (family_of (lists_of v.formula v.held)) (sym has.1.2) ∙ cites has.0.0 has.1.0 has.1.1),
        lists-are v.formula v.held id,
      )) hints proved.cited;
  accepted = proved.accepted (lists_of v.formula v.held) cites;
}
  where
    cites : Cites (lists_of v.formula v.held) k
    cites p d at =
        lists-are v.formula v.held d.id
        ∙ ap (λ h. cited_family v.formula h d.id) held
        ∙ cited-at v.formula k holds own p d at

-- no clause of the formula is a part of what is new to the database
pub new-to-formula : (f : Cnf) (k : Clauses) (c : List Literal) → HoldsFormula f k → IsNormal c → IsNewTo k c
    → All (λ known. ¬ IsSubclause known c) f.clauses
new-to-formula f k c holds normal new =
    All-weaker (λ d. IsTautology d ⊎ IsUnderOwnId (length f.clauses) k d) (λ known. ¬ IsSubclause known c) each
    f.clauses holds.there
  where
    each : (d : List Literal) → IsTautology d ⊎ IsUnderOwnId (length f.clauses) k d → ¬ IsSubclause d c
    each d (inl t) part = never-both c t.0 normal (part t.0 t.1) (part _ t.2)
    each d (inr u) part =
        let is = ap (option_map (λ (x : BaseClause). set.contains x.literals)) u.there ∙ ap Some u.is in
        new u.place (members d) is part

-- nor is one that is held
pub new-to-held : (last : ℕ) (k : Clauses) (c : List Literal) → IsNewTo k c → (id : ℕ) (known : FiniteSet)
    → finite.get (held_in last k) id ≡ Some known → ¬ IsWithin (set.contains known) (members c)
new-to-held last k c new id known at part =
    let h = of-held last k id known at in
    new h.place (set.contains known)
    (ap (option_map (λ (x : BaseClause). set.contains x.literals)) h.there ∙ ap (λ s. Some (set.contains s)) h.has) part

-- an assignment that satisfies the database satisfies the formula
pub models-formula : (f : Cnf) (k : Clauses) (model : List Bool) → HoldsFormula f k → All (VarsUpTo f.vars) f.clauses
    → IsModelOf k f.vars model → MeetsAll model f.clauses
models-formula f k model holds within is = both f.clauses within holds.there
  where
    one : (c : List Literal) → VarsUpTo f.vars c → IsTautology c ⊎ IsUnderOwnId (length f.clauses) k c
        → Meets model c
    one c known (inl t) = tautology-met model c t
    one c known (inr u) =
        is.meets u.place c (ap (option_map (λ (x : BaseClause). set.contains x.literals)) u.there ∙ ap Some u.is) known

    both : (cs : List (List Literal)) → All (VarsUpTo f.vars) cs
        → All (λ c. IsTautology c ⊎ IsUnderOwnId (length f.clauses) k c) cs → MeetsAll model cs
    both cs a b i d low = one _ (a i d low) (b i d low)

-- ids that rise, each above the one before
rises : (low : ℕ) (ids : List ℕ) → All (λ id. low ≤ id) ids → AllPairs (λ a b. a < b) ids → RisesFrom low ids
rises low [] all pairs = tt
rises low (id ∷ ids) all pairs =
    (All-head (λ x. low ≤ x) id ids all, rises (id + 1) ids (later id ids pairs) (rest id ids pairs))
  where
    later : (x : ℕ) (xs : List ℕ) → AllPairs (λ a b. a < b) (x ∷ xs) → All (λ y. x + 1 ≤ y) xs
    later x xs p = λ j d low.
        let h = p 0 (suc j) d (omega arith) (omega (arith, low)) in omega (arith, h)

    rest : (x : ℕ) (xs : List ℕ) → AllPairs (λ a b. a < b) (x ∷ xs) → AllPairs (λ a b. a < b) xs
    rest x xs p = λ i j d below low. p (suc i) (suc j) d (omega (arith, below)) (omega (arith, low))

pub ids-rise : (ids : List ℕ) → AllPairs (λ a b. a < b) ids → RisesFrom 0 ids
ids-rise ids pairs = rises 0 ids (λ i d low. omega arith) pairs

-- ids that may be let go are held
pub forgettable-held : (last first : ℕ) (k : Clauses) (ids : List ℕ) → HasOwnPlaces k → first ≡ last + 1
    → All (IsForgettable k first) ids → All (λ id. IsTrue (finite.contains_key (held_in last k) id)) ids
forgettable-held last first k ids own is all =
    All-weaker (IsForgettable k first) (λ id. IsTrue (finite.contains_key (held_in last k) id))
    (λ id w.
    let l = w.learnt in
    let e = w.is in
    ap (λ x. is_some (finite.get (held_in last k) x)) (sym e)
    ∙ ap is_some (held-of last k own w.place w.clause w.there (omega (arith, l, e, is)))) ids all
