-- what may be told of a search may be told to its solver
use Rattle.std.proofs.Common.{◌≡◌, ◌≢◌, ℕ, Bool, true, false, ◌||◌, List, [], ◌∷◌, length, take, Option, Some, None, refl, sym, ap, ◌∙◌, subst, arith, All}
use Rattle.std.specs.Option.{is_some}
use Rattle.std.proofs.lemmas.List.{take_all}
use Rattle.std.proofs.lemmas.List.Elements.{All-weaker}
use Rattle.std.specs.FinMap as finite
use Rattle.std.specs.FinSet as set
use Rattle.gr_logic.specs.Literals.{Literal, same_literal}
use Rattle.gr_logic.specs.Formulas.{Cnf, VarsUpTo}
use Rattle.gr_logic.specs.Rup.{members}
use Rattle.gr_logic.specs.declared.places.Place.{Place}
use Rattle.gr_logic.proofs.Sound.{same_literal-is}
use Rattle.gr_logic.proofs.SameLiteral.{same_literal-itself}
use Rattle.gr_trail.specs.Trails.{Assigned}
use Rattle.gr_prop.specs.Bases.{BaseClause, LacksId, HasIdAt}
use Rattle.gr_import.specs.Imports.{MayGo}
use Rattle.gr_search.specs.declared.asks.Told.{Told}
use Rattle.gr_search.specs.declared.asks.Told.TheVariants.{Start, Id, Imported, Drained, Forgotten, Closed}
use Rattle.gr_search.specs.declared.solving.Request.{Request}
use Rattle.gr_search.specs.declared.solving.Request.TheVariants.{Nothing, Learning, Deriving, Importing, Forgetting, Done}
use Rattle.gr_search.specs.declared.solving.Solver.{Solver}
use Rattle.gr_search.specs.Searches as search
use Rattle.gr_search.specs.HeldClauses.{held_in}
use Rattle.gr_search.specs.Keeping.{IsSettled}
use Rattle.gr_search.specs.Tellings.{adds_clause, lets_go, is_open, Answers, IsNewId, MayBeReplaced, HasTwoLiterals}
use Rattle.gr_search.specs.Solvers.{asked_in, IsGrounded, IsReadyFor, AsksForClause, AsksToForget, MayBeTold}
use Rattle.gr_search.specs.SolverViews.{view_of, IsSearching}
use Rattle.gr_search.proofs.Holding.{HasOwnPlaces, same-some, held-of}
use Rattle.gr_search.proofs.TakingOver.{IsAbove}

-- which request is open
asked-nothing : (r : Request) (c : List Literal) → asked_in r c ≡ search.Nothing → r ≡ Nothing
asked-nothing Nothing c e = refl
asked-nothing (Learning lbd) c e = absurd (cc)
asked-nothing (Deriving lit) c e = absurd (cc)
asked-nothing Importing c e = absurd (cc)
asked-nothing (Forgetting ids) c e = absurd (cc)
asked-nothing Done c e = absurd (cc)

asked-importing : (r : Request) (c : List Literal) → asked_in r c ≡ search.Importing → r ≡ Importing
asked-importing Nothing c e = absurd (cc)
asked-importing (Learning lbd) c e = absurd (cc)
asked-importing (Deriving lit) c e = absurd (cc)
asked-importing Importing c e = refl
asked-importing (Forgetting ids) c e = absurd (cc)
asked-importing Done c e = absurd (cc)

asked-clause : (r : Request) (c : List Literal) → adds_clause (asked_in r c) ≡ true → AsksForClause r
asked-clause Nothing c e = absurd (cc)
asked-clause (Learning lbd) c e = tt
asked-clause (Deriving lit) c e = tt
asked-clause Importing c e = absurd (cc)
asked-clause (Forgetting ids) c e = absurd (cc)
asked-clause Done c e = absurd (cc)

asked-forget : (r : Request) (c : List Literal) → lets_go (asked_in r c) ≡ true → AsksToForget r
asked-forget Nothing c e = absurd (cc)
asked-forget (Learning lbd) c e = absurd (cc)
asked-forget (Deriving lit) c e = absurd (cc)
asked-forget Importing c e = absurd (cc)
asked-forget (Forgetting ids) c e = tt
asked-forget Done c e = absurd (cc)

-- nothing can be told to a search that is done
pub not-done : (f : Cnf) (s : Solver) (told : Told) → Answers (view_of f s) told → s.request ≢ Done
not-done f s told answers done = by told answers
  where
    is : asked_in s.request s.learnt ≡ search.Done
    is = ap (λ r. asked_in r s.learnt) done

    by : (t : Told) → Answers (view_of f s) t → ⊥
    by Start a = let e : search.Nothing ≡ search.Done = sym a ∙ is in cc
    by (Id id) a = let e : false ≡ true = ap adds_clause (sym is) ∙ a.0 in cc
    by (Imported old new c) a = let e : search.Importing ≡ search.Done = sym a.0 ∙ is in cc
    by Drained a = let e : search.Importing ≡ search.Done = sym a ∙ is in cc
    by Forgotten a = let e : false ≡ true = ap lets_go (sym is) ∙ a in cc
    by Closed a = let e : false ≡ true = ap is_open (sym is) ∙ a in cc

-- two members of a unit clause are one
one-member : (lit l q : Literal) → members (lit ∷ []) l ≡ true → members (lit ∷ []) q ≡ true
    → same_literal l q ≡ false → ⊥
one-member lit l q a b apart =
    let x : l ≡ lit = same_literal-is l lit (only (same_literal l lit) a) in
    let y : q ≡ lit = same_literal-is q lit (only (same_literal q lit) b) in
    let e : same_literal l q ≡ true = ap (same_literal l) (y ∙ sym x) ∙ same_literal-itself l in
    let w : false ≡ true = sym apart ∙ e in cc
  where
    only : (t : Bool) → (t || false) ≡ true → t ≡ true
    only true e = refl
    only false e = e

module _ (f : Cnf) (s : Solver) (own : HasOwnPlaces s.base.clauses) where
  -- an id that is new to what is held is no clause's
  unused : (id : ℕ) → IsNewId (view_of f s) id → LacksId s.base.clauses id
  unused id new p c at same =
      let held = held-of (length f.clauses) s.base.clauses own p c at
      (let a = new.above in omega (arith, a, same)) in
      let free = new.free in
      let e : is_some (finite.get (held_in (length f.clauses) s.base.clauses) id) ≡ true =
      ap (λ x. is_some (finite.get (held_in (length f.clauses) s.base.clauses) x)) (sym same) ∙ ap is_some held in
      let w : false ≡ true = sym free ∙ e in cc

  -- a clause of two literals is the reason of no literal that is settled
  no-reason : (id : ℕ) → MayBeReplaced (view_of f s) id → (a : Assigned) → IsSettled s.base.clauses a → (p : Place)
      → HasIdAt s.base.clauses id p → a.reason ≢ Some p
  no-reason id may a settled p at reason =
      let place : settled.place ≡ p = same-some settled.place p (sym settled.reason ∙ reason) in
      let is : settled.clause ≡ at.0 = same-some settled.clause at.0
      (sym settled.there ∙ ap (λ (q : Place). finite.get s.base.clauses q.0) place ∙ at.1) in
      let above = may.above in
      let named = at.2 in
      let held = held-of (length f.clauses) s.base.clauses own p.0 at.0 at.1 (omega (arith, above, named)) in
      let two : HasTwoLiterals (set.contains at.0.literals) =
      may.long at.0.literals (ap (finite.get (held_in (length f.clauses) s.base.clauses)) (sym named) ∙ held) in
      let unit : set.contains at.0.literals ≡ members (a.lit ∷ []) =
      ap (λ (d : BaseClause). set.contains d.literals) (sym is) ∙ settled.unit in
      one-member a.lit two.0 two.1 (ap (λ c. c two.0) (sym unit) ∙ two.2) (ap (λ c. c two.1) (sym unit) ∙ two.3) two.4

  unneeded : (searching : IsSearching f s) → IsGrounded s → (old : Option ℕ)
      → ((id : ℕ) → old ≡ Some id → MayBeReplaced (view_of f s) id) → MayGo s.base old
  unneeded searching grounded None may = tt
  unneeded searching grounded (Some id) may = λ p at.
      All-weaker (IsSettled s.base.clauses) (λ a. a.reason ≢ Some p)
      (λ a settled. no-reason id (may id refl) a settled p at) s.base.trail.assigned
      (subst (All (IsSettled s.base.clauses))
      (ap (λ n. take n s.base.trail.assigned) grounded.all
      ∙ take_all (length s.base.trail.assigned) s.base.trail.assigned (omega arith))
      searching.waiting.steady.kept.each)

  pub may-be-told : IsSearching f s → (told : Told) → Answers (view_of f s) told → MayBeTold s told
  may-be-told searching Start a = asked-nothing s.request s.learnt a
  may-be-told searching (Id id) a = (asked-clause s.request s.learnt a.0, unused id a.1)
  may-be-told searching (Imported old new c) a =
      let asked : s.request ≡ Importing = asked-importing s.request s.learnt a.0 in
      record {
        asked = asked;
        normal = a.1.normal;
        within = subst (λ n. VarsUpTo n c) (sym searching.vars) a.1.within;
        unused = unused new a.1.new_id;
        unneeded = unneeded searching (subst (IsReadyFor s) asked searching.waiting.ready) old a.1.replaced;
      }
  may-be-told searching Drained a = asked-importing s.request s.learnt a
  may-be-told searching Forgotten a = asked-forget s.request s.learnt a
  may-be-told searching Closed a = tt

  pub is-above : (told : Told) → Answers (view_of f s) told → IsAbove (length f.clauses) told
  is-above Start a = tt
  is-above (Id id) a = a.1.above
  is-above (Imported old new c) a = (a.1.new_id.above, λ id is. (a.1.replaced id is).above)
  is-above Drained a = tt
  is-above Forgotten a = tt
  is-above Closed a = tt
