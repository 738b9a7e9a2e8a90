-- how a search ends
use Rattle.std.proofs.Common.{◌≡◌, ◌≢◌, ℕ, ◌+◌, Bool, true, false, List, [], ◌∷◌, Some, None, refl, sym, ap, ◌∙◌, subst, arith, inl, inr, All, nat_eq, if◌then◌else◌}
use Rattle.std.specs.Option.{is_some}
use Rattle.std.proofs.lemmas.Bool.Decides.{nat_tests}
use Rattle.gr_logic.specs.Literals.{Literal}
use Rattle.gr_logic.specs.Formulas.{Cnf, VarsUpTo}
use Rattle.gr_search.specs.declared.asks.Ask.{Ask}
use Rattle.gr_search.specs.declared.asks.Ask.TheVariants.{Done}
use Rattle.gr_search.specs.declared.asks.Ask.TheVariants as ask
use Rattle.gr_search.specs.declared.asks.Found.{Found}
use Rattle.gr_search.specs.declared.asks.Found.TheVariants.{Model, Refuted, Spent}
use Rattle.gr_search.specs.declared.asks.Told.{Told}
use Rattle.gr_search.specs.declared.asks.Told.TheVariants.{Start, Id, Imported, Drained, Forgotten, Closed}
use Rattle.gr_search.specs.declared.solving.Request.{Request}
use Rattle.gr_search.specs.declared.solving.Request.TheVariants as request
use Rattle.gr_search.specs.declared.solving.Solver.{Solver}
use Rattle.gr_search.specs.Searches.{Asked}
use Rattle.gr_search.specs.Searches as search
use Rattle.gr_search.specs.Tellings.{tally_with, tally_then}
use Rattle.gr_search.specs.Turns.{IsLearning, IsRefuted, IsSpent, EndsRightly}
use Rattle.gr_search.specs.HeldClauses.{HoldsFormula}
use Rattle.gr_search.specs.Keeping.{IsModelOf}
use Rattle.gr_search.specs.Solvers.{asked_in}
use Rattle.gr_search.specs.TakingOver.{ended_by_clause, ended_by_id, ended_by}
use Rattle.gr_search.specs.SolverTurns.{IsAsking, HasGoneOn, HasEnded}
use Rattle.gr_search.specs.SolverViews.{view_of}
use Rattle.gr_search.proofs.Holding.{same-some}
use Rattle.gr_search.proofs.AskedOfHeld.{models-formula}

-- how a search ends once a learnt clause got its id
clause-refuted : (n limit : ℕ) (c : List Literal) → ended_by_clause n limit c ≡ Some Refuted → c ≡ []
clause-refuted n limit [] e = refl
clause-refuted n limit (l ∷ ls) e = absurd (by (nat_eq (n + 1) limit) e)
  where
    by : (b : Bool) → (if b then Some Spent else None) ≡ Some Refuted → ⊥
    by true e = let f : Spent ≡ Refuted = same-some Spent Refuted e in cc
    by false e = let f : false ≡ true = ap is_some e in cc

clause-spent : (n limit : ℕ) (c : List Literal) → ended_by_clause n limit c ≡ Some Spent → (c ≢ []) × (n + 1 ≡ limit)
clause-spent n limit [] e = absurd (let f : Refuted ≡ Spent = same-some Refuted Spent e in cc)
clause-spent n limit (l ∷ ls) e = ((λ is. cc), by (nat_eq (n + 1) limit) refl e)
  where
    by : (b : Bool) → nat_eq (n + 1) limit ≡ b → (if b then Some Spent else None) ≡ Some Spent → n + 1 ≡ limit
    by true is e = grind (arith, nat_tests)
    by false is e = absurd (let f : false ≡ true = ap is_some e in cc)

clause-model : (n limit : ℕ) (c : List Literal) (m : List Bool) → ended_by_clause n limit c ≡ Some (Model m) → ⊥
clause-model n limit [] m e = let f : Refuted ≡ Model m = same-some Refuted (Model m) e in cc
clause-model n limit (l ∷ ls) m e = by (nat_eq (n + 1) limit) e
  where
    by : (b : Bool) → (if b then Some Spent else None) ≡ Some (Model m) → ⊥
    by true e = let f : Spent ≡ Model m = same-some Spent (Model m) e in cc
    by false e = let f : false ≡ true = ap is_some e in cc

spent-clause : (n limit : ℕ) (c : List Literal) → c ≢ [] → n + 1 ≡ limit → ended_by_clause n limit c ≡ Some Spent
spent-clause n limit [] some full = absurd (some refl)
spent-clause n limit (l ∷ ls) some full =
    let t : nat_eq (n + 1) limit ≡ true = grind (arith, nat_tests) in
    ap (λ b. if b then Some Spent else None) t

none-some : {X : Type 0} (x : X) → None ≡ Some x → ⊥
none-some x e = let f : false ≡ true = ap is_some e in cc

-- the last ask was to learn the clause that is kept
abbrev clause_asked : Asked → List Literal → List Literal
clause_asked search.Nothing c = c
clause_asked (search.Learning d lbd) c = d
clause_asked (search.Deriving l) c = c
clause_asked search.Importing c = c
clause_asked (search.Forgetting ids) c = c
clause_asked search.Done c = c

module _ (s : Solver) where
  learning-request : (r : Request) (d : List Literal) (lbd : ℕ) → asked_in r s.learnt ≡ search.Learning d lbd
      → (s.learnt ≡ d)
      × (ended_by_id s r ≡ ended_by_clause s.counts.tally.learns s.counts.limit s.learnt)
  learning-request request.Nothing d lbd e = absurd (cc)
  learning-request (request.Learning n) d lbd e = (ap (λ x. clause_asked x d) e, refl)
  learning-request (request.Deriving lit) d lbd e = absurd (cc)
  learning-request request.Importing d lbd e = absurd (cc)
  learning-request (request.Forgetting ids) d lbd e = absurd (cc)
  learning-request request.Done d lbd e = absurd (cc)

module _ (f : Cnf) (s : Solver) where
  refuted-id : (r : Request) → s.request ≡ r → ended_by_id s r ≡ Some Refuted → IsLearning (view_of f s) []
  refuted-id request.Nothing is e = absurd (none-some Refuted e)
  refuted-id (request.Learning lbd) is e = (
    lbd,
    ap (λ r. asked_in r s.learnt) is
        ∙ ap (λ c. search.Learning c lbd)
        (clause-refuted s.counts.tally.learns s.counts.limit s.learnt e),
  )
  refuted-id (request.Deriving lit) is e = absurd (none-some Refuted e)
  refuted-id request.Importing is e = absurd (none-some Refuted e)
  refuted-id (request.Forgetting ids) is e = absurd (none-some Refuted e)
  refuted-id request.Done is e = absurd (none-some Refuted e)

  spent-id : (r : Request) (id : ℕ) → s.request ≡ r → ended_by_id s r ≡ Some Spent → IsSpent (view_of f s) (Id id)
  spent-id request.Nothing id is e = absurd (none-some Spent e)
  spent-id (request.Learning lbd) id is e =
      let both = clause-spent s.counts.tally.learns s.counts.limit s.learnt e in
      let asked : asked_in s.request s.learnt ≡ search.Learning s.learnt lbd = ap (λ r. asked_in r s.learnt) is in
      record {
        clause = s.learnt;
        learning = (lbd, asked);
        some = both.0;
        id = id;
        told_id = refl;
        full = ap (λ x. (tally_with s.counts.tally x).learns) asked ∙ both.1;
      }
  spent-id (request.Deriving lit) id is e = absurd (none-some Spent e)
  spent-id request.Importing id is e = absurd (none-some Spent e)
  spent-id (request.Forgetting ids) id is e = absurd (none-some Spent e)
  spent-id request.Done id is e = absurd (none-some Spent e)

  model-id : (r : Request) (m : List Bool) → ended_by_id s r ≡ Some (Model m) → ⊥
  model-id request.Nothing m e = none-some (Model m) e
  model-id (request.Learning lbd) m e = clause-model s.counts.tally.learns s.counts.limit s.learnt m e
  model-id (request.Deriving lit) m e = none-some (Model m) e
  model-id request.Importing m e = none-some (Model m) e
  model-id (request.Forgetting ids) m e = none-some (Model m) e
  model-id request.Done m e = none-some (Model m) e

  ended-refuted : (told : Told) → ended_by s told ≡ Some Refuted → IsRefuted (view_of f s) told
  ended-refuted Start e = absurd (none-some Refuted e)
  ended-refuted (Id id) e = inr (refuted-id s.request refl e, (id, refl))
  ended-refuted (Imported old new c) e = absurd (none-some Refuted e)
  ended-refuted Drained e = absurd (none-some Refuted e)
  ended-refuted Forgotten e = absurd (none-some Refuted e)
  ended-refuted Closed e = inl refl

  refuted-ended : (told : Told) → IsRefuted (view_of f s) told → ended_by s told ≡ Some Refuted
  refuted-ended told (inl closed) = ap (ended_by s) closed
  refuted-ended told (inr learnt) =
      let both = learning-request s s.request [] learnt.0.0 learnt.0.1 in
      ap (ended_by s) learnt.1.1 ∙ both.1
      ∙ ap (ended_by_clause s.counts.tally.learns s.counts.limit) both.0

  ended-spent : (told : Told) → ended_by s told ≡ Some Spent → IsSpent (view_of f s) told
  ended-spent Start e = absurd (none-some Spent e)
  ended-spent (Id id) e = spent-id s.request id refl e
  ended-spent (Imported old new c) e = absurd (none-some Spent e)
  ended-spent Drained e = absurd (none-some Spent e)
  ended-spent Forgotten e = absurd (none-some Spent e)
  ended-spent Closed e = absurd (let g : Refuted ≡ Spent = same-some Refuted Spent e in cc)

  spent-ended : (told : Told) → IsSpent (view_of f s) told → ended_by s told ≡ Some Spent
  spent-ended told spent =
      let both = learning-request s s.request spent.clause spent.learning.0 spent.learning.1 in
      let full : s.counts.tally.learns + 1 ≡ s.counts.limit =
      sym (ap (λ x. (tally_with s.counts.tally x).learns) spent.learning.1)
      ∙ sym (ap (λ t. (tally_then s.counts.tally (asked_in s.request s.learnt) t).learns)
      spent.told_id)
      ∙ spent.full in
      ap (ended_by s) spent.told_id ∙ both.1
      ∙ spent-clause s.counts.tally.learns s.counts.limit s.learnt (λ e. spent.some (sym both.0 ∙ e)) full

  ended-model : (told : Told) (m : List Bool) → ended_by s told ≡ Some (Model m) → ⊥
  ended-model Start m e = none-some (Model m) e
  ended-model (Id id) m e = model-id s.request m e
  ended-model (Imported old new c) m e = none-some (Model m) e
  ended-model Drained m e = none-some (Model m) e
  ended-model Forgotten m e = none-some (Model m) e
  ended-model Closed m e = let g : Refuted ≡ Model m = same-some Refuted (Model m) e in cc

-- how the ask says that the search ends
abbrev found_in : Ask → Found → Found
found_in (ask.Learn c hints lbd offered) found = found
found_in (ask.Unit l hints) found = found
found_in ask.Import found = found
found_in (ask.Forget ids) found = found
found_in (Done other) found = other

same-found : (a b : Found) → Done a ≡ Done b → a ≡ b
same-found a b e = ap (λ x. found_in x a) e

abbrev model_in : Found → List Bool
model_in (Model m) = m
model_in Refuted = []
model_in Spent = []

same-model : (m n : List Bool) → Model m ≡ Model n → m ≡ n
same-model m n e = ap model_in e

module _ (f : Cnf) (old new : Solver) (told : Told) (a : Ask) (within : All (VarsUpTo f.vars) f.clauses)
    (vars : old.vars ≡ f.vars) where
  -- a search that goes on ends only with a satisfying assignment
  asks-model : (found : Found) → IsAsking new (Done found) → (m : List Bool) × (found ≡ Model m)
  asks-model found asking = (asking.1, asking.2)

  pub ends-on : HoldsFormula f new.base.clauses → HasGoneOn old told a new → ended_by old told ≡ None
      → EndsRightly (view_of f old) told a
  ends-on holds gone none = record {
    refuted = (
      (λ is. absurd (let m = asks-model Refuted (subst (IsAsking new) is gone.asking) in let w = m.1 in cc)),
      (λ r. absurd (none-some Refuted (sym none ∙ refuted-ended f old told r))),
    );
    spent = (
      (λ is. absurd (let m = asks-model Spent (subst (IsAsking new) is gone.asking) in let w = m.1 in cc)),
      (λ r. absurd (none-some Spent (sym none ∙ spent-ended f old told r))),
    );
    model = λ m is.
        let asking : IsAsking new (Done (Model m)) = subst (IsAsking new) is gone.asking in
        let same : asking.1 ≡ m = same-model asking.1 m (sym asking.2) in
        let k : IsModelOf new.base.clauses f.vars m = subst (λ n. IsModelOf new.base.clauses n m)
        (gone.stays.vars ∙ vars) (subst (IsModelOf new.base.clauses new.vars) same asking.3) in
        record { length = k.sized; meets = models-formula f new.base.clauses m holds within k };
  }
    where
      model_in : Found → List Bool
      model_in (Model m) = m
      model_in Refuted = []
      model_in Spent = []

      models : (m n : List Bool) → Model m ≡ Model n → m ≡ n
      models m n e = ap model_in e

  pub ends-over : (found : Found) → HasEnded old found a new → ended_by old told ≡ Some found
      → EndsRightly (view_of f old) told a
  ends-over found over ended = record {
    refuted = (
      (λ is. ended-refuted f old told (ended ∙ ap Some (same-found found Refuted (sym over.asked ∙ is)))),
      (λ r. over.asked ∙ ap Done (same-some found Refuted (sym ended ∙ refuted-ended f old told r))),
    );
    spent = (
      (λ is. ended-spent f old told (ended ∙ ap Some (same-found found Spent (sym over.asked ∙ is)))),
      (λ r. over.asked ∙ ap Done (same-some found Spent (sym ended ∙ spent-ended f old told r))),
    );
    model = λ m is.
        absurd (ended-model f old told m (ended ∙ ap Some (same-found found (Model m) (sym over.asked ∙ is))));
  }
