-- the clauses of the formula, as they are loaded
use Rattle.std.proofs.Common.{◌≡◌, ◌⊎◌, inl, inr, ℕ, suc, ◌+◌, ◌<◌, ◌≤◌, true, not, List, [], ◌∷◌, length, get_or, Some, None, refl, sym, ap, ◌∙◌, subst, arith}
use Rattle.std.specs.Prelude.{slice_get}
use Rattle.std.specs.Option.{option_map}
use Rattle.std.specs.FinMap as finite
use Rattle.std.specs.FinSet as set
use Rattle.std.specs.Ordering.{nat_cmp}
use Rattle.std.proofs.lemmas.List.Elements.{All-cons, All-nil, All-head, All-tail, All-filter}
use Rattle.gr_logic.specs.Literals.{Literal, same_literal}
use Rattle.gr_logic.specs.Formulas.{Cnf, VarsUpTo}
use Rattle.gr_logic.specs.NormalForms.{IsNormal, IsTautology, first_occurrences}
use Rattle.gr_logic.specs.Rup.{LiteralSet, members}
use Rattle.gr_logic.specs.Closure.{family_of}
use Rattle.gr_logic.specs.declared.places.Place.{Place}
use Rattle.gr_trail.specs.Trails.{IsTrail, true_in}
use Rattle.gr_trail.proofs.Climbing.{some-is}
use Rattle.gr_prop.specs.Bases.{BaseClause, BaseState, Clauses, HasId, LacksId, family}
use Rattle.gr_prop.specs.BaseChanges.{IsForcedAt, IsGrown, IsAdded, ForcesOpen, with_forced, IsCompacted, moved_place, moved_assigned}
use Rattle.gr_prop.specs.BaseChanges as changes
use Rattle.gr_prop.proofs.Stores.{get-insert-same, get-insert-other, get-remove-other, contains-clause}
use Rattle.gr_strengthen.specs.Families.{given_clause}
use Rattle.gr_strengthen.specs.Holding.{HasUnitReason, HasFormula, IsGrounded}
use Rattle.gr_strengthen.specs.Loading.{IsEntered, IsLoaded}
use Rattle.gr_strengthen.proofs.Agreement.{clause-there}
use Rattle.gr_strengthen.proofs.KeptMaps.{by-eq, unique-insert, unique-remove, remove-there, moved-to, moved-from, unique-moved}
use Rattle.gr_strengthen.proofs.Cited.{le-cases}
use Rattle.gr_strengthen.proofs.Grounded.{add-grounded}
use Rattle.gr_strengthen.proofs.Regrounded.{settle-grounded}

-- ---- the formula's clauses
pub formula-insert : (f : Cnf) (clauses : Clauses) (place : ℕ) (x : BaseClause) → finite.get clauses place ≡ None
    → LacksId clauses x.id → length f.clauses < x.id → HasFormula f clauses (length f.clauses)
    → HasFormula f (finite.insert clauses place x) (length f.clauses)
formula-insert f clauses place x fresh lacks high h = record {
  given = λ p c at low. by-eq (family_of (given_clause f) c.id ≡ Some (set.contains c.literals)) p place
      (λ same. absurd (let is : x ≡ c = some-is x c (sym (get-insert-same clauses place x)
      ∙ ap (finite.get (finite.insert clauses place x)) (sym same) ∙ at) in
      let e : x.id ≡ c.id = ap (λ (y : BaseClause). y.id) is in omega (arith, high, low, e)))
      (λ apart. h.given p c (sym (get-insert-other clauses place x p apart) ∙ at) low);
  ids = unique-insert clauses place x h.ids lacks;
  there = λ id c low e. go id c (h.there id c low e);
}
  where
    go : (id : ℕ) (c : List Literal) → IsTautology c ⊎ HasId clauses id
        → IsTautology c ⊎ HasId (finite.insert clauses place x) id
    go id c (inl two) = inl two
    go id c (inr has) = inr (
      has.0,
      (
        has.1.0,
        by-eq (finite.get (finite.insert clauses place x) has.0.0 ≡ Some has.1.0) has.0.0 place
            (λ same. absurd (let e : Some has.1.0 ≡ None = sym has.1.1 ∙ ap (finite.get clauses) same ∙ fresh in cc))
            (λ apart. get-insert-other clauses place x has.0.0 apart ∙ has.1.1),
        has.1.2,
      ),
    )

pub formula-remove : (f : Cnf) (clauses : Clauses) (p : ℕ) (c : BaseClause) → finite.get clauses p ≡ Some c
    → length f.clauses < c.id → HasFormula f clauses (length f.clauses)
    → HasFormula f (finite.remove clauses p) (length f.clauses)
formula-remove f clauses p c at high h = record {
  given = λ q x there low. h.given q x (remove-there clauses p q x there) low;
  ids = unique-remove clauses p h.ids;
  there = λ id x low e. go id low x (h.there id x low e);
}
  where
    go : (id : ℕ) → id ≤ length f.clauses → (x : List Literal) → IsTautology x ⊎ HasId clauses id
        → IsTautology x ⊎ HasId (finite.remove clauses p) id
    go id low x (inl two) = inl two
    go id low x (inr has) = inr (
      has.0,
      (
        has.1.0,
        by-eq (finite.get (finite.remove clauses p) has.0.0 ≡ Some has.1.0) has.0.0 p
            (λ same. absurd (let is : c ≡ has.1.0 = some-is c has.1.0 (sym at ∙ ap (finite.get clauses) (sym same)
            ∙ has.1.1) in
            let e : c.id ≡ id = ap (λ (y : BaseClause). y.id) is ∙ has.1.2 in omega (arith, high, low, e)))
            (λ apart. get-remove-other clauses p has.0.0 apart ∙ has.1.1),
        has.1.2,
      ),
    )

pub formula-moved : (f : Cnf) (old new : BaseState) (count : ℕ) → IsCompacted old new → HasFormula f old.clauses count
    → HasFormula f new.clauses count
formula-moved f old new count moved h = record {
  given = λ q x there low. let from = moved-from old new moved q x there in h.given from.0 x from.1.1 low;
  ids = unique-moved old new moved h.ids;
  there = λ id x low e. go id x (h.there id x low e);
}
  where
    go : (id : ℕ) (x : List Literal) → IsTautology x ⊎ HasId old.clauses id → IsTautology x ⊎ HasId new.clauses id
    go id x (inl two) = inl two
    go id x (inr has) =
        let to = moved-to old new moved has.0.0 has.1.0 has.1.1 in
        inr (record { 0 = to.0 }, (has.1.0, to.1.1, has.1.2))

-- ---- the formula is loaded
absent : {A : Type 0} (k : Clauses) (p : ℕ) (c : BaseClause) → k ≡ finite.empty → finite.get k p ≡ Some c → A
absent k p c none at =
    absurd (let e : None ≡ Some c = sym (finite.get-empty nat_cmp p) ∙ ap (λ x. finite.get x p) (sym none) ∙ at in cc)

absent-unit : {A : Type 0} (k : Clauses) (p : ℕ) (c : LiteralSet) → k ≡ finite.empty → family k p ≡ Some c → A
absent-unit k p c none e = let x = clause-there (finite.get k p) c e in absent k p x.0 none x.1.0

pub loaded-none : (f : Cnf) (b : BaseState) → b.clauses ≡ finite.empty
    → b.trail ≡ record { vars = f.vars; depth = 0; assigned = [] } → IsLoaded f b 0
loaded-none f b none trail = record {
  formula = record {
    given = λ p c at low. absent b.clauses p c none at;
    ids = λ p q c d at-p at-q same. absent b.clauses p c none at-p;
    there = λ id c low e. absurd (let z : id ≡ 0 = omega (arith, low) in
        let g : None ≡ Some c = ap (given_clause f) (sym z) ∙ e in cc);
  };
  grounded = subst (λ t. IsGrounded f b.clauses t 0) (sym trail) (record {
    ground = refl;
    vars = refl;
    low = All-nil (IsForcedAt 0);
    units = λ p l e. absent-unit b.clauses p (members (l ∷ [])) none e;
    within = omega arith;
    done = All-nil (HasUnitReason b.clauses);
  });
  low = λ p c at. absent b.clauses p c none at;
}

next-id : (f : Cnf) (i id : ℕ) (ls c : List Literal) → slice_get f.clauses i ≡ Some ls → i < id → id ≤ i + 1
    → given_clause f id ≡ Some c → ls ≡ c
next-id f i id ls c at low high e =
    let s : suc i ≡ id = omega (arith, low, high) in
    let g : Some ls ≡ Some c = sym at ∙ ap (given_clause f) s ∙ e in cc

pub clause-at : (fs cs : List (List Literal)) (i : ℕ) (ls : List Literal) → cs ≡ fs → ls ≡ get_or cs i ls
    → ls ≡ get_or fs i ls
clause-at fs cs i ls same is = is ∙ ap (λ xs. get_or xs i ls) same

pub next-unused : (f : Cnf) (b : BaseState) (i : ℕ) → IsLoaded f b i → LacksId b.clauses (i + 1)
next-unused f b i h p c there is = absurd (let l = h.low p c there in omega (arith, l, is))

pub loaded-tautology : (f : Cnf) (b : BaseState) (i : ℕ) (ls : List Literal) → slice_get f.clauses i ≡ Some ls
    → IsTautology ls → IsLoaded f b i → IsLoaded f b (i + 1)
loaded-tautology f b i ls at taut h = record {
  formula = record {
    given = h.formula.given;
    ids = h.formula.ids;
    there = λ id c low e. le-cases (IsTautology c ⊎ HasId b.clauses id) id i
        (λ old. h.formula.there id c old e)
        (λ now. inl (subst IsTautology (next-id f i id ls c at now low e) taut));
  };
  grounded = h.grounded;
  low = λ p c at. let l = h.low p c at in omega (arith, l);
}

pub loaded-entered : (f : Cnf) (old new : BaseState) (i : ℕ) (ls firsts : List Literal)
    → slice_get f.clauses i ≡ Some ls
    → members firsts ≡ members ls → IsEntered old new (i + 1) firsts → IsLoaded f old i → IsLoaded f new (i + 1)
loaded-entered f old new i ls firsts at same entered h =
    subst (λ k. IsLoaded f (record new { clauses = k }) (i + 1)) (sym entered.clauses) (record {
      formula = record {
        given = λ p c there low. by-eq (family_of (given_clause f) c.id ≡ Some (set.contains c.literals))
            p entered.place
            (λ is. given-now c (some-is x c (sym (get-insert-same old.clauses entered.place x)
            ∙ ap (finite.get (finite.insert old.clauses entered.place x)) (sym is) ∙ there)))
            (λ apart. h.formula.given p c (sym (get-insert-other old.clauses entered.place x p apart) ∙ there) low);
        ids = unique-insert old.clauses entered.place x h.formula.ids lacks;
        there = λ id c low e. le-cases (IsTautology c ⊎ HasId (finite.insert old.clauses entered.place x) id) id i
            (λ before. go id c (h.formula.there id c before e))
            (λ now. inr (
              record { 0 = entered.place },
              (
                x,
                get-insert-same old.clauses entered.place x,
                (let g : i + 1 ≡ id = omega (arith, now, low) in g),
              ),
            ));
      };
      grounded = subst (λ k. IsGrounded f k new.trail 0) entered.clauses (entered.grounded f 0 h.grounded);
      low = λ p c there. by-eq (c.id ≤ i + 1) p entered.place
          (λ is. (let e : x ≡ c = some-is x c (sym (get-insert-same old.clauses entered.place x)
          ∙ ap (finite.get (finite.insert old.clauses entered.place x)) (sym is) ∙ there) in
          let n : i + 1 ≡ c.id = ap (λ (y : BaseClause). y.id) e in omega (arith, n)))
          (λ apart. (let l = h.low p c (sym (get-insert-other old.clauses entered.place x p apart) ∙ there) in
          omega (arith, l)));
    })
  where
    x : BaseClause
    x = record { id = i + 1; lbd = entered.lbd; literals = set.from_list firsts }

    lacks : LacksId old.clauses (i + 1)
    lacks = next-unused f old i h

    given-now : (c : BaseClause) → x ≡ c → family_of (given_clause f) c.id ≡ Some (set.contains c.literals)
    given-now c is =
        subst (λ (y : BaseClause). family_of (given_clause f) y.id ≡ Some (set.contains y.literals)) is
        (ap (family_of (given_clause f)) (let e : i + 1 ≡ suc i = omega arith in e)
        ∙ ap (option_map members) at ∙ ap Some (sym same) ∙ ap Some (sym (contains-clause firsts)))

    go : (id : ℕ) (c : List Literal) → IsTautology c ⊎ HasId old.clauses id
        → IsTautology c ⊎ HasId (finite.insert old.clauses entered.place x) id
    go id c (inl two) = inl two
    go id c (inr has) = inr (
      has.0,
      (
        has.1.0,
        by-eq (finite.get (finite.insert old.clauses entered.place x) has.0.0 ≡ Some has.1.0) has.0.0 entered.place
            (λ is. absurd (let e : Some has.1.0 ≡ None = sym has.1.1 ∙ ap (finite.get old.clauses) is
            ∙ entered.fresh in cc))
            (λ apart. get-insert-other old.clauses entered.place x has.0.0 apart ∙ has.1.1),
        has.1.2,
      ),
    )

pub firsts-known : (vars : ℕ) (ls : List Literal) → VarsUpTo vars ls → VarsUpTo vars (first_occurrences ls)
firsts-known vars [] known = known
firsts-known vars (x ∷ xs) known =
    All-cons (λ (l : Literal). l.index < vars) x _ (All-head (λ (l : Literal). l.index < vars) x xs known)
    (All-filter (λ q. not (same_literal q x)) (λ (l : Literal). l.index < vars) (first_occurrences xs)
    (firsts-known vars xs (All-tail (λ (l : Literal). l.index < vars) x xs known)))

-- ---- a clause came in
pub entered-settled : (old new : BaseState) (id : ℕ) (l : Literal) (c : List Literal) (place : Place)
    → changes.IsSettled old new l id place → IsTrail old.trail → c ≡ l ∷ [] → true_in old.trail.assigned l ≡ true
    → IsEntered old new id c
entered-settled old new id l c place is trail one holds = record {
  place = place.0;
  lbd = 1;
  fresh = is.fresh;
  clauses = ap (λ (b : BaseState). b.clauses) is.changed
      ∙ ap (λ ls. finite.insert old.clauses place.0 (record { id = id; lbd = 1; literals = set.from_list ls }))
      (sym one);
  grounded = λ f settled g. subst (λ (b : BaseState). IsGrounded f b.clauses b.trail settled) (sym is.changed)
      (settle-grounded f old id l place settled is.fresh trail holds g);
}

pub entered-added : (old new : BaseState) (id lbd : ℕ) (c : List Literal) (place : Place)
    → IsAdded old new id lbd c place → IsNormal c
    → ((l : Literal) → c ≡ l ∷ [] → true_in old.trail.assigned l ≡ true → ⊥) → IsEntered old new id c
entered-added old new id lbd c place is normal unheld = record {
  place = place.0;
  lbd = lbd;
  fresh = is.fresh;
  clauses = is.clauses;
  grounded = λ f settled g. add-grounded f old new id lbd c place settled is normal unheld g;
}
