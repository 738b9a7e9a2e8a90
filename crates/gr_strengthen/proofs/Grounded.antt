-- a base that stands at level zero takes a clause, or its trail grows
use Rattle.std.proofs.Common.{◌≡◌, ◌≢◌, ◌⊎◌, inl, inr, ℕ, zero, suc, ◌≤◌, Bool, true, false, ◌||◌, List, [], ◌∷◌, ◌++◌, length, take, Some, None, refl, sym, ap, ◌∙◌, subst, arith, if◌then◌else◌, length-append}
use Rattle.std.specs.Prelude.{All, slice_get}
use Rattle.std.specs.Option.{option_map}
use Rattle.std.specs.FinMap as finite
use Rattle.std.specs.FinSet as set
use Rattle.std.proofs.lemmas.List.Elements.{All-cons, All-nil, All-append, All-weaker}
use Rattle.gr_logic.specs.Literals.{Literal, negation, same_literal}
use Rattle.gr_logic.specs.Formulas.{Cnf}
use Rattle.gr_logic.specs.NormalForms.{IsNormal}
use Rattle.gr_logic.specs.Rup.{LiteralSet, members}
use Rattle.gr_logic.specs.declared.places.Place.{Place}
use Rattle.gr_logic.proofs.SameLiteral.{members-first}
use Rattle.gr_trail.specs.Trails.{Assigned, TrailState, true_in, value_in}
use Rattle.gr_prop.specs.Bases.{BaseClause, BaseState, Clauses, family}
use Rattle.gr_prop.specs.BaseChanges.{IsForcedAt, IsGrown, IsAdded, ForcesOpen, with_forced}
use Rattle.gr_prop.proofs.Stores.{get-insert-same, get-insert-other, contains-clause}
use Rattle.gr_prop.proofs.TrailSets.{true_in-more}
use Rattle.gr_hints.specs.Graphs.{IsFalse}
use Rattle.gr_strengthen.specs.Holding.{HasUnitReason, IsSettled, AreSettled, IsGrounded}
use Rattle.gr_strengthen.proofs.KeptMaps.{by-eq}
use Rattle.gr_strengthen.proofs.UnitFacts.{one-member, only-one, unit-long}
use Rattle.gr_strengthen.proofs.Cited.{some-set}

-- ---- a clause that comes in at a new place
family-insert : (clauses : Clauses) (place p : ℕ) (x : BaseClause) (c : LiteralSet) → finite.get clauses place ≡ None
    → family clauses p ≡ Some c → family (finite.insert clauses place x) p ≡ Some c
family-insert clauses place p x c fresh e =
    by-eq (family (finite.insert clauses place x) p ≡ Some c) p place
    (λ same. absurd (let f : None ≡ Some c = sym (ap (option_map (λ (y : BaseClause). set.contains y.literals))
    (ap (finite.get clauses) same ∙ fresh)) ∙ e in cc))
    (λ apart. ap (option_map (λ (y : BaseClause). set.contains y.literals))
    (get-insert-other clauses place x p apart) ∙ e)

pub family-here : (clauses : Clauses) (place id lbd : ℕ) (c : List Literal)
    → family (finite.insert clauses place (record { id = id; lbd = lbd; literals = set.from_list c })) place
    ≡ Some (members c)
family-here clauses place id lbd c =
    ap (option_map (λ (y : BaseClause). set.contains y.literals))
    (get-insert-same clauses place (record { id = id; lbd = lbd; literals = set.from_list c }))
    ∙ ap Some (contains-clause c)

pub unit-more : (clauses : Clauses) (place : ℕ) (x : BaseClause) (a : Assigned) → finite.get clauses place ≡ None
    → HasUnitReason clauses a → HasUnitReason (finite.insert clauses place x) a
unit-more clauses place x a fresh h =
    (h.0, h.1, family-insert clauses place h.0.0 x (members (a.lit ∷ [])) fresh h.2)

-- ---- lists that grow behind
slice-front : (xs ys : List Assigned) (k : ℕ) (a : Assigned) → slice_get xs k ≡ Some a → slice_get (xs ++ ys) k ≡ Some a
slice-front [] ys k a e = absurd (cc)
slice-front (x ∷ xs) ys zero a e = e
slice-front (x ∷ xs) ys (suc k) a e = slice-front xs ys k a e

slice-last : (xs : List Assigned) (x : Assigned) → slice_get (xs ++ x ∷ []) (length xs) ≡ Some x
slice-last [] x = refl
slice-last (y ∷ ys) x = slice-last ys x

take-front : (n : ℕ) (xs ys : List Assigned) → n ≤ length xs → take n (xs ++ ys) ≡ take n xs
take-front zero [] ys low = take-zero ys
  where
    take-zero : (ys : List Assigned) → take 0 ys ≡ []
    take-zero [] = refl
    take-zero (y ∷ ys) = refl
take-front (suc n) [] ys low = absurd (omega arith)
take-front zero (x ∷ xs) ys low = refl
take-front (suc n) (x ∷ xs) ys low = ap (λ l. x ∷ l) (take-front n xs ys (omega arith))

settled-front : (clauses : Clauses) (xs ys : List Assigned) (l : Literal) → IsSettled clauses xs l
    → IsSettled clauses (xs ++ ys) l
settled-front clauses xs ys l s = (s.0, s.1, slice-front xs ys s.0 s.1 s.2, s.3, s.4)

pub settled-more : (old new : Clauses) (xs : List Assigned) (l : Literal)
    → ((a : Assigned) → HasUnitReason old a → HasUnitReason new a) → IsSettled old xs l → IsSettled new xs l
settled-more old new xs l keep s = (s.0, s.1, s.2, s.3, keep s.1 s.4)

-- the trail grows at level zero
pub grounded-grown : (f : Cnf) (clauses : Clauses) (t u : TrailState) (settled : ℕ) → IsGrown t u
    → IsGrounded f clauses t settled → IsGrounded f clauses u settled
grounded-grown f clauses t u settled grown g = record {
  ground = grown.depth ∙ g.ground;
  vars = grown.vars ∙ g.vars;
  low = subst (All (IsForcedAt 0)) (sym grown.assigned)
      (All-append (IsForcedAt 0) t.assigned grown.more g.low
      (subst (λ n. All (IsForcedAt n) grown.more) g.ground grown.forced));
  units = subst (AreSettled clauses) (sym grown.assigned) (λ place l e. go l (g.units place l e));
  within = subst (λ xs. settled ≤ length xs) (sym grown.assigned)
      (let e = length-append t.assigned grown.more in let w = g.within in omega (arith, e, w));
  done = subst (λ xs. All (HasUnitReason clauses) (take settled xs)) (sym grown.assigned)
      (subst (All (HasUnitReason clauses)) (sym (take-front settled t.assigned grown.more g.within)) g.done);
}
  where
    go : (l : Literal) → IsFalse t.assigned l ⊎ IsSettled clauses t.assigned l
        → IsFalse (t.assigned ++ grown.more) l ⊎ IsSettled clauses (t.assigned ++ grown.more) l
    go l (inl gone) = inl (true_in-more t.assigned grown.more (negation l) gone)
    go l (inr s) = inr (settled-front clauses t.assigned grown.more l s)

-- ---- a clause is added at level zero
one-of : (c : List Literal) (l : Literal) → IsNormal c → members c ≡ members (l ∷ []) → c ≡ l ∷ []
one-of c l normal e = only-one c l (unit-long c l normal e) (ap (λ s. s l) e ∙ members-first l [])

value-cases : (xs : List Assigned) (l : Literal) → (value_in xs l ≡ None) ⊎ (true_in xs l ≡ true) ⊎ IsFalse xs l
value-cases xs l = go (true_in xs l) refl (true_in xs (negation l)) refl
  where
    go : (a : Bool) → true_in xs l ≡ a → (b : Bool) → true_in xs (negation l) ≡ b
        → (value_in xs l ≡ None) ⊎ (true_in xs l ≡ true) ⊎ IsFalse xs l
    go true e b f = inr (inl e)
    go false e true f = inr (inr f)
    go false e false f = inl (ap (λ t. if t then Some true else
        (if true_in xs (negation l) then Some false else None)) e
        ∙ ap (λ t. if t then Some false else None) f)

module _ (f : Cnf) (old new : BaseState) (id lbd : ℕ) (c : List Literal) (place : Place) (settled : ℕ)
    (added : IsAdded old new id lbd c place) (normal : IsNormal c)
    (unheld : (l : Literal) → c ≡ l ∷ [] → true_in old.trail.assigned l ≡ true → ⊥)
    (g : IsGrounded f old.clauses old.trail settled) where
  abbrev grown-clauses : Clauses
  grown-clauses = finite.insert old.clauses place.0 (record { id = id; lbd = lbd; literals = set.from_list c })

  old-units : (l : Literal) → IsFalse old.trail.assigned l ⊎ IsSettled old.clauses old.trail.assigned l
      → IsFalse old.trail.assigned l ⊎ IsSettled grown-clauses old.trail.assigned l
  old-units l (inl gone) = inl gone
  old-units l (inr s) = inr (settled-more old.clauses grown-clauses old.trail.assigned l
      (λ a. unit-more old.clauses place.0 _ a added.fresh) s)

  old-done : All (HasUnitReason grown-clauses) (take settled old.trail.assigned)
  old-done = All-weaker (HasUnitReason old.clauses) (HasUnitReason grown-clauses)
      (λ a. unit-more old.clauses place.0 _ a added.fresh) (take settled old.trail.assigned) g.done

  -- another clause was there before
  elsewhere : (p : ℕ) (l : Literal) → p ≢ place.0 → family grown-clauses p ≡ Some (members (l ∷ []))
      → family old.clauses p ≡ Some (members (l ∷ []))
  elsewhere p l apart e =
      sym (ap (option_map (λ (y : BaseClause). set.contains y.literals))
      (get-insert-other old.clauses place.0 _ p apart)) ∙ e

  here : (l : Literal) → family grown-clauses place.0 ≡ Some (members (l ∷ [])) → c ≡ l ∷ []
  here l e = one-of c l normal (some-set (members c) (members (l ∷ []))
      (sym (family-here old.clauses place.0 id lbd c) ∙ e))

  -- a unit clause forces its literal
  unit-forces : (l : Literal) → c ≡ l ∷ [] → value_in old.trail.assigned l ≡ None → ForcesOpen old.trail.assigned c l
  unit-forces l e open' = subst (λ ls. ForcesOpen old.trail.assigned ls l) (sym e) (
    record {
      has = members-first l [];
      others = λ q m apart. absurd (let s : (same_literal q l || members [] q) ≡ true = m in
          let t : (false || members [] q) ≡ true = ap (λ b. b || members [] q) (sym apart) ∙ s in cc);
    },
    open',
  )

  stays : ((l : Literal) → ForcesOpen old.trail.assigned c l → ⊥) → new.trail ≡ old.trail
      → IsGrounded f grown-clauses new.trail settled
  stays none same = subst (λ t. IsGrounded f grown-clauses t settled) (sym same) (record {
    ground = g.ground;
    vars = g.vars;
    low = g.low;
    units = λ p l e. by-eq (IsFalse old.trail.assigned l ⊎ IsSettled grown-clauses old.trail.assigned l) p place.0
        (λ is. go l (here l (ap (family grown-clauses) (sym is) ∙ e)) (value-cases old.trail.assigned l))
        (λ apart. old-units l (g.units p l (elsewhere p l apart e)));
    within = g.within;
    done = old-done;
  })
    where
      go : (l : Literal) → c ≡ l ∷ [] → (value_in old.trail.assigned l ≡ None)
          ⊎ (true_in old.trail.assigned l ≡ true) ⊎ IsFalse old.trail.assigned l
          → IsFalse old.trail.assigned l ⊎ IsSettled grown-clauses old.trail.assigned l
      go l is (inl open') = absurd (none l (unit-forces l is open'))
      go l is (inr (inl holds)) = absurd (unheld l is holds)
      go l is (inr (inr gone)) = inl gone

  grows : (l : Literal) → ForcesOpen old.trail.assigned c l → new.trail ≡ with_forced old.trail l place
      → IsGrounded f grown-clauses new.trail settled
  grows l forced same = subst (λ t. IsGrounded f grown-clauses t settled) (sym same) (record {
    ground = g.ground;
    vars = g.vars;
    low = All-append (IsForcedAt 0) old.trail.assigned (last ∷ []) g.low
        (All-cons (IsForcedAt 0) last [] (g.ground, refl) (All-nil (IsForcedAt 0)));
    units = λ p q e. by-eq (IsFalse (old.trail.assigned ++ last ∷ []) q
        ⊎ IsSettled grown-clauses (old.trail.assigned ++ last ∷ []) q) p place.0
        (λ is. inr (unit-of q (here q (ap (family grown-clauses) (sym is) ∙ e))))
        (λ apart. more q (old-units q (g.units p q (elsewhere p q apart e))));
    within = (let e = length-append old.trail.assigned (last ∷ []) in let w = g.within in omega (arith, e, w));
    done = subst (All (HasUnitReason grown-clauses)) (sym (take-front settled old.trail.assigned (last ∷ []) g.within))
        old-done;
  })
    where
      last : Assigned
      last = record { lit = l; level = old.trail.depth; reason = Some place }

      more : (q : Literal) → IsFalse old.trail.assigned q ⊎ IsSettled grown-clauses old.trail.assigned q
          → IsFalse (old.trail.assigned ++ last ∷ []) q ⊎ IsSettled grown-clauses (old.trail.assigned ++ last ∷ []) q
      more q (inl gone) = inl (true_in-more old.trail.assigned (last ∷ []) (negation q) gone)
      more q (inr s) = inr (settled-front grown-clauses old.trail.assigned (last ∷ []) q s)

      unit-of : (q : Literal) → c ≡ q ∷ [] → IsSettled grown-clauses (old.trail.assigned ++ last ∷ []) q
      unit-of q is =
          let e : l ≡ q = one-member q l (subst (λ ls. members ls l ≡ true) is forced.0.has) in (
            length old.trail.assigned,
            last,
            slice-last old.trail.assigned last,
            e,
            (
              place,
              refl,
              family-here old.clauses place.0 id lbd c
                  ∙ ap (λ ls. Some (members ls)) (is ∙ ap (λ x. x ∷ []) (sym e)),
            ),
          )

  pub add-grounded : IsGrounded f new.clauses new.trail settled
  add-grounded = subst (λ k. IsGrounded f k new.trail settled) (sym added.clauses) (go added.trail)
    where
      go : ((l : Literal) × (ForcesOpen old.trail.assigned c l × (new.trail ≡ with_forced old.trail l place)))
          ⊎ (((l : Literal) → ForcesOpen old.trail.assigned c l → ⊥) × (new.trail ≡ old.trail))
          → IsGrounded f grown-clauses new.trail settled
      go (inl w) = grows w.0 w.1.0 w.1.1
      go (inr w) = stays w.0 w.1
