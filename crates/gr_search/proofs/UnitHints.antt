-- ids of unit clauses as hints: the steps along them make the literals true, or have accepted
use Rattle.std.proofs.Common.{◌≡◌, ◌⊎◌, inl, inr, ℕ, ◌+◌, ◌<◌, Bool, true, false, not, ◌||◌, List, [], ◌∷◌, ◌++◌, length, take, get_or, append_assoc, All, Some, refl, sym, ap, ◌∙◌, subst, if◌then◌else◌}
use Rattle.std.proofs.lemmas.List.{take_more}
use Rattle.std.proofs.lemmas.List.Elements.{All-nil, All-cons, All-push}
use Rattle.std.specs.FinMap as finite
use Rattle.std.specs.FinSet as set
use Rattle.gr_logic.specs.Literals.{Literal, negation, same_literal}
use Rattle.gr_logic.specs.Rup.{LiteralSet, Live, members, negated, with_literal, Falsified, Forces, reading, reading_of_open, Accepted, steps}
use Rattle.gr_logic.specs.Closure.{IsWithin}
use Rattle.gr_logic.specs.declared.places.Place.{Place}
use Rattle.gr_logic.proofs.Sound.{same_literal-is}
use Rattle.gr_logic.proofs.SameLiteral.{same_literal-itself, negation-negation, negated-is, or-true}
use Rattle.gr_logic.proofs.Members.{members-push_at}
use Rattle.gr_logic.proofs.Readings.{reads-falsified, reading-set}
use Rattle.gr_hints.proofs.UnitSteps.{cited-list, step-is}
use Rattle.gr_trail.specs.Trails.{Assigned}
use Rattle.gr_prop.specs.Bases.{BaseClause, Clauses, HasId}
use Rattle.gr_analyze.specs.Learning.{Cites}
use Rattle.gr_search.specs.Keeping.{IsSettled, IsProved}

-- behind the hints, each of these literals but the one is false
pub record LeadsOn (live : Live) (l : Literal) (seen : List Literal) (set : LiteralSet) (hints tail : List ℕ)
    : Type 0 where
  pub reached : LiteralSet
  pub more : IsWithin set reached
  pub falls : (q : Literal) → members seen q ≡ true → same_literal q l ≡ false → reached (negation q) ≡ true
  pub goes : steps live set (hints ++ tail) ≡ steps live reached tail

-- the steps have accepted, or lead on
abbrev pub Leads : Clauses → Literal → List Literal → List ℕ → Type 0
Leads k l seen hints =
    (live : Live) (set : LiteralSet) (tail : List ℕ) → Cites live k
    → (steps live set (hints ++ tail) ≡ Accepted) ⊎ LeadsOn live l seen set hints tail

-- ids of clauses, by which the literals but the one become false
pub record AreHints (k : Clauses) (l : Literal) (seen : List Literal) (hints : List ℕ) : Type 0 where
  pub cited : All (HasId k) hints
  pub leads : Leads k l seen hints

pub no-hints : (k : Clauses) (l : Literal) → AreHints k l [] []
no-hints k l = record {
  cited = All-nil (HasId k);
  leads = λ live set tail cites. inr (record {
    reached = set;
    more = λ q e. e;
    falls = λ q m apart. absurd (cc);
    goes = refl;
  });
}

-- the literals so far and the next one
pub next-seen : (ls : List Literal) (i : ℕ) (q : Literal) → i < length ls → q ≡ get_or ls i q
    → take (i + 1) ls ≡ take i ls ++ q ∷ []
next-seen ls i q low is = take_more ls i q low ∙ ap (λ y. take i ls ++ y ∷ []) (sym is)

-- which of the literals with one more at the end it is
pushed : (seen : List Literal) (x q : Literal) → members (seen ++ x ∷ []) q ≡ true → same_literal q x ≡ false
    → members seen q ≡ true
pushed seen x q m apart =
    sym (ap (λ b. b || members seen q) apart) ∙ (sym (members-push_at q seen x) ∙ m)

-- the one itself needs no hint
pub hints-same : (k : Clauses) (l x : Literal) (seen : List Literal) (hints : List ℕ) → x ≡ l → AreHints k l seen hints
    → AreHints k l (seen ++ x ∷ []) hints
hints-same k l x seen hints same old = record {
  cited = old.cited;
  leads = λ live set tail cites. on live set tail (old.leads live set tail cites);
}
  where
    on : (live : Live) (set : LiteralSet) (tail : List ℕ)
        → (steps live set (hints ++ tail) ≡ Accepted) ⊎ LeadsOn live l seen set hints tail
        → (steps live set (hints ++ tail) ≡ Accepted) ⊎ LeadsOn live l (seen ++ x ∷ []) set hints tail
    on live set tail (inl done) = inl done
    on live set tail (inr w) = inr (record {
      reached = w.reached;
      more = w.more;
      falls = λ q m apart. w.falls q (pushed seen x q m (ap (same_literal q) same ∙ apart)) apart;
      goes = w.goes;
    })

-- a unit clause is falsified or forces its literal
unit-read : (set : LiteralSet) (l : Literal) → (reading set (l ∷ []) ≡ Falsified) ⊎ (reading set (l ∷ []) ≡ Forces l)
unit-read set l = go (set (negation l))
  where
    go : (b : Bool) → (reading_of_open (if not b then l ∷ [] else []) ≡ Falsified)
        ⊎ (reading_of_open (if not b then l ∷ [] else []) ≡ Forces l)
    go true = inl refl
    go false = inr refl

-- the id of a unit clause comes in behind, and its literal's negation is false
pub hints-more : (k : Clauses) (l x : Literal) (seen : List Literal) (hints : List ℕ) (a : Assigned)
    → (is : IsSettled k a) → a.lit ≡ negation x → AreHints k l seen hints
    → AreHints k l (seen ++ x ∷ []) (hints ++ is.clause.id ∷ [])
hints-more k l x seen hints a is made old = record {
  cited = All-push (HasId k) hints is.clause.id old.cited (is.place, (is.clause, is.there, refl));
  leads = λ live set tail cites. on live set tail cites (old.leads live set (is.clause.id ∷ tail) cites);
}
  where
    clause-of : (live : Live) → Cites live k → (c : List Literal) × ((live is.clause.id ≡ Some c)
        × (members c ≡ members (negation x ∷ [])))
    clause-of live cites =
        cited-list live is.clause.id (members (negation x ∷ []))
        (cites is.place.0 is.clause is.there ∙ ap Some (is.unit ∙ ap (λ y. members (y ∷ [])) made))

    behind : (live : Live) (set : LiteralSet) (tail : List ℕ)
        → steps live set ((hints ++ is.clause.id ∷ []) ++ tail) ≡ steps live set (hints ++ is.clause.id ∷ tail)
    behind live set tail = ap (steps live set) (append_assoc hints (is.clause.id ∷ []) tail)

    falls : (reached : LiteralSet) → ((q : Literal) → members seen q ≡ true → same_literal q l ≡ false
        → reached (negation q) ≡ true) → (q : Literal) → members (seen ++ x ∷ []) q ≡ true → same_literal q l ≡ false
        → with_literal reached (negation x) (negation q) ≡ true
    falls reached known q m apart = elim (same_literal q x) as (λ b. same_literal q x ≡ b
        → (same_literal (negation q) (negation x) || reached (negation q)) ≡ true) [
          | true ↦ λ same.
              subst (λ y. (same_literal (negation y) (negation x) || reached (negation y)) ≡ true)
              (sym (same_literal-is q x same))
              (ap (λ b. b || reached (negation x)) (same_literal-itself (negation x)))
          | false ↦ λ other.
              ap (λ b. same_literal (negation q) (negation x) || b) (known q (pushed seen x q m other) apart)
              ∙ or-true (same_literal (negation q) (negation x))
        ] refl

    step : (live : Live) (set : LiteralSet) (tail : List ℕ) → Cites live k
        → (w : LeadsOn live l seen set hints (is.clause.id ∷ tail))
        → (reading w.reached (negation x ∷ []) ≡ Falsified)
        ⊎ (reading w.reached (negation x ∷ []) ≡ Forces (negation x))
        → (steps live set ((hints ++ is.clause.id ∷ []) ++ tail) ≡ Accepted)
        ⊎ LeadsOn live l (seen ++ x ∷ []) set (hints ++ is.clause.id ∷ []) tail
    step live set tail cites w (inl read) =
        let c = clause-of live cites in
        inl (behind live set tail ∙ w.goes ∙ step-is live w.reached is.clause.id tail c.0 Falsified c.1.0
        (reading-set w.reached c.0 (negation x ∷ []) c.1.1 ∙ read))
    step live set tail cites w (inr read) =
        let c = clause-of live cites in
        inr (record {
          reached = with_literal w.reached (negation x);
          more = λ q e. ap (λ b. same_literal q (negation x) || b) (w.more q e)
              ∙ or-true (same_literal q (negation x));
          falls = falls w.reached w.falls;
          goes = behind live set tail ∙ w.goes ∙ step-is live w.reached is.clause.id tail c.0 (Forces (negation x))
              c.1.0 (reading-set w.reached c.0 (negation x ∷ []) c.1.1 ∙ read);
        })

    on : (live : Live) (set : LiteralSet) (tail : List ℕ) → Cites live k
        → (steps live set (hints ++ is.clause.id ∷ tail) ≡ Accepted)
        ⊎ LeadsOn live l seen set hints (is.clause.id ∷ tail)
        → (steps live set ((hints ++ is.clause.id ∷ []) ++ tail) ≡ Accepted)
        ⊎ LeadsOn live l (seen ++ x ∷ []) set (hints ++ is.clause.id ∷ []) tail
    on live set tail cites (inl done) = inl (behind live set tail ∙ done)
    on live set tail cites (inr w) = step live set tail cites w (unit-read w.reached (negation x))

-- a clause of these literals comes last: the one is derived
pub derived : (k : Clauses) (vars : ℕ) (l : Literal) (lits : List Literal) (hints : List ℕ) (place : Place)
    (c : BaseClause) → AreHints k l lits hints → finite.get k place.0 ≡ Some c
    → set.contains c.literals ≡ members lits → l.index < vars → IsProved k vars (l ∷ []) (hints ++ c.id ∷ [])
derived k vars l lits hints place c are there has low = record {
  normal = ((λ q m. absurd (cc)), tt);
  within = All-cons (λ (q : Literal). q.index < vars) l [] low (All-nil (λ (q : Literal). q.index < vars));
  cited = All-push (HasId k) hints c.id are.cited (place, (c, there, refl));
  accepted = λ live cites. on live cites (are.leads live (negated (l ∷ [])) (c.id ∷ []) cites);
}
  where
    given : (q : Literal) → same_literal q l ≡ true → negated (l ∷ []) (negation q) ≡ true
    given q same = negated-is (l ∷ []) (negation q) ∙ ap (members (l ∷ [])) (negation-negation q)
        ∙ ap (λ b. b || false) same

    falls : (live : Live) (w : LeadsOn live l lits (negated (l ∷ [])) hints (c.id ∷ [])) (q : Literal)
        → members lits q ≡ true → w.reached (negation q) ≡ true
    falls live w q m = elim (same_literal q l) as (λ b. same_literal q l ≡ b → w.reached (negation q) ≡ true) [
      | true ↦ λ same. w.more (negation q) (given q same)
      | false ↦ λ apart. w.falls q m apart
    ] refl

    on : (live : Live) → Cites live k
        → (steps live (negated (l ∷ [])) (hints ++ c.id ∷ []) ≡ Accepted)
        ⊎ LeadsOn live l lits (negated (l ∷ [])) hints (c.id ∷ [])
        → steps live (negated (l ∷ [])) (hints ++ c.id ∷ []) ≡ Accepted
    on live cites (inl done) = done
    on live cites (inr w) =
        let d = cited-list live c.id (members lits) (cites place.0 c there ∙ ap Some has) in
        w.goes ∙ step-is live w.reached c.id [] d.0 Falsified d.1.0
        (reads-falsified w.reached d.0 (λ q m. falls live w q (sym (ap (λ s. s q) d.1.1) ∙ m)))
