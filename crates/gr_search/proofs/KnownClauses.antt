-- the formula's clauses stay where they are, whatever comes in above them or goes out from there
use Rattle.std.proofs.Common.{◌≡◌, ◌⊎◌, ℕ, ◌<◌, ◌≤◌, true, false, ◌||◌, List, [], ◌∷◌, length, Option, Some, None, refl, ap, ◌∙◌, arith, nat_eq, inl, inr, All}
use Rattle.std.specs.Option.{option_map, is_some, unwrap_or}
use Rattle.std.proofs.lemmas.Bool.Decides.{nat_tests}
use Rattle.std.proofs.lemmas.List.Elements.{All-head, All-tail, All-weaker}
use Rattle.std.specs.FinMap as finite
use Rattle.std.specs.FinSet as set
use Rattle.gr_logic.specs.Literals.{Literal}
use Rattle.gr_logic.specs.Formulas.{Cnf}
use Rattle.gr_logic.specs.NormalForms.{IsTautology}
use Rattle.gr_logic.specs.Rup.{members}
use Rattle.gr_diary.specs.States.{has}
use Rattle.gr_prop.specs.Bases.{BaseClause, Clauses, family}
use Rattle.gr_import.specs.Imports.{IsWithout}
use Rattle.gr_search.specs.HeldClauses.{Knows, HasOwnIds, IsUnderOwnId, HoldsFormula}
use Rattle.gr_search.specs.TakingOver.{IsWith, AreWithout}
use Rattle.gr_search.proofs.Holding.{HasOwnPlaces}
use Rattle.gr_search.proofs.HeldChanges.{by-number, with-kept, with-old, with-new, left-old, left-kept}

-- a clause that is no tautology goes on
carried : (c : List Literal) (last : ℕ) (k n : Clauses) → (IsUnderOwnId last k c → IsUnderOwnId last n c)
    → IsTautology c ⊎ IsUnderOwnId last k c → IsTautology c ⊎ IsUnderOwnId last n c
carried c last k n on (inl t) = inl t
carried c last k n on (inr u) = inr (on u)

-- where each clause under an id of the formula's is in the new database too, and the other way round
module _ (f : Cnf) (k n : Clauses) (holds : HoldsFormula f k)
    (old : (p : ℕ) (d : BaseClause) → finite.get n p ≡ Some d → d.id ≤ length f.clauses
    → (q : ℕ) × (finite.get k q ≡ Some d))
    (kept : (p : ℕ) (d : BaseClause) → finite.get k p ≡ Some d → d.id ≤ length f.clauses
    → (q : ℕ) × (finite.get n q ≡ Some d)) where
  pub holds-still : HoldsFormula f n
  holds-still = record {
    cited = λ p d at low. let o = old p d at low in holds.cited o.0 d o.1 low;
    there = All-weaker (λ c. IsTautology c ⊎ IsUnderOwnId (length f.clauses) k c)
        (λ c. IsTautology c ⊎ IsUnderOwnId (length f.clauses) n c)
        (λ c. carried c (length f.clauses) k n (λ u.
        let o = kept u.place u.clause u.there u.own in
        record { place = o.0; clause = u.clause; there = o.1; own = u.own; is = u.is })) f.clauses holds.there;
  }

pub holds-with : (f : Cnf) (k n : Clauses) (id lbd : ℕ) (c : List Literal) → HoldsFormula f k → length f.clauses < id
    → IsWith k n id lbd c → HoldsFormula f n
holds-with f k n id lbd c holds above with = holds-still f k n holds
    (λ p d at low. (
      p,
      by-number (λ q. finite.get n q ≡ Some d → finite.get k q ≡ Some d) with.place p
          (λ same there.
          let is : id ≡ d.id = ap (λ (x : BaseClause). x.id) (with-new k n id lbd c with p d there same) in
          absurd (omega (arith, is, low, above)))
          (λ apart there. with-old k n id lbd c with p d there apart) at,
    ))
    (λ p d at low. (p, with-kept k n id lbd c with p d at))

pub holds-left : (f : Cnf) (k left : Clauses) (id len lbd : ℕ) → HoldsFormula f k → HasOwnPlaces k
    → length f.clauses < id → IsWithout k id len left lbd → HoldsFormula f left
holds-left f k left id len lbd holds own above gone = holds-still f k left holds
    (λ p d at low. (p, left-old k left id len lbd own gone p d at))
    (λ p d at low. (p, left-kept k left id len lbd own gone p d at (λ same. omega (arith, same, low, above))))

-- numbers above this one have none up to it among them
pub none-below : (last : ℕ) (ids : List ℕ) (q : ℕ) → All (λ id. last < id) ids → q ≤ last → has q ids ≡ false
none-below last [] q all low = refl
none-below last (id ∷ ids) q all low =
    let high : last < id = All-head (λ x. last < x) id ids all in
    let t : nat_eq q id ≡ false = grind (arith, nat_tests) in
    ap (λ b. b || has q ids) t ∙ none-below last ids q (All-tail (λ x. last < x) id ids all) low

pub holds-without : (f : Cnf) (k n : Clauses) (ids : List ℕ) → HoldsFormula f k
    → All (λ id. length f.clauses < id) ids → AreWithout k n ids → HoldsFormula f n
holds-without f k n ids holds above gone = holds-still f k n holds
    (λ p d at low. let o = gone.kept p d at in (o.0, o.1.0))
    (λ p d at low. gone.all p d at (none-below (length f.clauses) ids d.id above low))

-- at first each id is the formula's
pub holds-first : (f : Cnf) (k : Clauses) → Knows f k → HasOwnIds (length f.clauses) k → HoldsFormula f k
holds-first f k knows own = record {
  cited = knows.cited;
  there = All-weaker (λ c. IsTautology c ⊎ ((place : ℕ) × (family k place ≡ Some (members c))))
      (λ c. IsTautology c ⊎ IsUnderOwnId (length f.clauses) k c) each f.clauses knows.there;
}
  where
    under : (c : List Literal) (p : ℕ) (o : Option BaseClause) → finite.get k p ≡ o
        → option_map (λ d. set.contains d.literals) o ≡ Some (members c) → IsUnderOwnId (length f.clauses) k c
    under c p None at e = absurd (let g : false ≡ true = ap is_some e in cc)
    under c p (Some d) at e = record {
      place = p;
      clause = d;
      there = at;
      own = own p d at;
      is = ap (λ o. unwrap_or o (members c)) e;
    }

    each : (c : List Literal) → IsTautology c ⊎ ((place : ℕ) × (family k place ≡ Some (members c)))
        → IsTautology c ⊎ IsUnderOwnId (length f.clauses) k c
    each c (inl t) = inl t
    each c (inr u) = inr (under c u.0 (finite.get k u.0) refl u.1)
