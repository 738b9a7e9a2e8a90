-- the other literals of the reason of the first literal that is not settled
use Rattle.std.proofs.Common.{◌≡◌, ◌⊎◌, inl, inr, ℕ, zero, suc, ◌<◌, Bool, true, false, not, List, [], ◌∷◌, length, get_or, Some, None, is_some, IsSome, refl, sym, ap, ◌∙◌, subst, arith, nat_eq}
use Rattle.std.specs.Option.{option_map}
use Rattle.gr_logic.specs.Literals.{Literal, negation, same_literal, var_of}
use Rattle.gr_logic.specs.Codes.{code_of}
use Rattle.gr_logic.specs.Rup.{LiteralSet, members}
use Rattle.gr_logic.specs.Closure.{no_literals}
use Rattle.gr_logic.specs.declared.places.Place.{Place}
use Rattle.gr_logic.proofs.FiniteSets.{same-code}
use Rattle.gr_logic.proofs.Sound.{same_literal-is}
use Rattle.gr_logic.proofs.SameLiteral.{members-first, members-later}
use Rattle.gr_trail.specs.Trails.{Assigned, TrailState, IsTrail, assigned_to}
use Rattle.gr_trail.proofs.Climbing.{level-ends}
use Rattle.gr_trail.proofs.Standing.{assigned-at}
use Rattle.gr_prop.specs.Bases.{BaseState, IsBase, family}
use Rattle.gr_prop.proofs.Founded.{Before, founded-at}
use Rattle.gr_search.specs.Keeping.{IsSettled}
use Rattle.gr_search.specs.Settling.{IsFirstUnsettled}
use Rattle.gr_search.proofs.StoredReasons.{one-reason}
use Rattle.gr_search.proofs.SettledLiterals.{settled-before}
use Rattle.gr_search.proofs.TrailLiterals.{StandsAt, has-value}

-- what stands in a list is a member
pub member-at : (ls : List Literal) (i : ℕ) (d : Literal) → i < length ls → members ls (get_or ls i d) ≡ true
member-at [] i d low = absurd (omega (arith, low))
member-at (x ∷ xs) zero d low = members-first x xs
member-at (x ∷ xs) (suc i) d low = members-later (get_or xs i d) x xs (member-at xs i d (omega (arith, low)))

-- literals of different codes are two
pub apart-by : (q l : Literal) → not (nat_eq (code_of q) (code_of l)) ≡ true → same_literal q l ≡ false
apart-by q l e = sym (same-code q l) ∙ no (nat_eq (code_of q) (code_of l)) e
  where
    no : (b : Bool) → not b ≡ true → b ≡ false
    no true e = absurd (cc)
    no false e = refl

-- and of one code they are one
pub same-by : (q l : Literal) → not (nat_eq (code_of q) (code_of l)) ≡ false → q ≡ l
same-by q l e = same_literal-is q l (sym (same-code q l) ∙ yes (nat_eq (code_of q) (code_of l)) e)
  where
    yes : (b : Bool) → not b ≡ false → b ≡ true
    yes true e = refl
    yes false e = absurd (cc)

-- the literal's negation is settled
pub record IsOpposite (b : BaseState) (q : Literal) : Type 0 where
  pub is : Assigned
  pub to : assigned_to b.trail.assigned (var_of q) ≡ Some is
  pub made : is.lit ≡ negation q
  pub settled : IsSettled b.clauses is

-- where the first literal stands
pub first-stands : (b : BaseState) (n : ℕ) (l : Literal) → IsFirstUnsettled b.clauses b.trail.assigned n l
    → StandsAt b.trail.assigned n l
first-stands b n l first = record { is = first.is; there = first.stands; literal = first.literal }

pub first-assigned : (b : BaseState) (t : TrailState) (n : ℕ) (l : Literal) (var : ℕ) → IsTrail b.trail → t ≡ b.trail
    → var ≡ var_of l → IsFirstUnsettled b.clauses b.trail.assigned n l → IsSome (assigned_to t.assigned var)
first-assigned b t n l var trail same is first =
    let value = has-value b.trail n l trail (first-stands b n l first) in
    let some : IsSome (assigned_to b.trail.assigned (var_of l)) = ap is_some value in
    subst (λ (m : ℕ). IsSome (assigned_to t.assigned m)) (sym is)
    (subst (λ (u : TrailState). IsSome (assigned_to u.assigned (var_of l))) (sym same) some)

-- at level zero it has a reason
pub first-forced : (b : BaseState) (t : TrailState) (n : ℕ) (l : Literal) (var : ℕ) → IsTrail b.trail
    → b.trail.depth ≡ 0 → t ≡ b.trail → var ≡ var_of l → IsFirstUnsettled b.clauses b.trail.assigned n l
    → option_map (λ (a : Assigned). a.reason) (assigned_to t.assigned var) ≡ Some None → ⊥
first-forced b t n l var trail ground same is first told =
    let at = first-stands b n l first in
    let value = has-value b.trail n l trail at in
    let ends = level-ends b.trail (var_of l) at.is trail value in
    let low = ends.0 in
    let some : IsSome at.is.reason = ends.1 (omega (arith, low, ground)) in
    let e : option_map (λ (x : Assigned). x.reason) (assigned_to t.assigned var) ≡ Some at.is.reason =
    ap (λ (v : TrailState). option_map (λ (x : Assigned). x.reason) (assigned_to v.assigned var)) same
    ∙ ap (λ (m : ℕ). option_map (λ (x : Assigned). x.reason) (assigned_to b.trail.assigned m)) is
    ∙ ap (option_map (λ (x : Assigned). x.reason)) value in
    let f : Some at.is.reason ≡ Some None = sym e ∙ told in
    let none : at.is.reason ≡ None = cc in
    let no : false ≡ true = sym (ap is_some none) ∙ some in
    cc

-- each other literal of its reason is the negation of a settled one
pub others-settled : (b : BaseState) (t : TrailState) (n : ℕ) (l : Literal) (var : ℕ) (place : Place)
    (lits : List Literal) → IsBase b → IsTrail b.trail → IsFirstUnsettled b.clauses b.trail.assigned n l
    → t ≡ b.trail → var ≡ var_of l
    → option_map (λ (a : Assigned). a.reason) (assigned_to t.assigned var) ≡ Some (Some place)
    → family b.clauses place.0 ≡ Some (members lits) → (q : Literal) → members lits q ≡ true
    → same_literal q l ≡ false → IsOpposite b q
others-settled b t n l var place lits base trail first same is told there q m apart =
    let at = first-stands b n l first in
    let r : at.is.reason ≡ Some place =
    one-reason t b.trail l var place at.is same is told (has-value b.trail n l trail at) in
    let f = founded-at (family b.clauses) no_literals b.trail.assigned n at.is place base.founded at.there r in
    let one : f.clause ≡ members lits = inside (sym f.there ∙ there) in
    go (f.others q (ap (λ (c : LiteralSet). c q) one ∙ m) (ap (same_literal q) at.literal ∙ apart))
  where
    inside : {a b : LiteralSet} → Some a ≡ Some b → a ≡ b
    inside e = cc

    go : (no_literals (negation q) ≡ true) ⊎ Before b.trail.assigned n (negation q) → IsOpposite b q
    go (inl w) = absurd (cc)
    go (inr w) = record {
      is = w.is;
      to = subst (λ (v : ℕ). assigned_to b.trail.assigned v ≡ Some w.is) (ap var_of w.makes)
          (assigned-at b.trail w.at w.is trail w.there);
      made = w.makes;
      settled = settled-before b.clauses b.trail.assigned n w.at w.is first.settled w.earlier w.there;
    }
