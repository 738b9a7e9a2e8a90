-- clauses that have a literal and its negation
use Rattle.std.proofs.Common.{◌≡◌, Bool, true, false, not, ◌||◌, List, [], ◌∷◌, refl, sym, ap, ◌∙◌}
use Rattle.gr_logic.specs.Literals.{Literal, negation, same_literal}
use Rattle.gr_logic.specs.Rup.{members}
use Rattle.gr_logic.specs.NormalForms.{IsTautology, IsNormal}
use Rattle.gr_logic.specs.Truth.{literal_true, clause_true, Meets}
use Rattle.gr_logic.proofs.Sound.{same_literal-is, literal_true-negation}
use Rattle.gr_logic.proofs.SameLiteral.{negation-apart, or-true}

-- a clause of different variables has no literal beside its negation
pub never-both : (c : List Literal) (l : Literal) → IsNormal c → members c l ≡ true → members c (negation l) ≡ true → ⊥
never-both [] l normal one other = let e : false ≡ true = one in cc
never-both (x ∷ xs) l normal one other = by (same_literal l x) (same_literal (negation l) x) refl refl one other
    (never-both xs l normal.1)
  where
    by : (a b : Bool) → same_literal l x ≡ a → same_literal (negation l) x ≡ b
        → (same_literal l x || members xs l) ≡ true
        → (same_literal (negation l) x || members xs (negation l)) ≡ true
        → (members xs l ≡ true → members xs (negation l) ≡ true → ⊥) → ⊥
    by true true is isnt m n rest =
        let e : l ≡ x = same_literal-is l x is in
        let f : same_literal (negation x) x ≡ true = ap (λ q. same_literal (negation q) x) (sym e) ∙ isnt in
        let g : false ≡ true = sym (negation-apart x) ∙ f in cc
    by true false is isnt m n rest =
        normal.0 (negation l) (sym (ap (λ b. b || members xs (negation l)) isnt) ∙ n)
        (ap (λ (q : Literal). q.index) (same_literal-is l x is))
    by false true is isnt m n rest =
        normal.0 l (sym (ap (λ b. b || members xs l) is) ∙ m)
        (ap (λ (q : Literal). q.index) (same_literal-is (negation l) x isnt))
    by false false is isnt m n rest =
        rest (sym (ap (λ b. b || members xs l) is) ∙ m) (sym (ap (λ b. b || members xs (negation l)) isnt) ∙ n)

-- a clause with a true literal is true
some-true : (a : List Bool) (c : List Literal) (l : Literal) → members c l ≡ true → literal_true a l ≡ true
    → clause_true a c ≡ true
some-true a [] l m t = m
some-true a (x ∷ xs) l m t = by (same_literal l x) refl m (λ n. some-true a xs l n t)
  where
    by : (b : Bool) → same_literal l x ≡ b → (same_literal l x || members xs l) ≡ true
        → (members xs l ≡ true → clause_true a xs ≡ true) → (literal_true a x || clause_true a xs) ≡ true
    by true is n rest =
        ap (λ b. b || clause_true a xs) (ap (literal_true a) (sym (same_literal-is l x is)) ∙ t)
    by false is n rest =
        ap (λ b. literal_true a x || b) (rest (sym (ap (λ b. b || members xs l) is) ∙ n)) ∙ or-true (literal_true a x)

-- every assignment satisfies a tautology
pub tautology-met : (a : List Bool) (c : List Literal) → IsTautology c → Meets a c
tautology-met a c t = by (literal_true a t.0) refl
  where
    by : (b : Bool) → literal_true a t.0 ≡ b → Meets a c
    by true is = some-true a c t.0 t.1 is
    by false is = some-true a c (negation t.0) t.2 (literal_true-negation a t.0 ∙ ap not is)
