-- how a visit ends
use Rattle.std.proofs.Common.{◌≡◌, ◌≢◌, ℕ, ◌<◌, ◌≤◌, true, false, ◌||◌, List, [], ◌∷◌, get_or, set, length, refl, sym, ap, ◌∙◌, subst, inl, inr, arith, ◌==◌, zero, suc, get_or-set_same}
use Rattle.std.proofs.lemmas.List.{set-set, set-get_or}
use Rattle.std.specs.List.{swap}
use Rattle.std.proofs.lemmas.Bool.Decides.{nat_tests}
use Rattle.gr_logic.specs.Literals.{Literal, negation, same_literal}
use Rattle.gr_logic.specs.Codes.{code_of, literal_of, literal_of-code_of}
use Rattle.gr_logic.specs.Rup.{members}
use Rattle.gr_logic.proofs.Sound.{same_literal-is}
use Rattle.gr_trail.specs.Trails.{Assigned, true_in}
use Rattle.gr_prop.specs.Watching.{AllFalse}
use Rattle.gr_prop.specs.Visits.{OthersFalse, IsWatchedIn, IsTurned}

-- two literals are one where their codes are
pub same-code : (a b : Literal) → (code_of a == code_of b) ≡ true → a ≡ b
same-code a b same =
    let e : code_of a ≡ code_of b = grind (arith, nat_tests) in
    sym (literal_of-code_of a) ∙ ap literal_of e ∙ literal_of-code_of b

pub other-code : (a b : Literal) → (code_of a == code_of b) ≡ false → a ≢ b
other-code a b apart is =
    let e : (code_of b == code_of b) ≡ false = subst (λ (l : Literal). (code_of l == code_of b) ≡ false) is apart in
    grind (arith, nat_tests)

pub head-is : (c : List Literal) (x first : Literal) (rest : List Literal) → x ≡ get_or c 0 x → c ≡ first ∷ rest → x
    ≡ first
head-is c x first rest at is = at ∙ ap (λ s. get_or s 0 x) is

pub rest-false : (xs : List Assigned) (rest : List Literal) →
    ((k : ℕ) (d : Literal) → k < length rest → true_in xs (negation (get_or rest k d)) ≡ true) → AllFalse xs rest
rest-false xs [] falses q m = absurd (cc)
rest-false xs (x ∷ rest) falses q m =
    elim (same_literal q x) as (λ b. same_literal q x ≡ b → (b || members rest q) ≡ true → true_in xs (negation q) ≡
    true) [
      | true ↦ λ same _. ap (λ y. true_in xs (negation y)) (same_literal-is q x same) ∙ falses 0 x (omega arith)
      | false ↦ λ _ m. rest-false xs rest (λ k d low. falses (suc k) d (omega arith)) q m
    ] refl m

pub others-false : (xs : List Assigned) (c : List Literal) (first gone : Literal) (rest : List Literal) → c ≡ first ∷
    gone ∷ rest
    → true_in xs (negation gone) ≡ true
    → ((k : ℕ) (d : Literal) → 2 ≤ k → k < length c → true_in xs (negation (get_or c k d)) ≡ true) → OthersFalse xs c
    first
others-false xs c first gone rest is second falses q m apart =
    let n : length c ≡ suc (suc (length rest)) = ap length is in
    let back : AllFalse xs rest = rest-false xs rest (λ k d low.
    ap (λ s. true_in xs (negation (get_or s (suc (suc k)) d))) (sym is) ∙ falses (suc (suc k)) d (omega arith)
    (omega arith)) in
    let there : members (first ∷ gone ∷ rest) q ≡ true = ap (λ s. members s q) (sym is) ∙ m in
    elim (same_literal q gone) as (λ b. same_literal q gone ≡ b → (b || members rest q) ≡ true → true_in xs
    (negation q) ≡ true) [
      | true ↦ λ same _. ap (λ y. true_in xs (negation y)) (same_literal-is q gone same) ∙ second
      | false ↦ λ _ later. back q later
    ] refl (rw apart at there)

pub all-false : (xs : List Assigned) (c : List Literal) (first : Literal) → true_in xs (negation first) ≡ true →
    OthersFalse xs c first → AllFalse xs c
all-false xs c first one others q m =
    elim (same_literal q first) as (λ b. same_literal q first ≡ b → true_in xs (negation q) ≡ true) [
      | true ↦ λ same. ap (λ y. true_in xs (negation y)) (same_literal-is q first same) ∙ one
      | false ↦ λ apart. others q m apart
    ] refl

pub moved-is : (c d : List Literal) (first gone : Literal) (rest : List Literal) (k : ℕ) (x : Literal) → c ≡ first ∷
    gone ∷ rest → 2 ≤ k
    → x ≡ get_or c k x → k < length c → d ≡ swap c 1 k → (left : List Literal) × (d ≡ first ∷ x ∷ left)
moved-is c d first gone rest k x is low at high e = go k low (at ∙ ap (λ s. get_or s k x) is)
    (omega (arith, ap length is)) (e ∙ ap (λ s. swap s 1 k) is)
  where
    go : (k : ℕ) → 2 ≤ k → x ≡ get_or (first ∷ gone ∷ rest) k x → k < suc (suc (length rest)) → d ≡ swap
        (first ∷ gone ∷ rest) 1 k
        → (left : List Literal) × (d ≡ first ∷ x ∷ left)
    go zero low at high e = absurd (omega arith)
    go (suc zero) low at high e = absurd (omega arith)
    go (suc (suc j)) low at high e = (
      set rest j gone,
      e ∙ ap (λ v. first ∷ v ∷ set rest j gone)
          (other rest j (omega arith) at),
    )
      where
        other : (rest : List Literal) (j : ℕ) → j < length rest → x ≡ get_or rest j x → get_or rest j first ≡ x
        other [] j high at = absurd (omega arith)
        other (y ∷ ys) zero high at = sym at
        other (y ∷ ys) (suc i) high at = other ys i (omega arith) at

-- two literals that change places twice are where they were
pub swapped-back : (first gone : Literal) (rest : List Literal) (k : ℕ) → 2 ≤ k → k < suc (suc (length rest))
    → swap (swap (first ∷ gone ∷ rest) 1 k) 1 k ≡ first ∷ gone ∷ rest
swapped-back first gone rest zero low high = absurd (omega arith)
swapped-back first gone rest (suc zero) low high = absurd (omega arith)
swapped-back first gone rest (suc (suc j)) low high =
    ap (λ y. first ∷ y ∷ set (set rest j gone) j (get_or rest j first))
    (get_or-set_same rest j gone first (omega arith))
    ∙ ap (λ r. first ∷ gone ∷ r) (set-set rest j gone (get_or rest j first) ∙ set-get_or rest j first)

pub watched-long : (c : List Literal) (gone : Literal) → IsWatchedIn c gone → 2 ≤ length c
watched-long [] gone w = absurd w
watched-long (x ∷ []) gone w = absurd w
watched-long (x ∷ y ∷ rest) gone w = omega arith

-- the first was the false one, and the two change places
pub turned-swap : (c d : List Literal) (gone x : Literal) → IsWatchedIn c gone → x ≡ get_or c 0 x → x ≡ gone → d ≡
    swap c 0 1 → IsTurned c d gone
turned-swap [] d gone x w at same is = absurd w
turned-swap (y ∷ []) d gone x w at same is = absurd w
turned-swap (y ∷ z ∷ rest) d gone x w at same is =
    let e : y ≡ gone = sym at ∙ same in
    record { first = z; rest = rest; is = is ∙ ap (λ v. z ∷ v ∷ rest) e; was = inr (ap (λ v. v ∷ z ∷ rest) e) }

-- the second was the false one
pub turned-already : (c d : List Literal) (gone x : Literal) → IsWatchedIn c gone → x ≡ get_or c 0 x → x ≢ gone → d ≡
    c → IsTurned c d gone
turned-already [] d gone x w at apart is = absurd w
turned-already (y ∷ []) d gone x w at apart is = absurd w
turned-already (y ∷ z ∷ rest) d gone x (inl e) at apart is = absurd (apart (at ∙ e))
turned-already (y ∷ z ∷ rest) d gone x (inr e) at apart is =
    record { first = y; rest = rest; is = is ∙ ap (λ v. y ∷ v ∷ rest) e; was = inl (ap (λ v. y ∷ v ∷ rest) e) }
