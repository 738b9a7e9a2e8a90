-- marked variables, and one more
use Rattle.std.proofs.Common.{◌≡◌, ◌⊎◌, ℕ, suc, ◌<◌, Bool, true, false, ◌||◌, List, [], ◌∷◌, ◌++◌, length, get_or, refl, sym, ap, ◌∙◌, inl, inr, arith, nat_eq, if◌then◌else◌}
use Rattle.std.proofs.lemmas.Bool.Decides.{nat_tests}
use Rattle.gr_logic.proofs.SameLiteral.{or-true}
use Rattle.gr_hints.specs.Marking.{is_marked, with_mark}
use Rattle.gr_hints.proofs.MarkedLists.{is_marked-push}

-- what was marked still is
pub marked-more : (marked : List ℕ) (var v : ℕ) → is_marked marked v ≡ true
    → is_marked (with_mark marked var) v ≡ true
marked-more marked var v m = go (is_marked marked var)
  where
    go : (b : Bool) → is_marked (if b then marked else marked ++ var ∷ []) v ≡ true
    go true = m
    go false = is_marked-push marked var v ∙ ap (λ b. b || nat_eq v var) m

-- so is the variable that is marked now
pub marked-now : (marked : List ℕ) (var : ℕ) → is_marked (with_mark marked var) var ≡ true
marked-now marked var = go (is_marked marked var) refl
  where
    go : (b : Bool) → is_marked marked var ≡ b
        → is_marked (if b then marked else marked ++ var ∷ []) var ≡ true
    go true m = m
    go false m =
        let e : nat_eq var var ≡ true = grind (arith, nat_tests) in
        is_marked-push marked var var ∙ ap (λ b. is_marked marked var || b) e
        ∙ or-true (is_marked marked var)

-- and no other
pub marked-cases : (marked : List ℕ) (var v : ℕ) → is_marked (with_mark marked var) v ≡ true
    → (is_marked marked v ≡ true) ⊎ (v ≡ var)
marked-cases marked var v m = go (is_marked marked var) m
  where
    either : (a : Bool) → is_marked marked v ≡ a → (a || nat_eq v var) ≡ true
        → (a ≡ true) ⊎ (v ≡ var)
    either true e m = inl refl
    either false e m = inr (let r : v ≡ var = grind (arith, nat_tests) in r)

    go : (b : Bool) → is_marked (if b then marked else marked ++ var ∷ []) v ≡ true
        → (is_marked marked v ≡ true) ⊎ (v ≡ var)
    go true m = inl m
    go false m = either (is_marked marked v) refl (sym (is_marked-push marked var v) ∙ m)

-- a marked variable is at some place of the list
pub marked-find : (xs : List ℕ) (v : ℕ) → is_marked xs v ≡ true
    → (k : ℕ) × ((k < length xs) × ((d : ℕ) → get_or xs k d ≡ v))
marked-find [] v m = absurd (cc)
marked-find (x ∷ xs) v m =
    elim (nat_eq v x) as (λ b. nat_eq v x ≡ b → (b || is_marked xs v) ≡ true
    → (k : ℕ) × ((k < length (x ∷ xs)) × ((d : ℕ) → get_or (x ∷ xs) k d ≡ v))) [
      | true ↦ λ e _. (0, (omega arith, λ d. (let r : x ≡ v = grind (arith, nat_tests) in r)))
      | false ↦ λ _ n.
          let rest = marked-find xs v n in
          (suc rest.0, (let h = rest.1.0 in omega arith, rest.1.1))
    ] refl m
