-- formulas that grow by clauses
use Rattle.std.proofs.Common.{◌≡◌, ◌+◌, ℕ, List, [], ◌∷◌, ◌++◌, append_assoc, map, sym, ap, ◌∙◌}
use Rattle.std.specs.List.{flat_map, range_with_len}
use Rattle.std.proofs.lemmas.List.FromFn.{map-range_with_len_more}
use Rattle.gr_logic.specs.Literals.{Literal}
use Rattle.gr_logic.specs.Formulas.{Cnf}
use Rattle.gr_gen.proofs.Counting.{flat_map-more}

-- clauses behind known ones
pub grows : (f g : Cnf) (vars : ℕ) (before more all : List (List Literal))
    → f ≡ record { vars = vars; clauses = before } → g ≡ record f { clauses = f.clauses ++ more }
    → before ++ more ≡ all → g ≡ record { vars = vars; clauses = all }
grows f g vars before more all was is whole =
    is ∙ ap (λ (h : Cnf). record h { clauses = h.clauses ++ more }) was
    ∙ ap {B = Cnf} (λ cs. record { vars = vars; clauses = cs }) whole

module _ {X : Type 0} (front : List X) (a n j k : ℕ) (at : a + n ≡ j) (next : k ≡ n + 1) where
  -- the next of a range's elements comes behind the others
  pub push-next : (f : ℕ → X) (x : X) → x ≡ f j
      → (front ++ map f (range_with_len a n)) ++ x ∷ [] ≡ front ++ map f (range_with_len a k)
  push-next f x is =
      append_assoc front (map f (range_with_len a n)) (x ∷ [])
      ∙ ap (λ y. front ++ (map f (range_with_len a n) ++ y ∷ [])) is
      ∙ ap (λ ys. front ++ ys) (sym (map-range_with_len_more f a n j at))
      ∙ ap (λ m. front ++ map f (range_with_len a m)) (sym next)

  -- and so do the next of a range's lists
  pub append-next : (f : ℕ → List X)
      → (front ++ flat_map f (range_with_len a n)) ++ f j ≡ front ++ flat_map f (range_with_len a k)
  append-next f =
      append_assoc front (flat_map f (range_with_len a n)) (f j)
      ∙ ap (λ ys. front ++ ys) (sym (flat_map-more f a n j at))
      ∙ ap (λ m. front ++ flat_map f (range_with_len a m)) (sym next)
