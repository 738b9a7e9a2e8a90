-- the literals that are settled, one after the other
use Rattle.std.proofs.Common.{◌≡◌, ℕ, ◌+◌, ◌<◌, List, [], ◌∷◌, ◌++◌, take, All, Some, sym, ap, ◌∙◌, subst, arith}
use Rattle.std.specs.Prelude.{slice_get}
use Rattle.std.proofs.lemmas.List.{take_more, get_or-take, length-take-le}
use Rattle.std.proofs.lemmas.List.Elements.{All-push}
use Rattle.std.proofs.lemmas.Option.{slice_get_within, get_or_from_slice_get}
use Rattle.gr_trail.specs.Trails.{Assigned}
use Rattle.gr_prop.specs.Bases.{Clauses}
use Rattle.gr_search.specs.Keeping.{IsSettled}
use Rattle.gr_search.specs.Settling.{AreSettled}

-- one literal more is settled
pub settled-more : (k : Clauses) (xs : List Assigned) (n : ℕ) (a : Assigned) → slice_get xs n ≡ Some a
    → AreSettled k xs n → IsSettled k a → AreSettled k xs (n + 1)
settled-more k xs n a here so_far is =
    let low = slice_get_within xs n a here in
    record {
      there = omega (arith, low);
      each = subst (All (IsSettled k)) (sym (take_more xs n a low
          ∙ ap (λ (x : Assigned). take n xs ++ x ∷ []) (get_or_from_slice_get xs n a a here)))
          (All-push (IsSettled k) (take n xs) a so_far.each is);
    }

-- each of those before is settled
pub settled-before : (k : Clauses) (xs : List Assigned) (n i : ℕ) (a : Assigned) → AreSettled k xs n → i < n
    → slice_get xs i ≡ Some a → IsSettled k a
settled-before k xs n i a so_far before here =
    let is = so_far.each i a (omega (arith, before, length-take-le n xs so_far.there)) in
    subst (IsSettled k) (get_or-take n xs i a before ∙ get_or_from_slice_get xs i a a here) is
