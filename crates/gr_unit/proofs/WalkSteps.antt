-- one step of greedy strengthening through a list
use Rattle.std.proofs.Common.{◌≡◌, ℕ, ◌+◌, ◌<◌, List, ◌∷◌, suc, length, drop, sym, ap, ◌∙◌, subst, slice_index_or, add-one, drop-cons}
use Rattle.gr_logic.specs.Literals.{Literal}
use Rattle.gr_logic.specs.Closure.{ClauseFamily}
use Rattle.gr_logic.specs.Greedy.{WalkKeeps}

dropped : (ls : List Literal) (i : ℕ) (x : Literal) → i < length ls → x ≡ slice_index_or ls i x
    → drop i ls ≡ x ∷ drop (i + 1) ls
dropped ls i x within is =
    rw add-one (drop-cons ls i x within ∙ ap (λ y. y ∷ drop (suc i) ls) (sym is))

-- the walk on what is left begins with the next literal
pub next-literal : (k : ClauseFamily) (kept ls : List Literal) (i : ℕ) (x : Literal) (outcome : List Literal)
    → i < length ls → x ≡ slice_index_or ls i x
    → WalkKeeps k kept (x ∷ drop (i + 1) ls) outcome → WalkKeeps k kept (drop i ls) outcome
next-literal k kept ls i x outcome within is walk =
    subst (λ rest. WalkKeeps k kept rest outcome) (sym (dropped ls i x within is)) walk
