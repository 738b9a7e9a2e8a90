-- an assignment that makes the literals of a trail true, one after the other
use Rattle.std.proofs.Common.{◌≡◌, ◌≢◌, inl, inr, ℕ, ◌+◌, ◌<◌, Bool, true, false, not, List, [], ◌∷◌, length, set, get_or, get_or-set_same, get_or-set_other, Some, refl, sym, ap, ◌∙◌, subst, arith, if◌then◌else◌}
use Rattle.std.specs.Prelude.{slice_get}
use Rattle.std.proofs.lemmas.Bool.{cases_eq}
use Rattle.std.proofs.lemmas.Option.{slice_get-get_or}
use Rattle.gr_logic.specs.Literals.{Literal}
use Rattle.gr_logic.specs.Truth.{literal_true, value_of}
use Rattle.gr_trail.specs.Trails.{Assigned, TrailState, IsTrail, lits_of}
use Rattle.gr_trail.proofs.Climbing.{some-is}
use Rattle.gr_trail.proofs.Standing.{one-place}
use Rattle.gr_search.specs.Keeping.{MakesTrue}
use Rattle.gr_search.proofs.TrailLiterals.{StandsAt}

-- the literals up to a place are true
abbrev pub AreTrueUpTo : List Bool → List Assigned → ℕ → Type 0
AreTrueUpTo model xs n = (k : ℕ) (a : Assigned) → k < n → slice_get xs k ≡ Some a → literal_true model a.lit ≡ true

by-value : (p v : Bool) → v ≡ p → (if p then v else not v) ≡ true
by-value true v e = e
by-value false v e = ap not e

-- what is set makes its literal true
set-true : (model : List Bool) (l : Literal) → l.index < length model
    → literal_true (set model l.index l.positive) l ≡ true
set-true model l low =
    by-value l.positive (value_of (set model l.index l.positive) l.index)
    (get_or-set_same model l.index l.positive false low)

-- and leaves those of other variables
set-other : (model : List Bool) (l q : Literal) → q.index ≢ l.index
    → literal_true (set model l.index l.positive) q ≡ literal_true model q
set-other model l q apart =
    ap (λ (v : Bool). if q.positive then v else not v)
    (get_or-set_other model l.index q.index l.positive false apart)

pub true-more : (t : TrailState) (model : List Bool) (i : ℕ) (l : Literal) → IsTrail t → StandsAt t.assigned i l
    → l.index < length model → AreTrueUpTo model t.assigned i
    → AreTrueUpTo (set model l.index l.positive) t.assigned (i + 1)
true-more t model i l trail at low so_far k a before here =
    elim (cases_eq k i) as (λ _. literal_true (set model l.index l.positive) a.lit ≡ true) [
      | inl same ↦
          let is : a ≡ at.is = some-is a at.is (sym here ∙ ap (slice_get t.assigned) same ∙ at.there) in
          subst (λ (q : Literal). literal_true (set model l.index l.positive) q ≡ true)
          (sym (ap (λ (x : Assigned). x.lit) is ∙ at.literal)) (set-true model l low)
      | inr apart ↦
          set-other model l a.lit (λ e. apart (one-place t k i a at.is trail here at.there
          (e ∙ sym (ap (λ (q : Literal). q.index) at.literal))))
          ∙ so_far k a (grind (arith, before, apart)) here
    ]

pub all-true : (xs : List Assigned) (model : List Bool) → AreTrueUpTo model xs (length xs) → MakesTrue model xs
all-true xs model each k d low = each k (get_or xs k d) low (slice_get-get_or xs k d low)

pub lits-length : (xs : List Assigned) → length (lits_of xs) ≡ length xs
lits-length [] = refl
lits-length (x ∷ xs) = omega (arith, lits-length xs)
