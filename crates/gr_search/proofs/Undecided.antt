-- which variables may be decided, by the literals of the trail
use Rattle.std.proofs.Common.{◌≡◌, ◌≢◌, ℕ, zero, suc, ◌+◌, ◌<◌, ◌≤◌, Bool, true, false, ◌||◌, List, [], ◌∷◌, length, take, Some, None, refl, sym, ap, ◌∙◌, subst, arith, set, get_or, if◌then◌else◌, nat_le, inl, inr, get_or-set_same, get_or-set_other, length-set}
use Rattle.std.specs.Prelude.{slice_get}
use Rattle.std.proofs.lemmas.Bool.{cases_eq, le-leb}
use Rattle.std.proofs.lemmas.List.{take_more, take_all}
use Rattle.std.proofs.lemmas.List.Elements.{All-cons, All-head, All-tail, All-push}
use Rattle.gr_logic.specs.Literals.{Literal, negation, same_literal}
use Rattle.gr_logic.specs.Rup.{members}
use Rattle.gr_trail.specs.Trails.{Assigned, lits_of, true_in, value_in, up_to}
use Rattle.gr_trail.proofs.Truths.{Lacks, lacks, value_by, value_lacking}
use Rattle.gr_search.specs.Deciding.{HoldsOpen, may_be_decided}

-- each variable that none of the literals has may be decided
abbrev pub IsOpenFor : List Bool → List Literal → Type 0
IsOpenFor present lits = (i : ℕ) → i < length present → Lacks lits i → may_be_decided present i ≡ true

-- how many may be decided
abbrev pub count_true : List Bool → ℕ
count_true [] = 0
count_true (b ∷ bs) = if b then count_true bs + 1 else count_true bs

lits-members : (xs : List Assigned) (q : Literal) → true_in xs q ≡ members (lits_of xs) q
lits-members [] q = refl
lits-members (x ∷ xs) q = ap (λ b. same_literal q x.lit || b) (lits-members xs q)

pub lits-value : (xs : List Assigned) (q : Literal) → value_in xs q ≡ value_by (lits_of xs) q
lits-value xs q =
    λ i. if lits-members xs q i then Some true else (if lits-members xs (negation q) i then Some false else None)

none-parts : (s t : Bool) → (if s then Some true else (if t then Some false else None)) ≡ None
    → (s ≡ false) × (t ≡ false)
none-parts true t e = absurd (cc)
none-parts false true e = absurd (cc)
none-parts false false e = (refl, refl)

-- by the literals, and by the trail
pub open-lits : (present : List Bool) (xs : List Assigned) → HoldsOpen present xs → IsOpenFor present (lits_of xs)
open-lits present xs holds i low free =
    let l : Literal = record { index = i; positive = true } in
    holds l low (lits-value xs l ∙ value_lacking (lits_of xs) l free)

pub lits-open : (present : List Bool) (xs : List Assigned) → IsOpenFor present (lits_of xs) → HoldsOpen present xs
lits-open present xs holds l low none =
    let p = none-parts (members (lits_of xs) l) (members (lits_of xs) (negation l)) (sym (lits-value xs l) ∙ none) in
    holds l.index low (lacks (lits_of xs) l p.0 p.1)

-- one that is taken out counts no more
pub count-less : (bs : List Bool) (i : ℕ) → get_or bs i false ≡ true → count_true (set bs i false) < count_true bs
count-less [] i is = absurd (cc)
count-less (true ∷ bs) zero is = omega arith
count-less (false ∷ bs) zero is = absurd (cc)
count-less (true ∷ bs) (suc i) is = omega (arith, count-less bs i is)
count-less (false ∷ bs) (suc i) is = omega (arith, count-less bs i is)

-- the variable of the last literal is put back, and the others are as they were
pub open-step : (present : List Bool) (lits : List Literal) (i : ℕ) (d : Literal) → i < length lits
    → (get_or lits i d).index < length present → IsOpenFor present (take (i + 1) lits)
    → IsOpenFor (set present (get_or lits i d).index true) (take i lits)
open-step present lits i d low known holds j within free =
    elim (cases_eq j (get_or lits i d).index)
    as (λ _. get_or (set present (get_or lits i d).index true) j false ≡ true) [
      | inl same ↦ subst (λ n. get_or (set present (get_or lits i d).index true) n false ≡ true) (sym same)
          (get_or-set_same present (get_or lits i d).index true false known)
      | inr apart ↦
          get_or-set_other present (get_or lits i d).index j true false apart
          ∙ holds j (omega (arith, within, length-set present (get_or lits i d).index true))
          (subst (λ ls. Lacks ls j) (sym (take_more lits i d low))
          (All-push (λ q. q.index ≢ j) (take i lits) (get_or lits i d) free (λ e. apart (sym e))))
    ]

-- what is kept at the level has the literals before a place, where these were assigned at the level or below
pub lacks-up : (b : ℕ) (xs : List Assigned) (n j : ℕ)
    → ((k : ℕ) (a : Assigned) → k < n → slice_get xs k ≡ Some a → a.level ≤ b)
    → Lacks (lits_of (up_to b xs)) j → Lacks (take n (lits_of xs)) j
lacks-up b [] n j low free =
    subst (λ ls. Lacks ls j) (sym (take_all n [] (omega arith))) (λ k d lt. absurd (omega (arith, lt)))
lacks-up b (x ∷ xs) zero j low free = λ k d lt. absurd (omega (arith, lt))
lacks-up b (x ∷ xs) (suc n) j low free =
    let here : nat_le x.level b ≡ true = le-leb x.level b (low 0 x (omega arith) refl) in
    let kept : Lacks (x.lit ∷ lits_of (up_to b xs)) j =
    subst (λ (t : Bool). Lacks (lits_of (if t then x ∷ up_to b xs else up_to b xs)) j) here free in
    All-cons (λ q. q.index ≢ j) x.lit (take n (lits_of xs))
    (All-head (λ q. q.index ≢ j) x.lit (lits_of (up_to b xs)) kept)
    (lacks-up b xs n j (λ k a lt at. low (suc k) a (omega (arith, lt)) at)
    (All-tail (λ q. q.index ≢ j) x.lit (lits_of (up_to b xs)) kept))

-- the literals of one variable have no value together
pub none-alike : (xs : List Assigned) (l q : Literal) → l.index ≡ q.index → value_in xs l ≡ None
    → value_in xs q ≡ None
none-alike xs l q same none =
    let p = none-parts (members (lits_of xs) l) (members (lits_of xs) (negation l)) (sym (lits-value xs l) ∙ none) in
    lits-value xs q ∙ value_lacking (lits_of xs) q (subst (Lacks (lits_of xs)) same (lacks (lits_of xs) l p.0 p.1))

-- a variable that has a value is taken out
pub open-without : (present : List Bool) (xs : List Assigned) (q : Literal) → HoldsOpen present xs
    → (value_in xs q ≡ None → ⊥) → HoldsOpen (set present q.index false) xs
open-without present xs q holds some l low none =
    let apart : l.index ≢ q.index = λ same. some (none-alike xs l q same none) in
    get_or-set_other present q.index l.index false false apart
    ∙ holds l (omega (arith, low, length-set present q.index false)) none
