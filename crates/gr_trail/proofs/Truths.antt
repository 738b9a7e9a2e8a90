-- the values of literals, where a literal is made true and where it is taken back
use Rattle.std.proofs.Common.{◌≡◌, ◌≢◌, ℕ, zero, suc, ◌+◌, ◌*◌, ◌<◌, inl, inr, Bool, true, false, not, ◌||◌, ◌&&◌, List, [], ◌∷◌, ◌++◌, length, get_or, set, All, Option, Some, None, nat_eq, refl, sym, ap, ◌∙◌, subst, arith, if◌then◌else◌, get_or-set_same, get_or-set_other, length-set}
use Rattle.std.specs.List.{list_any}
use Rattle.std.proofs.lemmas.Bool.{or_parts, cases_eq, ne_eqb, eq-eqb, eqb-true, eqb-false, or_cases, false≢true}
use Rattle.std.proofs.lemmas.Bool.Decides.{nat_tests}
use Rattle.std.proofs.lemmas.List.Folds.{list_any-append}
use Rattle.std.proofs.lemmas.List.Elements.{All-cons, All-head, All-tail}
use Rattle.gr_logic.specs.Literals.{Literal, negation, same_literal, same_sign}
use Rattle.gr_logic.specs.Codes.{code_of, literal_of, literal_of-code_of}
use Rattle.gr_logic.specs.Rup.{members}
use Rattle.gr_logic.proofs.Members.{members-push_at}
use Rattle.gr_trail.specs.declared.trails.Entry.{Entry}
use Rattle.gr_trail.specs.declared.values.Value.{Value}
use Rattle.gr_trail.specs.declared.values.Value.TheVariants.{Open, True, False}
use Rattle.gr_trail.specs.Trails.{true_in, value_in}
use Rattle.gr_trail.specs.Columns.{truth_of, assigned_in, made_true, cleared}

-- literals of one code are one
pub code_of-injective : (a b : Literal) → code_of a ≡ code_of b → a ≡ b
code_of-injective a b e = sym (literal_of-code_of a) ∙ ap literal_of e ∙ literal_of-code_of b

-- the codes of two variables differ
pub other_codes : (q l : Literal) → q.index ≢ l.index → (code_of q ≢ code_of l)
    × (code_of q ≢ code_of (negation l))
other_codes q l apart = (λ e. apart (grind (arith, e)), λ e. apart (grind (arith, e)))

-- a variable has two codes
pub own_codes : (q l : Literal) → code_of q ≢ code_of l → code_of q ≢ code_of (negation l)
    → q.index ≢ l.index
own_codes q l here there e = grind (arith, e, here, there)

-- what a list of true literals says of a literal
abbrev pub value_by : List Literal → Literal → Option Bool
value_by ls l = if members ls l then Some true else (if members ls (negation l) then Some
    false else None)

members_of : (es : List Entry) (ls : List Literal) (q : Literal) → true_in (assigned_in es ls) q
    ≡ members ls q
members_of es [] q = refl
members_of es (l ∷ ls) q = ap (λ b. same_literal q l || b) (members_of es ls q)

-- the values are those of the literals, whatever the entries say
pub value_of : (es : List Entry) (ls : List Literal) (q : Literal) → value_in (assigned_in es ls) q
    ≡ value_by ls q
value_of es ls q = λ i. if members_of es ls q i then Some
    true else (if members_of es ls (negation q) i then Some false else None)

-- no literal of the list has the variable
abbrev pub Lacks : List Literal → ℕ → Type 0
Lacks ls index = All (λ q. q.index ≢ index) ls

apart : (q l : Literal) → q.index ≢ l.index → same_literal q l ≡ false
apart q l h = ap (λ t. t && same_sign q.positive l.positive) (ne_eqb q.index l.index h)

neither : (i j : ℕ) (s t : Bool) → (nat_eq i j && same_sign s t) ≡ false
    → (nat_eq i j && same_sign (not s) t) ≡ false → i ≢ j
neither i j true true a b e = grind (arith, nat_tests, a, b, e)
neither i j true false a b e = grind (arith, nat_tests, a, b, e)
neither i j false true a b e = grind (arith, nat_tests, a, b, e)
neither i j false false a b e = grind (arith, nat_tests, a, b, e)

pub lacking : (ls : List Literal) (q : Literal) → Lacks ls q.index → members ls q ≡ false
lacking [] q h = refl
lacking (l ∷ ls) q h =
    let here : l.index ≢ q.index = All-head (λ x. x.index ≢ q.index) l ls h in
    ap (λ t. t || members ls q) (apart q l (λ e. here (sym e)))
    ∙ lacking ls q (All-tail (λ x. x.index ≢ q.index) l ls h)

pub lacks : (ls : List Literal) (l : Literal) → members ls l ≡ false → members ls (negation l)
    ≡ false → Lacks ls l.index
lacks [] l a b = λ k d lt. absurd (omega arith)
lacks (q ∷ qs) l a b =
    let p = or_parts (same_literal l q) (members qs l) a in
    let r = or_parts (same_literal (negation l) q) (members qs (negation l)) b in
    All-cons (λ x. x.index ≢ l.index) q qs (λ e. neither l.index q.index l.positive q.positive p.0
    r.0 (sym e)) (lacks qs l p.1 r.1)

none_parts : (s t : Bool) → (if s then Some true else (if t then Some false else None)) ≡ None
    → (s ≡ false) × (t ≡ false)
none_parts true t e = absurd (cc)
none_parts false true e = absurd (cc)
none_parts false false e = (refl, refl)

-- a literal without a value has a variable that the list lacks
pub lacks_unassigned : (es : List Entry) (ls : List Literal) (l : Literal)
    → value_in (assigned_in es ls) l ≡ None → Lacks ls l.index
lacks_unassigned es ls l e =
    let p = none_parts (members ls l) (members ls (negation l)) (sym (value_of es ls l) ∙ e) in
    lacks ls l p.0 p.1

pub value_lacking : (ls : List Literal) (q : Literal) → Lacks ls q.index → value_by ls q ≡ None
value_lacking ls q h = λ i. if lacking ls q h i then Some
    true else (if lacking ls (negation q) h i then Some false else None)

itself : (l : Literal) → same_literal l l ≡ true
itself l = elim l.positive as (λ s. (nat_eq l.index l.index && same_sign s s) ≡ true) [
  | true ↦
      grind (arith, nat_tests)
  | false ↦ grind (arith, nat_tests)
]

opposite : (l : Literal) → same_literal (negation l) l ≡ false
opposite l = elim l.positive as (λ s. (nat_eq l.index l.index && same_sign (not s) s)
    ≡ false) [ true ↦ grind (arith, nat_tests) | false ↦ grind (arith, nat_tests) ]

twice : (l : Literal) → negation (negation l) ≡ l
twice l = elim l.positive as (λ s. record { index = l.index; positive = not (not s) }
    ≡ record { index = l.index; positive = s }) [ true ↦ refl | false ↦ refl ]

-- ---- a literal is made true
module _ (ls : List Literal) (l : Literal) (free : Lacks ls l.index) where
  value_push : (q : Literal) → value_by (ls ++ l ∷ []) q
      ≡ (if same_literal q l || members ls q then Some true else (if same_literal (negation q) l ||
      members ls (negation q) then Some false else None))
  value_push q = λ i. if members-push_at q ls l i then Some
      true else (if members-push_at (negation q) ls l i then Some false else None)

  at_itself : value_by (ls ++ l ∷ []) l ≡ Some true
  at_itself = value_push l ∙ ap (λ t. if t || members ls l then Some
      true else (if same_literal (negation l) l || members ls (negation l) then Some
      false else None)) (itself l)

  at_negation : value_by (ls ++ l ∷ []) (negation l) ≡ Some false
  at_negation =
      value_push (negation l)
      ∙ (λ i. if opposite l i || lacking ls (negation l) free i then Some
      true else (if same_literal (twice l i) l || members ls (twice l i) then Some
      false else None))
      ∙ ap (λ t. if t || members ls l then Some false else None) (itself l)

  elsewhere : (q : Literal) → q.index ≢ l.index → value_by (ls ++ l ∷ []) q ≡ value_by ls q
  elsewhere q h = value_push q ∙ (λ i. if apart q l h i || members ls q then Some
      true else (if apart (negation q) l h i || members ls (negation q) then Some false else None))

  module _ (vs : List Value) (room : 2 * l.index + 1 < length vs) where
    low : code_of l < length vs
    low = grind (arith, room)

    high : code_of (negation l) < length vs
    high = grind (arith, room)

    differ : code_of l ≢ code_of (negation l)
    differ e = grind (arith, e)

    first : get_or (made_true vs l) (code_of l) Open ≡ True
    first = get_or-set_other (set vs (code_of l) True) (code_of (negation l)) (code_of l) False Open
        differ ∙ get_or-set_same vs (code_of l) True Open low

    second : get_or (made_true vs l) (code_of (negation l)) Open ≡ False
    second = get_or-set_same (set vs (code_of l) True) (code_of (negation l)) False Open
        (omega (arith, high, length-set vs (code_of l) True))

    others : (q : Literal) → code_of q ≢ code_of l → code_of q ≢ code_of (negation l)
        → get_or (made_true vs l) (code_of q) Open ≡ get_or vs (code_of q) Open
    others q h n = get_or-set_other (set vs (code_of l) True) (code_of (negation l)) (code_of q)
        False Open n ∙ get_or-set_other vs (code_of l) (code_of q) True Open h

    abbrev Tells : Literal → Type 0
    Tells q = truth_of (get_or (made_true vs l) (code_of q) Open) ≡ value_by (ls ++ l ∷ []) q

    pub value_pushed : ((q : Literal) → truth_of (get_or vs (code_of q) Open) ≡ value_by ls q)
        → (q : Literal) → Tells q
    value_pushed is q =
        elim (cases_eq (code_of q) (code_of l)) [
          | inl e ↦ subst Tells (sym (code_of-injective q l e)) (ap truth_of first ∙ sym at_itself)
          | inr h ↦ elim (cases_eq (code_of q) (code_of (negation l))) [
            | inl e ↦ subst Tells (sym (code_of-injective q (negation l) e)) (ap truth_of second
                ∙ sym at_negation)
            | inr n ↦ ap truth_of (others q h n) ∙ is q ∙ sym (elsewhere q (own_codes q l h n))
          ]
        ]

-- ---- literals are taken back
open_same : (vs : List Value) (i : ℕ) → get_or (set vs i Open) i Open ≡ Open
open_same [] i = refl
open_same (v ∷ vs) zero = refl
open_same (v ∷ vs) (suc i) = open_same vs i

-- the values with this literal's variable open
abbrev pub opened : List Value → Literal → List Value
opened vs l = set (set vs (code_of l) Open) (code_of (negation l)) Open

opened_own : (vs : List Value) (l q : Literal) → l.index ≡ q.index
    → get_or (opened vs l) (code_of q) Open ≡ Open
opened_own vs l q same =
    elim (cases_eq (code_of q) (code_of (negation l))) [
      | inl e ↦ ap (λ k. get_or (opened vs l) k Open) e
          ∙ open_same (set vs (code_of l) Open) (code_of (negation l))
      | inr n ↦ elim (cases_eq (code_of q) (code_of l)) [
        | inl e ↦ get_or-set_other (set vs (code_of l) Open) (code_of (negation l)) (code_of q) Open
            Open n
            ∙ ap (λ k. get_or (set vs (code_of l) Open) k Open) e ∙ open_same vs (code_of l)
        | inr h ↦ absurd (own_codes q l h n (sym same))
      ]
    ]

opened_other : (vs : List Value) (l q : Literal) → l.index ≢ q.index
    → get_or (opened vs l) (code_of q) Open ≡ get_or vs (code_of q) Open
opened_other vs l q h =
    let codes = other_codes q l (λ e. h (sym e)) in
    get_or-set_other (set vs (code_of l) Open) (code_of (negation l)) (code_of q) Open Open codes.1
    ∙ get_or-set_other vs (code_of l) (code_of q) Open Open codes.0

-- some literal of the list has the variable
abbrev pub has_variable : List Literal → ℕ → Bool
has_variable ls index = list_any (λ l. nat_eq l.index index) ls

if_same : {X : Type 0} (t : Bool) (x : X) → (if t then x else x) ≡ x
if_same true x = refl
if_same false x = refl

pub value_cleared : (back : List Literal) (vs : List Value) (q : Literal)
    → get_or (cleared vs back) (code_of q) Open
    ≡ (if has_variable back q.index then Open else get_or vs (code_of q) Open)
value_cleared [] vs q = refl
value_cleared (l ∷ ls) vs q =
    value_cleared ls (opened vs l) q ∙
    elim (cases_eq l.index q.index) [
      | inl e ↦ ap (λ v. if has_variable ls q.index then Open else v) (opened_own vs l q e)
          ∙ if_same (has_variable ls q.index) Open
          ∙ ap (λ t. if t || has_variable ls q.index then Open else get_or vs (code_of q) Open)
          (sym (eq-eqb l.index q.index e))
      | inr n ↦ ap (λ v. if has_variable ls q.index then Open else v) (opened_other vs l q n)
          ∙ ap (λ t. if t || has_variable ls q.index then Open else get_or vs (code_of q) Open)
          (sym (ne_eqb l.index q.index n))
    ]

pub length-cleared : (back : List Literal) (vs : List Value) → length (cleared vs back) ≡ length vs
length-cleared [] vs = refl
length-cleared (l ∷ ls) vs = length-cleared ls (opened vs l)
    ∙ length-set (set vs (code_of l) Open) (code_of (negation l)) Open
    ∙ length-set vs (code_of l) Open

-- where the variable's literal stands
pub place_of : (ls : List Literal) (i : ℕ) → has_variable ls i ≡ true → (j : ℕ) × (j < length ls)
    × ((d : Literal) → (get_or ls j d).index ≡ i)
place_of [] i e = absurd (false≢true e)
place_of (l ∷ ls) i e =
    elim (or_cases (nat_eq l.index i) (has_variable ls i) e) [
      | inl here ↦ (0, omega arith, λ d. eqb-true l.index i here)
      | inr there ↦ (let p = place_of ls i there in (suc p.0, omega (arith, p.1), p.2))
    ]

without_variable : (ls : List Literal) (q : Literal) → has_variable ls q.index ≡ false
    → members ls q ≡ false
without_variable [] q e = refl
without_variable (l ∷ ls) q e =
    let p = or_parts (nat_eq l.index q.index) (has_variable ls q.index) e in
    (λ i. apart q l (λ same. eqb-false l.index q.index p.0 (sym same)) i || without_variable ls q
    p.1 i)

value_without : (front back : List Literal) (q : Literal) → has_variable back q.index ≡ false
    → value_by (front ++ back) q ≡ value_by front q
value_without front back q e =
    let plain : members (front ++ back) q ≡ members front q =
    list_any-append (same_literal q) front back
    ∙ ap (λ t. members front q || t) (without_variable back q e) ∙ or_false (members front q) in
    let turned : members (front ++ back) (negation q) ≡ members front (negation q) =
    list_any-append (same_literal (negation q)) front back
    ∙ ap (λ t. members front (negation q) || t) (without_variable back (negation q) e)
    ∙ or_false (members front (negation q)) in
    λ i. if plain i then Some true else (if turned i then Some false else None)
  where
    or_false : (t : Bool) → (t || false) ≡ t
    or_false true = refl
    or_false false = refl

-- what is left of the values tells the literals that are left
pub value_backed : (vs : List Value) (front back : List Literal)
    → ((i : ℕ) → has_variable back i ≡ true → Lacks front i)
    → ((q : Literal) → truth_of (get_or vs (code_of q) Open) ≡ value_by (front ++ back) q)
    → (q : Literal) → truth_of (get_or (cleared vs back) (code_of q) Open) ≡ value_by front q
value_backed vs front back distinct is q =
    ap truth_of (value_cleared back vs q) ∙
    elim (has_variable back q.index) as (λ t. has_variable back q.index ≡ t
    → truth_of (if t then Open else get_or vs (code_of q) Open) ≡ value_by front q) [
      | true ↦ λ e. sym (value_lacking front q (distinct q.index e))
      | false ↦ λ e. is q ∙ value_without front back q e
    ] refl
