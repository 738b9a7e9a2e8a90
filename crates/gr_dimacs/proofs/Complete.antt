-- what spells a formula has no fault
use Rattle.std.proofs.Common.{◌≡◌, ◌∙◌, ℕ, suc, ◌+◌, ◌≤◌, ◌<◌, Bool, true, false, ◌&&◌, List, [], ◌∷◌, ◌++◌, length, map, refl, sym, ap, arith, nat_lt, nat_le, Option, None, inl, inr, All}
use Rattle.std.specs.List.{flat_map, AllByRecursion}
use Rattle.std.proofs.lemmas.Bool.{le-ltb, lt-ltb, lt-leb}
use Rattle.std.proofs.lemmas.List.{append_assoc}
use Rattle.std.proofs.lemmas.List.Elements.{recursion_from_All}
use Rattle.gr_logic.specs.Literals.{Literal}
use Rattle.gr_logic.specs.Formulas.{VarsUpTo}
use Rattle.gr_dimacs.specs.Numbers.{Number, Zero, Lit, Other, number, begins}
use Rattle.gr_dimacs.specs.Tokens.{Token, Ending, Whole, Short}
use Rattle.gr_dimacs.specs.Grammar.{numbers_of, EndsFormula, word_of}
use Rattle.gr_dimacs.specs.Faults.{Verdict, Fine, literals, settled}
use Rattle.gr_dimacs.specs.declared.faults.GrammarFault.{GrammarFault}
use Rattle.gr_dimacs.proofs.Counted.{counted, counted_verdict}
use Rattle.gr_dimacs.proofs.Sound.{is_nil, bool_cases, says, says_zero, says_lit, says_other, flat-push, is_nil-push}
use Rattle.gr_dimacs.proofs.Unique.{percent-other}

has_zero : List Number → Bool
has_zero [] = false
has_zero (Zero ∷ ns) = true
has_zero (Lit l ∷ ns) = has_zero ns
has_zero (Other ∷ ns) = has_zero ns

has_other : List Number → Bool
has_other [] = false
has_other (Zero ∷ ns) = has_other ns
has_other (Lit l ∷ ns) = has_other ns
has_other (Other ∷ ns) = true

lits-no-zero : (c : List Literal) → has_zero (map Lit c ++ []) ≡ false
unfolding has_zero
lits-no-zero [] = refl
lits-no-zero (l ∷ c) = lits-no-zero c

clause-has-zero : (c : List Literal) (ns : List Number) →
    has_zero ((map Lit c ++ Zero ∷ []) ++ ns) ≡ true
unfolding has_zero
clause-has-zero [] ns = refl
clause-has-zero (l ∷ c) ns = clause-has-zero c ns

-- literals alone are no whole clauses
pub nothing-begun : (present : List Literal) (cs : List (List Literal)) →
    map Lit present ++ [] ≡ flat_map numbers_of cs → (present ≡ []) × (cs ≡ [])
nothing-begun [] [] h = (refl, refl)
nothing-begun (l ∷ present) [] h = absurd (cc)
nothing-begun present (c ∷ cs) h =
    let a = lits-no-zero present in
    let b = clause-has-zero c (flat_map numbers_of cs) in
    let e = ap has_zero h in
    absurd (cc (a, b, e))

clause-no-other : (c : List Literal) (ns : List Number) →
    has_other ((map Lit c ++ Zero ∷ []) ++ ns) ≡ has_other ns
unfolding has_other
clause-no-other [] ns = refl
clause-no-other (l ∷ c) ns = clause-no-other c ns

flat-no-other : (cs : List (List Literal)) → has_other (flat_map numbers_of cs) ≡ false
unfolding has_other
flat-no-other [] = refl
flat-no-other (c ∷ cs) = clause-no-other c (flat_map numbers_of cs) ∙ flat-no-other cs

other-there : (present : List Literal) (ns : List Number) →
    has_other (map Lit present ++ (Other ∷ ns)) ≡ true
unfolding has_other
other-there [] ns = refl
other-there (l ∷ present) ns = other-there present ns

pub no-other : (present : List Literal) (ns : List Number) (cs : List (List Literal)) →
    map Lit present ++ (Other ∷ ns) ≡ flat_map numbers_of cs → ⊥
no-other present ns cs h =
    let a = other-there present ns in
    let b = flat-no-other cs in
    let e = ap has_other h in
    absurd (cc (a, b, e))

zero-peel : (p c : List Literal) (xs ys : List Number) →
    map Lit p ++ (Zero ∷ xs) ≡ map Lit c ++ (Zero ∷ ys) → (p ≡ c) × (xs ≡ ys)
zero-peel [] [] xs ys h = (refl, cc h)
zero-peel [] (k ∷ c) xs ys h = absurd (cc)
zero-peel (l ∷ p) [] xs ys h = absurd (cc)
zero-peel (l ∷ p) (k ∷ c) xs ys h =
    let head : l ≡ k = cc h in
    let tail : map Lit p ++ (Zero ∷ xs) ≡ map Lit c ++ (Zero ∷ ys) = cc h in
    let rest = zero-peel p c xs ys tail in
    (cc (head, rest.0), rest.1)

-- each variable of each clause is within
abbrev pub VarsIn : ℕ → List Literal → Type 0
VarsIn vars c = AllByRecursion (λ l. l.index < vars) c

abbrev pub AllVarsIn : ℕ → List (List Literal) → Type 0
AllVarsIn vars [] = Unit {0}
AllVarsIn vars (c ∷ cs) = VarsIn vars c × AllVarsIn vars cs

all-in : (vars : ℕ) (cs : List (List Literal)) → AllByRecursion (VarsUpTo vars) cs →
    AllVarsIn vars cs
all-in vars [] h = tt
all-in vars (c ∷ cs) h =
    (recursion_from_All (λ (l : Literal). l.index < vars) c h.0, all-in vars cs h.1)

pub all-vars-in : (vars : ℕ) (cs : List (List Literal)) → All (VarsUpTo vars) cs → AllVarsIn vars cs
all-vars-in vars cs h = all-in vars cs (recursion_from_All (VarsUpTo vars) cs h)

-- a zero ends the first clause
pub record ZeroEnds (vars : ℕ) (ns : List Number) (cs : List (List Literal)) : Type 0 where
  pub more : List (List Literal)
  pub length_is : length cs ≡ suc (length more)
  pub numbers : ns ≡ flat_map numbers_of more
  pub within : AllVarsIn vars more

pub zero-ends : (vars : ℕ) (present : List Literal) (ns : List Number) (cs : List (List Literal)) →
    map Lit present ++ (Zero ∷ ns) ≡ flat_map numbers_of cs → AllVarsIn vars cs →
    ZeroEnds vars ns cs
zero-ends vars [] ns [] h w = absurd (cc)
zero-ends vars (l ∷ present) ns [] h w = absurd (cc)
zero-ends vars present ns (c ∷ cs) h w =
    let grouped_right : map Lit present ++ (Zero ∷ ns) ≡ map Lit
    c ++ (Zero ∷ flat_map numbers_of cs) =
    h ∙ append_assoc (map Lit c) (Zero ∷ []) (flat_map numbers_of cs) in
    record {
      more = cs;
      length_is = refl;
      numbers =
          (zero-peel present c ns (flat_map numbers_of cs) grouped_right).1;
      within = w.1;
    }

lit-in : (vars : ℕ) (p c : List Literal) (l : Literal) (xs ys : List Number) →
    map Lit p ++ (Lit l ∷ xs) ≡ map Lit c ++ (Zero ∷ ys) → VarsIn vars c → l.index < vars
lit-in vars [] [] l xs ys h w = absurd (cc)
lit-in vars [] (k ∷ c) l xs ys h w = let same : l ≡ k = cc h in rw same w.0
lit-in vars (a ∷ p) [] l xs ys h w = absurd (cc)
lit-in vars (a ∷ p) (k ∷ c) l xs ys h w =
    let tail : map Lit p ++ (Lit l ∷ xs) ≡ map Lit c ++ (Zero ∷ ys) = cc h in
    lit-in vars p c l xs ys tail w.1

-- a literal lies in the first clause
pub lit-lies : (vars : ℕ) (present : List Literal) (l : Literal) (ns : List Number)
    (cs : List (List Literal)) → map Lit present ++ (Lit l ∷ ns) ≡ flat_map numbers_of cs →
    AllVarsIn vars cs → (0 < length cs) × (l.index < vars)
lit-lies vars [] l ns [] h w = absurd (cc)
lit-lies vars (k ∷ present) l ns [] h w = absurd (cc)
lit-lies vars present l ns (c ∷ cs) h w =
    let grouped_right : map Lit present ++ (Lit l ∷ ns) ≡ map Lit
    c ++ (Zero ∷ flat_map numbers_of cs) =
    h ∙ append_assoc (map Lit c) (Zero ∷ []) (flat_map numbers_of cs) in
    (omega arith, lit-in vars present c l ns (flat_map numbers_of cs) grouped_right w.0)

no-percent : (w : List ℕ) (n : Number) → number w ≡ n → (n ≡ Other → ⊥) → begins 37 w ≡ false
no-percent w n is other = elim (bool_cases (begins 37 w)) [
  | inl h ↦ absurd (other (sym is ∙ percent-other w h))
  | inr h ↦ h
]

zero-not-other : Zero ≡ Other → ⊥
zero-not-other h = absurd (cc)

lit-not-other : (l : Literal) → Lit l ≡ Other → ⊥
lit-not-other l h = absurd (cc)

may-begin : (between : Bool) (count done : ℕ) → done < count →
    (between && nat_le count done) ≡ false
may-begin true count done h = lt-leb count done h
may-begin false count done h = refl

pub zero-is-fine : (room vars count : ℕ) (between : Bool) (done read : ℕ) (w : List ℕ) →
    number w ≡ Zero → done < count → counted_verdict room vars count between done read w ≡ Fine
zero-is-fine room vars count between done read w is less =
    let p = no-percent w Zero is zero-not-other in
    let b = may-begin between count done less in
    rw (p, is, b) refl

pub lit-is-fine : (room vars count : ℕ) (between : Bool) (done read : ℕ) (w : List ℕ)
    (l : Literal) → number w ≡ Lit l → done < count → l.index < vars → read < room →
    counted_verdict room vars count between done read w ≡ Fine
lit-is-fine room vars count between done read w l is less var fits =
    let p = no-percent w (Lit l) is (lit-not-other l) in
    let b = may-begin between count done less in
    let v : nat_le vars l.index ≡ false = lt-leb vars l.index var in
    let r : nat_lt read room ≡ true = lt-ltb read room fits in
    rw (p, is, b, v, r) refl

-- the formula has ended
ends-fine : (room vars count done read : ℕ) (ts : List Token) (end : Ending) → count ≤ done →
    EndsFormula (map word_of ts) end → counted room vars count true done read ts end ≡ None
ends-fine room vars count done read [] (Short line) enough closed = absurd closed
ends-fine room vars count done read [] (Whole line) enough closed =
    let e : nat_lt done count ≡ false = le-ltb done count enough in rw e refl
ends-fine room vars count done read (t ∷ ts) end enough closed =
    let e : nat_lt done count ≡ false = le-ltb done count enough in
    rw (closed, e) refl

settled-fine : (v : Verdict) (line : ℕ) (later : Option GrammarFault) → v ≡ Fine → later ≡ None →
    settled v line later ≡ None
settled-fine v line later a b = rw a b

pub complete : (ts : List Token) (room vars count : ℕ) (present : List Literal) (done read : ℕ)
    (end : Ending) (body rest : List (List ℕ)) (cs : List (List Literal)) →
    map word_of ts ≡ body ++ rest → map Lit present ++ map number body ≡ flat_map numbers_of cs →
    AllVarsIn vars cs → done + length cs ≡ count → read + literals (map number body) ≤ room →
    EndsFormula rest end →
    counted room vars count (is_nil present) done read ts end ≡ None
complete ts room vars count present done read end [] rest cs split numbers within total fits
    closed =
    let nothing = nothing-begun present cs numbers in
    let none = nothing.0 in
    let no_more : length cs ≡ 0 = ap length nothing.1 in
    let closed' = rw (← split) at closed in
    rw none (ends-fine room vars count done read ts end (omega arith) closed')
complete [] room vars count present done read end (w ∷ body) rest cs split numbers within total fits
    closed = absurd (cc)
complete (t ∷ ts) room vars count present done read end (w ∷ body) rest cs split numbers within
    total fits closed =
    let word : t.word ≡ w = cc split in
    let split' : map word_of ts ≡ body ++ rest = cc split in
    let numbers' : map Lit present ++ (number t.word ∷ map number body) ≡ flat_map numbers_of cs =
    rw word numbers in
    let fits' : read + literals (number t.word ∷ map number body) ≤ room = rw word fits in
    elim (says (number t.word)) [
      | says_zero is ↦
          let peeled = zero-ends vars present (map number body) cs (rw is at numbers') within in
          let less : done < count = omega (arith, peeled.length_is) in
          let room' : read + literals (map number body) ≤ room = omega (arith, (rw is at fits')) in
          settled-fine _ t.line _
          (zero-is-fine room vars count (is_nil present) done read t.word is less)
          (rw is (complete ts room vars count [] (done + 1) (read + 0) end body rest peeled.more
          split' peeled.numbers peeled.within (omega (arith, peeled.length_is))
          (omega arith) closed))
      | says_lit l is ↦
          let here = rw is at numbers' in
          let lies = lit-lies vars present l (map number body) cs here within in
          let room' : read + (1 + literals (map number body)) ≤ room = rw is at fits' in
          let on : map Lit (present ++ l ∷ []) ++ map number body ≡ flat_map numbers_of cs =
          sym (flat-push present l (map number body)) ∙ here in
          settled-fine _ t.line _
          (lit-is-fine room vars count (is_nil present) done read t.word l is
          (omega (arith, lies.0)) lies.1 (omega arith))
          (rw (is, ← is_nil-push present l)
          (complete ts room vars count (present ++ l ∷ []) (done + 0) (read + 1) end body
          rest cs split' on within (omega arith) (omega arith) closed))
      | says_other is ↦ absurd (no-other present (map number body) cs (rw is at numbers'))
    ]
