-- what has no fault spells a formula
use Rattle.std.proofs.Common.{◌≡◌, ◌∙◌, ℕ, ◌+◌, ◌≤◌, ◌<◌, Bool, true, false, not, ◌&&◌, List, [], ◌∷◌, ◌++◌, length, map, refl, sym, ap, arith, nat_lt, nat_le, if◌then◌else◌, Option, None, ◌⊎◌, inl, inr, All}
use Rattle.std.specs.List.{flat_map}
use Rattle.std.proofs.lemmas.Bool.{ltb-true, ltb-false, leb-false}
use Rattle.std.proofs.lemmas.List.{append_assoc, map-append}
use Rattle.std.proofs.lemmas.List.Elements.{All-cons, All-push, All-nil}
use Rattle.gr_logic.specs.Literals.{Literal}
use Rattle.gr_logic.specs.Formulas.{VarsUpTo}
use Rattle.gr_dimacs.specs.Numbers.{Number, Zero, Lit, Other, number, begins}
use Rattle.gr_dimacs.specs.Tokens.{Token, Ending, Whole, Short}
use Rattle.gr_dimacs.specs.Grammar.{numbers_of, EndsFormula, word_of}
use Rattle.gr_dimacs.specs.Faults.{Verdict, Bad, Closing, Fine, is_zero, literals, number_verdict, settled, expect}
use Rattle.gr_dimacs.specs.declared.faults.FaultKind.{FaultKind}
use Rattle.gr_dimacs.specs.declared.faults.FaultKind.TheVariants.{TooFew, Unended, TooMany, VarAbove, TooLarge}
use Rattle.gr_dimacs.specs.declared.faults.GrammarFault.{GrammarFault}
use Rattle.gr_dimacs.proofs.Counted.{counted, counted_verdict, closing_verdict, done_after, read_after}

abbrev pub is_nil : List Literal → Bool
is_nil [] = true
is_nil (l ∷ ls) = false

pub bool_cases : (b : Bool) → (b ≡ true) ⊎ (b ≡ false)
bool_cases true = inl refl
bool_cases false = inr refl

pub data Says (n : Number) : Type 0 where
  says_zero : n ≡ Zero → Says n
  says_lit : (l : Literal) → n ≡ Lit l → Says n
  says_other : n ≡ Other → Says n

pub says : (n : Number) → Says n
says Zero = says_zero refl
says (Lit l) = says_lit l refl
says Other = says_other refl

-- a verdict that leads to no fault
pub settled-none : (v : Verdict) (line : ℕ) (later : Option GrammarFault) →
    settled v line later ≡ None → (v ≡ Closing) ⊎ ((v ≡ Fine) × (later ≡ None))
settled-none (Bad k) line later h = absurd (cc)
settled-none Closing line later h = inl refl
settled-none Fine line later h = inr (refl, h)

expect-fine : (b : Bool) (k : FaultKind) → expect b k ≡ Fine → b ≡ true
expect-fine true k h = refl
expect-fine false k h = absurd (cc)

expect-not-closing : (b : Bool) (k : FaultKind) → expect b k ≡ Closing → ⊥
expect-not-closing true k h = absurd (cc)
expect-not-closing false k h = absurd (cc)

bad-if : (b : Bool) (k : FaultKind) (v w : Verdict) → (if b then Bad k else v) ≡ w →
    ((k' : FaultKind) → w ≡ Bad k' → ⊥) → (b ≡ false) × (v ≡ w)
bad-if true k v w h g = absurd (g k (sym h))
bad-if false k v w h g = (refl, h)

fine-not-bad : (k : FaultKind) → Fine ≡ Bad k → ⊥
fine-not-bad k h = absurd (cc)

closing-not-bad : (k : FaultKind) → Closing ≡ Bad k → ⊥
closing-not-bad k h = absurd (cc)

room-for-clause : (between : Bool) (count done : ℕ) → (between && nat_le count done) ≡ false →
    between ≡ true → done < count
room-for-clause true count done h e = leb-false count done h
room-for-clause false count done h e = absurd (cc)

pub record FineLit (room vars count : ℕ) (between : Bool) (done read : ℕ) (l : Literal) : Type 0
  where
    pub start : between ≡ true → done < count
    pub var : l.index < vars
    pub fits : read < room

pub zero-fine : (room vars count : ℕ) (between : Bool) (done read : ℕ) →
    number_verdict room vars count between done read Zero ≡ Fine → between ≡ true → done < count
zero-fine room vars count between done read h =
    room-for-clause between count done
    (bad-if (between && nat_le count done) TooMany Fine Fine h fine-not-bad).0

pub lit-fine : (room vars count : ℕ) (between : Bool) (done read : ℕ) (l : Literal) →
    number_verdict room vars count between done read (Lit l) ≡ Fine →
    FineLit room vars count between done read l
lit-fine room vars count between done read l h =
    let first = bad-if (between && nat_le count done) TooMany _ Fine h fine-not-bad in
    let second = bad-if (nat_le vars l.index) VarAbove _ Fine first.1 fine-not-bad in
    record {
      start = room-for-clause between count done first.0;
      var = leb-false vars l.index second.0;
      fits = ltb-true read room (expect-fine (nat_lt read room) TooLarge second.1);
    }

pub number-not-closing : (room vars count : ℕ) (between : Bool) (done read : ℕ) (n : Number) →
    number_verdict room vars count between done read n ≡ Closing → ⊥
number-not-closing room vars count between done read Zero h =
    let v = (bad-if (between && nat_le count done) TooMany Fine Closing h closing-not-bad).1 in
    absurd (cc v)
number-not-closing room vars count between done read (Lit l) h =
    let first = bad-if (between && nat_le count done) TooMany _ Closing h closing-not-bad in
    let second = bad-if (nat_le vars l.index) VarAbove _ Closing first.1 closing-not-bad in
    expect-not-closing (nat_lt read room) TooLarge second.1
number-not-closing room vars count between done read Other h = absurd (cc)

if-cases : (b : Bool) (v w x : Verdict) → (if b then v else w) ≡ x →
    ((b ≡ true) × (v ≡ x)) ⊎ ((b ≡ false) × (w ≡ x))
if-cases true v w x h = inl (refl, h)
if-cases false v w x h = inr (refl, h)

both : (a b : Bool) → (a && b) ≡ true → (a ≡ true) × (b ≡ true)
both true b h = (refl, h)
both false b h = absurd (cc)

-- a token that ends the formula
pub closing-says : (room vars count : ℕ) (between : Bool) (done read : ℕ) (w : List ℕ) →
    counted_verdict room vars count between done read w ≡ Closing →
    (begins 37 w ≡ true) × (between ≡ true) × (count ≤ done)
closing-says room vars count between done read w h =
    elim (if-cases (begins 37 w && between) _ _ Closing h) [
      | inl e ↦
          let tests = both (begins 37 w) between e.0 in
          let enough = bad-if (nat_lt done count) TooFew Closing Closing e.1 closing-not-bad in
          (tests.0, tests.1, ltb-false done count enough.0)
      | inr e ↦ absurd (number-not-closing room vars count between done read (number w) e.1)
    ]

-- a token that is neither at fault nor ends the formula
pub fine-says : (room vars count : ℕ) (between : Bool) (done read : ℕ) (w : List ℕ) →
    counted_verdict room vars count between done read w ≡ Fine →
    number_verdict room vars count between done read (number w) ≡ Fine
fine-says room vars count between done read w h =
    elim (if-cases (begins 37 w && between) _ _ Fine h) [
      | inl e ↦ let enough = bad-if (nat_lt done count) TooFew Closing Fine e.1 fine-not-bad in
          absurd (cc enough.1)
      | inr e ↦ e.1
    ]

-- the tokens spell clauses, the first of which goes on with the present one
pub record Parsed (room vars count : ℕ) (present : List Literal) (done read : ℕ) (ts : List Token)
    (end : Ending) : Type 0 where
  pub clauses : List (List Literal)
  pub body : List (List ℕ)
  pub rest : List (List ℕ)
  pub split : map word_of ts ≡ body ++ rest
  pub numbers : map Lit present ++ map number body ≡ flat_map numbers_of clauses
  pub within : All (VarsUpTo vars) clauses
  pub total : done + length clauses ≡ count
  pub fits : read + literals (map number body) ≤ room
  pub closed : EndsFormula rest end

pub is_nil-push : (c : List Literal) (l : Literal) → is_nil (c ++ l ∷ []) ≡ false
is_nil-push [] l = refl
is_nil-push (k ∷ c) l = refl

pub nil-is : (c : List Literal) → is_nil c ≡ true → c ≡ []
nil-is [] h = refl
nil-is (l ∷ c) h = absurd (cc)

-- where the present clause is not begun
pub parsed-end : (room vars count : ℕ) (present : List Literal) (done read : ℕ) (ts : List Token)
    (end : Ending) → is_nil present ≡ true → count ≤ done → done ≤ count → read ≤ room →
    EndsFormula (map word_of ts) end →
    Parsed room vars count present done read ts end
parsed-end room vars count present done read ts end none enough most fits closed = record {
  clauses = [];
  body = [];
  rest = map word_of ts;
  split = refl;
  numbers = rw (nil-is present none) refl;
  within = All-nil (VarsUpTo vars);
  total = omega arith;
  fits = omega arith;
  closed = closed;
}

flat-cons : (present : List Literal) (ns : List Number) (cs : List (List Literal)) →
    ns ≡ flat_map numbers_of cs → map Lit present ++ (Zero ∷ ns) ≡ flat_map numbers_of
    (present ∷ cs)
flat-cons present ns cs h =
    rw h (sym (append_assoc (map Lit present) (Zero ∷ []) (flat_map numbers_of cs)))

pub flat-push : (present : List Literal) (l : Literal) (ns : List Number) →
    map Lit present ++ (Lit l ∷ ns) ≡ map Lit (present ++ l ∷ []) ++ ns
flat-push present l ns =
    rw (map-append Lit present (l ∷ [])) (sym (append_assoc (map Lit present) (Lit l ∷ []) ns))

pub parsed-zero : (room vars count : ℕ) (present : List Literal) (done read : ℕ) (t : Token)
    (ts : List Token) (end : Ending) → number t.word ≡ Zero → VarsUpTo vars present →
    Parsed room vars count [] (done_after (number t.word) done) (read_after (number t.word) read) ts
    end → Parsed room vars count present done read (t ∷ ts) end
parsed-zero room vars count present done read t ts end is vars_in later =
    let total = rw is at later.total in
    let fits = rw is at later.fits in
    record {
      clauses = present ∷ later.clauses;
      body = t.word ∷ later.body;
      rest = later.rest;
      split = ap (λ ws. t.word ∷ ws) later.split;
      numbers = rw is (flat-cons present (map number later.body) later.clauses later.numbers);
      within = All-cons (VarsUpTo vars) present later.clauses vars_in later.within;
      total = omega (arith, total);
      fits = rw is (omega (arith, fits));
      closed = later.closed;
    }

pub parsed-lit : (room vars count : ℕ) (present : List Literal) (done read : ℕ) (t : Token)
    (ts : List Token) (end : Ending) (l : Literal) → number t.word ≡ Lit l →
    Parsed room vars count (present ++ l ∷ []) (done_after (number t.word) done)
    (read_after (number t.word) read) ts end →
    Parsed room vars count present done read (t ∷ ts) end
parsed-lit room vars count present done read t ts end l is later =
    let total = rw is at later.total in
    let fits = rw is at later.fits in
    record {
      clauses = later.clauses;
      body = t.word ∷ later.body;
      rest = later.rest;
      split = ap (λ ws. t.word ∷ ws) later.split;
      numbers = rw is (flat-push present l (map number later.body) ∙ later.numbers);
      within = later.within;
      total = omega (arith, total);
      fits = rw is (omega (arith, fits));
      closed = later.closed;
    }

not-true : (b : Bool) → not b ≡ false → b ≡ true
not-true true h = refl
not-true false h = absurd (cc)

-- the text's end is at no fault where no clause is begun and there are enough
pub end-says : (count : ℕ) (between : Bool) (done line : ℕ) →
    settled (closing_verdict count between done) line None ≡ None →
    (between ≡ true) × (count ≤ done)
end-says count between done line h =
    elim (settled-none (closing_verdict count between done) line None h) [
      | inl closing ↦
          let first = bad-if (not between) Unended _ Closing closing closing-not-bad in
          let second = bad-if (nat_lt done count) TooFew Closing Closing first.1 closing-not-bad in
          (not-true between first.0, ltb-false done count second.0)
      | inr fine ↦
          let first = bad-if (not between) Unended _ Fine fine.0 fine-not-bad in
          let second = bad-if (nat_lt done count) TooFew Closing Fine first.1 fine-not-bad in
          absurd (cc second.1)
    ]

-- a clause that may begin or go on
start-or-on : (b : Bool) (done count : ℕ) → (b ≡ true → done < count) → (b ≡ false → done < count) →
    done < count
start-or-on true done count f g = f refl
start-or-on false done count f g = g refl

pub parsed : (ts : List Token) (room vars count : ℕ) (present : List Literal) (done read : ℕ)
    (end : Ending) →
    done ≤ count → (is_nil present ≡ false → done < count) → VarsUpTo vars present → read ≤ room →
    counted room vars count (is_nil present) done read ts end ≡ None →
    Parsed room vars count present done read ts end
parsed [] room vars count present done read (Short line) most begun vars_in fits h = absurd (cc)
parsed [] room vars count present done read (Whole line) most begun vars_in fits h =
    let ends = end-says count (is_nil present) done line h in
    parsed-end room vars count present done read [] (Whole line) ends.0 ends.1 most fits tt
parsed (t ∷ ts) room vars count present done read end most begun vars_in fits h =
    elim (settled-none _ t.line _ h) [
      | inl closing ↦
          let says_so = closing-says room vars count (is_nil present) done read t.word closing in
          parsed-end room vars count present done read (t ∷ ts) end says_so.1 says_so.2 most fits
          says_so.0
      | inr go_on ↦
          let fine = fine-says room vars count (is_nil present) done read t.word go_on.0 in
          elim (says (number t.word)) [
            | says_zero is ↦
                let start = zero-fine room vars count (is_nil present) done read (rw is at fine) in
                let less : done < count = start-or-on (is_nil present) done count start begun in
                let done' : done_after (number t.word) done ≤ count = rw is (omega arith) in
                let read' : read_after (number t.word) read ≤ room = rw is (omega arith) in
                let between : is_zero (number t.word) ≡ true = rw is refl in
                parsed-zero room vars count present done read t ts end is vars_in
                (parsed ts room vars count [] (done_after (number t.word) done)
                (read_after (number t.word) read) end
                done' (λ e. absurd (cc e)) (All-nil (λ (l : Literal). l.index < vars)) read'
                (sym (ap (λ (b : Bool). counted room vars count b
                (done_after (number t.word) done) (read_after (number t.word) read) ts
                end) between) ∙ go_on.1))
            | says_lit l is ↦
                let lit = lit-fine room vars count (is_nil present) done read l (rw is at fine) in
                let less : done < count = start-or-on (is_nil present) done count lit.start begun in
                let done' : done_after (number t.word) done ≤ count = rw is (omega arith) in
                let less' : done_after (number t.word) done < count = rw is (omega arith) in
                let read' : read_after (number t.word) read ≤ room =
                rw is (omega (arith, lit.fits)) in
                let between : is_zero (number t.word) ≡ is_nil (present ++ l ∷ []) =
                rw (is, is_nil-push present l) refl in
                parsed-lit room vars count present done read t ts end l is
                (parsed ts room vars count (present ++ l ∷ []) (done_after (number t.word) done)
                (read_after (number t.word) read) end
                done' (λ e. less')
                (All-push (λ (k : Literal). k.index < vars) present l vars_in lit.var)
                read' (sym (ap
                (λ (b : Bool). counted room vars count b
                (done_after (number t.word) done) (read_after (number t.word) read) ts
                end) between) ∙ go_on.1))
            | says_other is ↦ absurd (cc (rw is at fine))
          ]
    ]
