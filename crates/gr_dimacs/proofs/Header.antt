-- the header, in both directions
use Rattle.std.proofs.Common.{◌≡◌, ◌∙◌, ℕ, ◌+◌, ◌≤◌, ◌<◌, Bool, true, false, ◌&&◌, List, [], ◌∷◌, ◌++◌, length, map, refl, sym, arith, nat_eq, nat_le, if◌then◌else◌, Option, Some, None, All}
use Rattle.std.specs.List.{flat_map}
use Rattle.std.proofs.lemmas.Bool.{leb-true, le-leb}
use Rattle.std.proofs.lemmas.List.Elements.{All-nil}
use Rattle.std.proofs.lemmas.Grind.{common_steps}
use Rattle.gr_logic.specs.Literals.{Literal}
use Rattle.gr_logic.specs.Formulas.{Cnf}
use Rattle.gr_dimacs.specs.Numbers.{Number, number, value, is_count}
use Rattle.gr_dimacs.specs.Tokens.{Token, Ending, Whole, Short}
use Rattle.gr_dimacs.specs.Grammar.{numbers_of, SpellsWords, word_of, p_word, cnf_word}
use Rattle.gr_dimacs.specs.Faults.{Bad, Fine, same_word, expect, count_verdict, settled, first_fault, literals, literal_count, IsWithin}
use Rattle.gr_dimacs.specs.declared.faults.FaultKind.{FaultKind}
use Rattle.gr_dimacs.specs.declared.faults.FaultKind.TheVariants.{NoHeader, BadHeader, TooLarge}
use Rattle.gr_dimacs.specs.declared.faults.GrammarFault.{GrammarFault}
use Rattle.gr_dimacs.specs.declared.limits.Limits.{Limits}
use Rattle.gr_dimacs.proofs.Counted.{first_fault-counted}
use Rattle.gr_dimacs.proofs.Sound.{Parsed, parsed}
use Rattle.gr_dimacs.proofs.Complete.{complete, all-vars-in}

both-true : (a b : Bool) → (a && b) ≡ true → (a ≡ true) × (b ≡ true)
both-true true b h = (refl, h)
both-true false b h = absurd (cc)

pub same_word-is : (a b : List ℕ) → same_word a b ≡ true → a ≡ b
same_word-is [] [] h = refl
same_word-is [] (b ∷ bs) h = absurd (cc)
same_word-is (a ∷ as_) [] h = absurd (cc)
same_word-is (a ∷ as_) (b ∷ bs) h =
    let both = both-true (nat_eq a b) (same_word as_ bs) h in
    let head : a ≡ b = grind (arith, common_steps, both.0) in
    let tail = same_word-is as_ bs both.1 in
    cc (head, tail)

expected : (b : Bool) (k : FaultKind) (line : ℕ) (later : Option GrammarFault) →
    settled (expect b k) line later ≡ None → (b ≡ true) × (later ≡ None)
expected true k line later h = (refl, h)
expected false k line later h = absurd (cc)

counted-by : (b : Bool) (limit n : ℕ) (line : ℕ) (later : Option GrammarFault) →
    settled (if b then expect (nat_le n limit) TooLarge else Bad BadHeader) line later ≡ None →
    (b ≡ true) × (n ≤ limit) × (later ≡ None)
counted-by true limit n line later h = let e =
    expected (nat_le n limit) TooLarge line later h in (refl, leb-true n limit e.0, e.1)
counted-by false limit n line later h = absurd (cc)

some-not-none : {f : GrammarFault} → Some f ≡ None → ⊥
some-not-none h = absurd (cc)

header-is : (p q v c : List ℕ) (ws xs : List (List ℕ)) → p ≡ p_word → q ≡ cnf_word → ws ≡ xs →
    p ∷ q ∷ v ∷ c ∷ ws ≡ p_word ∷ cnf_word ∷ v ∷ c ∷ xs
header-is p q v c ws xs a b e = rw (a, b, e) refl

literals-append : (a b : List Number) → literals (a ++ b) ≡ literals a + literals b
literals-append [] b = omega arith
literals-append (n ∷ a) b = omega (arith, literals-append a b)

literals-lits : (c : List Literal) → literals (numbers_of c) ≡ length c
literals-lits [] = refl
literals-lits (l ∷ c) = omega (arith, literals-lits c)

pub literals-flat : (cs : List (List Literal)) → literals (flat_map numbers_of cs) ≡ literal_count
    cs
literals-flat [] = refl
literals-flat (c ∷ cs) = literals-append (numbers_of c) (flat_map numbers_of cs)
    ∙ rw (literals-lits c, literals-flat cs) refl

-- what has no fault spells a formula within the limits
pub record SpellsSome (limits : Limits) (words : List (List ℕ)) (end : Ending) : Type 0 where
  pub formula : Cnf
  pub spells : SpellsWords words end formula
  pub within : IsWithin limits formula

pub no-fault-spells : (ts : List Token) (limits : Limits) (end : Ending) →
    first_fault limits [] ts end ≡ None → SpellsSome limits (map word_of ts) end
no-fault-spells [] limits (Whole line) h = absurd (cc)
no-fault-spells [] limits (Short line) h = absurd (cc)
no-fault-spells (p ∷ []) limits (Whole line) h =
    absurd (some-not-none
    (expected (same_word p.word p_word) NoHeader p.line
    (first_fault limits (p.word ∷ []) [] (Whole line)) h).1)
no-fault-spells (p ∷ q ∷ []) limits (Whole line) h =
    let a = expected (same_word p.word p_word) NoHeader p.line
    (first_fault limits (p.word ∷ []) (q ∷ []) (Whole line)) h in
    absurd (some-not-none
    (expected (same_word q.word cnf_word) BadHeader q.line
    (first_fault limits (p.word ∷ q.word ∷ []) [] (Whole line)) a.1).1)
no-fault-spells (p ∷ q ∷ v ∷ []) limits (Whole line) h =
    let a = expected (same_word p.word p_word) NoHeader p.line
    (first_fault limits (p.word ∷ []) (q ∷ v ∷ []) (Whole line)) h in
    let b = expected (same_word q.word cnf_word) BadHeader q.line
    (first_fault limits (p.word ∷ q.word ∷ []) (v ∷ []) (Whole line)) a.1 in
    absurd (some-not-none
    (counted-by (is_count v.word) limits.vars (value v.word) v.line
    (first_fault limits (p.word ∷ q.word ∷ v.word ∷ []) [] (Whole line)) b.1).2)
no-fault-spells (p ∷ []) limits (Short line) h =
    absurd (some-not-none
    (expected (same_word p.word p_word) NoHeader p.line
    (first_fault limits (p.word ∷ []) [] (Short line)) h).1)
no-fault-spells (p ∷ q ∷ []) limits (Short line) h =
    let a = expected (same_word p.word p_word) NoHeader p.line
    (first_fault limits (p.word ∷ []) (q ∷ []) (Short line)) h in
    absurd (some-not-none
    (expected (same_word q.word cnf_word) BadHeader q.line
    (first_fault limits (p.word ∷ q.word ∷ []) [] (Short line)) a.1).1)
no-fault-spells (p ∷ q ∷ v ∷ []) limits (Short line) h =
    let a = expected (same_word p.word p_word) NoHeader p.line
    (first_fault limits (p.word ∷ []) (q ∷ v ∷ []) (Short line)) h in
    let b = expected (same_word q.word cnf_word) BadHeader q.line
    (first_fault limits (p.word ∷ q.word ∷ []) (v ∷ []) (Short line)) a.1 in
    absurd (some-not-none
    (counted-by (is_count v.word) limits.vars (value v.word) v.line
    (first_fault limits (p.word ∷ q.word ∷ v.word ∷ []) [] (Short line)) b.1).2)
no-fault-spells (p ∷ q ∷ v ∷ c ∷ ts) limits end h =
    let a = expected (same_word p.word p_word) NoHeader p.line
    (first_fault limits (p.word ∷ []) (q ∷ v ∷ c ∷ ts) end) h in
    let b = expected (same_word q.word cnf_word) BadHeader q.line
    (first_fault limits (p.word ∷ q.word ∷ []) (v ∷ c ∷ ts) end) a.1 in
    let k = counted-by (is_count v.word) limits.vars (value v.word) v.line
    (first_fault limits (p.word ∷ q.word ∷ v.word ∷ []) (c ∷ ts) end) b.1 in
    let m = counted-by (is_count c.word) limits.clauses (value c.word) c.line
    (first_fault limits (p.word ∷ q.word ∷ v.word ∷ c.word ∷ []) ts end) k.2 in
    let rest = sym (first_fault-counted ts limits p.word q.word v.word c.word [] end) ∙ m.2 in
    let body : Parsed limits.literals (value v.word) (value c.word) [] 0 0 ts end =
    parsed ts limits.literals (value v.word) (value c.word) [] 0 0 end (omega arith)
    (λ e. absurd (cc e)) (All-nil (λ (l : Literal). l.index < value v.word)) (omega arith)
    rest in
    let fits : literals (flat_map numbers_of body.clauses) ≤ limits.literals =
    rw (← body.numbers) (omega (arith, body.fits)) in
    record {
      formula = record { vars = value v.word; clauses = body.clauses };
      spells = record {
        vars = v.word;
        count = c.word;
        body = body.body;
        rest = body.rest;
        split = header-is p.word q.word v.word c.word (map word_of ts) (body.body ++ body.rest)
            (same_word-is p.word p_word a.0) (same_word-is q.word cnf_word b.0) body.split;
        is_vars = k.0;
        vars_value = refl;
        is_clauses = m.0;
        count_value = omega (arith, body.total);
        clauses = body.numbers;
        within = body.within;
        closed = body.closed;
      };
      within = record {
        vars = k.1;
        clauses = omega (arith, body.total, m.1);
        literals = rw (← literals-flat body.clauses) fits;
      };
    }

pub count-is-fine : (b : Bool) (limit n : ℕ) → b ≡ true → n ≤ limit →
    (if b then expect (nat_le n limit) TooLarge else Bad BadHeader) ≡ Fine
count-is-fine b limit n e h = let t : nat_le n limit ≡ true = le-leb n limit h in rw (e, t) refl

-- what spells a formula within the limits has no fault
pub spells-no-fault : (ts : List Token) (limits : Limits) (end : Ending) (f : Cnf) →
    SpellsWords (map word_of ts) end f → IsWithin limits f → first_fault limits [] ts end ≡ None
spells-no-fault [] limits end f s w = absurd (cc s.split)
spells-no-fault (p ∷ []) limits end f s w = absurd (cc s.split)
spells-no-fault (p ∷ q ∷ []) limits end f s w = absurd (cc s.split)
spells-no-fault (p ∷ q ∷ v ∷ []) limits end f s w = absurd (cc s.split)
spells-no-fault (p ∷ q ∷ v ∷ c ∷ ts) limits end f s w =
    let p_is : p.word ≡ p_word = cc s.split in
    let q_is : q.word ≡ cnf_word = cc s.split in
    let v_is : v.word ≡ s.vars = cc s.split in
    let c_is : c.word ≡ s.count = cc s.split in
    let rest_is : map word_of ts ≡ s.body ++ s.rest = cc s.split in
    let v_fine : count_verdict limits.vars v.word ≡ Fine =
    rw v_is (count-is-fine (is_count s.vars) limits.vars (value s.vars) s.is_vars
    (omega (arith, s.vars_value, w.vars))) in
    let c_fine : count_verdict limits.clauses c.word ≡ Fine =
    rw c_is (count-is-fine (is_count s.count) limits.clauses (value s.count) s.is_clauses
    (omega (arith, s.count_value, w.clauses))) in
    let fits : literals (map number s.body) ≤ limits.literals =
    rw (s.clauses, literals-flat f.clauses) w.literals in
    let within : All (λ (d : List Literal). All (λ (l : Literal). l.index < value v.word) d)
    f.clauses = rw (v_is, s.vars_value) s.within in
    let whole = complete ts limits.literals (value v.word) (value c.word) [] 0 0 end s.body s.rest
    f.clauses rest_is s.clauses (all-vars-in (value v.word) f.clauses within)
    (rw c_is (omega (arith, s.count_value))) (omega (arith, fits)) s.closed in
    let later = first_fault-counted ts limits p.word q.word v.word c.word [] end ∙ whole in
    rw (p_is, q_is) (rw (v_fine, c_fine) (rw (sym p_is, sym q_is) later))
