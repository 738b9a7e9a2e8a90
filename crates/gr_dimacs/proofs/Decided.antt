-- from the outcome of a text to the answer of the reader
use Rattle.std.proofs.Common.{◌≡◌, ◌∙◌, ℕ, ◌+◌, ◌≤◌, Bool, true, false, List, [], ◌∷◌, ◌++◌, length, map, refl, ap, arith, if◌then◌else◌, Option, Some, None, Result, Ok, Err}
use Rattle.std.specs.Option.{option_map}
use Rattle.gr_io.specs.Pieces.{ComesOff}
use Rattle.gr_logic.specs.Formulas.{Cnf, IsBounded}
use Rattle.gr_text.specs.Tokens.{Spot, marks, front, made_known, beyond, Mark}
use Rattle.gr_text.specs.Places.{at_start, known, taken, limit_of}
use Rattle.gr_text.specs.Stands.{Stand, Goes}
use Rattle.gr_dimacs.specs.Tokens.{Token, Ending, Whole, Short, tokens_of, ending_of, outside, ending}
use Rattle.gr_dimacs.specs.Grammar.{word_of, SpellsWords}
use Rattle.gr_dimacs.specs.Faults.{fault_of, first_fault, verdict, settled, IsWithin}
use Rattle.gr_dimacs.specs.Reads.{CountsBytes, IsLawful, IsFormulaOf, IsReadThrough, IsTooLong, DecidesNothing, Reads}
use Rattle.gr_dimacs.specs.Texts.{formula_of, result_of, outcome_of_text, Decides}
use Rattle.gr_dimacs.specs.declared.faults.FaultKind.TheVariants.{TooLong}
use Rattle.gr_dimacs.specs.declared.faults.GrammarFault.{GrammarFault}
use Rattle.gr_dimacs.specs.declared.limits.Limits.{Limits}
use Rattle.gr_dimacs.specs.declared.faults.ReadError.{ReadError}
use Rattle.gr_dimacs.specs.declared.faults.ReadError.TheVariants as errors
use Rattle.gr_dimacs.proofs.Header.{no-fault-spells}
use Rattle.gr_dimacs.proofs.Prefix.{within-spells}
use Rattle.gr_dimacs.proofs.Unique.{spelled-is}

ok-result : (o : Option GrammarFault) (g f : Cnf) → result_of o g ≡ Ok f → (o ≡ None) × (g ≡ f)
ok-result None g f h = (refl, cc h)
ok-result (Some e) g f h = absurd (cc h)

err-result : (o : Option GrammarFault) (g : Cnf) (e : GrammarFault) → result_of o g ≡ Err e →
    o ≡ Some e
err-result None g e h = absurd (cc h)
err-result (Some k) g e h = ap Some (cc h)

bounded-by : (limits : Limits) (words : List (List ℕ)) (end : Ending) (f : Cnf) → IsLawful limits →
    IsWithin limits f → SpellsWords words end f → IsBounded f
bounded-by limits words end f lawful within s = record {
  vars = omega (arith, within.vars, lawful.vars);
  clauses = omega (arith, within.clauses, lawful.clauses);
  within = s.within;
}

-- a text whose outcome is a formula spells it
formula-is : (limits : Limits) (text : List ℕ) (f : Cnf) → IsLawful limits →
    outcome_of_text limits limits.bytes text ≡ Ok f → IsFormulaOf limits text f
formula-is limits text f lawful h =
    let tokens = tokens_of limits.bytes text in
    let end = ending_of limits.bytes text in
    let parts = ok-result (fault_of limits text) (formula_of (map word_of tokens)) f h in
    let found = no-fault-spells tokens limits end parts.0 in
    let same : found.formula ≡ f = spelled-is (map word_of tokens) end found.formula found.spells
    ∙ parts.1 in
    let spells : SpellsWords (map word_of tokens) end f = rw same at found.spells in
    let within : IsWithin limits f = rw same at found.within in
    record {
      spells = within-spells text limits.bytes f spells;
      faultless = parts.0;
      within = within;
      bounded = bounded-by limits (map word_of tokens) end f lawful within spells;
    }

-- a formula that is the outcome of so many bytes is spelled within them
through-is : (limits : Limits) (bytes : ℕ) (text taken : List ℕ) (f : Cnf) →
    bytes ≤ length taken + 1 → outcome_of_text limits bytes text ≡ Ok f →
    IsReadThrough text taken f
through-is limits bytes text taken f within h =
    let tokens = tokens_of bytes text in
    let end = ending_of bytes text in
    let parts = ok-result (first_fault limits [] tokens end) (formula_of (map word_of tokens)) f h in
    let found = no-fault-spells tokens limits end parts.0 in
    let same : found.formula ≡ f = spelled-is (map word_of tokens) end found.formula found.spells
    ∙ parts.1 in
    record { bytes = bytes; within = within; spells = rw same at found.spells }

-- no byte beyond those that may be looked at matters
marks-cut : (taken rest : List ℕ) (s : Spot) →
    marks s (length taken) (taken ++ rest) ≡ marks s (length taken) taken
marks-cut [] rest s = refl
marks-cut (b ∷ taken) rest s =
    ap (λ (ms : List Mark). made_known s b ++ ms) (marks-cut taken rest (beyond s b))

abbrev with_bytes : Limits → ℕ → Limits
with_bytes limits n = record limits { bytes = n }

verdict-bytes : (limits : Limits) (n : ℕ) (before : List (List ℕ)) (w : List ℕ) →
    verdict (with_bytes limits n) before w ≡ verdict limits before w
verdict-bytes limits n [] w = refl
verdict-bytes limits n (p ∷ []) w = refl
verdict-bytes limits n (p ∷ cnf ∷ []) w = refl
verdict-bytes limits n (p ∷ cnf ∷ v ∷ []) w = refl
verdict-bytes limits n (p ∷ cnf ∷ v ∷ c ∷ body) w = refl

-- the limit on bytes judges no token
fault-bytes : (ts : List Token) (limits : Limits) (n : ℕ) (before : List (List ℕ)) (end : Ending) →
    first_fault (with_bytes limits n) before ts end ≡ first_fault limits before ts end
fault-bytes [] limits n before (Whole line) = refl
fault-bytes [] limits n before (Short line) = refl
fault-bytes (t ∷ ts) limits n before end =
    ap (λ v. settled v t.line (first_fault (with_bytes limits n) (before ++ t.word ∷ []) ts end))
    (verdict-bytes limits n before t.word)
    ∙ ap (settled (verdict limits before t.word) t.line)
    (fault-bytes ts limits n (before ++ t.word ∷ []) end)

-- a text whose first bytes decide nothing
undecided-is : (limits : Limits) (taken rest : List ℕ) (line : ℕ) →
    outcome_of_text limits (length taken) (taken ++ rest) ≡ Err
    (record { kind = TooLong; line = line }) → DecidesNothing limits taken
undecided-is limits taken rest line h =
    let cut = rw (marks-cut taken rest front) at h in
    let tokens = outside false (marks front (length taken) taken) in
    let end = ending (marks front (length taken) taken) in
    record {
      line = line;
      too_long = fault-bytes tokens limits (length taken) [] end
          ∙ err-result (first_fault limits [] tokens end) (formula_of (map word_of tokens)) _ cut;
    }

some-is : {A : Type 0} (a b : A) → Some a ≡ Some b → a ≡ b
some-is a b h = cc h

reads-formula : (limits : Limits) (f : Cnf) (taken : List ℕ) (bytes : ℕ) (l r : Option (List ℕ)) →
    IsLawful limits → ComesOff taken l r → length taken ≤ limits.bytes →
    bytes ≤ length taken + 1 → option_map (outcome_of_text limits limits.bytes) l ≡ option_map (λ _. Ok f) r →
    option_map (outcome_of_text limits bytes) l ≡ option_map (λ _. Ok f) r →
    Reads limits (Ok f) l r
reads-formula limits f taken bytes None None lawful came within few h k = tt
reads-formula limits f taken bytes None (Some rest) lawful came within few h k = absurd (cc came)
reads-formula limits f taken bytes (Some text) None lawful came within few h k = absurd (cc came)
reads-formula limits f taken bytes (Some text) (Some rest) lawful came within few h k = record {
  taken = taken;
  split = some-is text (taken ++ rest) came;
  within = within;
  answers = formula-is limits text f lawful (some-is _ _ h);
  through = through-is limits bytes text taken f few (some-is _ _ k);
}

reads-fault : (limits : Limits) (g : GrammarFault) (taken : List ℕ) (l r : Option (List ℕ)) →
    ComesOff taken l r → length taken ≤ limits.bytes →
    option_map (outcome_of_text limits limits.bytes) l ≡ option_map (λ _. Err g) r →
    Reads limits (Err (errors.Grammar g)) l r
reads-fault limits g taken None None came within h = tt
reads-fault limits g taken None (Some rest) came within h = absurd (cc came)
reads-fault limits g taken (Some text) None came within h = absurd (cc came)
reads-fault limits g taken (Some text) (Some rest) came within h = record {
  taken = taken;
  split = some-is text (taken ++ rest) came;
  within = within;
  answers = err-result (fault_of limits text)
      (formula_of (map word_of (tokens_of limits.bytes text))) g (some-is _ _ h);
  through = tt;
}

reads-nothing : (limits : Limits) (line : ℕ) (taken : List ℕ) (l r : Option (List ℕ)) →
    ComesOff taken l r → length taken ≤ limits.bytes →
    option_map (outcome_of_text limits (length taken)) l ≡ option_map
    (λ _. Err (record { kind = TooLong; line = line })) r → Reads limits (Err errors.ReadFault) l r
reads-nothing limits line taken None None came within h = tt
reads-nothing limits line taken None (Some rest) came within h = absurd (cc came)
reads-nothing limits line taken (Some text) None came within h = absurd (cc came)
reads-nothing limits line taken (Some text) (Some rest) came within h =
    let split = some-is text (taken ++ rest) came in
    record {
      taken = taken;
      split = split;
      within = within;
      answers = undecided-is limits taken rest line (rw split at (some-is _ _ h));
      through = tt;
    }

reads-memory : (limits : Limits) (taken : List ℕ) (l r : Option (List ℕ)) → ComesOff taken l r →
    length taken ≤ limits.bytes → Reads limits (Err errors.OutOfMemory) l r
reads-memory limits taken None None came within = tt
reads-memory limits taken None (Some rest) came within = absurd (cc came)
reads-memory limits taken (Some text) None came within = absurd (cc came)
reads-memory limits taken (Some text) (Some rest) came within =
    record {
      taken = taken;
      split = some-is text (taken ++ rest) came;
      within = within;
      answers = tt;
      through = tt;
    }

taken-all : (limits : Limits) (p n : Stand) → p.place ≡ at_start limits.bytes → (goes : Goes p n) →
    taken n.place ≡ length goes.takes.piece
taken-all limits p n start goes =
    let none : taken p.place ≡ 0 = rw start refl in
    omega (arith, goes.takes.count, none)

-- no more was taken than may be
taken-few : (limits : Limits) (p n : Stand) → p.place ≡ at_start limits.bytes → (goes : Goes p n) →
    length goes.takes.piece ≤ limits.bytes
taken-few limits p n start goes =
    let all = taken-all limits p n start goes in
    let limit : limit_of p.place ≡ limits.bytes = rw start (omega arith) in
    omega (arith, all, goes.keeps.limit, limit)

-- no more bytes were counted than may be looked at, and as many where no more may be taken
pub counted-bytes : (limits : Limits) (res : Result Cnf ReadError) (p n : Stand) →
    p.place ≡ at_start limits.bytes → Goes p n → (IsTooLong res → n.place.spare ≡ 0) →
    CountsBytes limits.bytes res p.count n.count
counted-bytes limits res p n start goes full =
    let none : taken p.place ≡ 0 = rw start refl in
    let limit : limit_of p.place ≡ limits.bytes = rw start (omega arith) in
    let keeps = goes.keeps in
    let counts = goes.counts in
    record {
      grows = omega (arith, none, counts);
      few = omega (arith, none, limit, keeps.limit, counts);
      full = λ long. omega (arith, none, limit, keeps.limit, counts, full long);
    }

-- the same of what is equal
pub counted-at : (bytes : ℕ) (res : Result Cnf ReadError) (p q l r : ℕ) →
    CountsBytes bytes res p q → l ≡ p → r ≡ q → CountsBytes bytes res l r
counted-at bytes res p q l r h a b = rw (a, b) h

pub calm-at : (p q l r : ℕ) → q ≡ p → l ≡ p → r ≡ q → r ≡ l
calm-at p q l r same a b = rw (a, b) same

known-few : (ended : Bool) (count : ℕ) → count + (if ended then 1 else 0) ≤ count + 1
known-few true count = omega arith
known-few false count = omega arith

pub decided-reads : (limits : Limits) (res : Result Cnf ReadError) (p n : Stand) →
    p.place ≡ at_start limits.bytes → IsLawful limits → Goes p n → Decides res limits p n →
    Reads limits res p.left n.left
decided-reads limits (Ok f) p n start lawful goes h =
    let all = taken-all limits p n start goes in
    let few : known n.place ≤ length goes.takes.piece + 1 =
    omega (arith, known-few n.place.ended (taken n.place), all) in
    reads-formula limits f goes.takes.piece (known n.place) p.left n.left lawful goes.takes.left
    (taken-few limits p n start goes) few
    h.0 h.1
decided-reads limits (Err (errors.Grammar g)) p n start lawful goes h =
    reads-fault limits g goes.takes.piece p.left n.left goes.takes.left
    (taken-few limits p n start goes) h
decided-reads limits (Err errors.ReadFault) p n start lawful goes h =
    let all = taken-all limits p n start goes in
    reads-nothing limits h.0.0 goes.takes.piece p.left n.left goes.takes.left
    (taken-few limits p n start goes) (rw all at h.0.1)
decided-reads limits (Err errors.OutOfMemory) p n start lawful goes h =
    reads-memory limits goes.takes.piece p.left n.left goes.takes.left
    (taken-few limits p n start goes)

-- the same of what is equal
pub reads-at : (limits : Limits) (res : Result Cnf ReadError) (p q l r : Option (List ℕ)) →
    Reads limits res p q → l ≡ p → r ≡ q → Reads limits res l r
reads-at limits res p q l r h a b = rw (a, b) h
