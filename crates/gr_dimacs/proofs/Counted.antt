-- the first fault, by counts alone
use Rattle.std.proofs.Common.{◌≡◌, ℕ, ◌+◌, Bool, not, ◌&&◌, List, [], ◌∷◌, ◌++◌, map, refl, ap, arith, nat_lt, if◌then◌else◌, Option, Some, None}
use Rattle.std.proofs.lemmas.List.{map-append}
use Rattle.gr_dimacs.specs.Numbers.{Number, number, value, begins}
use Rattle.gr_dimacs.specs.Tokens.{Token, Ending, Whole, Short}
use Rattle.gr_dimacs.specs.Faults.{Verdict, Bad, Closing, is_zero, ended, literals, is_between, number_verdict, body_verdict, settled, first_fault}
use Rattle.gr_dimacs.specs.declared.faults.FaultKind.TheVariants.{TooFew, Unended, TooLong}
use Rattle.gr_dimacs.specs.declared.faults.GrammarFault.{GrammarFault}
use Rattle.gr_dimacs.specs.declared.limits.Limits.{Limits}

-- the verdict on a token where so many clauses were ended and so many literals read
abbrev pub counted_verdict : ℕ → ℕ → ℕ → Bool → ℕ → ℕ → List ℕ → Verdict
counted_verdict room vars count between done read w =
    if begins 37 w && between then (if nat_lt done count then Bad TooFew else Closing) else
    number_verdict room vars count between done read (number w)

abbrev pub closing_verdict : ℕ → Bool → ℕ → Verdict
closing_verdict count between done =
    if not between then Bad Unended else
    if nat_lt done count then Bad TooFew else Closing

abbrev pub done_after : Number → ℕ → ℕ
done_after n done = done + (if is_zero n then 1 else 0)

abbrev pub read_after : Number → ℕ → ℕ
read_after n read = read + (if is_zero n then 0 else 1)

abbrev pub counted : ℕ → ℕ → ℕ → Bool → ℕ → ℕ → List Token → Ending → Option GrammarFault
counted room vars count between done read [] (Whole line) =
    settled (closing_verdict count between done) line None
counted room vars count between done read [] (Short line) =
    Some (record { kind = TooLong; line = line })
counted room vars count between done read (t ∷ ts) end =
    settled (counted_verdict room vars count between done read t.word) t.line
    (counted room vars count (is_zero (number t.word)) (done_after (number t.word) done)
    (read_after (number t.word) read) ts end)

pub is_between-push : (ns : List Number) (n : Number) → is_between (ns ++ n ∷ []) ≡ is_zero n
is_between-push [] n = refl
is_between-push (m ∷ []) n = refl
is_between-push (m ∷ o ∷ ns) n = is_between-push (o ∷ ns) n

pub ended-push : (ns : List Number) (n : Number) → ended (ns ++ n ∷ []) ≡ done_after n (ended ns)
ended-push [] n = omega arith
ended-push (m ∷ ns) n = omega (arith, ended-push ns n)

pub literals-push : (ns : List Number) (n : Number) →
    literals (ns ++ n ∷ []) ≡ read_after n (literals ns)
literals-push [] n = omega arith
literals-push (m ∷ ns) n = omega (arith, literals-push ns n)

-- behind the header only the counts matter
pub first_fault-counted : (ts : List Token) (limits : Limits) (p cnf v c : List ℕ)
    (body : List (List ℕ)) (end : Ending) →
    first_fault limits (p ∷ cnf ∷ v ∷ c ∷ body) ts end
    ≡ counted limits.literals (value v) (value c) (is_between (map number body))
    (ended (map number body)) (literals (map number body)) ts end
first_fault-counted [] limits p cnf v c body (Whole line) = refl
first_fault-counted [] limits p cnf v c body (Short line) = refl
first_fault-counted (t ∷ ts) limits p cnf v c body end =
    let grown : map number (body ++ t.word ∷ []) ≡ map number body ++ number t.word ∷ [] =
    map-append number body (t.word ∷ []) in
    let later = first_fault-counted ts limits p cnf v c (body ++ t.word ∷ []) end in
    let later' = rw (
      grown,
      is_between-push (map number body) (number t.word),
      ended-push (map number body) (number t.word),
      literals-push (map number body) (number t.word),
    ) at later in
    ap (λ (o : Option GrammarFault). settled
    (body_verdict limits.literals (value v) (value c) (map number body) t.word) t.line o) later'
