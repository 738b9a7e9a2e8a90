-- behind a header that is at no fault the outcome is that of the body
use Rattle.std.proofs.Common.{◌≡◌, ◌∙◌, ℕ, ◌≤◌, true, List, [], ◌∷◌, map, refl, sym, ap, Option, Result}
use Rattle.gr_logic.specs.Formulas.{Cnf}
use Rattle.gr_dimacs.specs.Numbers.{value, is_count}
use Rattle.gr_dimacs.specs.Tokens.{Token, Ending}
use Rattle.gr_dimacs.specs.Grammar.{word_of, p_word, cnf_word}
use Rattle.gr_dimacs.specs.Faults.{Fine, count_verdict, first_fault}
use Rattle.gr_dimacs.specs.Building.{Building, outcome}
use Rattle.gr_dimacs.specs.declared.faults.GrammarFault.{GrammarFault}
use Rattle.gr_dimacs.specs.declared.limits.Limits.{Limits}
use Rattle.gr_dimacs.proofs.Counted.{first_fault-counted}
use Rattle.gr_dimacs.proofs.Header.{count-is-fine}
use Rattle.gr_dimacs.specs.Texts.{formula_of, result_of}
use Rattle.gr_dimacs.proofs.Outcome.{outcome-is}

-- nothing is read behind the header
abbrev pub start : Limits → List ℕ → List ℕ → Building
start limits v c =
    record {
      vars = value v;
      count = value c;
      room = limits.literals;
      read = 0;
      clauses =
          [];
      clause = [];
    }

abbrev pub token : ℕ → List ℕ → Token
token line word = record { line = line; word = word }

-- what a text is, by its tokens: its first fault, or its formula
abbrev pub text_outcome : Limits → List Token → Ending → Result Cnf GrammarFault
text_outcome limits ts end = result_of (first_fault limits [] ts end) (formula_of (map word_of ts))

pub headed : (limits : Limits) (j k l m : ℕ) (v c : List ℕ) (ts : List Token) (end : Ending) →
    is_count v ≡ true → value v ≤ limits.vars → is_count c ≡ true → value c ≤ limits.clauses →
    text_outcome limits (token j p_word ∷ token k cnf_word ∷ token l v ∷ token m c ∷ ts)
    end ≡ outcome (start limits v c) ts end
headed limits j k l m v c ts end is_v vars is_c clauses =
    let v_fine : count_verdict limits.vars v ≡ Fine =
    count-is-fine (is_count v) limits.vars (value v) is_v vars in
    let c_fine : count_verdict limits.clauses c ≡ Fine =
    count-is-fine (is_count c) limits.clauses (value c) is_c clauses in
    let fault : first_fault limits []
    (token j p_word ∷ token k cnf_word ∷ token l v ∷ token m c ∷ ts) end ≡ first_fault limits
    (p_word ∷ cnf_word ∷ v ∷ c ∷ []) ts end = rw (v_fine, c_fine) refl in
    ap (λ (o : Option GrammarFault). result_of o
    (formula_of (map word_of (token j p_word ∷ token k cnf_word ∷ token l v ∷ token m c ∷ ts))))
    (fault ∙ first_fault-counted ts limits p_word cnf_word v c [] end)
    ∙ sym (outcome-is ts (start limits v c) end)
