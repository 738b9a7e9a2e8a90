-- the outcome is the first fault, or else the formula
use Rattle.std.proofs.Common.{◌≡◌, ◌∙◌, ℕ, ◌+◌, true, List, [], ◌∷◌, ◌++◌, length, map, refl, sym, ap, arith, Option, None, Result, Ok, length-append}
use Rattle.std.proofs.lemmas.List.{append_assoc, append-nil}
use Rattle.gr_logic.specs.Literals.{Literal}
use Rattle.gr_logic.specs.Formulas.{Cnf}
use Rattle.gr_dimacs.specs.Numbers.{Number, Zero, Lit, Other, number, begins}
use Rattle.gr_dimacs.specs.Tokens.{Token, Ending, Whole, Short}
use Rattle.gr_dimacs.specs.Grammar.{word_of}
use Rattle.gr_dimacs.specs.Faults.{Verdict, Bad, Closing, Fine, settled, number_verdict}
use Rattle.gr_dimacs.specs.Building.{Building, outcome, concluded, end_of, token_verdict, with_number, is_nil, formula_in}
use Rattle.gr_dimacs.specs.declared.faults.GrammarFault.{GrammarFault}
use Rattle.gr_dimacs.proofs.Counted.{counted}
use Rattle.gr_dimacs.proofs.Sound.{says, says_zero, says_lit, says_other, is_nil-push, closing-says, fine-says}
use Rattle.gr_dimacs.proofs.Unique.{percent-other}
use Rattle.gr_dimacs.specs.Texts.{grouped, result_of}

abbrev pub counted_in : Building → List Token → Ending → Option GrammarFault
counted_in b ts end = counted b.room b.vars b.count (is_nil b.clause) (length b.clauses) b.read ts
    end

abbrev pub whole_formula : Building → List Token → Cnf
whole_formula b ts =
    record { vars = b.vars; clauses = b.clauses ++ grouped b.clause (map number (map word_of ts)) }

by-verdict : (v : Verdict) (line : ℕ) (b : Building) (later : Result Cnf GrammarFault)
    (rest : Option GrammarFault) (f : Cnf) → (v ≡ Closing → formula_in b ≡ f) →
    (v ≡ Fine → later ≡ result_of rest f) →
    concluded v line b later ≡ result_of (settled v line rest) f
by-verdict (Bad k) line b later rest f a c = refl
by-verdict Closing line b later rest f a c = ap Ok (a refl)
by-verdict Fine line b later rest f a c = c refl

other-not-fine : (b : Building) (n : Number) → n ≡ Other →
    number_verdict b.room b.vars b.count (is_nil b.clause) (length b.clauses) b.read n ≡ Fine → ⊥
other-not-fine b n is h = let x = rw is at h in absurd (cc x)

cnf-same : (v : ℕ) (a b : List (List Literal)) → a ≡ b → let x : Cnf =
    record { vars = v; clauses = a } in let y : Cnf = record { vars = v; clauses = b } in x ≡ y
cnf-same v a b e = rw e refl

nothing-more : (b : Building) (w : List ℕ) (ts : List Token) → begins 37 w ≡ true →
    is_nil b.clause ≡ true →
    b.clauses ≡ b.clauses ++ grouped b.clause (number w ∷ map number (map word_of ts))
nothing-more b w ts p n = let o = percent-other w p in rw o (sym (append-nil b.clauses))

pub outcome-is : (ts : List Token) (b : Building) (end : Ending) →
    outcome b ts end ≡ result_of (counted_in b ts end) (whole_formula b ts)
outcome-is [] b (Short line) = refl
outcome-is [] b (Whole line) =
    by-verdict (end_of b) line b (Ok (formula_in b)) None (whole_formula b [])
    (λ _. cnf-same b.vars b.clauses (b.clauses ++ []) (sym (append-nil b.clauses)))
    (λ _. ap Ok (cnf-same b.vars b.clauses (b.clauses ++ []) (sym (append-nil b.clauses))))
outcome-is (t ∷ ts) b end =
    by-verdict (token_verdict b t.word) t.line b _ _ (whole_formula b (t ∷ ts))
    (λ closing.
    let c = closing-says b.room b.vars b.count (is_nil b.clause) (length b.clauses) b.read
    t.word closing in
    cnf-same b.vars b.clauses _ (nothing-more b t.word ts c.0 c.1))
    (λ fine.
    let verdict_fine = fine-says b.room b.vars b.count (is_nil b.clause) (length b.clauses)
    b.read t.word fine in
    elim (says (number t.word)) [
      | says_zero is ↦
          let n : length (b.clauses ++ b.clause ∷ []) ≡ length b.clauses + 1 =
          omega (arith, length-append b.clauses (b.clause ∷ [])) in
          let r : b.read + 0 ≡ b.read = omega arith in
          rw is (outcome-is ts (with_number b Zero) end
          ∙ rw (
            n,
            r,
            append_assoc b.clauses (b.clause ∷ [])
                (grouped [] (map number (map word_of ts))),
          ) refl)
      | says_lit l is ↦
          let n : length b.clauses + 0 ≡ length b.clauses = omega arith in
          rw is (outcome-is ts (with_number b (Lit l)) end
          ∙ rw (n, is_nil-push b.clause l) refl)
      | says_other is ↦ absurd (other-not-fine b (number t.word) is verdict_fine)
    ])
