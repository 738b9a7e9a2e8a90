-- the header, token by token
use Rattle.std.proofs.Common.{◌≡◌, ◌∙◌, ℕ, ◌≤◌, false, List, [], ◌∷◌, ◌++◌, map, refl, sym, ap, arith, Option, Result, Err, inl, inr}
use Rattle.std.specs.Option.{option_map}
use Rattle.std.proofs.lemmas.List.{append_assoc}
use Rattle.gr_logic.specs.Formulas.{Cnf}
use Rattle.gr_text.specs.Places.{Place, known, taken, limit_of}
use Rattle.gr_text.specs.Stands.{Stand, Goes}
use Rattle.gr_dimacs.specs.Numbers.{is_count, value}
use Rattle.gr_dimacs.specs.Tokens.{Ending, Whole, Short}
use Rattle.gr_dimacs.specs.Grammar.{word_of, p_word, cnf_word}
use Rattle.gr_dimacs.specs.Faults.{Bad, Fine, verdict, end_verdict}
use Rattle.gr_dimacs.specs.Finds.{Read, told, behind, over, Heads, EndsIn}
use Rattle.gr_dimacs.specs.Heads.{HasCount, HasWord, TokenFails}
use Rattle.gr_dimacs.specs.Texts.{formula_of, result_of, outcome_behind, text_told, Headed, HeaderFails}
use Rattle.gr_dimacs.specs.declared.faults.FaultKind.{FaultKind}
use Rattle.gr_dimacs.specs.declared.faults.FaultKind.TheVariants.{TooLong}
use Rattle.gr_dimacs.specs.declared.faults.GrammarFault.{GrammarFault}
use Rattle.gr_dimacs.specs.declared.limits.Limits.{Limits}
use Rattle.gr_dimacs.specs.declared.faults.ReadError.{ReadError}
use Rattle.gr_dimacs.specs.declared.faults.ReadError.TheVariants as errors
use Rattle.gr_dimacs.specs.Building.{Building}
use Rattle.gr_dimacs.proofs.Counted.{first_fault-counted}
use Rattle.gr_dimacs.proofs.Outcome.{outcome-is}
use Rattle.gr_dimacs.proofs.Header.{same_word-is, count-is-fine}
use Rattle.gr_dimacs.proofs.Headed.{start}
use Rattle.gr_dimacs.proofs.Told.{option_map-twice, option_map-same, told-const, rose-later}
use Rattle.gr_text.proofs.Going.{goes-then}

-- the outcome of the text is that of what comes behind these words
pub record Staged (limits : Limits) (before : List (List ℕ)) (p q : Stand) : Type 0 where
  pub same : (limit : ℕ) → known q.place ≤ limit →
      text_told limits [] limit p ≡ text_told limits before limit q
  pub goes : Goes p q

fine-on : (limits : Limits) (before : List (List ℕ)) (line : ℕ) (w : List ℕ) (x : Read) →
    verdict limits before w ≡ Fine → outcome_behind limits before (behind line w x) ≡ outcome_behind
    limits (before ++ w ∷ []) x
fine-on limits before line w x fine =
    rw (fine, append_assoc before (w ∷ []) (map word_of x.tokens)) refl

-- one more word, which is at no fault
pub staged-on : (limits : Limits) (before : List (List ℕ)) (line : ℕ) (word : List ℕ)
    (p q n : Stand) → Staged limits before p q → Goes q n → Heads line q n →
    n.place.token ≡ word → verdict limits before word ≡ Fine →
    Staged limits (before ++ word ∷ []) p n
staged-on limits before line word p q n a goes heads is fine = record {
  same = λ limit h.
      a.same limit (omega (arith, goes.keeps.grows))
      ∙ ap (option_map (outcome_behind limits before)) (heads limit h)
      ∙ option_map-twice (outcome_behind limits before) (behind line n.place.token)
      (told limit n)
      ∙ option_map-same _ _ (told limit n) (λ x. rw is (fine-on limits before line word x fine));
  goes = goes-then p q n a.goes goes;
}

-- the first word
pub staged-first : (limits : Limits) (line : ℕ) (word : List ℕ) (p n : Stand) → Goes p n →
    Heads line p n →
    n.place.token ≡ word → verdict limits [] word ≡ Fine → Staged limits (word ∷ []) p n
staged-first limits line word p n goes heads is fine = record {
  same = λ limit h.
      ap (option_map (outcome_behind limits [])) (heads limit h)
      ∙ option_map-twice (outcome_behind limits []) (behind line n.place.token) (told limit n)
      ∙ option_map-same _ _ (told limit n) (λ x. rw is (fine-on limits [] line word x fine));
  goes = goes;
}

bad-on : (limits : Limits) (before : List (List ℕ)) (g : GrammarFault) (w : List ℕ) (x : Read) →
    verdict limits before w ≡ Bad g.kind → outcome_behind limits before (behind g.line w x) ≡ Err g
bad-on limits before g w x bad = rw bad refl

end-on : (limits : Limits) (before : List (List ℕ)) (kind : FaultKind) (g : GrammarFault) →
    end_verdict before ≡ Bad kind → g.kind ≡ kind →
    outcome_behind limits before (over (Whole g.line)) ≡ Err g
end-on limits before kind g bad same = rw (bad, ← same) refl

short-on : (limits : Limits) (before : List (List ℕ)) (g : GrammarFault) → g.kind ≡ TooLong →
    outcome_behind limits before (over (Short g.line)) ≡ Err g
short-on limits before g same = rw (← same) refl

over-told : (limits : Limits) (before : List (List ℕ)) (end : Ending) (o : Result Cnf GrammarFault)
    (limit : ℕ) (q n : Stand) → EndsIn limit end q n → outcome_behind limits before (over end) ≡ o →
    text_told limits before limit q ≡ option_map (λ _. o) n.left
over-told limits before end o limit q n a b = ap (option_map (outcome_behind limits before)) a
    ∙ option_map-twice (outcome_behind limits before) _ n.left ∙ option_map-same _ _ n.left (λ _. b)

taken-known : (q : Place) → q.ended ≡ false → known q ≡ taken q
taken-known q open_ = rw open_ (omega arith)

-- behind these words reading fails
fails-behind : (limits : Limits) (before : List (List ℕ)) (kind : FaultKind) (e : ReadError)
    (p q n : Stand) →
    ((limit : ℕ) → known q.place ≤ limit → text_told limits [] limit p ≡ text_told limits before
    limit q) → p.faults ≤ q.faults → Goes q n → limit_of q.place ≡ limit_of p.place →
    end_verdict before ≡ Bad kind → TokenFails (verdict limits before) kind e q n →
    HeaderFails limits e p n
fails-behind limits before kind (errors.Grammar g) p q n same few goes limit_is ends (inl (inl f)) =
    same (limit_of p.place) (omega (arith, goes.keeps.grows, goes.keeps.within, goes.keeps.limit))
    ∙ over-told limits before (Whole g.line) (Err g) (limit_of p.place) q n (rw limit_is at f.1)
    (end-on limits before kind g ends f.0)
fails-behind limits before kind (errors.Grammar g) p q n same few goes limit_is ends (inl (inr f)) =
    same (limit_of p.place) (omega (arith, goes.keeps.grows, goes.keeps.within, goes.keeps.limit))
    ∙ over-told limits before (Short g.line) (Err g) (limit_of p.place) q n (rw limit_is at f.1)
    (short-on limits before g f.0)
fails-behind limits before kind (errors.Grammar g) p q n same few goes limit_is ends (inr f) =
    same (limit_of p.place) (omega (arith, goes.keeps.grows, goes.keeps.within, goes.keeps.limit))
    ∙ ap (option_map (outcome_behind limits before))
    (f.1 (limit_of p.place) (omega (arith, goes.keeps.within, goes.keeps.limit)))
    ∙ option_map-twice (outcome_behind limits before) (behind g.line n.place.token)
    (told (limit_of p.place) n)
    ∙ option_map-same _ _ (told (limit_of p.place) n)
    (λ x. bad-on limits before g n.place.token x f.0) ∙ told-const (Err g) (limit_of p.place) n
fails-behind limits before kind errors.ReadFault p q n same few goes limit_is ends f = (
  (
    n.place.last,
    same (taken n.place) (omega (arith, taken-known n.place f.1, goes.keeps.grows))
        ∙ over-told limits before (Short n.place.last) _ (taken n.place) q n f.0 refl,
  ),
  rose-later p.faults q.faults n.faults few f.2,
)
fails-behind limits before kind errors.OutOfMemory p q n same few goes limit_is ends f = tt

pub staged-fails : (limits : Limits) (before : List (List ℕ)) (kind : FaultKind) (e : ReadError)
    (p q n : Stand) → Staged limits before p q → Goes q n →
    end_verdict before ≡ Bad kind → TokenFails (verdict limits before) kind e q n →
    HeaderFails limits e p n
staged-fails limits before kind e p q n a goes ends f =
    fails-behind limits before kind e p q n a.same a.goes.faults goes a.goes.keeps.limit ends f

pub first-fails : (limits : Limits) (kind : FaultKind) (e : ReadError) (p n : Stand) → Goes p n →
    end_verdict [] ≡ Bad kind → TokenFails (verdict limits []) kind e p n → HeaderFails limits e p n
first-fails limits kind e p n goes ends f =
    fails-behind limits [] kind e p p n (λ limit h. refl) (omega arith) goes refl ends f

pub heads-builder : (limits : Limits) (v c : List ℕ) (b : Building) (p q : Stand) →
    Staged limits (p_word ∷ cnf_word ∷ v ∷ c ∷ []) p q → b ≡ start limits v c → Headed limits b p q
heads-builder limits v c b p q a is = λ limit h. a.same limit h
    ∙ option_map-same _ _ (told limit q) (λ x.
    ap (λ (o : Option GrammarFault). result_of o
    (formula_of (p_word ∷ cnf_word ∷ v ∷ c ∷ map word_of x.tokens)))
    (first_fault-counted x.tokens limits p_word cnf_word v c [] x.end)
    ∙ sym (outcome-is x.tokens (start limits v c) x.end) ∙ rw is refl)

pub staged-p : (limits : Limits) (p q : Stand) → Goes p q → HasWord p_word p q →
    Staged limits (p_word ∷ []) p q
staged-p limits p q goes h =
    staged-first limits h.line p_word p q goes h.heads (same_word-is q.place.token p_word h.is) refl

pub staged-cnf : (limits : Limits) (p q n : Stand) → Staged limits (p_word ∷ []) p q → Goes q n →
    HasWord cnf_word q n → Staged limits (p_word ∷ cnf_word ∷ []) p n
staged-cnf limits p q n s goes h =
    staged-on limits (p_word ∷ []) h.line cnf_word p q n s goes h.heads
    (same_word-is n.place.token cnf_word h.is) refl

pub staged-vars : (limits : Limits) (m : ℕ) (p q n : Stand) →
    Staged limits (p_word ∷ cnf_word ∷ []) p q → Goes q n → HasCount m limits.vars q n →
    Staged limits (p_word ∷ cnf_word ∷ n.place.token ∷ []) p n
staged-vars limits m p q n s goes h =
    staged-on limits (p_word ∷ cnf_word ∷ []) h.line n.place.token p q n s goes h.heads refl
    (count-is-fine (is_count n.place.token) limits.vars (value n.place.token) h.is
    (omega (arith, h.value_is, h.within)))

pub staged-count : (limits : Limits) (v : List ℕ) (m : ℕ) (p q n : Stand) →
    Staged limits (p_word ∷ cnf_word ∷ v ∷ []) p q → Goes q n → HasCount m limits.clauses q n →
    Staged limits (p_word ∷ cnf_word ∷ v ∷ n.place.token ∷ []) p n
staged-count limits v m p q n s goes h =
    staged-on limits (p_word ∷ cnf_word ∷ v ∷ []) h.line n.place.token p q n s goes h.heads refl
    (count-is-fine (is_count n.place.token) limits.clauses (value n.place.token) h.is
    (omega (arith, h.value_is, h.within)))

-- the first two words
pub staged-words : (limits : Limits) (p q n : Stand) → Goes p q → HasWord p_word p q → Goes q n →
    HasWord cnf_word q n → Staged limits (p_word ∷ cnf_word ∷ []) p n
staged-words limits p q n first is_p second is_cnf =
    staged-cnf limits p q n (staged-p limits p q first is_p) second is_cnf
