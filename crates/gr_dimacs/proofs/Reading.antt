-- how the outcome comes, token by token
use Rattle.std.proofs.Common.{◌≡◌, ◌∙◌, ℕ, ◌≤◌, Bool, true, false, ◌&&◌, List, [], refl, sym, ap, arith, Result, Ok, Err}
use Rattle.std.specs.Option.{option_map}
use Rattle.gr_logic.specs.Formulas.{Cnf}
use Rattle.gr_text.specs.Places.{known, taken, limit_of}
use Rattle.gr_text.specs.Stands.{Stand}
use Rattle.gr_dimacs.specs.Numbers.{number, begins}
use Rattle.gr_dimacs.specs.Tokens.{Ending, Whole, Short}
use Rattle.gr_dimacs.specs.Faults.{Verdict, Fine}
use Rattle.gr_dimacs.specs.Finds.{told, behind, Heads, EndsIn, FindFails}
use Rattle.gr_dimacs.specs.Building.{Building, outcome, concluded, end_of, token_verdict, verdict_in, with_number, is_nil}
use Rattle.gr_dimacs.specs.Answers.{outcome_of, outcome_told, Settles, Answers, Concludes}
use Rattle.gr_dimacs.specs.declared.faults.ReadError.{ReadError}
use Rattle.gr_dimacs.specs.declared.faults.ReadError.TheVariants as errors
use Rattle.gr_text.specs.declared.scanners.ScanError.TheVariants as scans
use Rattle.gr_dimacs.specs.declared.faults.GrammarFault.{GrammarFault}
use Rattle.gr_dimacs.proofs.Told.{option_map-twice, option_map-same, told-const, rose-later}

-- the outcome from one stand on is that from another one on
pub record Comes (b : Building) (p : Stand) (d : Building) (q : Stand) : Type 0 where
  pub same : (limit : ℕ) → known q.place ≤ limit → outcome_told limit b p ≡ outcome_told limit d q
  pub grows : known p.place ≤ known q.place
  pub faults : p.faults ≤ q.faults

-- one token, as it settles
pub token-told : (limit line : ℕ) (word : List ℕ) (b : Building) (q n : Stand) →
    told limit q ≡ option_map (behind line word) (told limit n) →
    outcome_told limit b q ≡ option_map
    (λ x. concluded (token_verdict b word) line b (outcome_of (with_number b (number word)) x))
    (told limit n)
token-told limit line word b q n e = ap (option_map (outcome_of b)) e
    ∙ option_map-twice (outcome_of b) (behind line word) (told limit n)

-- a token that is neither at fault nor the end
pub token-goes-on : (line : ℕ) (b d f : Building) (p q n : Stand) → Comes b p d q →
    known q.place ≤ known n.place → q.faults ≤ n.faults →
    Heads line q n → token_verdict d n.place.token ≡ Fine →
    f ≡ with_number d (number n.place.token) → Comes b p f n
token-goes-on line b d f p q n a grows few finds fine after = record {
  same = λ limit h.
      a.same limit (omega arith) ∙ token-told limit line n.place.token d q n (finds limit h)
      ∙ rw (fine, after) refl;
  grows = omega (arith, a.grows);
  faults = omega (arith, a.faults);
}

-- a token that settles
pub token-settles : (line : ℕ) (o : Result Cnf GrammarFault) (b d : Building) (p q n : Stand)
    (limit : ℕ) → Comes b p d q → known q.place ≤ known n.place → known n.place ≤ limit →
    Heads line q n →
    ((later : Result Cnf GrammarFault) →
    concluded (token_verdict d n.place.token) line d later ≡ o) → Settles limit o b p n
token-settles line o b d p q n limit a grows h finds settles =
    a.same limit (omega arith) ∙ token-told limit line n.place.token d q n (finds limit h)
    ∙ option_map-same _ _ (told limit n)
    (λ x. settles (outcome_of (with_number d (number n.place.token)) x))
    ∙ told-const o limit n

-- the end settles
pub end-settles : (end : Ending) (o : Result Cnf GrammarFault) (b d : Building) (p q n : Stand)
    (limit : ℕ) → Comes b p d q → known q.place ≤ limit →
    EndsIn limit end q n → outcome d [] end ≡ o → Settles limit o b p n
end-settles end o b d p q n limit a h finds settles =
    a.same limit h ∙ ap (option_map (outcome_of d)) finds ∙ option_map-twice (outcome_of d) _ n.left
    ∙ option_map-same _ _ n.left (λ _. settles)

pub comes-start : (b : Building) (p : Stand) → Comes b p b p
comes-start b p = record { same = λ limit h. refl; grows = omega arith; faults = omega arith }

both-true : (a b : Bool) → (a && b) ≡ true → (a ≡ true) × (b ≡ true)
both-true true b h = (refl, h)
both-true false b h = absurd (cc)

closing-is-end : (d : Building) (word : List ℕ) → (begins 37 word && is_nil d.clause) ≡ true →
    token_verdict d word ≡ end_of d
closing-is-end d word h = let t = both-true (begins 37 word) (is_nil d.clause) h in let a =
    t.0 in let c = t.1 in rw (a, c) refl

-- a percent sign where a clause would begin
pub closes-answers : (res : Result Cnf ReadError) (line : ℕ) (b d : Building) (p q n : Stand) →
    Comes b p d q → known q.place ≤ known n.place → known n.place ≤ limit_of p.place →
    Heads line q n → (begins 37 n.place.token && is_nil d.clause) ≡ true → Concludes res line d →
    Answers res b p n
closes-answers (Ok f) line b d p q n a grows h finds closing c = (
  token-settles line (Ok f) b d p q n (limit_of p.place) a grows h finds
      (λ later. rw (closing-is-end d n.place.token closing) (c later)),
  token-settles line (Ok f) b d p q n (known n.place) a grows (omega arith) finds
      (λ later. rw (closing-is-end d n.place.token closing) (c later)),
)
closes-answers (Err (errors.Grammar g)) line b d p q n a grows h finds closing c =
    token-settles line (Err g) b d p q n (limit_of p.place) a grows h finds
    (λ later. rw (closing-is-end d n.place.token closing) (c later))
closes-answers (Err errors.ReadFault) line b d p q n a grows h finds closing c = absurd c
closes-answers (Err errors.OutOfMemory) line b d p q n a grows h finds closing c = absurd c

-- the text's end
pub end-answers : (res : Result Cnf ReadError) (line : ℕ) (b d : Building) (p q n : Stand) →
    Comes b p d q → known q.place ≤ known n.place → known n.place ≤ limit_of p.place →
    ((limit : ℕ) → known n.place ≤ limit → EndsIn limit (Whole line) q n) → Concludes res line d →
    Answers res b p n
end-answers (Ok f) line b d p q n a grows h finds c =
    let ends = c (Ok (record { vars = d.vars; clauses = d.clauses })) in (
      end-settles (Whole line) (Ok f) b d p q n (limit_of p.place) a (omega arith)
          (finds (limit_of p.place) h) ends,
      end-settles (Whole line) (Ok f) b d p q n (known n.place) a grows
          (finds (known n.place) (omega arith)) ends,
    )
end-answers (Err (errors.Grammar g)) line b d p q n a grows h finds c =
    end-settles (Whole line) (Err g) b d p q n (limit_of p.place) a (omega arith)
    (finds (limit_of p.place) h) (c (Ok (record { vars = d.vars; clauses = d.clauses })))
end-answers (Err errors.ReadFault) line b d p q n a grows h finds c = absurd c
end-answers (Err errors.OutOfMemory) line b d p q n a grows h finds c = absurd c

-- a read failed: nothing was decided
pub fault-undecided : (b d : Building) (p q n : Stand) → Comes b p d q →
    known q.place ≤ known n.place → FindFails scans.ReadFault q n →
    Answers (Err errors.ReadFault) b p n
fault-undecided b d p q n a grows f =
    let open_ : known n.place ≡ taken n.place = rw f.1 (omega arith) in (
      omega (arith, a.grows),
      (
        n.place.last,
        end-settles (Short n.place.last) _ b d p q n (taken n.place) a (omega arith)
            f.0 refl,
      ),
      rose-later p.faults q.faults n.faults a.faults f.2,
    )

-- a token that does not close the formula is judged as a number
pub judged-as-number : (d : Building) (w v t : List ℕ) (b : Bool) (j : Verdict) → w ≡ t → v ≡ t →
    b ≡ (begins 37 w && is_nil d.clause) → b ≡ false → verdict_in d v ≡ j → token_verdict d t ≡ j
judged-as-number d w v t b j e f is h k =
    let miss : (begins 37 t && is_nil d.clause) ≡ false = rw (← e) (sym is ∙ h) in
    let same : verdict_in d t ≡ j = rw (← f) k in
    rw miss same

pub grown : (d f : Building) (v t : List ℕ) → v ≡ t → f ≡ with_number d (number v) →
    f ≡ with_number d (number t)
grown d f v t e h = rw (← e) h
