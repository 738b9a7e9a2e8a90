-- how the log to come is read on, line by line
use Rattle.std.proofs.Common.{◌≡◌, ◌∙◌, ℕ, ◌≤◌, Bool, true, false, List, [], ◌∷◌, ◌++◌, refl, sym, ap, arith, append_assoc, ◌-◌, Option, Some, None, Err}
use Rattle.std.proofs.lemmas.List.{append-nil}
use Rattle.std.specs.Option.{option_map}
use Rattle.gr_text.specs.Tokens.{Mark, Word, Break, Stop, Cut, marks, front}
use Rattle.gr_text.specs.Places.{Place, known, taken, coming}
use Rattle.gr_text.specs.declared.scanners.ScanError.{ScanError}
use Rattle.gr_text.specs.declared.scanners.ScanError.TheVariants as scans
use Rattle.gr_lrat.specs.Lines.{Spelling, Nothing, Misspelt, HasNegativeHint, spelling}
use Rattle.gr_lrat.specs.Logs.{LogRead, AtEnd, AtBadLine, AtRatHint, ends, with_line, log_from, log_read}
use Rattle.gr_lrat.specs.Stages.{log_with, in_line, log_to_come, EndsLine, FailsInLine}
use Rattle.gr_lrat.specs.Answers.{EndsSo, Answers, line_error_of}
use Rattle.gr_lrat.specs.declared.pieces.Ending.{Ending}
use Rattle.gr_lrat.proofs.Telling.{map_twice, map_same, log_with-same, open_known}

-- the tokens so far may stand in what those to come spell
log_from-is : (ms : List Mark) (ws : List (List ℕ)) →
    log_from ws ms ≡ log_with (λ vs. spelling (ws ++ vs)) ms
log_from-is [] ws = refl
log_from-is (Word line first w ∷ ms) ws =
    log_from-is ms (ws ++ w ∷ [])
    ∙ log_with-same ms (λ vs. spelling ((ws ++ w ∷ []) ++ vs)) (λ vs. spelling (ws ++ (w ∷ vs)))
    (λ vs. ap spelling (append_assoc ws (w ∷ []) vs))
log_from-is (Break line ∷ ms) ws = ap (λ x. with_line (spelling x) line (log_from [] ms)) (sym
    (append-nil ws))
log_from-is (Stop line ∷ ms) ws = ap (λ x. with_line (spelling x) line (ends AtEnd)) (sym
    (append-nil ws))
log_from-is (Cut line ∷ ms) ws = refl

-- at the front of a line
at_front : (limit : ℕ) (q : Place) (r : Option (List ℕ)) →
    log_to_come limit false q r ≡ in_line limit spelling q r
at_front limit q r = map_same (log_from []) (log_with spelling) (coming limit q r) (λ ms.
    log_from-is ms [])

-- from a place between two lines to a later one: no line came
pub record PassesBlanks (last : Bool) (p : Place) (l : Option (List ℕ)) (last' : Bool) (q : Place)
    (r : Option (List ℕ)) : Type 0 where
  pub same : (limit : ℕ) → known q ≤ limit → log_to_come limit last p l
      ≡ log_to_come limit last' q r
  pub grows : known p ≤ known q

-- a line was read to its end
pub line_comes : (x : Spelling) (end : Ending) (last : Bool) (p q n : Place) (l r k : Option (List
    ℕ)) (here : Bool) →
    PassesBlanks last p l here q r → here ≡ false → known q ≤ known n →
    EndsLine spelling x end q r n k
    → (limit : ℕ) → known n ≤ limit
    → log_to_come limit last p l ≡ option_map (with_line x end.line) (log_to_come limit end.last n
    k)
line_comes x end last p q n l r k here a open_ grows b limit h =
    a.same limit (omega arith)
    ∙ ap (λ v. log_to_come limit v q r) open_
    ∙ at_front limit q r
    ∙ b limit h

map_id : {A : Type 0} (o : Option A) → option_map (λ x. x) o ≡ o
map_id None = refl
map_id (Some x) = refl

-- a blank line or a comment was passed
pub blank_comes : (end : Ending) (last : Bool) (p q n : Place) (l r k : Option (List ℕ)) (here :
    Bool) →
    PassesBlanks last p l here q r → here ≡ false → known q ≤ known n →
    EndsLine spelling Nothing end q r n k
    → PassesBlanks last p l end.last n k
blank_comes end last p q n l r k here a open_ grows b = record {
  same = λ limit h. line_comes Nothing end last p q n l r k here a open_ grows b limit h
      ∙ map_id (log_to_come limit end.last n k);
  grows = omega (arith, a.grows);
}

-- where the log ended, it does not matter what else is to come
only_told : (x : LogRead) (limit : ℕ) (last : Bool) (n : Place) (k : Option (List ℕ)) →
    option_map (λ _. x) (log_to_come limit last n k) ≡ option_map (λ _. x) k
only_told x limit true n None = refl
only_told x limit true n (Some t) = refl
only_told x limit false n None = refl
only_told x limit false n (Some t) = refl

-- a line came that is misspelt
pub bad_comes : (end : Ending) (last : Bool) (p q n : Place) (l r k : Option (List ℕ)) (here : Bool)
    →
    PassesBlanks last p l here q r → here ≡ false → known q ≤ known n →
    EndsLine spelling Misspelt end q r n k
    → (limit : ℕ) → known n ≤ limit → EndsSo limit (AtBadLine end.line) last p l k
bad_comes end last p q n l r k here a open_ grows b limit h =
    line_comes Misspelt end last p q n l r k here a open_ grows b limit h
    ∙ only_told (ends (AtBadLine end.line)) limit end.last n k

-- a line came that has a negative hint
pub rat_comes : (end : Ending) (last : Bool) (p q n : Place) (l r k : Option (List ℕ)) (here : Bool)
    →
    PassesBlanks last p l here q r → here ≡ false → known q ≤ known n →
    EndsLine spelling HasNegativeHint end q r n k
    → (limit : ℕ) → known n ≤ limit → EndsSo limit (AtRatHint end.line) last p l k
rat_comes end last p q n l r k here a open_ grows b limit h =
    line_comes HasNegativeHint end last p q n l r k here a open_ grows b limit h
    ∙ only_told (ends (AtRatHint end.line)) limit end.last n k

-- a line was not read to its end
pub none_comes : (e : ScanError) (last last' : Bool) (p q n : Place) (l r k : Option (List ℕ)) (here
    : Bool) →
    PassesBlanks last p l here q r → here ≡ false → known q ≤ known n →
    FailsInLine spelling e q r n k
    → Answers (Err (line_error_of e)) last p l last' n k
none_comes (scans.TooLong line) last last' p q n l r k here a open_ grows b = (
  a.same (taken n) (omega (arith, open_known n b.2))
      ∙ ap (λ v. log_to_come (taken n) v q r) open_
      ∙ at_front (taken n) q r ∙ b.0,
  b.1,
  b.2,
)
none_comes scans.ReadFault last last' p q n l r k here a open_ grows b = (
  a.same (taken n) (omega (arith, open_known n b.1))
      ∙ ap (λ v. log_to_come (taken n) v q r) open_
      ∙ at_front (taken n) q r ∙ b.0,
  b.1,
)
none_comes scans.OutOfMemory last last' p q n l r k here a open_ grows b = tt

-- the text has ended
pub end_comes : (last : Bool) (p q : Place) (l r : Option (List ℕ)) (here : Bool) →
    PassesBlanks last p l here q r → here ≡ true → (limit : ℕ) → known q ≤ limit →
    EndsSo limit AtEnd last p l r
end_comes last p q l r here a ended limit h = a.same limit h
    ∙ ap (λ v. log_to_come limit v q r) ended

-- no line was read yet
pub blanks_here : (last : Bool) (p : Place) (l : Option (List ℕ)) → PassesBlanks last p l last p l
blanks_here last p l = record { same = λ limit h. refl; grows = omega arith }

-- before the first line the log to come is that of the text
pub whole_comes : (limit : ℕ) (p : Place) (l : Option (List ℕ)) →
    p ≡ record {
      token = [];
      ahead = [];
      passed = 0;
      spare = p.spare;
      line = 1;
      last = 1;
      first = true;
      ended = false;
    }
    → log_to_come limit false p l ≡ option_map (log_read limit) l
whole_comes limit p l e = rw e (map_twice (log_from []) (λ rest. marks front (limit - 0) rest) l
    ∙ map_same _ _ l (λ rest. ap (λ n. log_from [] (marks front n rest)) (omega arith)))
