-- how the log to come is read on, piece by piece
use Rattle.std.proofs.Common.{◌≡◌, ◌∙◌, ℕ, ◌≤◌, Bool, true, false, List, [], ◌∷◌, refl, sym, ap, arith, Option, Some, None, Result, Ok, Err}
use Rattle.std.specs.Option.{option_map}
use Rattle.gr_text.specs.Tokens.{Mark, Word, Break, Stop, Cut, from_line_end}
use Rattle.gr_text.specs.Places.{Place, known, taken, coming, between}
use Rattle.gr_text.specs.Scans.{Gives, Closes, Fails, Skips, SkipFails}
use Rattle.gr_text.specs.declared.scanners.ScanError.{ScanError}
use Rattle.gr_text.specs.declared.scanners.ScanError.TheVariants as scans
use Rattle.gr_lrat.specs.Lines.{Spelling}
use Rattle.gr_lrat.specs.Logs.{AtEnd, AtLimit, ends, with_line, log_from}
use Rattle.gr_lrat.specs.Stages.{log_with, in_line, Onward, EndsLine, FailsInLine, Tells}
use Rattle.gr_lrat.specs.declared.pieces.Ending.{Ending}

-- a map of a map is one map
pub map_twice : {A B C : Type 0} (f : B → C) (g : A → B) (o : Option A) →
    option_map f (option_map g o) ≡ option_map (λ x. f (g x)) o
map_twice f g None = refl
map_twice f g (Some x) = refl

-- maps of equal functions are equal
pub map_same : {A B : Type 0} (f g : A → B) (o : Option A) → ((x : A) → f x ≡ g x) →
    option_map f o ≡ option_map g o
map_same f g None e = refl
map_same f g (Some x) e = ap Some (e x)

-- what the present line's tokens spell is all that matters of it
pub log_with-same : (ms : List Mark) (s t : List (List ℕ) → Spelling) → ((ws : List (List ℕ)) →
    s ws ≡ t ws) → log_with s ms ≡ log_with t ms
log_with-same [] s t e = refl
log_with-same (Word line first w ∷ ms) s t e = log_with-same ms (λ ws. s (w ∷ ws)) (λ ws. t (w ∷
    ws)) (λ ws. e (w ∷ ws))
log_with-same (Break line ∷ ms) s t e = ap (λ x. with_line x line (log_from [] ms)) (e [])
log_with-same (Stop line ∷ ms) s t e = ap (λ x. with_line x line (ends AtEnd)) (e [])
log_with-same (Cut line ∷ ms) s t e = refl

-- where the tokens to come do not matter, they may be passed
log_with-skips : (ms : List Mark) (x : Spelling) →
    log_with (λ ws. x) ms ≡ log_with (λ ws. x) (from_line_end ms)
log_with-skips [] x = refl
log_with-skips (Word line first w ∷ ms) x = log_with-skips ms x
log_with-skips (Break line ∷ ms) x = refl
log_with-skips (Stop line ∷ ms) x = refl
log_with-skips (Cut line ∷ ms) x = refl

-- a place leads to itself
pub onward_here : (s t : List (List ℕ) → Spelling) (p : Place) (l : Option (List ℕ)) →
    ((ws : List (List ℕ)) → s ws ≡ t ws) → Onward s p l t p l
onward_here s t p l e = record {
  same = λ limit h. map_same (log_with s) (log_with t) (coming limit p l) (λ ms. log_with-same ms s
      t e);
  grows = omega arith;
}

pub onward_then : (s t u : List (List ℕ) → Spelling) (p q n : Place) (l r k : Option (List ℕ)) →
    Onward s p l t q r → Onward t q r u n k → Onward s p l u n k
onward_then s t u p q n l r k a b = record {
  same = λ limit h. a.same limit (omega (arith, b.grows)) ∙ b.same limit h;
  grows = omega (arith, a.grows, b.grows);
}

pub onward_as : (s t u : List (List ℕ) → Spelling) (p q : Place) (l r : Option (List ℕ)) →
    Onward s p l t q r → ((ws : List (List ℕ)) → t ws ≡ u ws) → Onward s p l u q r
onward_as s t u p q l r a e = onward_then s t u p q q l r r a (onward_here t u q r e)

pub onward_ends : (s t : List (List ℕ) → Spelling) (x : Spelling) (end : Ending) (p q n : Place) (l
    r k : Option (List ℕ)) →
    Onward s p l t q r → known q ≤ known n → EndsLine t x end q r n k → EndsLine s x end p l n k
onward_ends s t x end p q n l r k a grows b = λ limit h. a.same limit (omega arith) ∙ b limit h

pub open_known : (n : Place) → n.ended ≡ false → known n ≡ taken n
open_known n e = rw e (omega arith)

pub onward_fails : (s t : List (List ℕ) → Spelling) (e : ScanError) (p q n : Place) (l r k : Option
    (List ℕ)) →
    Onward s p l t q r → known q ≤ known n → FailsInLine t e q r n k → FailsInLine s e p l n k
onward_fails s t (scans.TooLong line) p q n l r k a grows b =
    (a.same (taken n) (omega (arith, open_known n b.2)) ∙ b.0, b.1, b.2)
onward_fails s t scans.ReadFault p q n l r k a grows b = (
  a.same (taken n) (omega (
    arith,
    open_known
        n b.1,
  )) ∙ b.0,
  b.1,
)
onward_fails s t scans.OutOfMemory p q n l r k a grows b = tt

-- a token came
pub token_comes : (line : ℕ) (first : Bool) (said : List (List ℕ) →
    Spelling) (p q : Place) (l r : Option (List ℕ)) →
    Gives (between p) (Word line first q.token) p l q r → known p ≤ known q →
    Onward said p l (λ ws. said (q.token ∷ ws)) q r
token_comes line first said p q l r gives grows = record {
  same = λ limit h. ap (option_map (log_with said)) (gives limit h)
      ∙ map_twice (log_with said) _ (coming limit q r);
  grows = grows;
}

-- a line's end came
pub break_comes : (line : ℕ) (said : List (List ℕ) →
    Spelling) (p q : Place) (l r : Option (List ℕ)) →
    Gives (between p) (Break line) p l q r → EndsLine said (said []) (record {
      line = line;
      last = false;
    }) p l q r
break_comes line said p q l r gives = λ limit h.
    ap (option_map (log_with said)) (gives limit h)
    ∙ map_twice (log_with said) _ (coming limit q r)
    ∙ sym (map_twice (with_line (said []) line) (log_from []) (coming limit q r))

-- the text's end came
pub stop_comes : (line : ℕ) (said : List (List ℕ) →
    Spelling) (p q : Place) (l r : Option (List ℕ)) →
    ((limit : ℕ) → known q ≤ limit → Closes limit (between p) (Stop line) p l r)
    → EndsLine said (said []) (record { line = line; last = true }) p l q r
stop_comes line said p q l r closes = λ limit h.
    ap (option_map (log_with said)) (closes limit h)
    ∙ map_twice (log_with said) _ r
    ∙ sym (map_twice (with_line (said []) line) _ r)

-- a call of the scanner failed
pub scan_fails : (e : ScanError) (said : List (List ℕ) →
    Spelling) (p q : Place) (l r : Option (List ℕ)) →
    Fails (between p) e p l q r → FailsInLine said e p l q r
scan_fails (scans.TooLong line) said p q l r f =
    (ap (option_map (log_with said)) f.0 ∙ map_twice (log_with said) _ r, f.1, f.2)
scan_fails scans.ReadFault said p q l r f = (
  ap (option_map (log_with said)) f.0
      ∙ map_twice (log_with said) _ r,
  f.1,
)
scan_fails scans.OutOfMemory said p q l r f = tt

-- the tokens of a line were passed
pub skip_comes : (x : Spelling) (p q : Place) (l r : Option (List ℕ)) →
    Skips p l q r → known p ≤ known q → Onward (λ ws. x) p l (λ ws. x) q r
skip_comes x p q l r skips grows = record {
  same = λ limit h.
      map_same (log_with (λ ws. x)) (λ ms. log_with (λ ws. x) (from_line_end ms)) (coming limit p l)
      (λ ms. log_with-skips ms x)
      ∙ sym (map_twice (log_with (λ ws. x)) from_line_end (coming limit p l))
      ∙ ap (option_map (log_with (λ ws. x))) (skips limit h);
  grows = grows;
}

skip_cut : (line limit : ℕ) (x : Spelling) (p : Place) (l r : Option (List ℕ)) →
    option_map from_line_end (coming limit p l) ≡ option_map (λ _. Cut line ∷ []) r
    → in_line limit (λ ws. x) p l ≡ option_map (λ _. ends (AtLimit line)) r
skip_cut line limit x p l r e =
    map_same (log_with (λ ws. x)) (λ ms. log_with (λ ws. x) (from_line_end ms)) (coming limit p l)
    (λ ms. log_with-skips ms x)
    ∙ sym (map_twice (log_with (λ ws. x)) from_line_end (coming limit p l))
    ∙ ap (option_map (log_with (λ ws. x))) e
    ∙ map_twice (log_with (λ ws. x)) _ r

pub skip_fails : (e : ScanError) (x : Spelling) (p q : Place) (l r : Option (List ℕ)) →
    SkipFails e p l q r → FailsInLine (λ ws. x) e p l q r
skip_fails (scans.TooLong line) x p q l r f = (skip_cut line (taken q) x p l r f.0, f.1, f.2)
skip_fails scans.ReadFault x p q l r f = (skip_cut q.last (taken q) x p l r f.0, f.1)
skip_fails scans.OutOfMemory x p q l r f = tt

-- a place, and then what an answer tells of the rest of the line
pub tells_then : {T : Type 0} (a : Result T ScanError) (spelt : T → Spelling) (end : T → Ending)
    (s t : List (List ℕ) → Spelling) (p q n : Place) (l r k : Option (List ℕ)) →
    Onward s p l t q r → known q ≤ known n → Tells t spelt end a q r n k → Tells s spelt end a p l n k
tells_then (Ok x) spelt end s t p q n l r k a grows b = onward_ends s t (spelt x) (end x) p q n l r k
    a grows b
tells_then (Err e) spelt end s t p q n l r k a grows b = onward_fails s t e p q n l r k a grows b

-- a place, then a token, and what the tokens behind it spell
pub onward_token : (s t u : List (List ℕ) → Spelling) (p q n : Place) (l r k : Option (List ℕ)) →
    Onward s p l t q r → Onward t q r (λ ws. t (n.token ∷ ws)) n k →
    ((ws : List (List ℕ)) → t (n.token ∷ ws) ≡ u ws) → Onward s p l u n k
onward_token s t u p q n l r k a b e =
    let behind = λ (ws : List (List ℕ)). t (n.token ∷ ws) in
    onward_as s behind u p n l k (onward_then s t behind p q n l r k a b) e
