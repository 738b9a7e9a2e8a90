-- a log that is printed line by line
use Rattle.std.proofs.Common.{◌≡◌, ◌∙◌, ◌++◌, ◌∷◌, ℕ, All, List, Option, subst}
use Rattle.std.proofs.lemmas.List.Elements.{All-rest}
use Rattle.gr_io.specs.Pieces.{GainsPart}
use Rattle.gr_logic.specs.Log.{HasIds}
use Rattle.gr_logic.specs.declared.lines.Line.{Line}
use Rattle.gr_text.specs.Printing.{Prints}
use Rattle.gr_lrat.specs.Writing.{line_text, log_text}
use Rattle.gr_lrat.proofs.Printed.{HasFront, front-failed, front-then}

-- the lines before those that are still to come are printed, and no write failed
pub record IsPrinted (all coming : List Line) (u : Option (List ℕ)) (h : List ℕ) (before : ℕ)
    (v : Option (List ℕ)) (i : List ℕ) (now : ℕ) : Type 0 where
  pub ids : All HasIds coming
  pub front : HasFront (log_text all) (log_text coming) u h v i
  pub calm : now ≡ before

-- the next line was printed
pub line-then : (all here then : List Line) (x : Line) (u v w : Option (List ℕ)) (h i j : List ℕ) (k m n : ℕ)
    → here ≡ x ∷ then → IsPrinted all here u h k v i m → Prints (line_text x) v i w j → n ≡ m
    → IsPrinted all then u h k w j n
line-then all here then x u v w h i j k m n coming printed line calm =
    let P : List Line → Type 0 = λ lines. HasFront (log_text all) (log_text lines) u h v i in
    record {
      ids = All-rest HasIds x then here coming printed.ids;
      front =
          front-then (log_text all) (line_text x) (log_text then) u v w h i j (subst P coming printed.front)
          line;
      calm = calm ∙ printed.calm;
    }

-- of the next line a part was handed on
pub line-failed : (all here then : List Line) (x : Line) (u v w : Option (List ℕ)) (h i : List ℕ)
    (k m : ℕ) → here ≡ x ∷ then → IsPrinted all here u h k v i m → GainsPart (i ++ line_text x) v w
    → GainsPart (h ++ log_text all) u w
line-failed all here then x u v w h i k m coming printed part =
    let P : List Line → Type 0 = λ lines. HasFront (log_text all) (log_text lines) u h v i in
    front-failed (log_text all) (line_text x) (log_text then) u v w h i (subst P coming printed.front) part
