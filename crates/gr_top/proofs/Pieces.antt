-- texts that are printed and handed on
use Rattle.std.proofs.Common.{◌++◌, subst, ℕ, List}
use Rattle.std.specs.Prelude.{Option, Result, Ok, Err, OnOk, OnErr}
use Rattle.gr_io.specs.Pieces.{Gains, GainsPart}
use Rattle.gr_text.specs.Printing.{Prints}
use Rattle.gr_text.proofs.Printing.{prints_then, prints_then_part}
use Rattle.gr_lrat.proofs.Printed.{HasFront}

-- what holds at all holds where the answer is an error
pub on-err : {A E : Type 0} {P : Type 0} (r : Result A E) → P → OnErr r P
on-err (Ok a) holds = tt
on-err (Err e) holds = holds

-- behind the front of a text the rest of it was printed
pub front-ended : {A E : Type 0} (r : Result A E) (whole last : List ℕ) (u v w : Option (List ℕ)) (h i j : List ℕ)
    → HasFront whole last u h v i → OnOk r (Prints last v i w j) → OnOk r (Prints whole u h w j)
front-ended (Ok a) whole last u v w h i j front printed =
    let P : List ℕ → Type 0 = λ text. Prints text u h w j in
    subst P front.split (prints_then front.front last u v w h i j front.printed printed)
front-ended (Err e) whole last u v w h i j front printed = tt

-- behind the front of a text a part of the rest was handed on
pub front-cut : {A E : Type 0} (r : Result A E) (whole last : List ℕ) (u v w : Option (List ℕ)) (h i : List ℕ)
    → HasFront whole last u h v i → OnErr r (GainsPart (i ++ last) v w) → OnErr r (GainsPart (h ++ whole) u w)
front-cut (Ok a) whole last u v w h i front part = tt
front-cut (Err e) whole last u v w h i front part =
    let P : List ℕ → Type 0 = λ text. GainsPart (h ++ text) u w in
    subst P front.split (prints_then_part front.front last u v w h i front.printed part)
