-- texts that are printed and handed on, whole or in part
use Rattle.std.proofs.Common.{◌≡◌, ◌++◌, [], ℕ, List, subst}
use Rattle.std.specs.Prelude.{Option, Result, Ok, Err, OnOk, OnErr}
use Rattle.gr_io.specs.Pieces.{Gains, GainsPart}
use Rattle.gr_text.specs.Printing.{Prints}
use Rattle.gr_text.proofs.Printing.{prints_flushed, prints_part}

-- a text was printed from the start, and handed on
pub flushed-ok : {A E : Type 0} (r : Result A E) (text : List ℕ) (u v w : Option (List ℕ)) (h i : List ℕ)
    → h ≡ [] → Prints text u h v i → OnOk r (Gains i v w) → OnOk r (Gains text u w)
flushed-ok (Ok a) text u v w h i none printed flushed =
    let P : List ℕ → Type 0 = λ held. Gains (held ++ text) u w in
    subst P none (prints_flushed text u v w h i printed flushed)
flushed-ok (Err e) text u v w h i none printed flushed = tt

-- a text was printed from the start, and a part of it handed on
pub flushed-err : {A E : Type 0} (r : Result A E) (text : List ℕ) (u v w : Option (List ℕ)) (h i : List ℕ)
    → h ≡ [] → Prints text u h v i → OnErr r (GainsPart i v w) → OnErr r (GainsPart text u w)
flushed-err (Ok a) text u v w h i none printed flushed = tt
flushed-err (Err e) text u v w h i none printed flushed =
    let P : List ℕ → Type 0 = λ held. GainsPart (held ++ text) u w in
    subst P none (prints_part text u v w h i printed flushed)
