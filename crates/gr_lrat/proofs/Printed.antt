-- one piece after another, as the calls of a printer answer
use Rattle.std.proofs.Common.{◌≡◌, ◌∙◌, ◌++◌, ◌∷◌, [], sym, subst, refl, ℕ, ℤ, List, Option, Result, Ok, Err, OnOk, OnErr, append_assoc}
use Rattle.std.proofs.lemmas.List.{append-nil}
use Rattle.std.specs.Fmt.{signed_decimal}
use Rattle.gr_lrat.specs.Writing.{number_text}
use Rattle.gr_io.specs.Pieces.{GainsPart}
use Rattle.gr_io.proofs.Parts.{part_of_more}
use Rattle.gr_text.specs.Printing.{Prints}
use Rattle.gr_text.proofs.Printing.{prints_nothing, prints_then, prints_then_part}

-- a piece was printed, and then another one where the answer is Ok
pub ok-then : {T E : Type 0} (p q : List ℕ) (u v w : Option (List ℕ)) (h i j : List ℕ) (r : Result T
    E) →
    Prints p u h v i → OnOk r (Prints q v i w j) → OnOk r (Prints (p ++ q) u h w j)
ok-then p q u v w h i j (Ok x) a b = prints_then p q u v w h i j a b
ok-then p q u v w h i j (Err e) a b = tt

-- a piece was printed, and of the next one a part was handed on where the answer is an error
pub err-then : {T E : Type 0} (p q : List ℕ) (u v w : Option (List ℕ)) (h i : List ℕ) (r : Result T
    E) →
    Prints p u h v i → OnErr r (GainsPart (i ++ q) v w) → OnErr r (GainsPart (h ++ (p ++ q)) u w)
err-then p q u v w h i (Ok x) a b = tt
err-then p q u v w h i (Err e) a b = prints_then_part p q u v w h i a b

-- what holds at all holds where the answer is an error
pub on-err : {T E P : Type 0} (r : Result T E) → P → OnErr r P
on-err (Ok x) holds = tt
on-err (Err e) holds = holds

-- a part of what was due is a part where more was due behind it
pub part-longer : (p q h : List ℕ) (u v : Option (List ℕ)) → GainsPart (h ++ p) u v →
    GainsPart (h ++ (p ++ q)) u v
part-longer p q h u v a =
    let P : List ℕ → Type 0 = λ t. GainsPart t u v in
    subst P (append_assoc h p q) (part_of_more (h ++ p) q u v a)

-- a number was printed, and then a space where the answer is Ok
pub ok-spaced : {T E : Type 0} (m n : ℤ) (u v w : Option (List ℕ)) (h i j : List ℕ) (r : Result T E)
    → m ≡ n →
    Prints (signed_decimal m) u h v i → OnOk r (Prints (32 ∷ []) v i w j) →
    OnOk r (Prints (number_text n) u h w j)
ok-spaced m n u v w h i j r e a b =
    let P : ℤ → Type 0 = λ z. OnOk r (Prints (number_text z) u h w j) in
    subst P e (ok-then (signed_decimal m) (32 ∷ []) u v w h i j r a b)

-- a number was printed, and of the space no byte was handed on where the answer is an error
pub err-spaced : {T E : Type 0} (m n : ℤ) (u v w : Option (List ℕ)) (h i : List ℕ) (r : Result T E)
    → m ≡ n →
    Prints (signed_decimal m) u h v i → OnErr r (GainsPart (i ++ 32 ∷ []) v w) →
    OnErr r (GainsPart (h ++ number_text n) u w)
err-spaced m n u v w h i r e a b =
    let P : ℤ → Type 0 = λ z. OnErr r (GainsPart (h ++ number_text z) u w) in
    subst P e (err-then (signed_decimal m) (32 ∷ []) u v w h i r a b)

-- of a number a part was handed on
pub part-spaced : (m n : ℤ) (h : List ℕ) (u v : Option (List ℕ)) → m ≡ n →
    GainsPart (h ++ signed_decimal m) u v → GainsPart (h ++ number_text n) u v
part-spaced m n h u v e a =
    let P : ℤ → Type 0 = λ z. GainsPart (h ++ number_text z) u v in
    subst P e (part-longer (signed_decimal m) (32 ∷ []) h u v a)

-- three pieces were printed, where the answer is Ok
pub ok-third : {T E : Type 0} (p q s : List ℕ) (u v w x : Option (List ℕ)) (h i j k : List ℕ) (r :
    Result T E) →
    Prints p u h v i → Prints q v i w j → OnOk r (Prints s w j x k) →
    OnOk r (Prints (p ++ (q ++ s)) u h x k)
ok-third p q s u v w x h i j k r a b c = ok-then p (q ++ s) u v x h i k r a (ok-then q s v w x i j k
    r b c)

-- two pieces were printed, and of the third a part was handed on, where the answer is an error
pub err-third : {T E : Type 0} (p q s : List ℕ) (u v w x : Option (List ℕ)) (h i j : List ℕ) (r :
    Result T E) →
    Prints p u h v i → Prints q v i w j → OnErr r (GainsPart (j ++ s) w x)
    → OnErr r (GainsPart (h ++ (p ++ (q ++ s))) u x)
err-third p q s u v w x h i j r a b c = err-then p (q ++ s) u v x h i r a (err-then q s v w x i j r
    b c)

-- a piece was printed, and of the second of three a part was handed on
pub second-failed : (p q s : List ℕ) (u v w : Option (List ℕ)) (h i : List ℕ) →
    Prints p u h v i → GainsPart (i ++ q) v w → GainsPart (h ++ (p ++ (q ++ s))) u w
second-failed p q s u v w h i a b = prints_then_part p (q ++ s) u v w h i a (part-longer q s i v w
    b)

-- of a text the front was printed, and a rest is to be printed
pub record HasFront (whole rest : List ℕ) (u : Option (List ℕ)) (h : List ℕ) (w : Option (List ℕ))
    (i : List ℕ) : Type 0 where
  pub front : List ℕ
  pub split : front ++ rest ≡ whole
  pub printed : Prints front u h w i

-- before the first piece
pub front-start : (whole : List ℕ) (u : Option (List ℕ)) (h : List ℕ) → HasFront whole whole u h u h
front-start whole u h = record { front = []; split = refl; printed = prints_nothing u h }

-- a further piece was printed
pub front-then : (whole p rest : List ℕ) (u v w : Option (List ℕ)) (h i j : List ℕ) →
    HasFront whole (p ++ rest) u h v i → Prints p v i w j → HasFront whole rest u h w j
front-then whole p rest u v w h i j a b = record {
  front = a.front ++ p;
  split = append_assoc a.front p rest ∙ a.split;
  printed = prints_then a.front p u v w h i j a.printed b;
}

-- of a further piece a part was handed on
pub front-failed : (whole p rest : List ℕ) (u v w : Option (List ℕ)) (h i : List ℕ) →
    HasFront whole (p ++ rest) u h v i → GainsPart (i ++ p) v w → GainsPart (h ++ whole) u w
front-failed whole p rest u v w h i a b =
    let P : List ℕ → Type 0 = λ t. GainsPart (h ++ t) u w in
    subst P a.split (second-failed a.front p rest u v w h i a.printed b)

-- the whole text was printed
pub front-end : (whole : List ℕ) (u w : Option (List ℕ)) (h i : List ℕ) →
    HasFront whole [] u h w i → Prints whole u h w i
front-end whole u w h i a =
    let P : List ℕ → Type 0 = λ t. Prints t u h w i in
    subst P (sym (append-nil a.front) ∙ a.split) a.printed
