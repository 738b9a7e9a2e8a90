-- what a scanner's marks tell of the tokens
use Rattle.std.proofs.Common.{◌≡◌, ◌∙◌, ℕ, ◌≤◌, Bool, true, false, ◌&&◌, List, [], ◌∷◌, refl, sym, ap, arith, if◌then◌else◌, Option, Some, None, inl, inr}
use Rattle.std.specs.Option.{option_map}
use Rattle.gr_io.specs.Pieces.{Rose}
use Rattle.gr_text.specs.Tokens.{Mark, Word, Break, Stop, Cut, from_line_end}
use Rattle.gr_text.specs.Places.{Place, known, taken, limit_of, coming, between}
use Rattle.gr_text.specs.Scans.{Gives, Closes, Fails, Skips, SkipFails}
use Rattle.gr_text.specs.declared.scanners.ScanError.{ScanError}
use Rattle.gr_text.specs.declared.scanners.ScanError.TheVariants as errors
use Rattle.gr_text.specs.Stands.{Stand, Goes}
use Rattle.gr_text.proofs.Taken.{takes-nothing}
use Rattle.gr_text.proofs.Going.{Draws, drawn, drawn-goes, draws-none}
use Rattle.gr_dimacs.specs.Numbers.{begins}
use Rattle.gr_dimacs.specs.Tokens.{Token, Whole, outside, ending}
use Rattle.gr_dimacs.specs.Finds.{Read, read_of, told, behind, over, FindFails}

pub option_map-twice : {A B C : Type 0} (f : B → C) (g : A → B) (o : Option A) →
    option_map f (option_map g o) ≡ option_map (λ x. f (g x)) o
option_map-twice f g None = refl
option_map-twice f g (Some x) = refl

pub option_map-same : {A B : Type 0} (f g : A → B) (o : Option A) → ((x : A) → f x ≡ g x) →
    option_map f o ≡ option_map g o
option_map-same f g None h = refl
option_map-same f g (Some x) h = ap Some (h x)

-- one outcome for all that may be left
pub told-const : {A : Type 0} (o : A) (limit : ℕ) (s : Stand) →
    option_map (λ _. o) (told limit s) ≡ option_map (λ _. o) s.left
told-const o limit s = option_map-twice (λ _. o) _ (coming limit s.place s.left)
    ∙ option_map-twice (λ _. o) _ s.left

-- reading has not gone on yet
pub goes-start : (p : Stand) → known p.place ≤ limit_of p.place → Goes p p
goes-start p within = record {
  keeps = record { limit = refl; within = within; grows = omega arith };
  takes = takes-nothing p.place p.place p.left refl;
  counts = refl;
  faults = omega arith;
}

-- a line's end tells nothing
pub told-line : (line : ℕ) (p q : Stand) (limit : ℕ) → known q.place ≤ limit →
    Gives (between p.place) (Break line) p.place p.left q.place q.left → told limit p ≡ told limit q
told-line line p q limit h a = ap (option_map (read_of false)) (a limit h)
    ∙ option_map-twice (read_of false) _ (coming limit q.place q.left)

word-read : (b : Bool) (line : ℕ) (word : List ℕ) (ms : List Mark) → b ≡ false →
    (if b then outside true ms else record { line = line; word = word } ∷ outside false ms) ≡ record
    { line = line; word = word } ∷ outside false ms
word-read b line word ms h = rw h refl

abbrev with_tokens : List Mark → List Token → Read
with_tokens ms ts = record { tokens = ts; end = ending ms }

-- a token that begins no comment
pub told-token : (line : ℕ) (first : Bool) (word : List ℕ) (p q : Stand) (limit : ℕ) →
    known q.place ≤ limit → (first && begins 99 word) ≡ false →
    Gives (between p.place) (Word line first word) p.place p.left q.place q.left →
    told limit p ≡ option_map (behind line word) (told limit q)
told-token line first word p q limit h plain a =
    ap (option_map (read_of false)) (a limit h)
    ∙ option_map-twice (read_of false) _ (coming limit q.place q.left)
    ∙ option_map-same _ _ (coming limit q.place q.left)
    (λ ms. ap (with_tokens ms) (word-read (first && begins 99 word) line word ms plain))
    ∙ sym (option_map-twice (behind line word) (read_of false) (coming limit q.place q.left))

comment-over : (ms : List Mark) → outside true ms ≡ outside false (from_line_end ms)
comment-over [] = refl
comment-over (Word l f w ∷ ms) = comment-over ms
comment-over (Break l ∷ ms) = refl
comment-over (Stop l ∷ ms) = refl
comment-over (Cut l ∷ ms) = refl

ending-over : (ms : List Mark) → ending (from_line_end ms) ≡ ending ms
ending-over [] = refl
ending-over (Word l f w ∷ ms) = ending-over ms
ending-over (Break l ∷ ms) = refl
ending-over (Stop l ∷ ms) = refl
ending-over (Cut l ∷ ms) = refl

read-over : (ms : List Mark) → read_of true ms ≡ read_of false (from_line_end ms)
read-over ms = rw (comment-over ms, ending-over ms) refl

comment-read : (b : Bool) (line : ℕ) (word : List ℕ) (ms : List Mark) → b ≡ true →
    (if b then outside true ms else record { line = line; word = word } ∷ outside false ms)
    ≡ outside true ms
comment-read b line word ms h = rw h refl

-- a token that begins a comment
pub told-comment : (line : ℕ) (first : Bool) (word : List ℕ) (p q : Stand) (limit : ℕ) →
    known q.place ≤ limit → (first && begins 99 word) ≡ true →
    Gives (between p.place) (Word line first word) p.place p.left q.place q.left →
    told limit p ≡ option_map (read_of false)
    (option_map from_line_end (coming limit q.place q.left))
told-comment line first word p q limit h comment a =
    ap (option_map (read_of false)) (a limit h)
    ∙ option_map-twice (read_of false) _ (coming limit q.place q.left)
    ∙ option_map-same _ _ (coming limit q.place q.left)
    (λ ms. ap (with_tokens ms) (comment-read (first && begins 99 word) line word ms comment)
    ∙ read-over ms)
    ∙ sym (option_map-twice (read_of false) from_line_end (coming limit q.place q.left))

pub told-skipped : (line : ℕ) (first : Bool) (word : List ℕ) (p q o : Stand) (limit : ℕ) →
    known q.place ≤ known o.place → known o.place ≤ limit → (first && begins 99 word) ≡ true →
    Gives (between p.place) (Word line first word) p.place p.left q.place q.left →
    Skips q.place q.left o.place o.left → told limit p ≡ told limit o
told-skipped line first word p q o limit grows h comment a b =
    told-comment line first word p q limit (omega arith) comment a
    ∙ ap (option_map (read_of false)) (b limit h)

-- the text's end
pub told-end : (line : ℕ) (p q : Stand) (limit : ℕ) →
    Closes limit (between p.place) (Stop line) p.place p.left q.left →
    told limit p ≡ option_map (λ _. over (Whole line)) q.left
told-end line p q limit a = ap (option_map (read_of false)) a
    ∙ option_map-twice (read_of false) _ q.left

-- what a failing call of the scanner needs to say of a fault
abbrev pub RoseIf : ScanError → Stand → Stand → Type 0
RoseIf e old new = e ≡ errors.ReadFault → Rose old.faults new.faults

pub told-fails : (e : ScanError) (p q : Stand) →
    Fails (between p.place) e p.place p.left q.place q.left → RoseIf e p q → FindFails e p q
told-fails (errors.TooLong line) p q a rose =
    (ap (option_map (read_of false)) a.0 ∙ option_map-twice (read_of false) _ q.left, a.1, a.2)
told-fails errors.ReadFault p q a rose = (
  ap (option_map (read_of false)) a.0 ∙ option_map-twice (read_of false) _ q.left,
  a.1,
  rose refl,
)
told-fails errors.OutOfMemory p q a rose = tt

taken-known : (q : Place) → q.ended ≡ false → known q ≡ taken q
taken-known q open_ = rw open_ (omega arith)

-- the token that was passed from one stand to another begins a comment
pub record CommentBegun (p q : Stand) : Type 0 where
  pub line : ℕ
  pub first : Bool
  pub comment : (first && begins 99 q.place.token) ≡ true
  pub gives : Gives (between p.place) (Word line first q.place.token) p.place p.left q.place q.left

pub comment-begun : (line : ℕ) (first b : Bool) (t : List ℕ) (p q : Stand) → first ≡ true →
    b ≡ begins 99 t → b ≡ true → t ≡ q.place.token →
    Gives (between p.place) (Word line first q.place.token) p.place p.left q.place q.left → CommentBegun p q
comment-begun line first b t p q f e h same gives =
    let c : begins 99 q.place.token ≡ true = rw (← same) (sym e ∙ h) in
    record { line = line; first = first; comment = rw (f, c) refl; gives = gives }

pub told-skip-fails : (e : ScanError) (p q o : Stand) → known q.place ≤ known o.place → CommentBegun p q →
    SkipFails e q.place q.left o.place o.left → RoseIf e p o → FindFails e p o
told-skip-fails (errors.TooLong at) p q o grows a b rose = (
  told-comment a.line a.first q.place.token p q (taken o.place) (omega (arith, taken-known o.place b.2))
      a.comment a.gives ∙ ap (option_map (read_of false)) b.0 ∙ option_map-twice (read_of false) _ o.left,
  b.1,
  b.2,
)
told-skip-fails errors.ReadFault p q o grows a b rose = (
  told-comment a.line a.first q.place.token p q (taken o.place) (omega (arith, taken-known o.place b.1))
      a.comment a.gives ∙ ap (option_map (read_of false)) b.0 ∙ option_map-twice (read_of false) _ o.left,
  b.1,
  rose refl,
)
told-skip-fails errors.OutOfMemory p q o grows a b rose = tt

-- from one stand to another the same is told
pub record SameTold (p q : Stand) : Type 0 where
  pub same : (limit : ℕ) → known q.place ≤ limit → told limit p ≡ told limit q
  pub grows : known p.place ≤ known q.place

-- a count that rose later rose
pub rose-later : (m n o : ℕ) → m ≤ n → Rose n o → Rose m o
rose-later m n o h (inl above) = inl (omega arith)
rose-later m n o h (inr top) = inr top

pub fails-later : (e : ScanError) (p q o : Stand) → SameTold p q → p.faults ≤ q.faults →
    known q.place ≤ known o.place → FindFails e q o → FindFails e p o
fails-later (errors.TooLong line) p q o a few grows b =
    (a.same (taken o.place) (omega (arith, taken-known o.place b.2)) ∙ b.0, b.1, b.2)
fails-later errors.ReadFault p q o a few grows b = (
  a.same (taken o.place) (omega (arith, taken-known o.place b.1))
      ∙ b.0,
  b.1,
  rose-later p.faults q.faults o.faults few b.2,
)
fails-later errors.OutOfMemory p q o a few grows b = tt

-- no token outside comments was passed from one stand to another, and no read failed
pub record Onward (p q : Stand) : Type 0 where
  pub told : SameTold p q
  pub limit : limit_of q.place ≡ limit_of p.place
  pub draws : Draws p q
  pub passed : p.place.passed ≤ q.place.passed

pub onward-start : (p : Stand) → Onward p p
onward-start p = record {
  told = record { same = λ limit h. refl; grows = omega arith };
  limit = refl;
  draws = draws-none p p.place refl;
  passed = omega arith;
}

pub onward-goes : (p q n : Stand) → Onward p q → Goes q n → Goes p n
onward-goes p q n a b = drawn-goes p q n a.draws a.limit a.told.grows b

-- a line's end was passed
pub onward-line : (line : ℕ) (p q n : Stand) → Onward p q → Goes q n → n.faults ≡ q.faults →
    q.place.passed ≤ n.place.passed →
    Gives (between q.place) (Break line) q.place q.left n.place n.left → Onward p n
onward-line line p q n a goes calm passed gives = record {
  told = record {
    same = λ limit h. a.told.same limit (omega (arith, goes.keeps.grows))
        ∙ told-line line q n limit h gives;
    grows = omega (arith, a.told.grows, goes.keeps.grows);
  };
  limit = goes.keeps.limit ∙ a.limit;
  draws = drawn p q n a.draws goes calm;
  passed = omega (arith, a.passed, passed);
}

-- a comment was passed
pub onward-comment : (p q n o : Stand) → Onward p q → Goes q n → n.faults ≡ q.faults → Goes n o →
    o.faults ≡ n.faults → q.place.passed ≤ o.place.passed → CommentBegun q n →
    Skips n.place n.left o.place o.left → Onward p o
onward-comment p q n o a goes calm skips still passed begun passes = record {
  told = record {
    same = λ limit h. a.told.same limit (omega (arith, goes.keeps.grows, skips.keeps.grows))
        ∙ told-skipped begun.line begun.first n.place.token q n o limit skips.keeps.grows h begun.comment begun.gives
        passes;
    grows = omega (arith, a.told.grows, goes.keeps.grows, skips.keeps.grows);
  };
  limit = skips.keeps.limit ∙ goes.keeps.limit ∙ a.limit;
  draws = drawn p n o (drawn p q n a.draws goes calm) skips still;
  passed = omega (arith, a.passed, passed);
}
