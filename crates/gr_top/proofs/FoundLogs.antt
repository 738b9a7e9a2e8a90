-- what is found of a log, by what was taken of it
use Rattle.std.proofs.Common.{◌≡◌, ◌∙◌, sym, ap, subst, refl, ℕ, zero, suc, ◌+◌, ◌^◌, ◌<◌, ◌≤◌, Bool, true, false, if◌then◌else◌, List, [], ◌∷◌, ◌++◌, length, cond, arith}
use Rattle.std.specs.Prelude.{Option, Some, None, IfSome}
use Rattle.std.specs.Option.{option_map}
use Rattle.std.proofs.lemmas.List.{length-append}
use Rattle.gr_text.specs.Tokens.{Mark, Word, Break, Stop, Cut, Spot, front, marks, marks_of, made_known, beyond, ended, is_line_feed, is_space}
use Rattle.gr_text.specs.Places.{Place, Takes, at_start, known, taken}
use Rattle.gr_logic.specs.Formulas.{Cnf}
use Rattle.gr_logic.specs.Log.{LogState, Cause, opening, line_cause, after_line}
use Rattle.gr_lrat.specs.Lines.{Spelling, Nothing, Spelled, Misspelt, HasNegativeHint, spelling}
use Rattle.gr_lrat.specs.Logs.{LogEnd, AtEnd, AtBadLine, AtRatHint, AtLimit, LogRead, NumberedLine, with_line, log_from, log_read, log_outcome, LogOutcome, Verified, NoEmptyClause, Refused, BadLine, RatHint, TooLong, outcome_at, refused_or, outcome_from}
use Rattle.gr_lrat.proofs.Cutting.{log_outcome_cut}
use Rattle.gr_top.specs.CheckedLogs.{Finds, FindsNothing, IsWithinLimit, IsAllRead}

-- where the log's text is told, this comes of so many bytes of it
abbrev pub IsOutcome : ℕ → Option (List ℕ) → Cnf → LogOutcome → Type 0
IsOutcome limit told f outcome = IfSome told (λ text. log_outcome f text limit ≡ outcome)

-- no line is at fault
abbrev pub IsWhole : LogOutcome → Type 0
IsWhole Verified = Unit {0}
IsWhole NoEmptyClause = Unit {0}
IsWhole (Refused n cause) = ⊥
IsWhole (BadLine n) = ⊥
IsWhole (RatHint n) = ⊥
IsWhole (TooLong n) = ⊥

content : {X : Type 0} {a b : X} → Some a ≡ Some b → a ≡ b
content {X} {a} {b} e = ap inside e
  where
    inside : Option X → X
    inside None = a
    inside (Some x) = x

-- where the lines to come give this outcome whatever they are, a told log has it
pub told-outcome : {R : Type 0} (limit : ℕ) (f : Cnf) (told : Option (List ℕ)) (g : R → LogOutcome) (r : Option R)
    (outcome : LogOutcome)
    → option_map (λ text. log_outcome f text limit) told ≡ option_map g r → ((x : R) → g x ≡ outcome)
    → IsOutcome limit told f outcome
told-outcome limit f None g r outcome same is = tt
told-outcome limit f (Some text) g None outcome same is = absurd (cc)
told-outcome limit f (Some text) g (Some x) outcome same is = content same ∙ is x

-- what was taken is the front of a told log, and no more is taken than may be looked at
pub finds : (f : Cnf) (outcome : LogOutcome) (told : Option (List ℕ)) (q : Place) (r : Option (List ℕ))
    → Takes (at_start (2 ^ 40)) told q r → known q ≤ 2 ^ 40 → IsOutcome (2 ^ 40) told f outcome
    → ((text rest : List ℕ) → told ≡ Some text → r ≡ Some rest → IsAllRead outcome rest) → Finds f outcome told r
finds f outcome (Some text) q (Some rest) takes within is end = record {
  taken = takes.piece;
  split = content takes.left;
  within = omega (arith, takes.count, within);
  outcome = is;
  end = end text rest refl refl;
}
finds f outcome (Some text) q None takes within is end = absurd (let off = takes.left in cc)
finds f outcome None q (Some rest) takes within is end = absurd (let off = takes.left in cc)
finds f outcome None q None takes within is end = tt

-- no more was taken than may be
pub takes-few : (told : Option (List ℕ)) (q : Place) (r : Option (List ℕ)) → Takes (at_start (2 ^ 40)) told q r
    → known q ≤ 2 ^ 40 → IsWithinLimit told r
takes-few (Some text) q (Some rest) takes within =
    record { taken = takes.piece; split = content takes.left; within = omega (arith, takes.count, within) }
takes-few (Some text) q None takes within = absurd (let off = takes.left in cc)
takes-few None q (Some rest) takes within = absurd (let off = takes.left in cc)
takes-few None q None takes within = tt

-- nothing was taken
pub takes-none : (told : Option (List ℕ)) → IsWithinLimit told told
takes-none (Some text) = record { taken = []; split = refl; within = omega arith }
takes-none None = tt

-- the end of the text is among the marks
abbrev HasStop : List Mark → Type 0
HasStop [] = ⊥
HasStop (Word line first w ∷ ms) = HasStop ms
HasStop (Break line ∷ ms) = HasStop ms
HasStop (Stop line ∷ ms) = Unit {0}
HasStop (Cut line ∷ ms) = HasStop ms

stop-behind-word : (line : ℕ) (first : Bool) (w : List ℕ) (ms : List Mark)
    → HasStop (ended line first w ++ ms) → HasStop ms
stop-behind-word line first [] ms stop = stop
stop-behind-word line first (b ∷ bs) ms stop = stop

stop-behind-break : (line : ℕ) (first : Bool) (w : List ℕ) (n : ℕ) (ms : List Mark)
    → HasStop ((ended line first w ++ Break n ∷ []) ++ ms) → HasStop ms
stop-behind-break line first [] n ms stop = stop
stop-behind-break line first (b ∷ bs) n ms stop = stop

stop-behind-either : (c : Bool) (x y ms : List Mark) → (HasStop (x ++ ms) → HasStop ms) → (HasStop (y ++ ms)
    → HasStop ms)
    → HasStop ((if c then x else y) ++ ms) → HasStop ms
stop-behind-either true x y ms here there stop = here stop
stop-behind-either false x y ms here there stop = there stop

-- no byte makes the end known
stop-behind : (s : Spot) (b : ℕ) (ms : List Mark) → HasStop (made_known s b ++ ms) → HasStop ms
stop-behind s b ms stop =
    stop-behind-either (is_line_feed b) _ _ ms (stop-behind-break s.line s.first s.word s.line ms)
    (stop-behind-either (is_space b) _ _ ms (stop-behind-word s.line s.first s.word ms) (λ more. more)) stop

-- the end is among the marks only where there is room for all bytes and the end itself
marks-stop : (text : List ℕ) (s : Spot) (room : ℕ) → HasStop (marks s room text) → length text < room
marks-stop text s zero stop = absurd stop
marks-stop [] s (suc room) stop = omega arith
marks-stop (b ∷ text) s (suc room) stop =
    let later : length text < room = marks-stop text (beyond s b) room (stop-behind s b (marks
    (beyond s b) room text) stop) in
    omega (arith, later)

line-end : (said : Spelling) (n : ℕ) (later : LogRead) → (with_line said n later).end ≡ AtEnd → later.end ≡ AtEnd
line-end Nothing n later e = e
line-end (Spelled x) n later e = e
line-end Misspelt n later e = absurd (cc)
line-end HasNegativeHint n later e = absurd (cc)

-- a log that ends with its text has the text's end among its marks
log-stop : (ws : List (List ℕ)) (ms : List Mark) → (log_from ws ms).end ≡ AtEnd → HasStop ms
log-stop ws [] e = absurd (cc)
log-stop ws (Word line first w ∷ ms) e = log-stop (ws ++ w ∷ []) ms e
log-stop ws (Break line ∷ ms) e = log-stop [] ms (line-end (spelling ws) line (log_from [] ms) e)
log-stop ws (Stop line ∷ ms) e = tt
log-stop ws (Cut line ∷ ms) e = absurd (cc)

whole-end : (s : LogState) (end : LogEnd) → IsWhole (outcome_at s end) → end ≡ AtEnd
whole-end s AtEnd whole = refl
whole-end s (AtBadLine n) whole = absurd whole
whole-end s (AtRatHint n) whole = absurd whole
whole-end s (AtLimit n) whole = absurd whole

whole-later : (n : ℕ) (cause : Option Cause) (later : LogOutcome) → IsWhole (refused_or n cause later) → IsWhole later
whole-later n None later whole = whole
whole-later n (Some why) later whole = absurd whole

-- where no line is at fault, the lines end with the text
whole-lines : (s : LogState) (xs : List NumberedLine) (end : LogEnd) → IsWhole (outcome_from s xs end) → end ≡ AtEnd
whole-lines s [] end whole = whole-end s end whole
whole-lines s (x ∷ xs) end whole =
    whole-lines (after_line s x.line) xs end
    (whole-later x.number (line_cause s x.line) (outcome_from (after_line s x.line) xs end) whole)

is-whole : (a b : LogOutcome) → a ≡ b → IsWhole b → IsWhole a
is-whole a b same whole = subst IsWhole (sym same) whole

nothing-left : (rest : List ℕ) → length rest ≡ 0 → rest ≡ []
nothing-left [] none = refl
nothing-left (b ∷ rest) none = absurd (omega (arith, none))

known-near : (n : ℕ) (ended : Bool) → n + cond ended 1 0 ≤ n + 1
known-near n true = omega arith
known-near n false = omega arith

all-read-rest : (outcome : LogOutcome) (rest : List ℕ) → rest ≡ [] → IsAllRead outcome rest
all-read-rest Verified rest none = none
all-read-rest NoEmptyClause rest none = none
all-read-rest (Refused n cause) rest none = tt
all-read-rest (BadLine n) rest none = tt
all-read-rest (RatHint n) rest none = tt
all-read-rest (TooLong n) rest none = tt

-- a log of which it is known that no line is at fault was read to its end
all-read-told : (f : Cnf) (outcome : LogOutcome) (text rest : List ℕ) (q : Place)
    → Takes (at_start (2 ^ 40)) (Some text) q (Some rest) → log_outcome f text (known q) ≡ outcome → IsWhole outcome
    → rest ≡ []
all-read-told f outcome text rest q takes is whole =
    let read = log_read (known q) text in
    let end : read.end ≡ AtEnd = whole-lines (opening f) read.lines read.end (is-whole _ outcome is whole) in
    let room : length text < known q = marks-stop text front (known q) (log-stop [] (marks_of (known q) text) end) in
    let near : known q ≤ taken q + 1 = known-near (taken q) q.ended in
    let split : text ≡ takes.piece ++ rest = content takes.left in
    let count : length text ≡ length takes.piece + length rest = ap length split ∙ length-append takes.piece rest in
    nothing-left rest (omega (arith, room, near, count, takes.count))

pub all-read : (f : Cnf) (outcome : LogOutcome) (told : Option (List ℕ)) (q : Place) (r : Option (List ℕ))
    → Takes (at_start (2 ^ 40)) told q r → IsOutcome (known q) told f outcome → IsWhole outcome
    → (text rest : List ℕ) → told ≡ Some text → r ≡ Some rest → IsAllRead outcome rest
all-read f outcome None q r takes is whole text rest given left = absurd (cc)
all-read f outcome (Some t) q None takes is whole text rest given left = absurd (cc)
all-read f outcome (Some t) q (Some u) takes is whole text rest given left =
    all-read-rest outcome rest (sym (content left) ∙ all-read-told f outcome t u q takes is whole)

-- where a log is cut at what was taken, that decides nothing
pub finds-nothing : (f : Cnf) (told : Option (List ℕ)) (q : Place) (r : Option (List ℕ)) (line : ℕ)
    → Takes (at_start (2 ^ 40)) told q r → known q ≤ 2 ^ 40 → IsOutcome (taken q) told f (TooLong line)
    → FindsNothing f told r
finds-nothing f (Some text) q (Some rest) line takes within is =
    let split : text ≡ takes.piece ++ rest = content takes.left in
    let count : taken q ≡ length takes.piece = omega (arith, takes.count) in
    record {
      taken = takes.piece;
      split = split;
      within = omega (arith, takes.count, within);
      line = line;
      outcome =
          sym (log_outcome_cut f takes.piece rest)
          ∙ ap (λ t. log_outcome f t (length takes.piece)) (sym split)
          ∙ ap (log_outcome f text) (sym count)
          ∙ is;
    }
finds-nothing f (Some text) q None line takes within is = absurd (let off = takes.left in cc)
finds-nothing f None q (Some rest) line takes within is = absurd (let off = takes.left in cc)
finds-nothing f None q None line takes within is = tt
