-- the meaning of a proof log in LRAT (Cruz-Filipe et al., CADE 2017): what its lines do, and which are refused
use Rattle.std.specs.Prelude.{◌≡◌, ℕ, ◌+◌, ◌<◌, ◌≤◌, ◌^◌, All, Bool, true, false, ◌||◌, nat_le, if◌then◌else◌, List, [], ◌∷◌, length, Option, Some, None}
use Rattle.std.specs.List.{list_any}
use Rattle.std.specs.Ordering.{nat_cmp}
use Rattle.std.specs.FinMap as map
use Rattle.gr_logic.specs.Literals.{Literal}
use Rattle.gr_logic.specs.Formulas.{Cnf}
use Rattle.gr_logic.specs.Rup.{Answer, Accepted, NotLive, HintNotUnit, NoConflict, rup}
use Rattle.gr_logic.specs.declared.lines.Line.{Line}
use Rattle.gr_logic.specs.declared.lines.Line.TheVariants.{Add, Delete}

-- the clauses that may be cited, by id
abbrev pub Clauses : Type 0
Clauses = map.FinMap nat_cmp (List Literal)

-- what a log has done so far
pub record LogState : Type 0 where
  -- the formula's number of variables
  pub vars : ℕ
  -- the greatest id so far
  pub last : ℕ
  pub live : Clauses
  -- an addition was the empty clause
  pub refuted : Bool

-- the map with the clauses under this id and the next ones
abbrev pub with_clauses : Clauses → ℕ → List (List Literal) → Clauses
with_clauses live id [] = live
with_clauses live id (c ∷ cs) = with_clauses (map.insert live id c) (id + 1) cs

-- before the first line the formula's clauses are there, under the ids from 1 on
abbrev pub opening : Cnf → LogState
opening f = record {
  vars = f.vars;
  last = length f.clauses;
  live = with_clauses map.empty 1 f.clauses;
  refuted = false;
}

-- why a line is refused, with the id that is named
pub data Cause : Type 0 where
  IdNotGreater : ℕ → Cause
  VarAbove : ℕ → Cause
  IsNotLive : ℕ → Cause
  IsNotUnit : ℕ → Cause
  HasNoConflict : ℕ → Cause

-- why the unit steps refuse the lemma of this id
abbrev pub cause_of : ℕ → Answer → Option Cause
cause_of id Accepted = None
cause_of id (NotLive hint) = Some (IsNotLive hint)
cause_of id (HintNotUnit hint) = Some (IsNotUnit hint)
cause_of id NoConflict = Some (HasNoConflict id)

-- the list has nothing in it
abbrev pub is_empty : {X : Type 0} → List X → Bool
is_empty [] = true
is_empty (x ∷ xs) = false

-- a variable of the clause is above the number
abbrev pub is_var_above : ℕ → List Literal → Bool
is_var_above vars c = list_any (λ l. nat_le vars l.index) c

-- why an addition is refused: its id is not new, or it has a new variable, or the unit steps refuse it
abbrev pub addition_cause : LogState → ℕ → List Literal → List ℕ → Option Cause
addition_cause s id c hints =
    if nat_le id s.last then Some (IdNotGreater id)
    else (if is_var_above s.vars c then Some (VarAbove id) else cause_of id (rup (map.get s.live) c hints))

-- the first id that is not there, as the earlier ones of the same line leave the map
abbrev pub missing : Clauses → List ℕ → Option Cause
missing live [] = None
missing live (id ∷ ids) =
    if map.contains_key live id then missing (map.remove live id) ids else Some (IsNotLive id)

-- the map without these ids
abbrev pub without : Clauses → List ℕ → Clauses
without live [] = live
without live (id ∷ ids) = without (map.remove live id) ids

-- why a line is refused, if it is
abbrev pub line_cause : LogState → Line → Option Cause
line_cause s (Add id c hints) = addition_cause s id c hints
line_cause s (Delete id ids) = missing s.live ids

-- the state after a line that is not refused
abbrev pub after_line : LogState → Line → LogState
after_line s (Add id c hints) = record {
  vars = s.vars;
  last = id;
  live = map.insert s.live id c;
  refuted = s.refuted || is_empty c;
}
after_line s (Delete id ids) = record s { live = without s.live ids }

-- a line's cause with the line's number, or else what the later lines give
abbrev pub first_cause : ℕ → Option Cause → Option (ℕ × Cause) → Option (ℕ × Cause)
first_cause n None later = later
first_cause n (Some why) later = Some (n, why)

-- the first refused line, where the first of these lines has this number
abbrev pub refusal_from : ℕ → LogState → List Line → Option (ℕ × Cause)
refusal_from n s [] = None
refusal_from n s (x ∷ xs) = first_cause n (line_cause s x) (refusal_from (n + 1) (after_line s x) xs)

-- the number of the first refused line of a log, and why it is refused
abbrev pub refusal : Cnf → List Line → Option (ℕ × Cause)
refusal f xs = refusal_from 1 (opening f) xs

-- what lines have done from a state on
abbrev pub state_after : LogState → List Line → LogState
state_after s [] = s
state_after s (x ∷ xs) = state_after (after_line s x) xs

-- no line is refused, and an addition is the empty clause
abbrev pub Accepts : Cnf → List Line → Type 0
Accepts f xs = (refusal f xs ≡ None) × ((state_after (opening f) xs).refuted ≡ true)

-- the clauses that a log adds, in order
abbrev pub clauses_added : List Line → List (List Literal)
clauses_added [] = []
clauses_added (Add id c hints ∷ xs) = c ∷ clauses_added xs
clauses_added (Delete id ids ∷ xs) = clauses_added xs

-- an id that a log may write
abbrev pub IsId : ℕ → Type 0
IsId id = (1 ≤ id) × (id < 2 ^ 63)

-- the line's id, and the ids that it names, are ones that a log may write
abbrev pub HasIds : Line → Type 0
HasIds (Add id c hints) = IsId id × All IsId hints
HasIds (Delete id ids) = IsId id × All IsId ids
