-- which clauses a literal's list watches, and what guards them
use Rattle.std.specs.Prelude.{◌≡◌, ◌⊎◌, ℕ, ◌+◌, ◌*◌, ◌<◌, ◌≤◌, Bool, true, false, ◌&&◌, List, [], ◌∷◌, All, length, take, drop, Option, Some, IsSome, nat_eq, nat_le, unwrap_or, if◌then◌else◌}
use Rattle.std.specs.List.{list_any, sum_by}
use Rattle.std.specs.Ordering.{nat_cmp}
use Rattle.std.specs.FinMap as finite
use Rattle.gr_logic.specs.Literals.{Literal, negation, same_literal}
use Rattle.gr_logic.specs.Rup.{LiteralSet, members}
use Rattle.gr_logic.specs.Closure.{no_literals}
use Rattle.gr_logic.specs.declared.places.Place.{Place}
use Rattle.gr_arena.specs.Arenas.{Stored, no_clause}
use Rattle.gr_trail.specs.Trails.{Assigned, TrailState, true_in, Climbs}
use Rattle.gr_watch.specs.declared.lists.Watch.{Watch}
use Rattle.gr_watch.specs.WatchLists.{WatchLists, list_of}
use Rattle.gr_prop.specs.Bases.{Clauses, clauses_in, family, AreFounded, HasIdAt}

-- clauses by their places, with the order of their literals
abbrev pub Store : Type 0
Store = finite.FinMap nat_cmp Stored

-- the clause at a place
abbrev pub stored_at : Store → ℕ → Stored
stored_at k place = unwrap_or (finite.get k place) no_clause

-- its literals
abbrev pub lits_at : Store → ℕ → List Literal
lits_at k place = (stored_at k place).lits

-- one for what holds
abbrev pub bit : Bool → ℕ
bit b = if b then 1 else 0

-- how often a place is in the list
abbrev pub count_in : ℕ → List Watch → ℕ
count_in place list = sum_by (λ w. bit (nat_eq w.place.0 place)) list

-- how often a literal is among the first two
abbrev pub watched : List Literal → Literal → ℕ
watched [] l = 0
watched (w ∷ []) l = 0
watched (w ∷ o ∷ rest) l = bit (same_literal l w) + bit (same_literal l o)

-- how often a variable is in the clause
abbrev pub occurs : List Literal → ℕ → ℕ
occurs c index = sum_by (λ x. bit (nat_eq x.index index)) c

-- a clause of two literals
abbrev pub is_pair : List Literal → Bool
is_pair c = nat_eq (length c) 2

-- the clause where it is none of two literals
abbrev pub longer : List Literal → List Literal
longer c = if is_pair c then [] else c

-- the clause where it is one of two literals
abbrev pub paired : List Literal → List Literal
paired c = if is_pair c then c else []

-- among the clauses of a kind, a place stands in a literal's list as often as the literal is among the first two of its
-- clause
abbrev pub IsWatching : (List Literal → List Literal) → Store → WatchLists → Type 0
IsWatching kind k lists =
    (place : ℕ) (l : Literal) → count_in place (list_of lists l) ≡ watched (kind (lits_at k place)) l

-- a watch's blocker is a literal of its clause
abbrev pub IsBlocked : Store → Watch → Type 0
IsBlocked k w = members (lits_at k w.place.0) w.blocker ≡ true

-- so is each watch's
abbrev pub AreBlocked : Store → WatchLists → Type 0
AreBlocked k lists = (l : Literal) → All (IsBlocked k) (list_of lists l)

-- a watch of a clause of two literals has the other one beside it
pub record IsOther (k : Store) (l : Literal) (w : Watch) : Type 0 where
  pub two : is_pair (lits_at k w.place.0) ≡ true
  pub own : members (lits_at k w.place.0) l ≡ true
  pub other : members (lits_at k w.place.0) w.blocker ≡ true
  pub apart : same_literal l w.blocker ≡ false

-- the lists of the clauses of two literals
pub record ArePaired (k : Store) (vars : ℕ) (pairs : WatchLists) : Type 0 where
  pub watching : IsWatching paired k pairs
  pub others : (l : Literal) → All (IsOther k l) (list_of pairs l)
  pub vars' : pairs.vars ≡ vars
  pub even : length pairs.lists ≡ 2 * vars

-- no clause has a variable twice
abbrev pub AllDistinct : Store → Type 0
AllDistinct k = (place index : ℕ) → occurs (lits_at k place) index ≤ 1

-- each literal of a clause is known
abbrev pub AreKnown : Store → ℕ → Type 0
AreKnown k vars = (place : ℕ) → All (λ l. l.index < vars) (lits_at k place)

-- the literal is true, by an assignment at no higher level than this
abbrev pub true_by : List Assigned → ℕ → LiteralSet
true_by assigned level q = list_any (λ a. same_literal q a.lit && nat_le a.level level) assigned

-- where the watched literal became false among these, some literal of the clause is true, at no higher level
abbrev pub IsKept : List Assigned → List Assigned → Literal → List Literal → Type 0
IsKept assigned [] w c = Unit {0}
IsKept assigned (a ∷ done) w c =
    (same_literal (negation w) a.lit ≡ true → list_any (true_by assigned a.level) c ≡ true)
    × IsKept assigned done w c

-- a unit clause is true at level zero, and both watches of a longer one are kept
abbrev pub IsGuarded : List Assigned → List Assigned → List Literal → Type 0
IsGuarded assigned done [] = ⊥
IsGuarded assigned done (w ∷ []) = true_by assigned 0 w ≡ true
IsGuarded assigned done (w ∷ o ∷ rest) =
    IsKept assigned done w (w ∷ o ∷ rest) × IsKept assigned done o (w ∷ o ∷ rest)

-- the place is in the list
abbrev pub is_in : List Place → ℕ → Bool
is_in places place = list_any (λ p. nat_eq p.0 place) places

-- each clause is guarded against what was propagated, but for these
abbrev pub Guards : Store → List Place → List Assigned → List Assigned → Type 0
Guards k broken assigned done =
    (place : ℕ) → IsSome (finite.get k place) → is_in broken place ≡ false → IsGuarded assigned done (lits_at k place)

-- no literal stands there with its negation
abbrev pub IsConsistent : List Assigned → Type 0
IsConsistent assigned = (l : Literal) → true_in assigned l ≡ true → true_in assigned (negation l) ≡ true → ⊥

-- the levels of all of these
abbrev pub AreAt : ℕ → List Assigned → Type 0
AreAt depth [] = Unit {0}
AreAt depth (a ∷ rest) = (a.level ≡ depth) × AreAt depth rest

-- each literal is known
abbrev pub AreWithin : ℕ → List Assigned → Type 0
AreWithin vars [] = Unit {0}
AreWithin vars (a ∷ rest) = (a.lit.index < vars) × AreWithin vars rest

-- a trail over clauses
pub record IsSound (clauses : Clauses) (t : TrailState) : Type 0 where
  pub founded : AreFounded (family clauses) no_literals t.assigned
  pub consistent : IsConsistent t.assigned
  pub climbs : Climbs 0 t.assigned t.depth
  pub within : AreWithin t.vars t.assigned

-- all literals of the clause are false
abbrev pub AllFalse : List Assigned → List Literal → Type 0
AllFalse assigned c = (q : Literal) → members c q ≡ true → true_in assigned (negation q) ≡ true

-- clauses that were false at level zero when they came in: there are none above level zero
pub record AreBroken (k : Store) (t : TrailState) (broken : List Place) : Type 0 where
  pub low : (broken ≡ []) ⊎ (t.depth ≡ 0)
  pub false' : (place : ℕ) → is_in broken place ≡ true → IsSome (finite.get k place) × AllFalse t.assigned
      (lits_at k place)

-- what a base keeps between its calls: the first `head` literals of the trail were propagated
pub record IsReady (k : Store) (t : TrailState) (lists : WatchLists) (head : ℕ) (broken : List Place) : Type 0 where
  pub watching : IsWatching longer k lists
  pub blocked : AreBlocked k lists
  pub distinct : AllDistinct k
  pub known : AreKnown k t.vars
  pub vars : lists.vars ≡ t.vars
  pub even : length lists.lists ≡ 2 * t.vars
  pub sound : IsSound (clauses_in k) t
  pub within : head ≤ length t.assigned
  pub guards : Guards k broken t.assigned (take head t.assigned)
  pub queue : AreAt t.depth (drop head t.assigned)
  pub broken' : AreBroken k t broken

-- ids lead to their clauses' places, and each clause's id does
pub record IsIndexed (clauses : Clauses) (places : finite.FinMap nat_cmp Place) : Type 0 where
  pub found : (id : ℕ) (p : Place) → finite.get places id ≡ Some p → HasIdAt clauses id p
  pub kept : (p : Place) (id : ℕ) → HasIdAt clauses id p → finite.get places id ≡ Some p

-- a quiet base has nothing left to propagate, and a conflict is false
pub record IsSettledBy (k : Store) (t : TrailState) (head : ℕ) (broken : List Place) (quiet : Bool)
    (conflict : Option Place) : Type 0 where
  pub done : quiet ≡ true → (length t.assigned ≤ head) × (broken ≡ [])
  pub falsified : (place : Place) → conflict ≡ Some place → IsSome (finite.get k place.0) × AllFalse t.assigned
      (lits_at k place.0)

-- what a base keeps
pub record IsKeptBase (k : Store) (t : TrailState) (lists : WatchLists) (places : finite.FinMap nat_cmp Place)
    (head : ℕ) (broken : List Place) (quiet : Bool) (conflict : Option Place)
    : Type 0 where
  pub ready : IsReady k t lists head broken
  pub indexed : IsIndexed (clauses_in k) places
  pub ended : IsSettledBy k t head broken quiet conflict
