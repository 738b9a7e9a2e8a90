-- a clause database with its trail, as unit propagation with watched literals keeps it (Moskewicz et al., Chaff, DAC
-- 2001)
use Rattle.std.specs.Prelude.{◌≡◌, ◌≢◌, ◌↔◌, ◌<◌, ℕ, Bool, true, false, List, [], ◌∷◌, map, take, Option, Some, None, is_none, option_map}
use Rattle.std.specs.List.{filter}
use Rattle.std.specs.Ordering.{nat_cmp}
use Rattle.std.specs.FinMap as finite
use Rattle.std.specs.FinSet as set
use Rattle.gr_logic.specs.Literals.{Literal, negation, var_of}
use Rattle.gr_logic.specs.LiteralSets.{FiniteSet}
use Rattle.gr_logic.specs.Rup.{LiteralSet, members, with_literal}
use Rattle.gr_logic.specs.Closure.{ClauseFamily, no_literals, Forces, InClosure, DerivesConflict}
use Rattle.gr_logic.specs.declared.places.Place.{Place}
use Rattle.gr_arena.specs.Arenas.{Stored}
use Rattle.gr_trail.specs.Trails.{Assigned, TrailState, true_in, assigned_to, up_to}

-- a clause's id, its LBD (the literal block distance of Audemard and Simon, IJCAI 2009) and the set of its literals
pub record BaseClause : Type 0 where
  pub id : ℕ
  pub lbd : ℕ
  pub literals : FiniteSet

-- clauses by their places
abbrev pub Clauses : Type 0
Clauses = finite.FinMap nat_cmp BaseClause

-- the clauses, the trail, whether nothing is left to propagate, and the clause that was found false last
pub record BaseState : Type 0 where
  pub clauses : Clauses
  pub trail : TrailState
  pub quiet : Bool
  pub conflict : Option Place

-- a stored clause without the order of its literals
abbrev pub base_clause : Stored → BaseClause
base_clause s = record { id = s.id; lbd = s.lbd; literals = set.from_list s.lits }

-- the clauses of an arena, each without the order of its literals
abbrev pub clauses_in : finite.FinMap nat_cmp Stored → Clauses
clauses_in stored = finite.from_entries (map (λ e. (e.0, base_clause e.1)) (finite.entries stored))

-- the clauses as a family of sets
abbrev pub family : Clauses → ClauseFamily
family clauses place = option_map (λ c. set.contains c.literals) (finite.get clauses place)

-- the decisions, in order
abbrev pub decisions : List Assigned → List Literal
decisions assigned = map (λ a. a.lit) (filter (λ a. is_none a.reason) assigned)

-- no clauses, and nothing assigned
abbrev pub empty_base : ℕ → BaseState
empty_base vars = record {
  clauses = finite.empty;
  trail = record { vars = vars; depth = 0; assigned = [] };
  quiet = false;
  conflict = None;
}

-- no clause has the id
abbrev pub LacksId : Clauses → ℕ → Type 0
LacksId clauses id = (p : ℕ) (c : BaseClause) → finite.get clauses p ≡ Some c → c.id ≢ id

-- the clause at the place has the id
abbrev pub HasIdAt : Clauses → ℕ → Place → Type 0
HasIdAt clauses id place = (c : BaseClause) × (finite.get clauses place.0 ≡ Some c) × (c.id ≡ id)

-- some clause has the id
abbrev pub HasId : Clauses → ℕ → Type 0
HasId clauses id = (place : Place) × HasIdAt clauses id place

-- the literals are exactly what unit propagation derives from the given ones, and that is no conflict
pub record IsUnitClosure (k : ClauseFamily) (given : List Literal) (assigned : List Assigned) : Type 0 where
  pub closure : (l : Literal) → (true_in assigned l ≡ true) ↔ InClosure k (members given) l
  pub no_conflict : DerivesConflict k (members given) → ⊥

-- a decision, or forced by its reason from the literals before it
abbrev pub IsFoundedBy : ClauseFamily → LiteralSet → Literal → Option Place → Type 0
IsFoundedBy k before l None = Unit {0}
IsFoundedBy k before l (Some place) = (c : LiteralSet) × ((k place.0 ≡ Some c) × Forces before c l)

-- each literal is a decision, or forced by its reason from the literals before it
abbrev pub AreFounded : ClauseFamily → LiteralSet → List Assigned → Type 0
AreFounded k before [] = Unit {0}
AreFounded k before (a ∷ rest) =
    IsFoundedBy k before a.lit a.reason × AreFounded k (with_literal before a.lit) rest

-- there is a clause at the place, and all its literals are false
abbrev pub IsFalseAt : Clauses → List Assigned → Place → Type 0
IsFalseAt clauses assigned place = (c : LiteralSet) × ((family clauses place.0 ≡ Some c)
    × ((q : Literal) → c q ≡ true → true_in assigned (negation q) ≡ true))

-- the clause at the place has a literal whose variable got its value at the level
abbrev pub HasLiteralAt : Clauses → List Assigned → Place → ℕ → Type 0
HasLiteralAt clauses assigned place level = (c : LiteralSet) × ((family clauses place.0 ≡ Some c)
    × ((q : Literal) × ((c q ≡ true) × (option_map (λ a. a.level) (assigned_to assigned (var_of q)) ≡ Some level))))

-- what is true of every base: each literal of the trail is a decision or forced by its reason from the
-- literals before it; each level below the depth is the closure of the decisions up to it, without
-- conflict, and so is all of the trail where nothing is left to propagate; a clause that was found false
-- is false, above level zero by a literal of the present level; no two clauses have one id
pub record IsBase (b : BaseState) : Type 0 where
  pub founded : AreFounded (family b.clauses) no_literals b.trail.assigned
  pub finished : (level : ℕ) → level < b.trail.depth
      → IsUnitClosure (family b.clauses) (take level (decisions b.trail.assigned)) (up_to level b.trail.assigned)
  pub closed : b.quiet ≡ true → IsUnitClosure (family b.clauses) (decisions b.trail.assigned) b.trail.assigned
  pub conflict : (place : Place) → b.conflict ≡ Some place → IsFalseAt b.clauses b.trail.assigned place
  pub present : (place : Place) → b.conflict ≡ Some place → 0 < b.trail.depth
      → HasLiteralAt b.clauses b.trail.assigned place b.trail.depth
  pub ids : (p q : ℕ) (c d : BaseClause) → finite.get b.clauses p ≡ Some c → finite.get b.clauses q ≡ Some d
      → c.id ≡ d.id → p ≡ q
