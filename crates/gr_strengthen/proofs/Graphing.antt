-- a base's trail and clauses as an implication graph
use Rattle.std.proofs.Common.{◌≡◌, ◌<◌, ℕ, true, false, List, Option, Some, None, sym, subst}
use Rattle.std.specs.Prelude.{All, slice_get}
use Rattle.std.specs.FinMap as finite
use Rattle.gr_logic.specs.Literals.{Literal, negation, same_literal}
use Rattle.gr_logic.specs.NormalForms.{IsNormal}
use Rattle.gr_logic.specs.Rup.{LiteralSet}
use Rattle.gr_logic.specs.Closure.{no_literals}
use Rattle.gr_logic.specs.declared.places.Place.{Place}
use Rattle.gr_arena.specs.Arenas.{Stored, ArenaState, Has}
use Rattle.gr_trail.specs.Trails.{Assigned, TrailState, IsTrail, true_in, assigned_to}
use Rattle.gr_trail.proofs.Standing.{stands-at}
use Rattle.gr_prop.specs.Bases.{BaseState, IsBase, AreFounded, IsFoundedBy, clauses_in, family}
use Rattle.gr_prop.proofs.Founded.{founded-each}
use Rattle.gr_prop.proofs.Lookups.{reason-stored, stored-each}
use Rattle.gr_hints.specs.Gathering.{literals_at}
use Rattle.gr_hints.specs.Graphs.{IsReasoned, AreReasoned, IsGraph}
use Rattle.gr_hints.proofs.Graphs.{reasoned-at, reason-others, take-true}
pub use Rattle.gr_strengthen.proofs.WalkTrails.{true-some}

-- the other literals of a reason are false
pub others-false : (arena : ArenaState) (xs : List Assigned) (place : ℕ) (a : Assigned) (r : Place)
    → AreReasoned arena no_literals xs → slice_get xs place ≡ Some a → a.reason ≡ Some r
    → (q : Literal) → literals_at arena r q ≡ true → same_literal q a.lit ≡ false
    → true_in xs (negation q) ≡ true
others-false arena xs place a r reasoned at is q has apart =
    take-true xs place (negation q) (reason-others arena xs place a r reasoned at is q has apart)

pub reason-has : (arena : ArenaState) (t : TrailState) (var : ℕ) (a : Assigned) (place : Place) → IsGraph arena t
    → assigned_to t.assigned var ≡ Some a → a.reason ≡ Some place → Has arena place
reason-has arena t var a place g is by =
    let at = stands-at t.assigned var a is in
    (reasoned-at arena no_literals t.assigned at.0 a place g.reasoned at.1.0 by).0

-- ---- from a base
given : (arena : ArenaState) (before : LiteralSet) (l : Literal) (r : Option Place)
    → IsFoundedBy (family (clauses_in arena.clauses)) before l r → IsReasoned arena before l r
given arena before l None f = tt
given arena before l (Some place) f = reason-stored arena before l place f

pub base-graph : (b : BaseState) (arena : ArenaState) (t : TrailState) → IsBase b → clauses_in arena.clauses ≡ b.clauses
    → t ≡ b.trail → IsTrail t
    → ((p : ℕ) (s : Stored) → finite.get arena.clauses p ≡ Some s → IsNormal s.lits)
    → ((p : ℕ) (s : Stored) → finite.get arena.clauses p ≡ Some s
    → All (λ (l : Literal). l.index < b.trail.vars) s.lits)
    → IsGraph arena t
base-graph b arena t base same is trail normal known = subst (IsGraph arena) (sym is) (record {
  trail = subst IsTrail is trail;
  reasoned = founded-each (family (clauses_in arena.clauses)) (AreReasoned arena) (λ before. tt)
      (λ before x xs f rest. (given arena before x.lit x.reason f, rest))
      no_literals b.trail.assigned
      (subst (λ k. AreFounded (family k) no_literals b.trail.assigned) (sym same) base.founded);
  known = λ place has.
      stored-each arena place (All (λ (l : Literal). l.index < b.trail.vars)) known has;
  normal = λ place has. stored-each arena place IsNormal normal has;
})
