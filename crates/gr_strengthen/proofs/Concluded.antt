-- what the end of a walk says of the clause
use Rattle.std.proofs.Common.{◌≡◌, ℕ, List, Some, None, IsSome, Ok, Err, sym, ap, ◌∙◌, subst}
use Rattle.std.specs.Prelude.{IfOk, Result}
use Rattle.std.specs.FinMap as finite
use Rattle.gr_logic.specs.Literals.{Literal}
use Rattle.gr_logic.specs.Rup.{members}
use Rattle.gr_logic.specs.Closure.{ClauseFamily}
use Rattle.gr_logic.specs.Greedy.{GreedyKeeps}
use Rattle.gr_logic.specs.declared.items.Strengthened.{Strengthened}
use Rattle.gr_logic.specs.declared.memory.OutOfMemory.{OutOfMemory}
use Rattle.gr_logic.specs.declared.places.Place.{Place}
use Rattle.gr_arena.specs.Arenas.{ArenaState, Has, at}
use Rattle.gr_hints.specs.Gathering.{literals_at}
use Rattle.gr_prop.specs.Bases.{BaseState, clauses_in, family}
use Rattle.gr_prop.proofs.Stores.{family-some}
use Rattle.gr_strengthen.specs.Outcomes.{with_taken, IsStrengthened}
use Rattle.gr_strengthen.specs.Walking.{IsSpentAt, IsSpentBy, Represents}
use Rattle.gr_strengthen.proofs.Accepting.{cites-at}
use Rattle.gr_strengthen.proofs.Shortened.{taken-there, other-there}

module _ (b : BaseState) (arena : ArenaState) (kept clause : List Literal) (place : Place)
    (same : clauses_in arena.clauses ≡ b.clauses) (spent : IsSpentAt b kept clause (Some place)) where
  stored : IsSome (finite.get arena.clauses place.0) × (literals_at arena place ≡ spent.0)
  stored = family-some arena.clauses place.0 spent.0 (ap (λ k. family k place.0) same ∙ spent.1)

  pub stop-has : Has arena place
  stop-has = stored.0

  pub stop-spent : IsSpentBy b.trail.assigned kept (members (at arena place).lits)
  stop-spent = subst (IsSpentBy b.trail.assigned kept) (sym stored.1) spent.2

pub stopped-outcome : (b : BaseState) (arena : ArenaState) (id : ℕ) (clause kept : List Literal) (place : Place)
    (source : List Literal) (last : ℕ) (result : Result Strengthened OutOfMemory)
    → clauses_in arena.clauses ≡ b.clauses → Has arena place → source ≡ (at arena place).lits
    → last ≡ (at arena place).id
    → ((k : ClauseFamily) → Represents k b.clauses → GreedyKeeps k clause kept)
    → IfOk result (λ outcome. (k : ClauseFamily) (id : ℕ) → Represents k b.clauses → k id ≡ None
    → with_taken k id clause last ≡ Some (members source) → GreedyKeeps k clause kept
    → IsStrengthened k b.trail.vars id clause outcome)
    → IfOk result (λ outcome. (k : ClauseFamily) → Represents k b.clauses → k id ≡ None
    → IsStrengthened k b.trail.vars id clause outcome)
stopped-outcome b arena id clause kept place source last (Err e) same has lits named greedy all = tt
stopped-outcome b arena id clause kept place source last (Ok outcome) same has lits named greedy all = λ k is none.
    all k id is none
    (other-there k id clause last (members source) none
    (ap k named ∙ cites-at k b.clauses arena place is.cites same has ∙ ap (λ ls. Some (members ls)) (sym lits)))
    (greedy k is)

pub through-outcome : (b : BaseState) (id : ℕ) (clause kept : List Literal) (result : Result Strengthened OutOfMemory)
    → ((k : ClauseFamily) → Represents k b.clauses → GreedyKeeps k clause kept)
    → IfOk result (λ outcome. (k : ClauseFamily) (other : ℕ) → Represents k b.clauses → k other ≡ None
    → with_taken k other clause id ≡ Some (members clause) → GreedyKeeps k clause kept
    → IsStrengthened k b.trail.vars other clause outcome)
    → IfOk result (λ outcome. (k : ClauseFamily) → Represents k b.clauses → k id ≡ None
    → IsStrengthened k b.trail.vars id clause outcome)
through-outcome b id clause kept (Err e) greedy all = tt
through-outcome b id clause kept (Ok outcome) greedy all = λ k is none.
    all k id is none (taken-there k id clause) (greedy k is)
