-- unit closure grows with the clauses and the given literals
use Rattle.std.proofs.Common.{◌≡◌, ℕ, inl, inr, Some}
use Rattle.gr_logic.specs.Literals.{Literal, negation}
use Rattle.gr_logic.specs.Rup.{LiteralSet}
use Rattle.gr_logic.specs.Closure.{ClauseFamily, IsWithin, IsPartOf, Forces, InClosure, DerivesConflict, no_literals}
use Rattle.gr_logic.specs.ClosureLaws.{ClosureGrows}

-- what few literals force, more literals force
pub Forces-within : (one other clause : LiteralSet) (l : Literal) → IsWithin one other → Forces one clause l
    → Forces other clause l
Forces-within one other clause l within forced = record {
  has = forced.has;
  others = λ q m apart. within (negation q) (forced.others q m apart);
}

closure-more : (few more : ClauseFamily) → IsPartOf few more → (one other : LiteralSet) → IsWithin one other
    → (l : Literal) → InClosure few one l → InClosure more other l
closure-more few more part one other within l derived set given closed =
    derived set (λ q e. given q (within q e)) (λ i c q is forced.
    let there : (j : ℕ) × (more j ≡ Some c) = part i c is in closed there.0 c q there.1 forced)

conflict-more : (few more : ClauseFamily) → IsPartOf few more → (one other : LiteralSet) → IsWithin one other
    → DerivesConflict few one → DerivesConflict more other
conflict-more few more part one other within (inl two) =
    inl (
      two.0,
      (
        closure-more few more part one other within two.0 two.1.0,
        closure-more few more part one other within (negation two.0) two.1.1,
      ),
    )
conflict-more few more part one other within (inr empty) = inr (part empty.0 no_literals empty.1)

pub closure-grows : ClosureGrows
closure-grows few more part one other within =
    (closure-more few more part one other within, conflict-more few more part one other within)
