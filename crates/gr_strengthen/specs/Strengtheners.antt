-- what contracts see of a strengthener
use Rattle.std.specs.Prelude.{ℕ, List, refl}
use Rattle.std.specs.Coded.{Coded, code_by, coded×, coded_ℕ, coded_list}
use Rattle.std.specs.FinMap as finite
use Rattle.gr_logic.specs.Literals.{Literal}
use Rattle.gr_logic.specs.Formulas.{Cnf}
use Rattle.gr_logic.specs.LiteralSets.{finite_set_code}
use Rattle.gr_arena.specs.ArenaCodes.{literal_code}
use Rattle.gr_strengthen.specs.Families.{KeptClauses}

-- a formula, and the clauses that are kept beside it
pub record StrengthenerState : Type 0 where
  pub formula : Cnf
  pub kept : KeptClauses

-- a strengthener as a number, the formula's clauses, and a map
abbrev pub strengthener_code : Coded StrengthenerState
strengthener_code =
    code_by (ℕ × (List (List Literal) × KeptClauses))
    (coded× coded_ℕ (coded× (coded_list (coded_list literal_code)) (finite.code coded_ℕ finite_set_code)))
    (λ s. (s.formula.vars, (s.formula.clauses, s.kept)))
    (λ p. record { formula = record { vars = p.0; clauses = p.1.0 }; kept = p.1.1 }) (λ _. refl)
