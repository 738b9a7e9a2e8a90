-- how a base's value is stored
use Rattle.std.specs.Prelude.{ℕ, Bool, List, Option, refl}
use Rattle.std.specs.Coded.{Coded, code_by, coded×, coded_ℕ, coded_bool, coded_list, coded_option}
use Rattle.std.specs.FinMap as finite
use Rattle.gr_logic.specs.Literals.{Literal}
use Rattle.gr_logic.specs.LiteralSets.{FiniteSet, finite_set_code}
use Rattle.gr_logic.specs.declared.places.Place.{Place}
use Rattle.gr_arena.specs.ArenaCodes.{literal_code}
use Rattle.gr_trail.specs.Trails.{Assigned, TrailState}
use Rattle.gr_prop.specs.Bases.{BaseClause, BaseState, Clauses}

-- a place as its number
abbrev pub place_code : Coded Place
place_code = code_by ℕ coded_ℕ (λ p. p.0) (λ n. record { 0 = n }) (λ _. refl)

-- a clause as its id, its LBD and its literals
abbrev pub base_clause_code : Coded BaseClause
base_clause_code =
    code_by (ℕ × (ℕ × FiniteSet)) (coded× coded_ℕ (coded× coded_ℕ finite_set_code))
    (λ c. (c.id, (c.lbd, c.literals))) (λ p. record { id = p.0; lbd = p.1.0; literals = p.1.1 }) (λ _. refl)

-- an assignment as its literal, its level and its reason
abbrev pub assigned_code : Coded Assigned
assigned_code =
    code_by (Literal × (ℕ × Option Place)) (coded× literal_code (coded× coded_ℕ (coded_option place_code)))
    (λ a. (a.lit, (a.level, a.reason))) (λ p. record { lit = p.0; level = p.1.0; reason = p.1.1 }) (λ _. refl)

-- a trail as its numbers of variables and levels and its assignments
abbrev pub trail_code : Coded TrailState
trail_code =
    code_by (ℕ × (ℕ × List Assigned)) (coded× coded_ℕ (coded× coded_ℕ (coded_list assigned_code)))
    (λ t. (t.vars, (t.depth, t.assigned)))
    (λ p. record { vars = p.0; depth = p.1.0; assigned = p.1.1 }) (λ _. refl)

-- a base as its clauses, its trail, and how propagation ended
abbrev pub base_code : Coded BaseState
base_code =
    code_by (Clauses × (TrailState × (Bool × Option Place)))
    (coded× (finite.code coded_ℕ base_clause_code) (coded× trail_code (coded× coded_bool (coded_option place_code))))
    (λ b. (b.clauses, (b.trail, (b.quiet, b.conflict))))
    (λ p. record { clauses = p.0; trail = p.1.0; quiet = p.1.1.0; conflict = p.1.1.1 }) (λ _. refl)
