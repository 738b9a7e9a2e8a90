-- how the values of models are stored
use Rattle.std.specs.Prelude.{ℕ, Bool, refl}
use Rattle.std.specs.Coded.{Coded, code_by, coded×, coded_ℕ, coded_bool, coded_list}
use Rattle.std.specs.FinMap as map
use Rattle.gr_logic.specs.Literals.{Literal}
use Rattle.gr_logic.specs.Log.{Clauses, LogState}

-- a literal as the pair of its fields
abbrev pub literal_code : Coded Literal
literal_code =
    code_by (ℕ × Bool) (coded× coded_ℕ coded_bool) (λ l. (l.index, l.positive))
    (λ p. record { index = p.0; positive = p.1 }) (λ _. refl)

-- clauses by their ids
abbrev pub clauses_code : Coded Clauses
clauses_code = map.code coded_ℕ (coded_list literal_code)

-- a log's state as pairs of its fields
abbrev pub log_state_code : Coded LogState
log_state_code =
    code_by ((ℕ × ℕ) × (Clauses × Bool))
    (coded× (coded× coded_ℕ coded_ℕ) (coded× clauses_code coded_bool))
    (λ s. ((s.vars, s.last), (s.live, s.refuted)))
    (λ p. record { vars = p.0.0; last = p.0.1; live = p.1.0; refuted = p.1.1 }) (λ _. refl)
