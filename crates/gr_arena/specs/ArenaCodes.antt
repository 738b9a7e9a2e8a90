-- how an arena's value is stored
use Rattle.std.specs.Prelude.{ℕ, Bool, List, refl}
use Rattle.std.specs.Coded.{Coded, code_by, coded×, coded_ℕ, coded_bool, coded_list}
use Rattle.std.specs.Ordering.{nat_cmp}
use Rattle.std.specs.FinMap as map
use Rattle.gr_logic.specs.Literals.{Literal}
use Rattle.gr_arena.specs.Arenas.{Stored, ArenaState}

-- a literal as an index and a sign
abbrev pub literal_code : Coded Literal
literal_code =
    code_by (ℕ × Bool) (coded× coded_ℕ coded_bool) (λ l. (l.index, l.positive))
    (λ p. record { index = p.0; positive = p.1 }) (λ _. refl)

-- a clause as its id, its LBD and its literals
abbrev pub stored_code : Coded Stored
stored_code =
    code_by (ℕ × (ℕ × List Literal)) (coded× coded_ℕ (coded× coded_ℕ (coded_list literal_code)))
    (λ s. (s.id, (s.lbd, s.lits))) (λ p. record { id = p.0; lbd = p.1.0; lits = p.1.1 }) (λ _. refl)

-- an arena as its clauses and a number of words
abbrev pub arena_code : Coded ArenaState
arena_code =
    code_by (map.FinMap nat_cmp Stored × ℕ) (coded× (map.code coded_ℕ stored_code) coded_ℕ)
    (λ a. (a.clauses, a.words)) (λ p. record { clauses = p.0; words = p.1 }) (λ _. refl)
