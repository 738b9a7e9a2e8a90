-- how what is seen of a search is stored
use Rattle.std.specs.Prelude.{◌≡◌, ℕ, Bool, List, [], ◌∷◌, refl, nat_eq, if◌then◌else◌}
use Rattle.std.specs.Coded.{Coded, code_by, coded×, coded_ℕ, coded_bool, coded_list}
use Rattle.std.specs.FinMap as map
use Rattle.gr_logic.specs.Literals.{Literal}
use Rattle.gr_logic.specs.Formulas.{Cnf}
use Rattle.gr_logic.specs.LiteralSets.{finite_set_code}
use Rattle.gr_logic.specs.Restarts.{RestartState}
use Rattle.gr_diary.specs.Tallies.{Tally}
use Rattle.gr_search.specs.Searches.{HeldClauses, Asked, Nothing, Learning, Deriving, Importing, Forgetting, Done, SearchView}

-- a literal as its index and its sign
abbrev literal_code : Coded Literal
literal_code =
    code_by (ℕ × Bool) (coded× coded_ℕ coded_bool) (λ l. (l.index, l.positive))
    (λ p. record { index = p.0; positive = p.1 }) (λ _. refl)

-- an ask as its kind, a clause, an LBD and ids
abbrev Parts : Type 0
Parts = ℕ × (List Literal × (ℕ × List ℕ))

-- the parts of an ask, its kind first
abbrev parts_of : Asked → Parts
parts_of Nothing = (0, ([], (0, [])))
parts_of (Learning c lbd) = (1, (c, (lbd, [])))
parts_of (Deriving l) = (2, (l ∷ [], (0, [])))
parts_of Importing = (3, ([], (0, [])))
parts_of (Forgetting ids) = (4, ([], (0, ids)))
parts_of Done = (5, ([], (0, [])))

-- the ask for the first literal of a clause
abbrev derived : List Literal → Asked
derived [] = Nothing
derived (l ∷ ls) = Deriving l

-- the ask with these parts
abbrev asked_of : Parts → Asked
asked_of p =
    if nat_eq p.0 0 then Nothing
    else (if nat_eq p.0 1 then Learning p.1.0 p.1.1.0
    else (if nat_eq p.0 2 then derived p.1.0
    else (if nat_eq p.0 3 then Importing else (if nat_eq p.0 4 then Forgetting p.1.1.1 else Done))))

-- an ask is the one with its parts
pub asked_of-parts_of : (a : Asked) → asked_of (parts_of a) ≡ a
asked_of-parts_of Nothing = refl
asked_of-parts_of (Learning c lbd) = refl
asked_of-parts_of (Deriving l) = refl
asked_of-parts_of Importing = refl
asked_of-parts_of (Forgetting ids) = refl
asked_of-parts_of Done = refl

-- an ask as its parts
abbrev asked_code : Coded Asked
asked_code =
    code_by Parts (coded× coded_ℕ (coded× (coded_list literal_code) (coded× coded_ℕ (coded_list coded_ℕ))))
    parts_of asked_of asked_of-parts_of

-- a formula as its number of variables and its clauses
abbrev cnf_code : Coded Cnf
cnf_code =
    code_by (ℕ × List (List Literal)) (coded× coded_ℕ (coded_list (coded_list literal_code)))
    (λ f. (f.vars, f.clauses)) (λ p. record { vars = p.0; clauses = p.1 }) (λ _. refl)

-- what restarts go by, as the number of LBDs, their sum, and the latest ones
abbrev restart_code : Coded RestartState
restart_code =
    code_by (ℕ × (ℕ × List ℕ)) (coded× coded_ℕ (coded× coded_ℕ (coded_list coded_ℕ)))
    (λ s. (s.pushes, (s.total, s.window))) (λ p. record { pushes = p.0; total = p.1.0; window = p.1.1 }) (λ _. refl)

-- what was counted, as its numbers, what restarts go by, and whether one waits
abbrev pub tally_code : Coded Tally
tally_code =
    code_by (ℕ × (ℕ × (ℕ × (RestartState × Bool))))
    (coded× coded_ℕ (coded× coded_ℕ (coded× coded_ℕ (coded× restart_code coded_bool))))
    (λ t. (t.learns, (t.forgets, (t.learns_since, (t.restart, t.waits)))))
    (λ p. record { learns = p.0; forgets = p.1.0; learns_since = p.1.1.0; restart = p.1.1.1.0; waits = p.1.1.1.1 })
    (λ _. refl)

-- a search as its formula, what it may do, what it holds and counted, its last ask, and the number that falls
abbrev pub search_code : Coded SearchView
search_code =
    code_by (Cnf × (ℕ × (Bool × (HeldClauses × (Tally × (Asked × ℕ))))))
    (coded× cnf_code
    (coded× coded_ℕ
    (coded× coded_bool
    (coded× (map.code coded_ℕ finite_set_code) (coded× tally_code (coded× asked_code coded_ℕ))))))
    (λ v. (v.formula, (v.limit, (v.keep_all, (v.held, (v.tally, (v.asked, v.left)))))))
    (λ p. record {
      formula = p.0;
      limit = p.1.0;
      keep_all = p.1.1.0;
      held = p.1.1.1.0;
      tally = p.1.1.1.1.0;
      asked = p.1.1.1.1.1.0;
      left = p.1.1.1.1.1.1;
    })
    (λ _. refl)
