-- the pigeonhole principle: n pigeons in n - 1 holes, none of which has two (Cook and Reckhow, 1979)
use Rattle.std.specs.Prelude.{ℕ, ◌+◌, ◌-◌, ◌*◌, List, [], ◌∷◌, ◌++◌, map}
use Rattle.std.specs.List.{flat_map, range_with_len}
use Rattle.gr_logic.specs.Literals.{Literal}
use Rattle.gr_logic.specs.Formulas.{Cnf}
use Rattle.gr_gen.specs.OddRings.{is, is_not}

-- the variable that says that the pigeon is in the hole, all counted from 0: pigeon by pigeon, and of each hole by hole
abbrev pub nest : ℕ → ℕ → ℕ → ℕ
nest holes pigeon hole = pigeon * holes + hole

-- the pigeon is in one of the holes
abbrev pub is_somewhere : ℕ → ℕ → List Literal
is_somewhere holes pigeon = map (λ hole. is (nest holes pigeon hole)) (range_with_len 0 holes)

-- two pigeons are not both in the hole
abbrev pub apart : ℕ → ℕ → ℕ → ℕ → List Literal
apart holes hole pigeon other = is_not (nest holes pigeon hole) ∷ is_not (nest holes other hole) ∷ []

-- of one pigeon more than holes, this one is in the hole with none of the later ones
abbrev pub apart_from_later : ℕ → ℕ → ℕ → List (List Literal)
apart_from_later holes hole pigeon =
    map (apart holes hole pigeon) (range_with_len (pigeon + 1) (holes - pigeon))

-- no two pigeons are in the hole
abbrev pub alone_in : ℕ → ℕ → List (List Literal)
alone_in holes hole = flat_map (apart_from_later holes hole) (range_with_len 0 (holes + 1))

-- each of one pigeon more than holes is somewhere, and no two are in one hole
abbrev pub crowd : ℕ → Cnf
crowd holes = record {
  vars = (holes + 1) * holes;
  clauses = map (is_somewhere holes) (range_with_len 0 (holes + 1))
      ++ flat_map (alone_in holes) (range_with_len 0 holes);
}

-- n pigeons, and one hole less
abbrev pub pigeonhole : ℕ → Cnf
pigeonhole n = crowd (n - 1)
