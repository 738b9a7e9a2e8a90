-- how many clauses there are
use Rattle.std.proofs.Common.{◌<◌, ◌≤◌, ◌+◌, ◌-◌, ◌*◌, ℕ, List, ◌++◌, map, length, arith}
use Rattle.std.specs.List.{flat_map, range_with_len}
use Rattle.std.proofs.lemmas.List.{length-append}
use Rattle.std.proofs.lemmas.List.FromFn.{length-map-range_with_len}
use Rattle.gr_logic.specs.Literals.{Literal}
use Rattle.gr_gen.specs.OddRings.{chain, differ}
use Rattle.gr_gen.specs.Pigeonholes.{is_somewhere, apart, apart_from_later, alone_in}
use Rattle.gr_gen.proofs.Counting.{length-flat_map-le}

pub length-chain : (n : ℕ) → length (chain n) ≤ n * 2
length-chain n = length-flat_map-le (λ i. differ i (i + 1)) 2 0 n (λ i. omega arith)

module _ (holes : ℕ) (few : holes < 50) where
  length-later : (hole pigeon : ℕ) → length (apart_from_later holes hole pigeon) ≤ 50
  length-later hole pigeon =
      let long = length-map-range_with_len (apart holes hole pigeon) (pigeon + 1) (holes - pigeon) in omega arith

  pub length-apart : (front : List (List Literal)) (hole pigeon : ℕ)
      → length (front ++ flat_map (apart_from_later holes hole) (range_with_len 0 pigeon))
      ≤ length front + pigeon * 50
  length-apart front hole pigeon =
      let all = length-append front (flat_map (apart_from_later holes hole) (range_with_len 0 pigeon)) in
      let later = length-flat_map-le (apart_from_later holes hole) 50 0 pigeon (length-later hole) in omega arith

  length-alone : (hole : ℕ) → length (alone_in holes hole) ≤ 2_500
  length-alone hole =
      let all = length-flat_map-le (apart_from_later holes hole) 50 0 (holes + 1) (length-later hole) in omega arith

  pub length-crowd : (n hole : ℕ)
      → length (map (is_somewhere holes) (range_with_len 0 n) ++ flat_map (alone_in holes) (range_with_len 0 hole))
      ≤ n + hole * 2_500
  length-crowd n hole =
      let all = length-append (map (is_somewhere holes) (range_with_len 0 n))
      (flat_map (alone_in holes) (range_with_len 0 hole)) in
      let first = length-map-range_with_len (is_somewhere holes) 0 n in
      let rest = length-flat_map-le (alone_in holes) 2_500 0 hole length-alone in omega arith
