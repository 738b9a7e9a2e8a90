-- which learnt clauses are forgotten (the measure is the literal block distance of Audemard and Simon,
-- IJCAI 2009; the order is this program's own)
use Rattle.std.specs.Prelude.{◌≡◌, ◌⊎◌, ◌↔◌, ◌<◌, ◌≤◌, ◌/◌, ℕ, List, length, take, map, All, AllPairs, Contains, Some, nat_eq}
use Rattle.std.specs.List.{IsDistinct}
use Rattle.std.specs.List.Sorted.{IsPermutation}
use Rattle.std.specs.FinMap as finite
use Rattle.std.specs.FinSet as set
use Rattle.gr_prop.specs.Bases.{BaseClause, Clauses}
use Rattle.gr_import.specs.declared.ranks.Rank.{Rank}

-- a clause by its LBD, the number of its literals and its id
pub record Ranked : Type 0 where
  pub lbd : ℕ
  pub len : ℕ
  pub id : ℕ

-- the clause is forgotten before the other: its LBD is greater, or else it has more literals, or else its id is less
abbrev pub GoesBefore : Ranked → Ranked → Type 0
GoesBefore c d = (d.lbd < c.lbd) ⊎ ((c.lbd ≡ d.lbd) × ((d.len < c.len) ⊎ ((c.len ≡ d.len) × (c.id < d.id))))

-- a learnt clause with an LBD of at least 3, where the ids of learnt clauses begin with the first
pub record IsCandidate (k : Clauses) (first : ℕ) (r : Ranked) : Type 0 where
  pub place : ℕ
  pub clause : BaseClause
  pub there : finite.get k place ≡ Some clause
  pub id : r.id ≡ clause.id
  pub lbd : r.lbd ≡ clause.lbd
  pub len : r.len ≡ set.len clause.literals
  pub learnt : first ≤ clause.id
  pub weak : 3 ≤ clause.lbd

-- half of the candidates, rounded down: those that go before the others
pub record AreWeakest (k : Clauses) (first : ℕ) (ids : List ℕ) : Type 0 where
  pub ranked : List Ranked
  pub each : (r : Ranked) → Contains ranked r ↔ IsCandidate k first r
  pub order : AllPairs GoesBefore ranked
  pub rising : AllPairs (λ a b. a < b) ids
  pub half : IsPermutation (map (λ r. r.id) (take (length ranked / 2) ranked)) ids

-- what a rank says of its clause
abbrev pub ranked_of : Rank → Ranked
ranked_of rank = record { lbd = rank.lbd.0; len = rank.len.0; id = rank.id }

-- each candidate among the clauses with these ids is there once, and nothing else
pub record AreRanks (k : Clauses) (first : ℕ) (ids : List ℕ) (ranks : List Rank) : Type 0 where
  pub each : All (λ x. IsCandidate k first (ranked_of x)) ranks
  pub all : (r : Ranked) → IsCandidate k first r → Contains ids r.id → Contains (map ranked_of ranks) r
  pub among : All (λ x. Contains ids x.id) ranks
  pub distinct : IsDistinct nat_eq (map (λ x. x.id) ranks)

-- each candidate is there once, and nothing else
pub record AreAllRanks (k : Clauses) (first : ℕ) (ranks : List Rank) : Type 0 where
  pub each : All (λ x. IsCandidate k first (ranked_of x)) ranks
  pub all : (r : Ranked) → IsCandidate k first r → Contains (map ranked_of ranks) r
  pub distinct : IsDistinct nat_eq (map (λ x. x.id) ranks)
