-- what holds of notes holds where more is met and cited
use Rattle.std.proofs.Common.{◌≡◌, ◌⊎◌, ℕ, ◌+◌, true, List, take, inl, inr}
use Rattle.std.specs.Prelude.{All}
use Rattle.std.proofs.lemmas.List.Elements.{All-weaker}
use Rattle.gr_logic.specs.Literals.{Literal, var_of}
use Rattle.gr_arena.specs.Arenas.{ArenaState}
use Rattle.gr_trail.specs.Trails.{Assigned, TrailState, true_in}
use Rattle.gr_hints.specs.Marking.{is_marked}
use Rattle.gr_analyze.specs.Graphs.{has_variable}
use Rattle.gr_analyze.specs.Noting.{Noted}
use Rattle.gr_analyze.specs.Resolving.{IsCovered, IsMore, IsResolved, IsPlaced, IsKept, IsCited}

pub covered-more : (s u : Noted) (q : Literal) → IsMore s u → IsCovered s q → IsCovered u q
covered-more s u q more (inl met) = inl (more.met q.index met)
covered-more s u q more (inr mark) = inr (more.cited (q.index + 1) mark)

pub more-itself : (s : Noted) → IsMore s s
more-itself s = record { met = λ i m. m; cited = λ v m. m }

pub more-on : (s u w : Noted) → IsMore s u → IsMore u w → IsMore s w
more-on s u w one two = record {
  met = λ i m. two.met i (one.met i m);
  cited = λ v m. two.cited v (one.cited v m);
}

pub resolved-more : (arena : ArenaState) (s u : Noted) (a : Assigned) → IsMore s u
    → IsResolved arena s a → IsResolved arena u a
resolved-more arena s u a more r = (r.0, (r.1.0, λ q has. covered-more s u q more (r.1.1 q has)))

pub cited-more : (arena : ArenaState) (t : TrailState) (s u : Noted) (a : Assigned) → IsMore s u
    → IsCited arena t s a → IsCited arena t u a
cited-more arena t s u a more (inl zero') = inl zero'
cited-more arena t s u a more (inr r) =
    inr (more.met a.lit.index r.0, (r.1.0, resolved-more arena s u a more r.1.1))

pub placed-more : (t : TrailState) (end : ℕ) (s u : Noted) (a : Assigned) → IsMore s u
    → (has_variable s.lits a.lit.index ≡ true → has_variable u.lits a.lit.index ≡ true)
    → IsPlaced t end s a → IsPlaced t end u a
placed-more t end s u a more lits (inl p) = inl (p.0, inside p.1)
  where
    inside : (true_in (take end t.assigned) a.lit ≡ true)
        ⊎ (is_marked s.cited (var_of a.lit) ≡ true)
        → (true_in (take end t.assigned) a.lit ≡ true) ⊎ (is_marked u.cited (var_of a.lit) ≡ true)
    inside (inl at) = inl at
    inside (inr mark) = inr (more.cited (var_of a.lit) mark)
placed-more t end s u a more lits (inr p) = inr (p.0, lits p.1)

pub kept-more : (t : TrailState) (s u : Noted) (ls : List Literal) → IsMore s u
    → All (IsKept t s) ls → All (IsKept t u) ls
kept-more t s u ls more all = All-weaker (IsKept t s) (IsKept t u)
    (λ l k. record { gone = k.gone; met = more.met l.index k.met; low = k.low }) ls all
