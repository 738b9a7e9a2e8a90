-- what an analysis touches is named by the clauses that it meets
use Rattle.std.proofs.Common.{◌≡◌, ◌⊎◌, ◌++◌, ℕ, ◌<◌, Bool, true, false, ◌||◌, List, [], ◌∷◌, refl, sym, ap, ◌∙◌, inl, inr, arith, nat_eq}
use Rattle.std.proofs.lemmas.Bool.Decides.{nat_tests}
use Rattle.gr_logic.specs.Literals.{Literal, var_of}
use Rattle.gr_logic.specs.Rup.{members}
use Rattle.gr_logic.proofs.SameLiteral.{members-first, members-later}
use Rattle.gr_arena.specs.Arenas.{ArenaState}
use Rattle.gr_trail.specs.Trails.{TrailState}
use Rattle.gr_hints.specs.Marking.{is_marked}
use Rattle.gr_hints.proofs.MarkedLists.{is_marked-push}
use Rattle.gr_analyze.specs.Graphs.{level_of}
use Rattle.gr_analyze.specs.Standings.{standing_at, is_unmet}
use Rattle.gr_analyze.specs.Noting.{Noted, with_met, with_new, with_clause}
use Rattle.gr_analyze.specs.Resolving.{IsMore, IsNamedBehind, AddsNamed}

pushed : (xs : List ℕ) (v var : ℕ) → is_marked (xs ++ v ∷ []) var ≡ true → (is_marked xs var ≡ true) ⊎ (v ≡ var)
pushed xs v var m = go (is_marked xs var) refl
  where
    go : (b : Bool) → is_marked xs var ≡ b → (is_marked xs var ≡ true) ⊎ (v ≡ var)
    go true e = inl e
    go false e =
        let n : nat_eq var v ≡ true = sym (is_marked-push xs v var ∙ ap (λ b. b || nat_eq var v) e) ∙ m in
        inr (grind (arith, nat_tests))

module _ (t : TrailState) (s : Noted) (l : Literal) (var : ℕ) where
  met-named : is_marked (with_met t s l).touched var ≡ true → (is_marked s.touched var ≡ true) ⊎ (var_of l ≡ var)
  met-named = go (nat_eq (level_of t.assigned l) 0) (nat_eq (level_of t.assigned l) t.depth) refl refl
    where
      go : (a b : Bool) → nat_eq (level_of t.assigned l) 0 ≡ a → nat_eq (level_of t.assigned l) t.depth ≡ b
          → is_marked (with_met t s l).touched var ≡ true → (is_marked s.touched var ≡ true) ⊎ (var_of l ≡ var)
      go true b ea eb m = inl (subst-touched m)
        where
          subst-touched : is_marked (with_met t s l).touched var ≡ true → is_marked s.touched var ≡ true
          subst-touched m = rw ea at m
      go false true ea eb m = pushed s.touched (var_of l) var (rw eb at (rw ea at m))
      go false false ea eb m = pushed s.touched (var_of l) var (rw eb at (rw ea at m))

  new-named : is_marked (with_new t s l).touched var ≡ true → (is_marked s.touched var ≡ true) ⊎ (var_of l ≡ var)
  new-named = go (is_unmet (standing_at s.standings l.index)) refl
    where
      go : (a : Bool) → is_unmet (standing_at s.standings l.index) ≡ a
          → is_marked (with_new t s l).touched var ≡ true → (is_marked s.touched var ≡ true) ⊎ (var_of l ≡ var)
      go true e m = met-named (rw e at m)
      go false e m = inl (rw e at m)

-- what a clause adds is a variable of it
pub clause-named : (t : TrailState) (s : Noted) (ls : List Literal) (var : ℕ)
    → is_marked (with_clause t s ls).touched var ≡ true
    → (is_marked s.touched var ≡ true) ⊎ ((q : Literal) × ((members ls q ≡ true) × (var_of q ≡ var)))
clause-named t s [] var m = inl m
clause-named t s (l ∷ ls) var m = go (clause-named t (with_new t s l) ls var m)
  where
    go : (is_marked (with_new t s l).touched var ≡ true) ⊎ ((q : Literal) × ((members ls q ≡ true) × (var_of q ≡ var)))
        → (is_marked s.touched var ≡ true) ⊎ ((q : Literal) × ((members (l ∷ ls) q ≡ true) × (var_of q ≡ var)))
    go (inl m) = first (new-named t s l var m)
      where
        first : (is_marked s.touched var ≡ true) ⊎ (var_of l ≡ var)
            → (is_marked s.touched var ≡ true) ⊎ ((q : Literal) × ((members (l ∷ ls) q ≡ true) × (var_of q ≡ var)))
        first (inl old) = inl old
        first (inr is) = inr (l, (members-first l ls, is))
    go (inr n) = inr (n.0, (members-later n.0 l ls n.1.0, n.1.1))

-- one stretch of the walk after the other
pub named-on : (arena : ArenaState) (t : TrailState) (place next : ℕ) (s u w : Noted) → next < place → IsMore u w
    → AddsNamed arena t place s u → AddsNamed arena t next u w → AddsNamed arena t next s w
named-on arena t place next s u w low more one two var m = second (two var m)
  where
    kept : IsNamedBehind arena t place u var → IsNamedBehind arena t next w var
    kept n = record {
      by = n.by;
      behind = n.behind;
      at = n.at;
      later = let h = n.later in omega arith;
      cited = more.cited (var_of n.by.lit) n.cited;
      level = n.level;
      reason = n.reason;
      is = n.is;
      there = n.there;
      other = n.other;
      names = n.names;
    }

    first : (is_marked s.touched var ≡ true) ⊎ IsNamedBehind arena t place u var
        → (is_marked s.touched var ≡ true) ⊎ IsNamedBehind arena t next w var
    first (inl old) = inl old
    first (inr n) = inr (kept n)

    second : (is_marked u.touched var ≡ true) ⊎ IsNamedBehind arena t next w var
        → (is_marked s.touched var ≡ true) ⊎ IsNamedBehind arena t next w var
    second (inl mid) = first (one var mid)
    second (inr n) = inr n

-- nothing was touched since
pub named-itself : (arena : ArenaState) (t : TrailState) (place : ℕ) (s : Noted) → AddsNamed arena t place s s
named-itself arena t place s var m = inl m
