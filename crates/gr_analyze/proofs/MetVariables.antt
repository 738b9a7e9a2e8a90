-- just what the conflict and the resolved reasons name is touched
use Rattle.std.proofs.Common.{◌≡◌, ◌⊎◌, ℕ, ◌+◌, ◌<◌, Bool, true, false, ◌||◌, List, [], ◌∷◌, Some, refl, sym, ap, ◌∙◌, inl, inr, arith, nat_eq}
use Rattle.std.specs.Prelude.{All}
use Rattle.std.proofs.lemmas.Bool.Decides.{nat_tests}
use Rattle.std.proofs.lemmas.List.Elements.{All-head, All-tail}
use Rattle.gr_logic.specs.Literals.{Literal, var_of}
use Rattle.gr_logic.specs.Rup.{members}
use Rattle.gr_logic.specs.declared.places.Place.{Place}
use Rattle.gr_arena.specs.Arenas.{ArenaState, at}
use Rattle.gr_trail.specs.Trails.{Assigned, TrailState, IsTrail, assigned_to}
use Rattle.gr_hints.specs.Marking.{is_marked}
use Rattle.gr_hints.specs.Gathering.{literals_at}
use Rattle.gr_hints.proofs.Assignments.{assigned-at, found-is, one-place}
use Rattle.gr_analyze.specs.Graphs.{level_of, has_variable}
use Rattle.gr_analyze.specs.Noting.{Noted, no_notes, with_clause}
use Rattle.gr_analyze.specs.Resolving.{has_met, IsCovered, IsKept, IsCited, HasFound, Names, IsNamedBehind, HasNamed}
use Rattle.gr_analyze.specs.Learning.{IsOfFirst, IsResolvedWithin, HasMetWithin}
use Rattle.gr_analyze.proofs.Touchings.{clause-named}
use Rattle.gr_analyze.proofs.Walks.{last-met}
use Rattle.gr_analyze.proofs.Analyses.{IsFirst, level-by, same}

module _ (arena : ArenaState) (t : TrailState) (place : Place) (s : Noted) (uip first : Literal)
    (others : List Literal) (trail : IsTrail t) (high : 0 < t.depth) (f : HasFound arena t s uip)
    (is : IsFirst t uip first) where
  covered-touched : (q : Literal) → IsCovered s q → 0 < level_of t.assigned q → is_marked s.touched (var_of q) ≡ true
  covered-touched q (inl m) up = f.walked.resolving.touching.met q.index m
  covered-touched q (inr mark) up =
      let c = f.walked.resolving.cited (var_of q) mark in go c.0 c.1.0 c.1.1
    where
      go : (a : Assigned) → assigned_to t.assigned (var_of q) ≡ Some a → IsCited arena t s a
          → is_marked s.touched (var_of q) ≡ true
      go a to (inl low) = absurd (let e = level-by t q a to in omega arith)
      go a to (inr h) =
          let e = found-is t.assigned (var_of q) a to in
          let i : a.lit.index ≡ q.index = omega arith in
          ap (λ n. is_marked s.touched (n + 1)) (sym i) ∙ f.walked.resolving.touching.met a.lit.index h.0

  -- the clause so far is of lower levels
  kept-low : (ls : List Literal) → All (IsKept t s) ls → (a : Assigned)
      → assigned_to t.assigned (var_of a.lit) ≡ Some a → has_variable ls a.lit.index ≡ true → a.level < t.depth
  kept-low [] all a to has = absurd (cc)
  kept-low (l ∷ ls) all a to has =
      go (nat_eq l.index a.lit.index) refl (kept-low ls (All-tail (IsKept t s) l ls all) a to)
    where
      go : (b : Bool) → nat_eq l.index a.lit.index ≡ b → (has_variable ls a.lit.index ≡ true → a.level < t.depth)
          → a.level < t.depth
      go true e rest =
          let v : l.index ≡ a.lit.index = grind (arith, nat_tests) in
          let k = (All-head (IsKept t s) l ls all).low in
          let g = level-by t l a (ap (λ n. assigned_to t.assigned (n + 1)) v ∙ to) in
          omega arith
      go false e rest = rest (sym (ap (λ b. b || has_variable ls a.lit.index) e) ∙ has)

  -- what is named behind the first UIP is so by a resolved variable
  resolved-with : (m : Noted) (n : HasNamed arena t uip m s) (var : ℕ) → IsNamedBehind arena t n.place s var
      → IsResolvedWithin arena t (first ∷ others) s.touched var
  resolved-with m n var b = record {
    by = b.by;
    to = to;
    mark = mark c.0 c.1.0 c.1.1;
    level = b.level;
    apart = λ e.
        let same-var : n.here.lit.index ≡ b.by.lit.index =
        ap (λ (q : Literal). q.index) n.lit ∙ sym is.index ∙ sym e in
        let p = one-place t.assigned n.place b.behind n.here b.by trail.distinct n.at b.at same-var in
        let later = b.later in absurd (omega arith);
    reason = b.reason;
    is = b.is;
    other = b.other;
    there = b.there;
    names = b.names;
  }
    where
      to : assigned_to t.assigned (var_of b.by.lit) ≡ Some b.by
      to = assigned-at t.assigned b.behind b.by trail.distinct b.at

      c : (a : Assigned) × ((assigned_to t.assigned (var_of b.by.lit) ≡ Some a) × IsCited arena t s a)
      c = f.walked.resolving.cited (var_of b.by.lit) b.cited

      mark : (a : Assigned) → assigned_to t.assigned (var_of b.by.lit) ≡ Some a
          → IsCited arena t s a → is_marked s.touched (var_of b.by.lit) ≡ true
      mark a read (inl low) =
          absurd (let g : a.level ≡ b.by.level = ap (λ (x : Assigned). x.level) (same a b.by (sym read ∙ to)) in
          let l = b.level in omega arith)
      mark a read (inr h) =
          let i : a.lit.index ≡ b.by.lit.index = ap (λ (x : Assigned). x.lit.index) (same a b.by (sym read ∙ to)) in
          f.walked.resolving.touching.met b.by.lit.index (ap (has_met s) (sym i) ∙ h.0)

  pub found-met : ((q : Literal) → literals_at arena place q ≡ true → IsCovered s q) → (m : Noted)
      → HasNamed arena t uip m s
      → ((var : ℕ) → is_marked m.touched var ≡ true → Names (literals_at arena place) var)
      → HasMetWithin arena t place (first ∷ others) s.touched
  found-met conflict m n begun = record {
    of_conflict = λ q has up. covered-touched q (conflict q has) up;
    of_reasons = λ a reason to mark level apart by q has up.
        let w = f.walked in
        let met-here : has_met s w.here.lit.index ≡ true = ap (λ (q : Literal). has_met s q.index) w.lit ∙ w.met in
        let m = w.resolving.touched a.lit.index mark in
        split a reason to level apart by q has up
        (last-met arena t s trail f.place w.here w.at met-here w.resolving f.one a.lit.index m);
    only = λ var mark. named var (n.named var mark);
  }
    where
      named : (var : ℕ) → (is_marked m.touched var ≡ true) ⊎ IsNamedBehind arena t n.place s var
          → Names (literals_at arena place) var ⊎ IsResolvedWithin arena t (first ∷ others) s.touched var
      named var (inl old) = inl (begun var old)
      named var (inr b) = inr (resolved-with m n var b)

      cited : (a : Assigned) (reason : Place) (b : Assigned) → b ≡ a → a.level ≡ t.depth → a.reason ≡ Some reason
          → IsCited arena t s b → (q : Literal) → literals_at arena reason q ≡ true → IsCovered s q
      cited a reason b e level by (inl low) q has =
          absurd (let g : b.level ≡ a.level = ap (λ (x : Assigned). x.level) e in omega arith)
      cited a reason b e level by (inr h) q has =
          let r = h.1.1 in
          let k : Some r.0 ≡ Some reason = sym r.1.0 ∙ ap (λ (x : Assigned). x.reason) e ∙ by in
          r.1.1 q (ap (λ p. literals_at arena p q) (same r.0 reason k) ∙ has)

      split : (a : Assigned) (reason : Place) → assigned_to t.assigned (var_of a.lit) ≡ Some a → a.level ≡ t.depth
          → (IsOfFirst (first ∷ others) a.lit → ⊥) → a.reason ≡ Some reason → (q : Literal)
          → literals_at arena reason q ≡ true → 0 < level_of t.assigned q
          → (a.lit.index ≡ f.walked.here.lit.index)
          ⊎ ((is_marked s.cited (a.lit.index + 1) ≡ true) ⊎ (has_variable s.lits a.lit.index ≡ true))
          → is_marked s.touched (var_of q) ≡ true
      split a reason to level apart by q has up (inl e) =
          absurd (apart (e ∙ ap (λ (l : Literal). l.index) f.walked.lit ∙ sym is.index))
      split a reason to level apart by q has up (inr (inl mark)) =
          let c = f.walked.resolving.cited (a.lit.index + 1) mark in
          covered-touched q (cited a reason c.0 (same c.0 a (sym c.1.0 ∙ to)) level by c.1.1 q has) up
      split a reason to level apart by q has up (inr (inr h)) =
          absurd (let low = kept-low s.lits f.walked.resolving.kept a to h in omega arith)

-- what the conflict touches is named by it
pub conflict-named : (arena : ArenaState) (t : TrailState) (place : Place) (clear u : Noted) (n : ℕ)
    (clause : List Literal) → clear ≡ no_notes n → clause ≡ (at arena place).lits → u ≡ with_clause t clear clause
    → (var : ℕ) → is_marked u.touched var ≡ true → Names (literals_at arena place) var
conflict-named arena t place clear u n clause cleared lits is var m =
    go (clause-named t (no_notes n) (at arena place).lits var
    (ap (λ (w : Noted). is_marked w.touched var) (sym begun) ∙ m))
  where
    begun : u ≡ with_clause t (no_notes n) (at arena place).lits
    begun = is ∙ ap (λ s. with_clause t s clause) cleared ∙ ap (with_clause t (no_notes n)) lits

    go : (is_marked [] var ≡ true)
        ⊎ ((q : Literal) × ((members (at arena place).lits q ≡ true) × (var_of q ≡ var)))
        → Names (literals_at arena place) var
    go (inl none) = absurd (cc)
    go (inr named) = (named.0, (named.1.0, named.1.1))
