-- the reasons of a base's trail, as its arena has them
use Rattle.std.proofs.Common.{◌≡◌, ℕ, ◌≤◌, Bool, true, false, ◌||◌, List, [], ◌∷◌, length, Option, Some, IsSome, refl, sym, ap, ◌∙◌, subst, arith}
use Rattle.std.specs.Prelude.{IfSome}
use Rattle.std.specs.Option.{option_map}
use Rattle.std.specs.Ordering.{nat_cmp}
use Rattle.std.specs.FinMap as finite
use Rattle.std.specs.FinSet as set
use Rattle.gr_logic.specs.Literals.{Literal, var_of, same_literal}
use Rattle.gr_logic.specs.Rup.{LiteralSet, members}
use Rattle.gr_logic.specs.declared.places.Place.{Place}
use Rattle.gr_logic.proofs.Sound.{same_literal-is}
use Rattle.gr_arena.specs.Arenas.{Stored}
use Rattle.gr_trail.specs.Trails.{Assigned, TrailState, IsTrail, assigned_to}
use Rattle.gr_trail.proofs.Climbing.{level-ends}
use Rattle.gr_prop.specs.Bases.{BaseClause, BaseState, Clauses, IsBase, base_clause, clauses_in, family}
use Rattle.gr_prop.specs.Watching.{Store, stored_at}
use Rattle.gr_prop.proofs.Founded.{reason-there}
use Rattle.gr_prop.proofs.Lookups.{some-stored}
use Rattle.gr_prop.proofs.Stores.{some-is, get-clauses_in, contains-clause, family-there}
use Rattle.gr_search.specs.Keeping.{IsSettled}

-- a reason is in the arena
pub reason-stored : (b : BaseState) (t : TrailState) (k : finite.FinMap nat_cmp Stored) (var : ℕ) (place : Place)
    → IsBase b → t ≡ b.trail → clauses_in k ≡ b.clauses
    → option_map (λ (a : Assigned). a.reason) (assigned_to t.assigned var) ≡ Some (Some place)
    → IsSome (finite.get k place.0)
reason-stored b t k var place base same clauses is =
    some-stored k b.clauses place.0 clauses
    (reason-there b var (Some place) base
    (sym (ap (λ (u : TrailState). option_map (λ (a : Assigned). a.reason) (assigned_to u.assigned var)) same) ∙ is)).1

-- the reason that is told of a variable is that of its assignment
pub one-reason : (t u : TrailState) (l : Literal) (var : ℕ) (place : Place) (a : Assigned) → t ≡ u → var ≡ var_of l
    → option_map (λ (a : Assigned). a.reason) (assigned_to t.assigned var) ≡ Some (Some place)
    → assigned_to u.assigned (var_of l) ≡ Some a → a.reason ≡ Some place
one-reason t u l var place a same is told to =
    let e : option_map (λ (x : Assigned). x.reason) (assigned_to t.assigned var)
    ≡ option_map (λ (x : Assigned). x.reason) (assigned_to u.assigned (var_of l)) =
    ap (λ (v : TrailState). option_map (λ (x : Assigned). x.reason) (assigned_to v.assigned var)) same
    ∙ ap (λ (n : ℕ). option_map (λ (x : Assigned). x.reason) (assigned_to u.assigned n)) is in
    let f : Some a.reason ≡ Some (Some place) =
    sym (ap (option_map (λ (x : Assigned). x.reason)) to) ∙ sym e ∙ told in
    cc

-- the base's clause at a place of the arena
pub clause-stored : (k : Store) (clauses : Clauses) (place : ℕ) → clauses_in k ≡ clauses → IsSome (finite.get k place)
    → finite.get clauses place ≡ Some (base_clause (stored_at k place))
clause-stored k clauses place same there =
    ap (λ (x : Clauses). finite.get x place) (sym same) ∙ get-clauses_in k place
    ∙ ap (option_map base_clause) (some-is k place there)

-- the id that the arena tells of a reason is that of the base's clause
pub reason-id : (b : BaseState) (t : TrailState) (k : Store) (l : Literal) (var : ℕ) (place : Place)
    → IsBase b → t ≡ b.trail → clauses_in k ≡ b.clauses → var ≡ var_of l
    → option_map (λ (a : Assigned). a.reason) (assigned_to t.assigned var) ≡ Some (Some place)
    → (a : Assigned) (p : Place) (c : BaseClause) → assigned_to b.trail.assigned (var_of l) ≡ Some a
    → a.reason ≡ Some p → finite.get b.clauses p.0 ≡ Some c → (stored_at k place.0).id ≡ c.id
reason-id b t k l var place base same clauses is told a p c to forced there =
    let r : a.reason ≡ Some place = one-reason t b.trail l var place a same is told to in
    let e : p ≡ place = cc in
    let f = clause-stored k b.clauses place.0 clauses (reason-stored b t k var place base same clauses told) in
    let g : Some (base_clause (stored_at k place.0)) ≡ Some c =
    sym f ∙ ap (λ (q : Place). finite.get b.clauses q.0) (sym e) ∙ there in
    let h : base_clause (stored_at k place.0) ≡ c = cc in
    ap (λ (d : BaseClause). d.id) h

-- a reason's literals, as the arena lends them
pub reason-family : (b : BaseState) (t : TrailState) (k : Store) (var : ℕ) (place : Place) (lits : List Literal)
    → IsBase b → t ≡ b.trail → clauses_in k ≡ b.clauses
    → option_map (λ (a : Assigned). a.reason) (assigned_to t.assigned var) ≡ Some (Some place)
    → lits ≡ (stored_at k place.0).lits → family b.clauses place.0 ≡ Some (members lits)
reason-family b t k var place lits base same clauses told lent =
    ap (λ (x : Clauses). family x place.0) (sym clauses)
    ∙ family-there k place.0 (reason-stored b t k var place base same clauses told)
    ∙ ap (λ (ls : List Literal). Some (members ls)) (sym lent)

-- a list of one literal, by a member
one-member : (ls : List Literal) (q : Literal) → length ls ≡ 1 → members ls q ≡ true → ls ≡ q ∷ []
one-member [] q one m = absurd (cc)
one-member (l ∷ []) q one m = ap (λ x. x ∷ []) (sym (same_literal-is q l (first (same_literal q l) m)))
  where
    first : (b : Bool) → (b || false) ≡ true → b ≡ true
    first true e = refl
    first false e = e
one-member (l ∷ x ∷ ls) q one m = absurd (omega (arith, one))

-- the literal that a reason forced is one of its literals
pub reason-has : (b : BaseState) (k : Store) (var : ℕ) (place : Place) (a : Assigned) → IsBase b
    → clauses_in k ≡ b.clauses → assigned_to b.trail.assigned var ≡ Some a → a.reason ≡ Some place
    → IsSome (finite.get k place.0) → members (stored_at k place.0).lits a.lit ≡ true
reason-has b k var place a base clauses to forced there =
    let r : option_map (λ (x : Assigned). x.reason) (assigned_to b.trail.assigned var) ≡ Some (Some place) =
    ap (option_map (λ (x : Assigned). x.reason)) to ∙ ap Some forced in
    let c = reason-there b var (Some place) base r in
    let d : IfSome (Some a) (λ (x : Assigned). IfSome (family b.clauses place.0) (λ (c : LiteralSet). c x.lit ≡ true)) =
    subst (λ (o : Option Assigned). IfSome o (λ (x : Assigned). IfSome (family b.clauses place.0)
    (λ (c : LiteralSet). c x.lit ≡ true))) to c.0 in
    let e : family b.clauses place.0 ≡ Some (members (stored_at k place.0).lits) =
    ap (option_map (λ (c : BaseClause). set.contains c.literals)) (clause-stored k b.clauses place.0 clauses there)
    ∙ ap Some (contains-clause (stored_at k place.0).lits) in
    subst (λ (o : Option LiteralSet). IfSome o (λ (c : LiteralSet). c a.lit ≡ true)) e d

-- a literal of level zero whose reason is a unit clause of a low LBD is settled
pub settled-by : (b : BaseState) (t : TrailState) (k : Store) (l : Literal) (var : ℕ) (place : Place)
    (lits : List Literal) (lbd : ℕ) → IsBase b → IsTrail b.trail → b.trail.depth ≡ 0 → t ≡ b.trail
    → clauses_in k ≡ b.clauses → var ≡ var_of l
    → option_map (λ (a : Assigned). a.reason) (assigned_to t.assigned var) ≡ Some (Some place)
    → lits ≡ (stored_at k place.0).lits → length lits ≡ 1 → lbd ≡ (stored_at k place.0).lbd → lbd ≤ 2
    → (a : Assigned) → assigned_to b.trail.assigned (var_of l) ≡ Some a → IsSettled b.clauses a
settled-by b t k l var place lits lbd base trail ground same clauses is told lent one tells low a to =
    let r : a.reason ≡ Some place = one-reason t b.trail l var place a same is told to in
    let there = reason-stored b t k var place base same clauses told in
    let has = reason-has b k (var_of l) place a base clauses to r there in
    let ends = (level-ends b.trail (var_of l) a trail to).0 in
    record {
      ground = omega (arith, ends, ground);
      place = place;
      clause = base_clause (stored_at k place.0);
      reason = r;
      there = clause-stored k b.clauses place.0 clauses there;
      unit = contains-clause (stored_at k place.0).lits
          ∙ ap members (one-member (stored_at k place.0).lits a.lit (sym (ap length lent) ∙ one) has);
      low = omega (arith, tells, low);
    }
