-- the settled literals and the undecided variables stay such through each call of a base
use Rattle.std.proofs.Common.{◌≡◌, ◌⊎◌, ℕ, zero, suc, ◌+◌, ◌<◌, ◌≤◌, Bool, true, false, ◌||◌, List, [], ◌∷◌, ◌++◌, map, length, take, get_or, replicate, All, Option, Some, None, is_some, inl, inr, refl, sym, ap, ◌∙◌, subst, arith, nat_eq, nat_le, if◌then◌else◌, length-append}
use Rattle.std.specs.Prelude.{slice_get}
use Rattle.std.specs.Option.{option_map, unwrap_or}
use Rattle.std.specs.FinMap as finite
use Rattle.std.specs.FinSet as set
use Rattle.std.proofs.lemmas.Bool.{le-leb, false≢true}
use Rattle.std.proofs.lemmas.Bool.Decides.{nat_tests}
use Rattle.std.proofs.lemmas.List.{take-append-le, take-map, take_all, length-map, length-replicate, get_or-replicate}
use Rattle.gr_trail.proofs.Levels.{climbs-le}
use Rattle.std.proofs.lemmas.List.Elements.{All-nil, All-cons, All-head, All-tail, All-take, All-more, All-map, All-weaker}
use Rattle.std.proofs.lemmas.Option.{slice_get-get_or, slice_get_within, get_or_from_slice_get}
use Rattle.gr_logic.specs.Literals.{Literal, negation, same_literal, var_of}
use Rattle.gr_logic.specs.Rup.{members}
use Rattle.gr_logic.specs.declared.places.Place.{Place}
use Rattle.gr_trail.specs.Trails.{Assigned, TrailState, IsTrail, Climbs, true_in, value_in, up_to, reason_at, with_reason}
use Rattle.gr_trail.proofs.Climbing.{some-is}
use Rattle.gr_trail.proofs.Standing.{one-place}
use Rattle.gr_prop.specs.Bases.{BaseClause, BaseState, Clauses}
use Rattle.gr_prop.specs.BaseChanges.{IsGrown, IsAdded, IsCompacted, ForcesOpen, with_decision, with_forced, back_to, moved_place, moved_assigned}
use Rattle.gr_prop.specs.BaseChanges as changes
use Rattle.gr_prop.proofs.TrailSets.{true_in-append, true_in-last, or-first, open-true, open-false, open-value}
use Rattle.gr_prop.proofs.Stores.{get-insert-same, get-insert-other, get-remove-other, contains-clause}
use Rattle.gr_import.specs.Imports.{MayGo, Leaves, IsImported}
use Rattle.gr_search.specs.Deciding.{HoldsOpen, IsNext}
use Rattle.gr_search.specs.Keeping.{IsSettled, IsKept}
use Rattle.gr_search.proofs.Undecided.{none-alike}

-- what has no value in the longer list has none in the shorter
pub open-front : (xs ys : List Assigned) (l : Literal) → value_in (xs ++ ys) l ≡ None → value_in xs l ≡ None
open-front xs ys l none =
    open-value xs l
    (or-first (true_in xs l) (true_in ys l) (sym (true_in-append xs ys l) ∙ open-true (xs ++ ys) l none))
    (or-first (true_in xs (negation l)) (true_in ys (negation l))
    (sym (true_in-append xs ys (negation l)) ∙ open-false (xs ++ ys) l none))

-- the reason of the literal is the same clause among the others
abbrev pub KeepsReason : Clauses → Clauses → Assigned → Type 0
KeepsReason k n a =
    (p : Place) (c : BaseClause) → a.reason ≡ Some p → finite.get k p.0 ≡ Some c → finite.get n p.0 ≡ Some c

pub settled-in : (k n : Clauses) (a : Assigned) → KeepsReason k n a → IsSettled k a → IsSettled n a
settled-in k n a keeps s = record {
  ground = s.ground;
  place = s.place;
  clause = s.clause;
  reason = s.reason;
  there = keeps s.place s.clause s.reason s.there;
  unit = s.unit;
  low = s.low;
}

-- a clause at a new place leaves each reason
pub keeps-insert : (k : Clauses) (p : Place) (c : BaseClause) (a : Assigned) → finite.get k p.0 ≡ None
    → KeepsReason k (finite.insert k p.0 c) a
keeps-insert k p c a fresh q d reason there =
    get-insert-other k p.0 c q.0 (λ same. (let e = ap (finite.get k) same in cc)) ∙ there

-- ---- another trail, and other clauses
module _ (vars : ℕ) (k : Clauses) (t : TrailState) (s : ℕ) (present : List Bool)
    (kept : IsKept vars k t s present) where
  -- the first literals are the same
  pub kept-trail : (u : TrailState) (present' : List Bool) → u.vars ≡ t.vars → length present' ≡ length present
      → HoldsOpen present' u.assigned → s ≤ length u.assigned → take s u.assigned ≡ take s t.assigned
      → IsKept vars k u s present'
  kept-trail u present' same long undecided there front = record {
    sized = same ∙ kept.sized;
    few = kept.few;
    known = long ∙ kept.known;
    undecided = undecided;
    there = there;
    each = subst (All (IsSettled k)) (sym front) kept.each;
  }

  -- each reason is the same clause
  pub kept-clauses : (n : Clauses) → All (KeepsReason k n) t.assigned → IsKept vars n t s present
  kept-clauses n keeps = record {
    sized = kept.sized;
    few = kept.few;
    known = kept.known;
    undecided = kept.undecided;
    there = kept.there;
    each = λ i d low. settled-in k n (get_or (take s t.assigned) i d)
        (All-take (KeepsReason k n) s t.assigned keeps i d low) (kept.each i d low);
  }

  -- literals come in behind
  pub kept-more : (u : TrailState) (more : List Assigned) → u.vars ≡ t.vars → u.assigned ≡ t.assigned ++ more
      → IsKept vars k u s present
  kept-more u more same is =
      kept-trail u present same refl
      (λ l low none. kept.undecided l low (open-front t.assigned more l (ap (λ xs. value_in xs l) (sym is) ∙ none)))
      (subst (λ xs. s ≤ length xs) (sym is) (let there = kept.there in omega (arith, length-append t.assigned more)))
      (ap (take s) is ∙ take-append-le s t.assigned more kept.there)

  pub kept-grown : (u : TrailState) → IsGrown t u → IsKept vars k u s present
  kept-grown u grown = kept-more u grown.more grown.vars grown.assigned

  -- a decision takes its variable out
  pub kept-decided : (present' : List Bool) (l : Literal) → length present' ≡ length present
      → IsNext present' t.assigned l → IsKept vars k (with_decision t l) s present'
  kept-decided present' l long next =
      let x : Assigned = record { lit = l; level = t.depth + 1; reason = None } in
      kept-trail (with_decision t l) present' refl long
      (λ q low none. next.others q low
      (λ same. false≢true (sym (open-true (t.assigned ++ x ∷ []) l
      (none-alike (t.assigned ++ x ∷ []) q l same none)) ∙ true_in-last t.assigned x))
      (open-front t.assigned (x ∷ []) q none))
      (let there = kept.there in omega (arith, length-append t.assigned (x ∷ [])))
      (take-append-le s t.assigned (x ∷ []) kept.there)

-- literals of low levels that come first stay there
low-front : (b s : ℕ) (xs : List Assigned) → s ≤ length xs → All (λ a. a.level ≤ b) (take s xs)
    → (s ≤ length (up_to b xs)) × (take s (up_to b xs) ≡ take s xs)
low-front b zero xs within low = (omega arith, refl)
low-front b (suc s) [] within low = absurd (omega (arith, within))
low-front b (suc s) (x ∷ xs) within low =
    let rest = low-front b s xs (omega (arith, within)) (All-tail (λ (a : Assigned). a.level ≤ b) x (take s xs) low) in
    let first : x.level ≤ b = All-head (λ (a : Assigned). a.level ≤ b) x (take s xs) low in
    let here : nat_le x.level b ≡ true = le-leb x.level b first in
    subst (λ (t : Bool). (suc s ≤ length (if t then x ∷ up_to b xs else up_to b xs))
    × (take (suc s) (if t then x ∷ up_to b xs else up_to b xs) ≡ x ∷ take s xs)) (sym here)
    (omega (arith, rest.0), ap (λ ys. x ∷ ys) rest.1)

-- settled literals are of level zero, so that going back leaves them
pub kept-back : (vars : ℕ) (k : Clauses) (t : TrailState) (s : ℕ) (present present' : List Bool) (level : ℕ)
    → IsKept vars k t s present → length present' ≡ length present → HoldsOpen present' (up_to level t.assigned)
    → IsKept vars k (back_to t level) s present'
kept-back vars k t s present present' level kept long undecided =
    let front = low-front level s t.assigned kept.there
    (All-weaker (IsSettled k) (λ a. a.level ≤ level) (λ a is. (let e = is.ground in omega arith)) (take s t.assigned)
    kept.each) in
    kept-trail vars k t s present kept (back_to t level) present' refl long undecided front.0 front.1

-- a clause comes in, and forces a literal or none
pub kept-added : (vars : ℕ) (b d : BaseState) (id lbd : ℕ) (c : List Literal) (place : Place) (s : ℕ)
    (present : List Bool) → IsAdded b d id lbd c place → IsKept vars b.clauses b.trail s present
    → IsKept vars d.clauses d.trail s present
kept-added vars b d id lbd c place s present added kept =
    let new : BaseClause = record { id = id; lbd = lbd; literals = set.from_list c } in
    let same : IsKept vars d.clauses b.trail s present =
    subst (λ k. IsKept vars k b.trail s present) (sym added.clauses)
    (kept-clauses vars b.clauses b.trail s present kept (finite.insert b.clauses place.0 new)
    (λ i x low. keeps-insert b.clauses place new (get_or b.trail.assigned i x) added.fresh)) in
    go same added.trail
  where
    go : IsKept vars d.clauses b.trail s present
        → ((l : Literal) × (ForcesOpen b.trail.assigned c l × (d.trail ≡ with_forced b.trail l place)))
        ⊎ (((l : Literal) → ForcesOpen b.trail.assigned c l → ⊥) × (d.trail ≡ b.trail))
        → IsKept vars d.clauses d.trail s present
    go same (inl forced) =
        let x : Assigned = record { lit = forced.0; level = b.trail.depth; reason = Some place } in
        subst (λ t. IsKept vars d.clauses t s present) (sym forced.1.1)
        (kept-more vars d.clauses b.trail s present same (with_forced b.trail forced.0 place) (x ∷ []) refl refl)
    go same (inr other) = subst (λ t. IsKept vars d.clauses t s present) (sym other.1) same

-- a clause was let go that is no reason
pub keeps-leaves : (b : BaseState) (old : Option ℕ) (len : ℕ) (left : Clauses) (lbd : ℕ) → MayGo b old
    → Leaves b.clauses old len left lbd → All (KeepsReason b.clauses left) b.trail.assigned
keeps-leaves b None len left lbd may leaves i x low p c reason there =
    ap (λ k. finite.get k p.0) leaves.0 ∙ there
keeps-leaves b (Some id) len left lbd may (inr other) i x low p c reason there =
    ap (λ k. finite.get k p.0) other.1.0 ∙ there
keeps-leaves b (Some id) len left lbd may (inl gone) i x low p c reason there =
    let free = may gone.0 (gone.1, gone.2, gone.3) in
    ap (λ k. finite.get k p.0) gone.4
    ∙ get-remove-other b.clauses gone.0.0 p.0
    (λ same. free i x low (reason ∙ ap (λ (n : ℕ). Some (record { 0 = n })) same)) ∙ there

pub kept-imported : (vars : ℕ) (b d : BaseState) (old : Option ℕ) (id : ℕ) (c : List Literal) (s : ℕ)
    (present : List Bool) → MayGo b old → IsImported b d old id c → IsKept vars b.clauses b.trail s present
    → IsKept vars d.clauses d.trail s present
kept-imported vars b d old id c s present may come kept =
    kept-added vars (record b { clauses = come.left }) d id come.lbd c come.place s present come.added
    (kept-clauses vars b.clauses b.trail s present kept come.left
    (keeps-leaves b old (length c) come.left come.lbd may come.leaves))

-- ---- a reason that becomes the literal's unit clause
reason-lit : (var : ℕ) (p : Place) (x : Assigned) → (reason_at var p x).lit ≡ x.lit
reason-lit var p x =
    elim (nat_eq (var_of x.lit) var) as (λ b. (if b then record x { reason = Some p } else x).lit ≡ x.lit) [
      | true ↦ refl
      | false ↦ refl
    ]

-- the same literals have the same values
pub same-truth : (f : Assigned → Assigned) → ((x : Assigned) → (f x).lit ≡ x.lit) → (xs : List Assigned) (q : Literal)
    → true_in (map f xs) q ≡ true_in xs q
same-truth f same [] q = refl
same-truth f same (x ∷ xs) q = λ i. same_literal q (same x i) || same-truth f same xs q i

pub same-value : (f : Assigned → Assigned) → ((x : Assigned) → (f x).lit ≡ x.lit) → (xs : List Assigned) (q : Literal)
    → value_in (map f xs) q ≡ value_in xs q
same-value f same xs q =
    λ i. if same-truth f same xs q i then Some true
    else (if same-truth f same xs (negation q) i then Some false else None)

-- each literal is as it was but for its reason
pub kept-mapped : (vars : ℕ) (k n : Clauses) (t u : TrailState) (s m : ℕ) (present : List Bool)
    (f : Assigned → Assigned) → ((x : Assigned) → (f x).lit ≡ x.lit) → u.vars ≡ t.vars
    → u.assigned ≡ map f t.assigned → m ≤ length t.assigned → All (λ x. IsSettled n (f x)) (take m t.assigned)
    → IsKept vars k t s present → IsKept vars n u m present
kept-mapped vars k n t u s m present f same-lit same is within each kept = record {
  sized = same ∙ kept.sized;
  few = kept.few;
  known = kept.known;
  undecided = λ l low none. kept.undecided l low
      (sym (same-value f same-lit t.assigned l) ∙ ap (λ xs. value_in xs l) (sym is) ∙ none);
  there = subst (λ xs. m ≤ length xs) (sym is) (omega (arith, length-map t.assigned f));
  each = subst (All (IsSettled n)) (sym (ap (take m) is ∙ take-map f m t.assigned))
      (All-map (IsSettled n) f (take m t.assigned) each);
}

-- a literal is settled once its variable's reason is its unit clause, and another one that was so stays so
settled-here : (k : Clauses) (l : Literal) (place : Place) (id : ℕ) (x : Assigned) → finite.get k place.0 ≡ None
    → x.level ≡ 0 → (nat_eq (var_of x.lit) (var_of l) ≡ true → x.lit ≡ l)
    → (nat_eq (var_of x.lit) (var_of l) ≡ false → IsSettled k x)
    → IsSettled (finite.insert k place.0 (record { id = id; lbd = 1; literals = set.from_list (l ∷ []) }))
    (reason_at (var_of l) place x)
settled-here k l place id x fresh ground own other =
    let new : BaseClause = record { id = id; lbd = 1; literals = set.from_list (l ∷ []) } in
    let n = finite.insert k place.0 new in
    elim (nat_eq (var_of x.lit) (var_of l)) as (λ b. nat_eq (var_of x.lit) (var_of l) ≡ b
    → IsSettled n (if b then record x { reason = Some place } else x)) [
      | true ↦ λ e. record {
        ground = ground;
        place = place;
        clause = new;
        reason = refl;
        there = get-insert-same k place.0 new;
        unit = contains-clause (l ∷ []) ∙ ap (λ (q : Literal). members (q ∷ [])) (sym (own e));
        low = omega arith;
      }
      | false ↦ λ e. settled-in k n x (keeps-insert k place new x fresh) (other e)
    ] refl

-- the first unsettled literal gets its unit clause
pub kept-settled : (vars : ℕ) (b d : BaseState) (l : Literal) (id : ℕ) (place : Place) (s : ℕ) (present : List Bool)
    (is : Assigned) → IsTrail b.trail → All (λ x. x.level ≡ 0) b.trail.assigned → changes.IsSettled b d l id place
    → slice_get b.trail.assigned s ≡ Some is → is.lit ≡ l → IsKept vars b.clauses b.trail s present
    → IsKept vars d.clauses d.trail (s + 1) present
kept-settled vars b d l id place s present is trail ground settled first lit kept =
    let new : BaseClause = record { id = id; lbd = 1; literals = set.from_list (l ∷ []) } in
    let n = finite.insert b.clauses place.0 new in
    let u : TrailState = record b.trail { assigned = with_reason b.trail.assigned (var_of l) place } in
    let within : s < length b.trail.assigned = slice_get_within b.trail.assigned s is first in
    let f = reason_at (var_of l) place in
    let front : All (λ x. IsSettled n (f x)) (take s b.trail.assigned) =
    λ i x low. settled-here b.clauses l place id (get_or (take s b.trail.assigned) i x) settled.fresh
    (All-take (λ (y : Assigned). y.level ≡ 0) s b.trail.assigned ground i x low)
    (All-take (λ (y : Assigned). nat_eq (var_of y.lit) (var_of l) ≡ true → y.lit ≡ l) s b.trail.assigned own i x low)
    (λ _. kept.each i x low) in
    let here : get_or b.trail.assigned s is ≡ is = get_or_from_slice_get b.trail.assigned s is is first in
    let at : IsSettled n (f (get_or b.trail.assigned s is)) =
    settled-here b.clauses l place id (get_or b.trail.assigned s is) settled.fresh (ground s is within)
    (λ _. ap (λ (y : Assigned). y.lit) here ∙ lit)
    (λ e. absurd (false≢true (sym e ∙ ap (λ (y : Assigned). nat_eq (var_of y.lit) (var_of l)) here
    ∙ ap (λ (q : Literal). nat_eq (var_of q) (var_of l)) lit ∙ itself (var_of l)))) in
    let next : IsKept vars n u (s + 1) present =
    kept-mapped vars b.clauses n b.trail u s (s + 1) present f (reason-lit (var_of l) place) refl refl (omega arith)
    (All-more (λ x. IsSettled n (f x)) b.trail.assigned s is within front at) kept in
    subst (λ (e : BaseState). IsKept vars e.clauses e.trail (s + 1) present) (sym settled.changed) next
  where
    itself : (m : ℕ) → nat_eq m m ≡ true
    itself m = grind (arith, nat_tests)

    own : All (λ y. nat_eq (var_of y.lit) (var_of l) ≡ true → y.lit ≡ l) b.trail.assigned
    own i x low e =
        let y = get_or b.trail.assigned i x in
        let stands = slice_get-get_or b.trail.assigned i x low in
        let v : var_of y.lit ≡ var_of l = grind (arith, nat_tests) in
        let w : is.lit.index ≡ l.index = ap (λ (q : Literal). q.index) lit in
        let p = one-place b.trail i s y is trail stands first (omega (arith, v, w)) in
        ap (λ (z : Assigned). z.lit) (some-is y is (sym stands ∙ ap (slice_get b.trail.assigned) p ∙ first)) ∙ lit

-- the clauses are moved together
moved-lit : (moves : _) (x : Assigned) → (moved_assigned moves x).lit ≡ x.lit
moved-lit moves x = refl

settled-moved : (b d : BaseState) (moved : IsCompacted b d) (x : Assigned) → IsSettled b.clauses x
    → IsSettled d.clauses (moved_assigned moved.moves x)
settled-moved b d moved x is = go (finite.get moved.moves is.place.0) refl
  where
    go : (o : Option ℕ) → finite.get moved.moves is.place.0 ≡ o → IsSettled d.clauses (moved_assigned moved.moves x)
    go None e = absurd (let f = sym (ap is_some e) ∙ moved.moved is.place.0 ∙ ap is_some is.there in cc)
    go (Some q) e = record {
      ground = is.ground;
      place = record { 0 = q };
      clause = is.clause;
      reason = ap (option_map (moved_place moved.moves)) is.reason
          ∙ ap (λ (o : Option ℕ). Some (record { 0 = unwrap_or o is.place.0 })) e;
      there = moved.kept is.place.0 q e ∙ is.there;
      unit = is.unit;
      low = is.low;
    }

pub kept-compacted : (vars : ℕ) (b d : BaseState) (s : ℕ) (present : List Bool) → IsCompacted b d
    → IsKept vars b.clauses b.trail s present → IsKept vars d.clauses d.trail s present
kept-compacted vars b d s present moved kept =
    kept-mapped vars b.clauses d.clauses b.trail d.trail s s present (moved_assigned moved.moves)
    (moved-lit moved.moves) (ap (λ (t : TrailState). t.vars) moved.trail)
    (ap (λ (t : TrailState). t.assigned) moved.trail) kept.there
    (λ i x low. settled-moved b d moved (get_or (take s b.trail.assigned) i x) (kept.each i x low)) kept

-- where nothing is decided each literal is of level zero
levels-zero : (level : ℕ) (xs : List Assigned) (depth : ℕ) → depth ≡ 0 → Climbs level xs depth
    → All (λ x. x.level ≡ 0) xs
levels-zero level [] depth z c = All-nil (λ (x : Assigned). x.level ≡ 0)
levels-zero level (x ∷ xs) depth z c =
    let high = (climbs-le x.level xs depth c.1).0 in
    All-cons (λ (y : Assigned). y.level ≡ 0) x xs (omega (arith, high, z)) (levels-zero x.level xs depth z c.1)

pub ground-levels : (t : TrailState) → IsTrail t → t.depth ≡ 0 → All (λ x. x.level ≡ 0) t.assigned
ground-levels t trail ground = levels-zero 0 t.assigned t.depth ground trail.climbs

-- each literal is settled where as many are as there are
pub all-settled : (vars : ℕ) (k : Clauses) (t : TrailState) (s : ℕ) (present : List Bool) → IsKept vars k t s present
    → s ≡ length t.assigned → All (IsSettled k) t.assigned
all-settled vars k t s present kept all =
    subst (All (IsSettled k)) (take_all s t.assigned (omega (arith, all))) kept.each

-- a search that begins has settled no literal, and each variable may be decided
pub kept-begun : (vars : ℕ) (k : Clauses) (t : TrailState) (present : List Bool) → t.vars ≡ vars → vars ≤ 1000000
    → present ≡ replicate vars true → IsKept vars k t 0 present
kept-begun vars k t present sized few all = record {
  sized = sized;
  few = few;
  known = ap length all ∙ length-replicate vars true;
  undecided = λ l low none.
      ap (λ ps. get_or ps l.index false) all
      ∙ get_or-replicate vars l.index true false (omega (arith, ap length all, length-replicate vars true, low));
  there = omega arith;
  each = λ i d low. absurd (omega (arith, low));
}

-- no level is opened or closed where a clause comes in
pub added-depth : (b d : BaseState) (id lbd : ℕ) (c : List Literal) (place : Place) → IsAdded b d id lbd c place
    → d.trail.depth ≡ b.trail.depth
added-depth b d id lbd c place added =
    elim added.trail as (λ _. d.trail.depth ≡ b.trail.depth) [
      | inl forced ↦ ap (λ (t : TrailState). t.depth) forced.1.1
      | inr other ↦ ap (λ (t : TrailState). t.depth) other.1
    ]
