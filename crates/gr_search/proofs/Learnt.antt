-- what a conflict teaches may come in once the trail went back
use Rattle.std.proofs.Common.{◌≡◌, ◌≢◌, ℕ, ◌+◌, ◌<◌, ◌≤◌, true, false, List, [], ◌∷◌, map, length, get_or, All, IsSome, is_some, Some, inl, inr, sym, ap, ◌∙◌, arith, nat_eq, if◌then◌else◌}
use Rattle.std.specs.List.{list_any}
use Rattle.std.specs.Option.{option_map}
use Rattle.std.proofs.lemmas.Bool.{cases_eq}
use Rattle.std.proofs.lemmas.List.{length-map}
use Rattle.std.proofs.lemmas.List.Elements.{All-head, All-tail}
use Rattle.gr_logic.specs.Literals.{Literal, var_of}
use Rattle.gr_logic.specs.Formulas.{VarsUpTo}
use Rattle.gr_logic.specs.NormalForms.{IsNormal}
use Rattle.gr_trail.specs.Trails.{Assigned, TrailState, IsTrail, assigned_to}
use Rattle.gr_trail.proofs.Standing.{is-false}
use Rattle.gr_prop.specs.Bases.{BaseState}
use Rattle.gr_prop.specs.BaseChanges.{IsAddable, back_to}
use Rattle.gr_prop.specs.Learnt.{IsUpTo}
use Rattle.gr_prop.proofs.Facts.{normal-distinct}
use Rattle.gr_prop.proofs.Short.{short}
use Rattle.gr_prop.proofs.Learned.{addable}
use Rattle.gr_analyze.specs.Graphs.{IsFalse, level_of}
use Rattle.gr_analyze.specs.Learning.{different, IsAsserting, IsTaught, AreTouched}
use Rattle.gr_analyze.specs.declared.analyzers.Learnt.{Learnt}
use Rattle.gr_analyze.proofs.FalseLiterals.{falsifies, false-some, false-within, level-is}
use Rattle.gr_search.specs.Keeping.{IsNewTo, IsProved}

different-le : (ns : List ℕ) → different ns ≤ length ns
different-le [] = omega arith
different-le (n ∷ ns) =
    let rest = different-le ns in
    elim (list_any (nat_eq n) ns) as (λ b. (if b then different ns else different ns + 1) ≤ length (n ∷ ns)) [
      | true ↦ omega (arith, rest)
      | false ↦ omega (arith, rest)
    ]

-- a normal clause has no more literals than there are variables
pub normal-short : (vars : ℕ) (c : List Literal) → IsNormal c → VarsUpTo vars c → length c ≤ vars
normal-short vars c normal known = short c vars (normal-distinct c normal) known

-- what was met has a value, and so have the literals of the clause
pub touched-some : (t : TrailState) (c : List Literal) (touched : List ℕ) → AreTouched t c touched
    → All (λ var. IsSome (assigned_to t.assigned var)) touched
touched-some t c touched are i d low = ap is_some (are.above i d low).1.0

pub gone-some : (t : TrailState) (c : List Literal) → IsTrail t → All (IsFalse t.assigned) c
    → All (λ l. IsSome (assigned_to t.assigned (var_of l))) c
gone-some t c trail gone i d low = false-some t.assigned (get_or c i d) trail.distinct (gone i d low)

asserting-low : (t : TrailState) (c : List Literal) (level : ℕ) → 0 < t.depth → IsAsserting t c level → level ≤ t.depth
asserting-low t [] level deep is = absurd is
asserting-low t (first ∷ []) level deep is = let e = is.2 in omega arith
asserting-low t (first ∷ second ∷ rest) level deep is =
    let e = is.2 in
    let lower = (is.1 0 second (omega arith)).0 in
    omega (arith, e, lower)

level-by : (t : TrailState) (q : Literal) (a : Assigned) → assigned_to t.assigned (var_of q) ≡ Some a
    → level_of t.assigned q ≡ a.level
level-by t q a to = level-is t.assigned q a.level (ap (option_map (λ (x : Assigned). x.level)) to)

up-to : (t : TrailState) (level : ℕ) (q : Literal) → IsTrail t → IsFalse t.assigned q → level_of t.assigned q ≤ level
    → IsUpTo t level q
up-to t level q trail gone low =
    let f = falsifies t.assigned q trail.distinct gone in
    let e = level-by t q f.by f.to in
    record {
      is = f.by;
      assigned = f.to;
      low = omega (arith, e, low);
      false' = is-false t q trail gone;
    }

asserting-addable : (t : TrailState) (c : List Literal) (level : ℕ) → IsTrail t → 0 < t.depth
    → All (IsFalse t.assigned) c → IsAsserting t c level → IsAddable (back_to t level) c
asserting-addable t [] level trail deep gone is = absurd is
asserting-addable t (first ∷ []) level trail deep gone is = inl is.2
asserting-addable t (first ∷ second ∷ rest) level trail deep gone is =
    let rest-gone = All-tail (IsFalse t.assigned) first (second ∷ rest) gone in
    let f = falsifies t.assigned first trail.distinct (All-head (IsFalse t.assigned) first (second ∷ rest) gone) in
    let g = falsifies t.assigned second trail.distinct (All-head (IsFalse t.assigned) second rest rest-gone) in
    let top = level-by t first f.by f.to in
    let next = level-by t second g.by g.to in
    let lower = (is.1 0 second (omega arith)).0 in
    let one = is.0 in
    let two = is.2 in
    inr (addable t (first ∷ second ∷ rest) level trail (record {
      is = f.by;
      assigned = f.to;
      above = omega (arith, top, one, two, lower);
      others = λ i d low. up-to t level (get_or (second ∷ rest) i d) trail (rest-gone i d low) (is.1 i d low).1;
      at = g.by;
      second_assigned = g.to;
      second_level = sym next ∙ two;
    }))

module _ (b : BaseState) (learnt : Learnt) (trail : IsTrail b.trail) (taught : IsTaught b learnt) where
  -- the clause is empty at level zero
  deep : learnt.clause ≢ [] → 0 < b.trail.depth
  deep some =
      elim (cases_eq b.trail.depth 0) as (λ _. 0 < b.trail.depth) [
        | inl ground ↦ absurd (some (taught.ground ground).0)
        | inr above ↦ (omega (arith, above))
      ]

  pub lbd-short : learnt.lbd ≤ length learnt.clause
  lbd-short =
      let few = different-le (map (level_of b.trail.assigned) learnt.clause) in
      let is = taught.lbd in
      omega (arith, length-map learnt.clause (level_of b.trail.assigned))

  pub taught-within : VarsUpTo b.trail.vars learnt.clause
  taught-within i d low = false-within b.trail (get_or learnt.clause i d) trail (taught.gone i d low)

  pub back-low : learnt.back_to ≤ b.trail.depth
  back-low =
      elim (cases_eq b.trail.depth 0) as (λ _. learnt.back_to ≤ b.trail.depth) [
        | inl ground ↦ (let e = (taught.ground ground).1 in omega (arith, e))
        | inr above ↦
            let high : 0 < b.trail.depth = omega (arith, above) in
            asserting-low b.trail learnt.clause learnt.back_to high (taught.asserting high)
      ]

  pub taught-addable : learnt.clause ≢ [] → IsAddable (back_to b.trail learnt.back_to) learnt.clause
  taught-addable some =
      asserting-addable b.trail learnt.clause learnt.back_to trail (deep some) taught.gone
      (taught.asserting (deep some))

  pub taught-new : learnt.clause ≢ [] → IsNewTo b.clauses learnt.clause
  taught-new some = taught.fresh (deep some)

  pub taught-proved : IsProved b.clauses b.trail.vars learnt.clause learnt.hints
  taught-proved = record {
    normal = taught.normal;
    within = taught-within;
    cited = taught.cited;
    accepted = taught.accepted;
  }
