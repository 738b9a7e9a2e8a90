-- unit steps along the hints accept what was reached
use Rattle.std.proofs.Common.{◌≡◌, ◌⊎◌, inl, inr, ℕ, zero, suc, Bool, true, false, List, [], ◌∷◌, ◌++◌, map, get_or, Option, Some, None, IsSome, refl, sym, ap, ◌∙◌, subst, if◌then◌else◌}
use Rattle.std.specs.Prelude.{All, slice_get}
use Rattle.std.specs.List.{filter}
use Rattle.std.specs.Option.{option_map}
use Rattle.std.specs.FinMap as finite
use Rattle.std.specs.FinSet as set
use Rattle.std.proofs.lemmas.List.Elements.{All-head, All-tail, All-cons, All-nil, All-append}
use Rattle.std.proofs.lemmas.Option.{slice_get-get_or}
use Rattle.gr_logic.specs.Literals.{Literal, negation, var_of}
use Rattle.gr_logic.specs.Formulas.{VarsUpTo}
use Rattle.gr_logic.specs.NormalForms.{IsNormal}
use Rattle.gr_logic.specs.Rup.{LiteralSet, Live, members, negated, rup, with_literal, steps, Falsified, Accepted}
use Rattle.gr_logic.specs.Closure.{ClauseFamily, family_of, no_literals}
use Rattle.gr_logic.specs.declared.places.Place.{Place}
use Rattle.gr_logic.proofs.Readings.{reads-falsified}
use Rattle.gr_arena.specs.Arenas.{ArenaState, Has, at}
use Rattle.gr_trail.specs.Trails.{Assigned, TrailState, true_in}
use Rattle.gr_trail.proofs.Climbing.{some-is}
use Rattle.gr_trail.proofs.Standing.{assigned-at, not-both}
use Rattle.gr_hints.specs.Marking.{is_marked}
use Rattle.gr_hints.specs.Gathering.{literals_at, IsForcedBy, AreForced, HaveReasons, OfReason, IsCited, OthersFit, LeadOn, Lead, reason_id, reason_ids}
use Rattle.gr_hints.proofs.UnitSteps.{cited-list, step-is}
use Rattle.gr_prop.specs.Bases.{BaseClause, Clauses, base_clause, clauses_in}
use Rattle.gr_prop.proofs.Stores.{get-clauses_in, contains-clause, some-is as stored-is}
use Rattle.gr_hints.specs.Graphs.{IsReasoned, AreReasoned, IsGraph, IsFalse}
use Rattle.gr_strengthen.specs.Outcomes.{IsJustified}
use Rattle.gr_strengthen.specs.Reaching.{Reach, IsCovered, IsReached, Falsifies}
use Rattle.gr_strengthen.proofs.Graphing.{others-false, reason-has}

-- ---- the reasons of the forced variables
forced-from : (arena : ArenaState) (marked : List ℕ) (before : LiteralSet) (xs : List Assigned)
    → AreReasoned arena before xs
    → ((place : ℕ) (a : Assigned) → slice_get xs place ≡ Some a → is_marked marked (var_of a.lit) ≡ true
    → a.reason ≡ None → ⊥)
    → AreForced arena marked before xs
forced-from arena marked before [] reasoned none = tt
forced-from arena marked before (x ∷ xs) reasoned none = (
  (λ m. go x.reason refl m reasoned.0),
  forced-from arena marked (with_literal before x.lit) xs reasoned.1 (λ p a at. none (suc p) a at),
)
  where
    go : (r : Option Place) → x.reason ≡ r → is_marked marked (var_of x.lit) ≡ true → IsReasoned arena before x.lit r
        → IsForcedBy arena before x.lit r
    go None e m is = absurd (none 0 x refl m e)
    go (Some p) e m is = is

pub have-reasons : (arena : ArenaState) (t : TrailState) (source : List Literal) (r : Reach) → IsGraph arena t
    → IsReached arena t.assigned source r → HaveReasons arena r.forced t.assigned
have-reasons arena t source r g is = record {
  values = λ v m. let f = is.followed v m in subst IsSome (sym f.2) refl;
  forced = forced-from arena r.forced no_literals t.assigned g.reasoned (λ p a at m none.
      let f = is.followed (var_of a.lit) m in
      let e : Some f.0 ≡ Some a = sym f.2 ∙ assigned-at t p a g.trail at in
      let h : Some f.1 ≡ None = sym f.3 ∙ ap (λ (x : Assigned). x.reason) (some-is f.0 a e) ∙ none in
      cc);
}

-- ---- acceptance
module _ (arena : ArenaState) (t : TrailState) (source : List Literal) (r : Reach) (true-ones : LiteralSet)
    (g : IsGraph arena t) (is : IsReached arena t.assigned source r)
    (fal : Falsifies t.assigned r source true-ones) where
  -- a false literal that is covered is false by the set, or its reason is a hint
  covered-false : (q : Literal) → IsFalse t.assigned q → IsCovered t.assigned r q
      → (true-ones (negation q) ≡ true) ⊎ (is_marked r.forced (var_of q) ≡ true)
  covered-false q gone (inl holds) = absurd (let n = not-both t q g.trail gone in cc)
  covered-false q gone (inr (inl mark)) = inr mark
  covered-false q gone (inr (inr mark)) = inl (fal.decided q gone mark)

  -- what stands at a place of the trail was followed
  followed-at : (k : ℕ) (a : Assigned) (reason : Place) → slice_get t.assigned k ≡ Some a
      → is_marked r.forced (var_of a.lit) ≡ true → a.reason ≡ Some reason
      → (q : Literal) → literals_at arena reason q ≡ true → IsCovered t.assigned r q
  followed-at k a reason stands mark by q has =
      let f = is.followed (var_of a.lit) mark in
      let e : f.0 ≡ a = some-is f.0 a (sym f.2 ∙ assigned-at t k a g.trail stands) in
      let p : f.1 ≡ reason = some-is f.1 reason (sym f.3 ∙ ap (λ (x : Assigned). x.reason) e ∙ by) in
      f.4 q (ap (λ x. literals_at arena x q) p ∙ has)

  fits : All (OfReason r.forced (OthersFit arena r.forced true-ones)) t.assigned
  fits k d low reason by mark q has apart =
      let a = get_or t.assigned k d in
      let stands : slice_get t.assigned k ≡ Some a = slice_get-get_or t.assigned k d low in
      covered-false q (others-false arena t.assigned k a reason g.reasoned stands by q has apart)
      (followed-at k a reason stands mark by q has)

  pub accepted : (live : Live) (last : ℕ) → Lead arena r.forced t.assigned (reason_ids arena r.forced t.assigned)
      → All (OfReason r.forced (IsCited arena live)) t.assigned
      → family_of live last ≡ Some (members source)
      → ((q : Literal) → members source q ≡ true → IsFalse t.assigned q ⊎ (true_in t.assigned q ≡ true))
      → steps live true-ones (reason_ids arena r.forced t.assigned ++ last ∷ []) ≡ Accepted
  accepted live last lead cited named values =
      let c = cited-list live last (members source) named in
      elim (lead live true-ones (last ∷ []) cited fits) as
      (λ _. steps live true-ones (reason_ids arena r.forced t.assigned ++ last ∷ []) ≡ Accepted) [
        | inl done ↦ done
        | inr on ↦ on.steps ∙ step-is live on.reached last [] c.0 Falsified c.1.0
            (reads-falsified on.reached c.0 (λ q m. falls on q (sym (ap (λ x. x q) c.1.1) ∙ m)))
      ]
    where
      falls : (on : LeadOn live r.forced t.assigned true-ones (reason_ids arena r.forced t.assigned) (last ∷ []))
          (q : Literal) → members source q ≡ true → on.reached (negation q) ≡ true
      falls on q has = go (values q has)
        where
          go : IsFalse t.assigned q ⊎ (true_in t.assigned q ≡ true) → on.reached (negation q) ≡ true
          go (inr holds) = on.more (negation q) (fal.true' q has holds)
          go (inl gone) = elim (covered-false q gone (is.covered q has)) as (λ _. on.reached (negation q) ≡ true) [
            | inl given ↦ on.more (negation q) given
            | inr mark ↦ on.has (negation q) gone mark
          ]

-- ---- the ids
module _ (P : ℕ → Type 0) (arena : ArenaState) (marked : List ℕ) where
  pub ids-have : (xs : List Assigned) → All P (reason_ids arena marked xs) → (k : ℕ) (a : Assigned)
      → slice_get xs k ≡ Some a → is_marked marked (var_of a.lit) ≡ true → P (reason_id arena a.reason)
  ids-have [] all k a e m = absurd (cc)
  ids-have (x ∷ xs) all zero a e m =
      let is : x ≡ a = some-is x a e in
      let mark : is_marked marked (var_of x.lit) ≡ true =
      ap (λ (y : Assigned). is_marked marked (var_of y.lit)) is ∙ m in
      subst (λ (y : Assigned). P (reason_id arena y.reason)) is (All-head P (reason_id arena x.reason)
      (reason_ids arena marked xs)
      (subst (λ b. All P (map (λ (y : Assigned). reason_id arena y.reason)
      (if b then x ∷ filter (λ (y : Assigned). is_marked marked (var_of y.lit)) xs
      else filter (λ (y : Assigned). is_marked marked (var_of y.lit)) xs))) mark all))
  ids-have (x ∷ xs) all (suc k) a e m =
      ids-have xs (go (is_marked marked (var_of x.lit)) all) k a e m
    where
      go : (b : Bool) → All P (map (λ (y : Assigned). reason_id arena y.reason)
          (if b then x ∷ filter (λ (y : Assigned). is_marked marked (var_of y.lit)) xs
          else filter (λ (y : Assigned). is_marked marked (var_of y.lit)) xs))
          → All P (reason_ids arena marked xs)
      go true all = All-tail P (reason_id arena x.reason) (reason_ids arena marked xs) all
      go false all = all

  pub ids-all : (xs : List Assigned) → ((k : ℕ) (a : Assigned) → slice_get xs k ≡ Some a
      → is_marked marked (var_of a.lit) ≡ true → P (reason_id arena a.reason)) → All P (reason_ids arena marked xs)
  ids-all [] each = All-nil P
  ids-all (x ∷ xs) each =
      go (is_marked marked (var_of x.lit)) refl (ids-all xs (λ k a e m. each (suc k) a e m))
    where
      go : (b : Bool) → is_marked marked (var_of x.lit) ≡ b → All P (reason_ids arena marked xs)
          → All P (map (λ (y : Assigned). reason_id arena y.reason)
          (if b then x ∷ filter (λ (y : Assigned). is_marked marked (var_of y.lit)) xs
          else filter (λ (y : Assigned). is_marked marked (var_of y.lit)) xs))
      go true m rest = All-cons P (reason_id arena x.reason) (reason_ids arena marked xs) (each 0 x refl m) rest
      go false m rest = rest

pub all-front : (P : ℕ → Type 0) (xs ys : List ℕ) → All P (xs ++ ys) → All P xs
all-front P [] ys all = All-nil P
all-front P (x ∷ xs) ys all =
    All-cons P x xs (All-head P x (xs ++ ys) all) (all-front P xs ys (All-tail P x (xs ++ ys) all))

pub all-last : (P : ℕ → Type 0) (xs : List ℕ) (y : ℕ) → All P (xs ++ y ∷ []) → P y
all-last P [] y all = All-head P y [] all
all-last P (x ∷ xs) y all = all-last P xs y (All-tail P x (xs ++ y ∷ []) all)

-- the family has the clauses under their ids
abbrev pub CitesAll : ClauseFamily → Clauses → Type 0
CitesAll k clauses = (place : ℕ) (c : BaseClause) → finite.get clauses place ≡ Some c
    → k c.id ≡ Some (set.contains c.literals)

pub cites-at : (k : ClauseFamily) (clauses : Clauses) (arena : ArenaState) (place : Place) → CitesAll k clauses
    → clauses_in arena.clauses ≡ clauses → Has arena place → k (at arena place).id ≡ Some (literals_at arena place)
cites-at k clauses arena place cites same has =
    cites place.0 (base_clause (at arena place))
    (ap (λ x. finite.get x place.0) (sym same) ∙ get-clauses_in arena.clauses place.0
    ∙ ap (option_map base_clause) (stored-is arena.clauses place.0 has))
    ∙ ap Some (contains-clause (at arena place).lits)

-- ---- a clause that the set makes false
pub justified : (k : ClauseFamily) (clauses : Clauses) (arena : ArenaState) (t : TrailState) (source : List Literal)
    (r : Reach) (c : List Literal) (last : ℕ) (hints : List ℕ) → CitesAll k clauses
    → clauses_in arena.clauses ≡ clauses → IsGraph arena t → IsReached arena t.assigned source r
    → Falsifies t.assigned r source (negated c)
    → Lead arena r.forced t.assigned (reason_ids arena r.forced t.assigned)
    → hints ≡ reason_ids arena r.forced t.assigned ++ last ∷ [] → k last ≡ Some (members source)
    → ((q : Literal) → members source q ≡ true → IsFalse t.assigned q ⊎ (true_in t.assigned q ≡ true))
    → (vars : ℕ) → IsNormal c → VarsUpTo vars c → IsJustified k vars c hints
justified k clauses arena t source r c last hints cites same g is fal lead
    gathered named values vars normal known = record {
      normal = normal;
      known = known;
      cited = subst (All (λ id. IsSome (k id))) (sym gathered)
          (All-append (λ id. IsSome (k id)) (reason_ids arena r.forced t.assigned) (last ∷ [])
          (ids-all (λ id. IsSome (k id)) arena r.forced t.assigned some-id)
          (All-cons (λ id. IsSome (k id)) last [] (subst IsSome (sym named) refl) (All-nil (λ id. IsSome (k id)))));
      accepted = λ live all.
          ap (rup live c) gathered
          ∙ accepted arena t source r (negated c) g is fal live last lead
          (cited-by live (subst (All (λ id. family_of live id ≡ k id)) gathered all))
          (all-last (λ id. family_of live id ≡ k id) (reason_ids arena r.forced t.assigned) last
          (subst (All (λ id. family_of live id ≡ k id)) gathered all) ∙ named) values;
    }
  where
    reason-at : (n : ℕ) (a : Assigned) → slice_get t.assigned n ≡ Some a → is_marked r.forced (var_of a.lit) ≡ true
        → (place : Place) × (a.reason ≡ Some place) × Has arena place
    reason-at n a stands mark =
        let f = is.followed (var_of a.lit) mark in
        let e : f.0 ≡ a = some-is f.0 a (sym f.2 ∙ assigned-at t n a g.trail stands) in
        (f.1, sym (ap (λ (x : Assigned). x.reason) e) ∙ f.3, reason-has arena t (var_of a.lit) f.0 f.1 g f.2 f.3)

    some-id : (n : ℕ) (a : Assigned) → slice_get t.assigned n ≡ Some a → is_marked r.forced (var_of a.lit) ≡ true
        → IsSome (k (reason_id arena a.reason))
    some-id n a stands mark =
        let f = reason-at n a stands mark in
        subst (λ o. IsSome (k (reason_id arena o))) (sym f.1)
        (subst IsSome (sym (cites-at k clauses arena f.0 cites same f.2)) refl)

    cited-by : (live : Live) → All (λ id. family_of live id ≡ k id) (reason_ids arena r.forced t.assigned ++ last ∷ [])
        → All (OfReason r.forced (IsCited arena live)) t.assigned
    cited-by live all n d low reason by mark =
        let a = get_or t.assigned n d in
        let stands : slice_get t.assigned n ≡ Some a = slice_get-get_or t.assigned n d low in
        let f = reason-at n a stands mark in
        let p : f.0 ≡ reason = some-is f.0 reason (sym f.1 ∙ by) in
        let has : Has arena reason = subst (Has arena) p f.2 in
        let e : family_of live (reason_id arena a.reason) ≡ k (reason_id arena a.reason) =
        ids-have (λ id. family_of live id ≡ k id) arena r.forced t.assigned
        (all-front (λ id. family_of live id ≡ k id) (reason_ids arena r.forced t.assigned) (last ∷ []) all) n a stands
        mark in
        subst (λ o. family_of live (reason_id arena o) ≡ k (reason_id arena o)) by e
        ∙ cites-at k clauses arena reason cites same has
