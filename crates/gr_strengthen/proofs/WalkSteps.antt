-- the walk keeps what greedy strengthening keeps
use Rattle.std.proofs.Common.{◌≡◌, ◌⊎◌, inl, inr, ℕ, Bool, true, false, ◌||◌, List, [], ◌∷◌, ◌++◌, ◌<◌, map, Some, None, refl, sym, ap, ◌∙◌, subst, append_assoc}
use Rattle.std.specs.Prelude.{All}
use Rattle.std.proofs.lemmas.List.{append-nil}
use Rattle.std.proofs.lemmas.List.Elements.{All-append, All-head, All-tail}
use Rattle.gr_logic.specs.Literals.{Literal, negation, same_literal}
use Rattle.gr_logic.specs.Rup.{members, negated}
use Rattle.gr_logic.specs.Closure.{ClauseFamily, InClosure, DerivesConflict}
use Rattle.gr_logic.specs.Greedy.{WalkKeeps}
use Rattle.gr_logic.specs.declared.places.Place.{Place}
use Rattle.gr_logic.specs.Formulas.{VarsUpTo}
use Rattle.gr_logic.specs.NormalForms.{IsNormal}
use Rattle.gr_logic.proofs.Members.{members-push_at}
use Rattle.gr_logic.proofs.Sound.{same_literal-is}
use Rattle.gr_logic.proofs.SameLiteral.{same_literal-itself, or-true}
use Rattle.gr_trail.specs.Trails.{Assigned, TrailState, true_in, value_in, up_to}
use Rattle.gr_prop.specs.Bases.{BaseState, Clauses, family, decisions, IsUnitClosure}
use Rattle.gr_prop.specs.BaseChanges.{IsForcedAt, IsGrown, back_to, Ends}
use Rattle.gr_prop.specs.declared.bases.Propagated.TheVariants.{Quiet, Conflict}
use Rattle.gr_prop.proofs.TrailSets.{open-true, open-false}
use Rattle.gr_hints.specs.Graphs.{IsFalse}
use Rattle.gr_strengthen.specs.Walking.{IsSublist, Represents, HasWalked, HasPassed, HasStopped, IsWalking}
use Rattle.gr_strengthen.proofs.Sublists.{sublist-skip, sublist-normal, sublist-known, normal-one-sign}
use Rattle.gr_strengthen.proofs.Agreement.{same-closure, conflict-too}
use Rattle.gr_strengthen.proofs.WalkTrails.{no-decisions, all-low, kept-decisions}

-- ---- one literal of the walk, by what is known before it
module _ (k : ClauseFamily) (clauses : Clauses) (kept : List Literal) (assigned : List Assigned)
    (decided : decisions assigned ≡ map negation kept) (is : Represents k clauses)
    (u : IsUnitClosure (family clauses) (decisions assigned) assigned) where
  all : IsUnitClosure k (decisions assigned) assigned
  all = same-closure k clauses is (decisions assigned) assigned u

  calm : ¬ DerivesConflict k (negated kept)
  calm c = all.no_conflict (subst (λ ls. DerivesConflict k (members ls)) (sym decided) c)

  derived : (l : Literal) → true_in assigned l ≡ true → InClosure k (negated kept) l
  derived l e = subst (λ ls. InClosure k (members ls) l) decided ((all.closure l).0 e)

  not-derived : (l : Literal) → true_in assigned l ≡ false → ¬ InClosure k (negated kept) l
  not-derived l e c =
      let t : true_in assigned l ≡ true = (all.closure l).1
      (subst (λ ls. InClosure k (members ls) l) (sym decided) c) in
      absurd (cc)

  pub walks-without : (l : Literal) (rest outcome : List Literal) → IsFalse assigned l
      → WalkKeeps k kept rest outcome → WalkKeeps k kept (l ∷ rest) outcome
  walks-without l rest outcome gone w = inr (calm, inl (derived (negation l) gone, w))

  pub walks-last : (l : Literal) (rest : List Literal) → true_in assigned l ≡ true
      → WalkKeeps k kept (l ∷ rest) (kept ++ l ∷ [])
  walks-last l rest holds = inr (calm, inr (inl (derived l holds, refl)))

  pub walks-with : (l : Literal) (rest outcome : List Literal) → value_in assigned l ≡ None
      → WalkKeeps k (kept ++ l ∷ []) rest outcome → WalkKeeps k kept (l ∷ rest) outcome
  walks-with l rest outcome none w =
      inr (
        calm,
        inr (inr (
          not-derived (negation l) (open-false assigned l none),
          not-derived l (open-true assigned l none),
          w,
        )),
      )

-- where a conflict is derived the walk stops
pub stops : (k : ClauseFamily) (kept rest : List Literal) → DerivesConflict k (negated kept)
    → WalkKeeps k kept rest kept
stops k kept [] c = refl
stops k kept (l ∷ rest) c = inl (c, refl)

either : (q x : Literal) (xs : List Literal) (P : Type 0) → members (x ∷ xs) q ≡ true → (q ≡ x → P)
    → (members xs q ≡ true → P) → P
either q x xs P m here there =
    elim (same_literal q x) as (λ b. same_literal q x ≡ b → (b || members xs q) ≡ true → P) [
      | true ↦ λ e _. here (same_literal-is q x e)
      | false ↦ λ _ n. there n
    ] refl m

known-last : (vars : ℕ) (ls : List Literal) (l : Literal) → VarsUpTo vars (ls ++ l ∷ []) → l.index < vars
known-last vars [] l all = All-head (λ q. q.index < vars) l [] all
known-last vars (x ∷ xs) l all = known-last vars xs l (All-tail (λ q. q.index < vars) x (xs ++ l ∷ []) all)

-- ---- the walk begins
-- what was forced at level zero stays when the trail goes back to it
pub stays-low : (old b : TrailState) → All (IsForcedAt 0) old.assigned → old.depth ≡ 0 → IsGrown old b
    → All (IsForcedAt 0) b.assigned
stays-low old b low ground grown =
    subst (All (IsForcedAt 0)) (sym grown.assigned)
    (All-append (IsForcedAt 0) old.assigned grown.more low
    (subst (λ n. All (IsForcedAt n) grown.more) ground grown.forced))

pub walk-begins : (old b : BaseState) (clause : List Literal) → All (IsForcedAt 0) old.trail.assigned
    → decisions b.trail.assigned ≡ decisions old.trail.assigned → IsGrown old.trail b.trail → old.trail.depth ≡ 0
    → Ends Quiet b → IsWalking b b [] clause clause
walk-begins old b clause low same grown ground ends = record {
  clauses = refl;
  vars = refl;
  ground = all-low b.trail.assigned (stays-low old.trail b.trail low ground grown);
  quiet = ends.0;
  decided = same ∙ no-decisions 0 old.trail.assigned low;
  part = λ more s. s;
  left = λ k is outcome w. w;
  passed = λ q m. inr m;
}

-- or ends at once
pub walk-fails : (old b : BaseState) (clause : List Literal) (place : Place) → All (IsForcedAt 0) old.trail.assigned
    → decisions b.trail.assigned ≡ decisions old.trail.assigned → Ends (Conflict place) b
    → HasWalked b [] clause (Some place)
walk-fails old b clause place low same ends = record {
  greedy = λ k is. stops k [] clause (subst (λ ls. DerivesConflict k (members ls)) none
      (conflict-too k b.clauses is (members (decisions b.trail.assigned)) ends.3));
  part = tt;
  decided = λ q m. absurd (let e = ap (λ ls. members ls (negation q)) none in cc);
  spent = (ends.2.0, ends.2.1.0, λ q c. inl (ends.2.1.1 q c));
}
  where
    none : decisions b.trail.assigned ≡ []
    none = same ∙ no-decisions 0 old.trail.assigned low

-- ---- one step
module _ (start old new : BaseState) (kept after rest clause : List Literal) (l : Literal)
    (walking : IsWalking start old kept (l ∷ rest) clause) where
  module _ (passed : HasPassed old new kept after l) where
    left-on : (k : ClauseFamily) → Represents k start.clauses → (outcome : List Literal)
        → WalkKeeps k after rest outcome → WalkKeeps k kept (l ∷ rest) outcome
    left-on k is outcome w = go passed.by
      where
        is' : Represents k old.clauses
        is' = subst (Represents k) (sym walking.clauses) is

        go : (IsFalse old.trail.assigned l × (after ≡ kept))
            ⊎ ((value_in old.trail.assigned l ≡ None) × (after ≡ kept ++ l ∷ []))
            → WalkKeeps k kept (l ∷ rest) outcome
        go (inl out) = walks-without k old.clauses kept old.trail.assigned walking.decided is' passed.closure l rest
            outcome out.0 (subst (λ ls. WalkKeeps k ls rest outcome) out.1 w)
        go (inr with') = walks-with k old.clauses kept old.trail.assigned walking.decided is' passed.closure l rest
            outcome with'.0 (subst (λ ls. WalkKeeps k ls rest outcome) with'.1 w)

    part-on : (more : List Literal) → IsSublist more rest → IsSublist (after ++ more) clause
    part-on more s = go passed.by
      where
        go : (IsFalse old.trail.assigned l × (after ≡ kept))
            ⊎ ((value_in old.trail.assigned l ≡ None) × (after ≡ kept ++ l ∷ []))
            → IsSublist (after ++ more) clause
        go (inl out) = subst (λ ls. IsSublist (ls ++ more) clause) (sym out.1)
            (walking.part more (sublist-skip more l rest s))
        go (inr with') = subst (λ ls. IsSublist (ls ++ more) clause) (sym with'.1)
            (subst (λ ls. IsSublist ls clause) (sym (append_assoc kept (l ∷ []) more))
            (walking.part (l ∷ more) (inl (refl, s))))

    passed-on : (q : Literal) → members clause q ≡ true → IsFalse new.trail.assigned q ⊎ (members rest q ≡ true)
    passed-on q m = go (walking.passed q m)
      where
        go : IsFalse old.trail.assigned q ⊎ (members (l ∷ rest) q ≡ true)
            → IsFalse new.trail.assigned q ⊎ (members rest q ≡ true)
        go (inl gone) = inl (passed.more (negation q) gone)
        go (inr n) = either q l rest (IsFalse new.trail.assigned q ⊎ (members rest q ≡ true)) n
            (λ e. inl (subst (λ p. IsFalse new.trail.assigned p) (sym e) passed.false')) (λ r. inr r)

    pub walk-goes-on : new.clauses ≡ old.clauses → new.trail.vars ≡ old.trail.vars
        → up_to 0 new.trail.assigned ≡ up_to 0 old.trail.assigned → IsWalking start new after rest clause
    walk-goes-on same vars ground = record {
      clauses = same ∙ walking.clauses;
      vars = vars ∙ walking.vars;
      ground = ground ∙ walking.ground;
      quiet = passed.quiet;
      decided = passed.decided;
      part = part-on;
      left = λ k is outcome w. walking.left k is outcome (left-on k is outcome w);
      passed = passed-on;
    }

  pub walk-stops : (place : Place) → HasStopped old new kept after l place → new.clauses ≡ old.clauses
      → HasWalked new after clause (Some place)
  walk-stops place stopped same = record {
    greedy = λ k is. walking.left k (is-start k is) after (left-at k is);
    part = subst (λ ls. IsSublist ls clause) (sym stopped.last) (walking.part (l ∷ []) (inl (refl, tt)));
    decided = stopped.decided;
    spent = stopped.spent;
  }
    where
      is-start : (k : ClauseFamily) → Represents k new.clauses → Represents k start.clauses
      is-start k is = subst (Represents k) (same ∙ walking.clauses) is

      left-at : (k : ClauseFamily) → Represents k new.clauses → WalkKeeps k kept (l ∷ rest) after
      left-at k is = subst (WalkKeeps k kept (l ∷ rest)) (sym stopped.last) (go stopped.by)
        where
          is' : Represents k old.clauses
          is' = subst (Represents k) same is

          go : (true_in old.trail.assigned l ≡ true)
              ⊎ ((value_in old.trail.assigned l ≡ None) × DerivesConflict (family new.clauses)
              (members (map negation after)))
              → WalkKeeps k kept (l ∷ rest) (kept ++ l ∷ [])
          go (inl holds) = walks-last k old.clauses kept old.trail.assigned
              walking.decided is' stopped.closure l rest holds
          go (inr c) = walks-with k old.clauses kept old.trail.assigned walking.decided is' stopped.closure l rest
              (kept ++ l ∷ []) c.0 (stops k (kept ++ l ∷ []) rest
              (subst (λ ls. DerivesConflict k (negated ls)) stopped.last
              (conflict-too k new.clauses is (members (map negation after)) c.1)))

  -- the literal has no negation among those that were kept
  pub walk-fresh : IsNormal clause → members kept (negation l) ≡ false
  walk-fresh normal = go (members kept (negation l)) refl
    where
      all : IsSublist (kept ++ l ∷ []) clause
      all = walking.part (l ∷ []) (inl (refl, tt))

      go : (b : Bool) → members kept (negation l) ≡ b → b ≡ false
      go false e = refl
      go true e = absurd (normal-one-sign (kept ++ l ∷ []) l (sublist-normal (kept ++ l ∷ []) clause all normal)
          (members-push_at l kept l ∙ ap (λ b. b || members kept l) (same_literal-itself l))
          (members-push_at (negation l) kept l ∙ ap (λ b. same_literal (negation l) l || b) e
          ∙ or-true (same_literal (negation l) l)))

  -- and is known
  pub walk-known : (vars : ℕ) → VarsUpTo vars clause → l.index < vars
  walk-known vars known = known-last vars kept l
      (sublist-known vars (kept ++ l ∷ []) clause (walking.part (l ∷ []) (inl (refl, tt))) known)

-- ---- the walk ends
pub walk-ends : (start b : BaseState) (kept clause : List Literal) → IsWalking start b kept [] clause
    → HasWalked b kept clause None
walk-ends start b kept clause walking = record {
  greedy = λ k is. walking.left k (subst (Represents k) walking.clauses is) kept refl;
  part = subst (λ ls. IsSublist ls clause) (append-nil kept) (walking.part [] tt);
  decided = kept-decisions b.trail.assigned kept walking.decided;
  spent = λ q m. go q (walking.passed q m);
}
  where
    go : (q : Literal) → IsFalse b.trail.assigned q ⊎ (members [] q ≡ true)
        → IsFalse b.trail.assigned q ⊎ ((true_in b.trail.assigned q ≡ true) × (members kept q ≡ true))
    go q (inl gone) = inl gone
    go q (inr n) = absurd (cc)

-- the trail at level zero has only grown
pub ground-grown : (old start b : BaseState) → IsGrown old.trail start.trail → old.trail.depth ≡ 0
    → b.trail.vars ≡ start.trail.vars → up_to 0 b.trail.assigned ≡ start.trail.assigned
    → IsGrown old.trail (back_to b.trail 0)
ground-grown old start b grown ground vars low = record {
  vars = vars ∙ grown.vars;
  depth = sym ground;
  more = grown.more;
  assigned = low ∙ grown.assigned;
  forced = grown.forced;
}
