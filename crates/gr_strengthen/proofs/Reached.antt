-- what is reached from a clause
use Rattle.std.proofs.Common.{◌≡◌, ◌≢◌, ◌⊎◌, inl, inr, ℕ, zero, suc, ◌+◌, ◌<◌, ◌≤◌, Bool, true, false, ◌||◌, List, [], ◌∷◌, ◌++◌, length, get_or, Option, Some, None, IsSome, refl, sym, ap, ◌∙◌, subst, arith, nat_eq, if◌then◌else◌, length-append}
use Rattle.std.specs.Prelude.{All, slice_get}
use Rattle.std.specs.Option.{option_map}
use Rattle.std.proofs.lemmas.Bool.Decides.{nat_tests}
use Rattle.std.proofs.lemmas.List.{get_or_default}
use Rattle.std.proofs.lemmas.List.Elements.{All-head, All-tail, All-cons, All-nil}
use Rattle.gr_logic.specs.Literals.{Literal, negation, same_literal, var_of}
use Rattle.gr_logic.specs.Rup.{members}
use Rattle.gr_logic.specs.declared.places.Place.{Place}
use Rattle.gr_logic.proofs.Sound.{same_literal-is}
use Rattle.gr_logic.proofs.SameLiteral.{members-first, members-later}
use Rattle.gr_arena.specs.Arenas.{ArenaState, Has, at}
use Rattle.gr_trail.specs.Trails.{Assigned, TrailState, true_in, assigned_to}
use Rattle.gr_trail.proofs.Climbing.{some-is}
use Rattle.gr_trail.proofs.Standing.{at-true, stands-at}
use Rattle.gr_hints.specs.Marking.{is_marked, with_mark}
use Rattle.gr_hints.specs.Gathering.{literals_at}
use Rattle.gr_hints.proofs.MarkedLists.{marked-at}
use Rattle.gr_hints.proofs.MarkedVariables.{marked-more, marked-now, marked-cases, marked-find}
use Rattle.gr_hints.specs.Graphs.{IsGraph}
use Rattle.gr_strengthen.specs.Reaching.{Reach, reason_of, with_var, with_literal_of, with_clause_of, IsCovered, AllCovered, IsForced, IsDecided, IsFollowed, IsOfTrail, AreFollowed, IsMore, IsReached}
use Rattle.gr_strengthen.specs.Reached.{nothing_reached}
use Rattle.gr_strengthen.proofs.Graphing.{reason-has, others-false, true-some}

-- those before stay where they are
before-push : (xs : List ℕ) (v j d : ℕ) → j < length xs → get_or (xs ++ v ∷ []) j d ≡ get_or xs j d
before-push [] v j d low = absurd (omega arith)
before-push (x ∷ xs) v zero d low = refl
before-push (x ∷ xs) v (suc j) d low = before-push xs v j d (omega arith)

-- a list grows behind
record Grows (old new : List ℕ) : Type 0 where
  longer : length old ≤ length new
  before : (j d : ℕ) → j < length old → get_or new j d ≡ get_or old j d

grows-itself : (xs : List ℕ) → Grows xs xs
grows-itself xs = record { longer = omega arith; before = λ j d low. refl }

grows-then : (xs ys zs : List ℕ) → Grows xs ys → Grows ys zs → Grows xs zs
grows-then xs ys zs a b = record {
  longer = let p = a.longer in let q = b.longer in omega arith;
  before = λ j d low. b.before j d (let p = a.longer in omega arith) ∙ a.before j d low;
}

grows-mark : (xs : List ℕ) (v : ℕ) → Grows xs (with_mark xs v)
grows-mark xs v = go (is_marked xs v)
  where
    go : (b : Bool) → Grows xs (if b then xs else xs ++ v ∷ [])
    go true = grows-itself xs
    go false = record {
      longer = let e = length-append xs (v ∷ []) in omega arith;
      before = λ j d low. before-push xs v j d low;
    }

-- ---- one literal
pub more-itself : (r : Reach) → IsMore r r
more-itself r = record { forced = λ v m. m; decided = λ v m. m }

pub more-then : (r s t : Reach) → IsMore r s → IsMore s t → IsMore r t
more-then r s t a b = record {
  forced = λ v m. b.forced v (a.forced v m);
  decided = λ v m. b.decided v (a.decided v m);
}

pub covered-more : (assigned : List Assigned) (r s : Reach) (q : Literal) → IsMore r s → IsCovered assigned r q
    → IsCovered assigned s q
covered-more assigned r s q more (inl e) = inl e
covered-more assigned r s q more (inr (inl m)) = inr (inl (more.forced (var_of q) m))
covered-more assigned r s q more (inr (inr m)) = inr (inr (more.decided (var_of q) m))

-- what one step does
record Steps (assigned : List Assigned) (r s : Reach) : Type 0 where
  more : IsMore r s
  grows : Grows r.forced s.forced
  ofs : IsOfTrail assigned r → IsOfTrail assigned s

steps-then : (assigned : List Assigned) (r s t : Reach) → Steps assigned r s → Steps assigned s t → Steps assigned r t
steps-then assigned r s t a b = record {
  more = more-then r s t a.more b.more;
  grows = grows-then r.forced s.forced t.forced a.grows b.grows;
  ofs = λ o. b.ofs (a.ofs o);
}

module _ (assigned : List Assigned) (r : Reach) (var : ℕ) (a : Assigned) (is : assigned_to assigned var ≡ Some a) where
  var-steps : (o : Option Place) → a.reason ≡ o → Steps assigned r (with_var o r var)
  var-steps None none = record {
    more = record { forced = λ v m. m; decided = λ v m. marked-more r.decided var v m };
    grows = grows-itself r.forced;
    ofs = λ o. record { forced = o.forced; decided = λ v m. go o v (marked-cases r.decided var v m) };
  }
    where
      go : IsOfTrail assigned r → (v : ℕ) → (is_marked r.decided v ≡ true) ⊎ (v ≡ var) → IsDecided assigned v
      go o v (inl m) = o.decided v m
      go o v (inr e) = (a, ap (assigned_to assigned) e ∙ is, none)
  var-steps (Some place) by = record {
    more = record { forced = λ v m. marked-more r.forced var v m; decided = λ v m. m };
    grows = grows-mark r.forced var;
    ofs = λ o. record { forced = λ v m. go o v (marked-cases r.forced var v m); decided = o.decided };
  }
    where
      go : IsOfTrail assigned r → (v : ℕ) → (is_marked r.forced v ≡ true) ⊎ (v ≡ var) → IsForced assigned v
      go o v (inl m) = o.forced v m
      go o v (inr e) = (a, place, ap (assigned_to assigned) e ∙ is, by)

  var-covered : (o : Option Place) (q : Literal) → var_of q ≡ var → IsCovered assigned (with_var o r var) q
  var-covered None q e = inr (inr (ap (is_marked (with_mark r.decided var)) e ∙ marked-now r.decided var))
  var-covered (Some place) q e = inr (inl (ap (is_marked (with_mark r.forced var)) e ∙ marked-now r.forced var))

there : (o : Option Assigned) → IsSome o → (a : Assigned) × (o ≡ Some a)
there None h = absurd (cc)
there (Some a) h = (a, refl)

abbrev after-lit : List Assigned → Reach → Literal → Reach
after-lit assigned r l = with_var (reason_of (assigned_to assigned (var_of l))) r (var_of l)

lit-steps : (assigned : List Assigned) (r : Reach) (l : Literal) → IsSome (assigned_to assigned (var_of l))
    → Steps assigned r (with_literal_of assigned r l) × IsCovered assigned (with_literal_of assigned r l) l
lit-steps assigned r l some = go (true_in assigned l) refl
  where
    here : (a : Assigned) × (assigned_to assigned (var_of l) ≡ Some a)
    here = there (assigned_to assigned (var_of l)) some

    one : Steps assigned r (after-lit assigned r l)
    one = subst (λ o. Steps assigned r (with_var (reason_of o) r (var_of l))) (sym here.1)
        (var-steps assigned r (var_of l) here.0 here.1 here.0.reason refl)

    two : IsCovered assigned (after-lit assigned r l) l
    two = subst (λ o. IsCovered assigned (with_var (reason_of o) r (var_of l)) l) (sym here.1)
        (var-covered assigned r (var_of l) here.0 here.1 here.0.reason l refl)

    go : (b : Bool) → true_in assigned l ≡ b → Steps assigned r (if b then r else (after-lit assigned r l))
        × IsCovered assigned (if b then r else (after-lit assigned r l)) l
    go true e = (record { more = more-itself r; grows = grows-itself r.forced; ofs = λ o. o }, inl e)
    go false e = (one, two)

-- ---- a clause
abbrev AreAssigned : List Assigned → List Literal → Type 0
AreAssigned assigned ls = All (λ l. IsSome (assigned_to assigned (var_of l))) ls

either : (q x : Literal) (xs : List Literal) (P : Type 0) → members (x ∷ xs) q ≡ true → (q ≡ x → P)
    → (members xs q ≡ true → P) → P
either q x xs P m here there =
    elim (same_literal q x) as (λ b. same_literal q x ≡ b → (b || members xs q) ≡ true → P) [
      | true ↦ λ e _. here (same_literal-is q x e)
      | false ↦ λ _ n. there n
    ] refl m

clause-steps : (assigned : List Assigned) (r : Reach) (ls : List Literal) → AreAssigned assigned ls
    → Steps assigned r (with_clause_of assigned r ls) × AllCovered assigned (with_clause_of assigned r ls) ls
clause-steps assigned r [] some =
    (record { more = more-itself r; grows = grows-itself r.forced; ofs = λ o. o }, λ l m. absurd (cc))
clause-steps assigned r (x ∷ xs) some =
    let first = lit-steps assigned r x (All-head (λ (l : Literal). IsSome (assigned_to assigned (var_of l)))
    x xs some) in
    let s : Reach = with_literal_of assigned r x in
    let rest = clause-steps assigned s xs (All-tail (λ (l : Literal). IsSome (assigned_to assigned (var_of l)))
    x xs some) in (
      steps-then assigned r s (with_clause_of assigned s xs) first.0 rest.0,
      λ q m. either q x xs (IsCovered assigned (with_clause_of assigned s xs) q) m
          (λ e. subst (IsCovered assigned (with_clause_of assigned s xs)) (sym e)
          (covered-more assigned s (with_clause_of assigned s xs) x rest.0.more first.1))
          (rest.1 q),
    )

pub clause-covers : (assigned : List Assigned) (r : Reach) (ls : List Literal) → AreAssigned assigned ls
    → AllCovered assigned (with_clause_of assigned r ls) ls
clause-covers assigned r ls some = (clause-steps assigned r ls some).1

pub clause-more : (assigned : List Assigned) (r : Reach) (ls : List Literal) → AreAssigned assigned ls
    → IsMore r (with_clause_of assigned r ls)
clause-more assigned r ls some = (clause-steps assigned r ls some).0.more

-- ---- from a clause
pub begins : (arena : ArenaState) (assigned : List Assigned) (ls : List Literal) → AreAssigned assigned ls
    → AreFollowed arena assigned (with_clause_of assigned nothing_reached ls) 0
begins arena assigned ls some = record {
  ofs = (clause-steps assigned nothing_reached ls some).0.ofs
      (record { forced = λ v m. absurd (cc); decided = λ v m. absurd (cc) });
  done = λ j d low. absurd (omega arith);
}

followed-more : (arena : ArenaState) (assigned : List Assigned) (r s : Reach) (v : ℕ) → IsMore r s
    → IsFollowed arena assigned r v → IsFollowed arena assigned s v
followed-more arena assigned r s v more (a, place, is, by, all) =
    (a, place, is, by, λ q m. covered-more assigned r s q more (all q m))

-- the literals of a reason have values
pub reason-assigned : (arena : ArenaState) (t : TrailState) (var : ℕ) (a : Assigned) (place : Place)
    → IsGraph arena t → assigned_to t.assigned var ≡ Some a → a.reason ≡ Some place
    → AreAssigned t.assigned (at arena place).lits
reason-assigned arena t var a place g is by = each (at arena place).lits (λ q m. m)
  where
    stands : (n : ℕ) × ((slice_get t.assigned n ≡ Some a) × (var_of a.lit ≡ var))
    stands = stands-at t.assigned var a is

    one : (q : Literal) → literals_at arena place q ≡ true → IsSome (assigned_to t.assigned (var_of q))
    one q m = go (same_literal q a.lit) refl
      where
        go : (b : Bool) → same_literal q a.lit ≡ b → IsSome (assigned_to t.assigned (var_of q))
        go true e = subst (λ l. IsSome (assigned_to t.assigned (var_of l))) (sym (same_literal-is q a.lit e))
            (true-some t.assigned a.lit (at-true t.assigned stands.0 a stands.1.0))
        go false e = true-some t.assigned (negation q)
            (others-false arena t.assigned stands.0 a place g.reasoned stands.1.0 by q m e)

    each : (ls : List Literal) → ((q : Literal) → members ls q ≡ true → literals_at arena place q ≡ true)
        → AreAssigned t.assigned ls
    each [] all = All-nil (λ (l : Literal). IsSome (assigned_to t.assigned (var_of l)))
    each (x ∷ xs) all = All-cons (λ (l : Literal). IsSome (assigned_to t.assigned (var_of l))) x xs
        (one x (all x (members-first x xs))) (each xs (λ q m. all q (members-later q x xs m)))

-- one variable is followed
module _ (arena : ArenaState) (t : TrailState) (r : Reach) (index var : ℕ) (g : IsGraph arena t)
    (f : AreFollowed arena t.assigned r index) (within : index < length r.forced)
    (read : var ≡ get_or r.forced index var) where
  forced : IsForced t.assigned var
  forced = f.ofs.forced var (ap (is_marked r.forced) read ∙ marked-at r.forced index var within)

  pub value-some : IsSome (assigned_to t.assigned var)
  value-some = subst IsSome (sym forced.2) refl

  pub reason-some : (o : Option Place) → option_map (λ (a : Assigned). a.reason) (assigned_to t.assigned var) ≡ Some o
      → IsSome o
  reason-some o is =
      let e : Some forced.0.reason ≡ Some o = sym (ap (option_map (λ (a : Assigned). a.reason)) forced.2) ∙ is in
      subst IsSome (sym forced.3 ∙ some-is forced.0.reason o e) refl

  module _ (place : Place)
      (is : option_map (λ (a : Assigned). a.reason) (assigned_to t.assigned var) ≡ Some (Some place)) where
    by : forced.0.reason ≡ Some place
    by = some-is forced.0.reason (Some place)
        (sym (ap (option_map (λ (a : Assigned). a.reason)) forced.2) ∙ is)

    pub followed-has : Has arena place
    followed-has = reason-has arena t var forced.0 place g forced.2 by

    pub followed-assigned : AreAssigned t.assigned (at arena place).lits
    followed-assigned = reason-assigned arena t var forced.0 place g forced.2 by

    abbrev next : Reach
    next = with_clause_of t.assigned r (at arena place).lits

    steps : Steps t.assigned r next × AllCovered t.assigned next (at arena place).lits
    steps = clause-steps t.assigned r (at arena place).lits followed-assigned

    pub follows : AreFollowed arena t.assigned next (index + 1) × IsMore r next
    follows = (record { ofs = steps.0.ofs f.ofs; done = done }, steps.0.more)
      where
        done : (j d : ℕ) → j < index + 1 → IsFollowed arena t.assigned next (get_or next.forced j d)
        done j d low = go (nat_eq j index) refl
          where
            go : (b : Bool) → nat_eq j index ≡ b → IsFollowed arena t.assigned next (get_or next.forced j d)
            go true e =
                let v : index ≡ j = grind (arith, nat_tests) in
                subst (IsFollowed arena t.assigned next)
                (read ∙ sym (get_or_default r.forced index d var within)
                ∙ sym (steps.0.grows.before index d within) ∙ ap (λ n. get_or next.forced n d) v)
                (forced.0, place, forced.2, by, steps.1)
            go false e =
                let v : j ≢ index = grind (arith, nat_tests) in
                let lower : j < index = omega arith in
                subst (IsFollowed arena t.assigned next)
                (sym (steps.0.grows.before j d (omega arith)))
                (followed-more arena t.assigned r next (get_or r.forced j d) steps.0.more (f.done j d lower))

-- in the end all are followed
pub all-reached : (arena : ArenaState) (assigned : List Assigned) (ls : List Literal) (r : Reach) (index : ℕ)
    → AreFollowed arena assigned r index → length r.forced ≤ index
    → IsMore (with_clause_of assigned nothing_reached ls) r
    → AllCovered assigned (with_clause_of assigned nothing_reached ls) ls → IsReached arena assigned ls r
all-reached arena assigned ls r index f end more covered = record {
  ofs = f.ofs;
  covered = λ q m. covered-more assigned (with_clause_of assigned nothing_reached ls) r q more (covered q m);
  followed = λ v m.
      let at = marked-find r.forced v m in
      subst (IsFollowed arena assigned r) (at.1.1 v) (f.done at.0 v (let h = at.1.0 in omega arith));
}
