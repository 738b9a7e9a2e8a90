-- a step of the walk, by the ending of its visit
use Rattle.std.proofs.Common.{◌≡◌, ◌⊎◌, ℕ, ◌+◌, ◌-◌, ◌<◌, ◌≤◌, true, false, All, List, ◌∷◌, Some, get_or, set, length, refl, sym, ap, ◌∙◌, subst, inl, inr, arith}
use Rattle.std.proofs.lemmas.List.{length-set, take-set, get_or-set_same, length-take-le}
use Rattle.std.proofs.lemmas.List.Elements.{All-weaker}
use Rattle.std.specs.List.{swap_remove}
use Rattle.gr_logic.specs.Literals.{Literal, negation}
use Rattle.gr_logic.specs.Rup.{members}
use Rattle.gr_logic.proofs.SameLiteral.{members-first}
use Rattle.gr_trail.specs.Trails.{TrailState, true_in}
use Rattle.gr_watch.specs.declared.lists.Watch.{Watch}
use Rattle.gr_watch.specs.WatchLists.{WatchLists}
use Rattle.gr_prop.specs.BaseChanges.{with_forced}
use Rattle.gr_prop.specs.Watching.{Store, lits_at, IsBlocked}
use Rattle.gr_prop.specs.Visits.{IsReordered, IsTurned, OthersFalse, IsHeld, IsMoved, Visited}
use Rattle.gr_prop.specs.Walking.{IsWalking, AreVisited, IsProgress}
use Rattle.gr_prop.specs.declared.visits.Ending.{Ending}
use Rattle.gr_prop.proofs.TrailSets.{true_in-more, true_in-last}
use Rattle.gr_prop.proofs.WalkSteps.{list-blocked, turned-walking, renewed-walking, forced-walking, visited-next, blocked-any, visited-blocked, visited-on, visited-front, turned-progress, forced-progress, progress-on}
use Rattle.gr_prop.proofs.Counts.{member-known}
use Rattle.gr_prop.proofs.Moves.{moved-walking, moved-progress, moved-visited}

length-removed : (list : List Watch) (i : ℕ) (w : Watch) → i < length list → i ≤ length (swap_remove list i w)
length-removed list i w low =
    let e = length-set list i (get_or list (length list - 1) w) in
    let f : length (swap_remove list i w) ≡ length list - 1 = length-take-le (length list - 1)
    (set list i (get_or list (length list - 1) w)) (omega arith) in
    omega arith

-- what holds between the steps, of what was there at first and what is now
pub record IsWalked (k n : Store) (t u : TrailState) (ws : WatchLists) (list : List Watch) (gone : Literal)
    (index : ℕ) : Type 0 where
  pub walking : IsWalking n u ws list gone
  pub progress : IsProgress k n t u
  pub visited : AreVisited n u.assigned list index
  pub within : index ≤ length list

pub at-ending : (e f : Ending) (k n : Store) (t u : TrailState) (ws vs : WatchLists) (place : ℕ) (gone : Literal) → e
    ≡ f
    → Visited e k n t u ws vs place gone → Visited f k n t u ws vs place gone
at-ending e f k n t u ws vs place gone is v = subst (λ x. Visited x k n t u ws vs place gone) is v

-- only an order changed
pub cut-walking : (k n : Store) (t u : TrailState) (ws vs : WatchLists) (list : List Watch) (gone : Literal)
    (place : ℕ) → IsReordered k n place
    → IsTurned (lits_at k place) (lits_at n place) gone → u ≡ t → vs ≡ ws → IsWalking k t ws list gone → IsWalking n
    u vs list gone
cut-walking k n t u ws vs list gone place r turned a b walk =
    subst (λ m. IsWalking n u m list gone) (sym b) (subst (λ m. IsWalking n m ws list gone) (sym a)
    (turned-walking k t ws list gone walk n place r turned))

pub cut-progress : (j k n : Store) (s t u : TrailState) (gone : Literal) (place : ℕ) → IsReordered k n place
    → IsTurned (lits_at k place) (lits_at n place) gone → u ≡ t → IsProgress j k s t → IsProgress j n s u
cut-progress j k n s t u gone place r turned a before =
    progress-on j k n s t u before (subst (IsProgress k n t) (sym a) (turned-progress k n t gone place r turned))

module _ (j k n : Store) (s t u : TrailState) (ws vs : WatchLists) (list : List Watch) (gone : Literal) (i : ℕ)
    (w : Watch)
    (before : IsWalked j k s t ws list gone i) (low : i < length list) (at : w ≡ get_or list i w) where
  -- the clause keeps the watch, with a blocker that is true
  pub stays-step : (blocker : Literal) (new : Watch) (list' : List Watch) (i' : ℕ) → IsHeld k n t u ws vs w.place.0
      gone blocker
      → new.place ≡ w.place → new.blocker ≡ blocker → list' ≡ set list i new → i' ≡ i + 1 → IsWalked j n s u vs list'
      gone i'
  stays-step blocker new list' i' v same is a b =
      subst (λ m. IsWalked j n s u vs m gone i') (sym a) (subst (IsWalked j n s u vs (set list i new) gone) (sym b)
      (subst (λ m. IsWalked j n s u m (set list i new) gone (i + 1)) (sym v.lists) (go v.trail)))
    where
      turned-walk : IsWalking n t ws list gone
      turned-walk = turned-walking k t ws list gone before.walking n w.place.0 v.reordered v.turned

      has : members (lits_at n w.place.0) blocker ≡ true
      has = ap (members (lits_at n w.place.0)) v.first ∙ ap (λ c. members c v.turned.first) v.turned.is ∙
          members-first v.turned.first (gone ∷ v.turned.rest)

      blocked : IsBlocked n new
      blocked = ap (λ p. members (lits_at n p.0) new.blocker) same ∙ ap (members (lits_at n w.place.0)) is ∙ has

      long : length (set list i new) ≡ length list
      long = length-set list i new

      new-at : new ≡ get_or (set list i new) i new
      new-at = sym (get_or-set_same list i new new low)

      last-visited : (x : TrailState) → true_in x.assigned blocker ≡ true → AreVisited n x.assigned list i →
          AreVisited n x.assigned (set list i new) (i + 1)
      last-visited x now all = visited-next n x.assigned (set list i new) i new (omega (arith, long)) new-at
          (blocked-any n x.assigned new blocked (ap (true_in x.assigned) is ∙ now))
          (visited-front n x.assigned list (set list i new) i (take-set list i new) all)

      renewed : IsWalking n t ws (set list i new) gone
      renewed = renewed-walking n t ws list gone turned-walk i w new low at same blocked

      held : true_in t.assigned blocker ≡ true → IsWalked j n s t ws (set list i new) gone (i + 1)
      held now = record {
        walking = renewed;
        progress = cut-progress j k n s t t gone w.place.0 v.reordered v.turned refl before.progress;
        visited = last-visited t now (visited-on k n t.assigned t.assigned list i w.place.0 v.reordered (λ q e. e)
            before.visited);
        within = omega (arith, long);
      }

      forced : OthersFalse t.assigned (lits_at n w.place.0) blocker → true_in t.assigned (negation blocker) ≡ false
          → IsWalked j n s (with_forced t blocker w.place) ws (set list i new) gone (i + 1)
      forced others free = record {
        walking = forced-walking n t ws (set list i new) gone renewed blocker w.place v.reordered.there has others
            free low-blocker;
        progress = progress-on j n n s t (with_forced t blocker w.place)
            (cut-progress j k n s t t gone w.place.0 v.reordered v.turned refl before.progress)
            (forced-progress n t blocker w.place);
        visited = last-visited (with_forced t blocker w.place)
            (true_in-last t.assigned (record { lit = blocker; level = t.depth; reason = Some w.place }))
            (visited-on k n t.assigned (with_forced t blocker w.place).assigned list i w.place.0 v.reordered
            (true_in-more t.assigned _) before.visited);
        within = omega (arith, long);
      }
        where
          low-blocker : blocker.index < t.vars
          low-blocker = subst (λ (l : Literal). l.index < t.vars) (sym v.first)
              (subst (All (λ (l : Literal). l.index < t.vars)) v.turned.is (turned-walk.known w.place.0) 0
              v.turned.first (omega arith))

      go : ((true_in t.assigned blocker ≡ true) × (u ≡ t))
          ⊎ (OthersFalse t.assigned (lits_at n w.place.0) blocker × (true_in t.assigned blocker ≡ false)
          × (true_in t.assigned (negation blocker) ≡ false) × (u ≡ with_forced t blocker (record { 0 = w.place.0 })))
          → IsWalked j n s u ws (set list i new) gone (i + 1)
      go (inl e) = subst (λ x. IsWalked j n s x ws (set list i new) gone (i + 1)) (sym e.1) (held e.0)
      go (inr e) = subst (λ x. IsWalked j n s x ws (set list i new) gone (i + 1)) (sym e.3) (forced e.0 e.2)

  -- the watch goes to another literal's list
  pub moves-step : (list' : List Watch) (i' : ℕ) → IsMoved k n t u ws vs w.place.0 gone → list' ≡ swap_remove list i
      w → i' ≡ i
      → IsWalked j n s u vs list' gone i'
  moves-step list' i' v a b =
      subst (λ m. IsWalked j n s u vs m gone i') (sym a) (subst (IsWalked j n s u vs (swap_remove list i w) gone)
      (sym b) record {
        walking = moved-walking k n t u ws vs list w.place.0 gone v before.walking i w low at refl;
        progress = progress-on j k n s t u before.progress (moved-progress k n t u ws vs list w.place.0 gone v
            before.walking);
        visited = moved-visited k n t u ws vs list w.place.0 gone v before.walking i w low before.visited;
        within = omega (arith, length-removed list i w low);
      })

-- blocked watches are passed over
pub passed : (j n : Store) (s u : TrailState) (ws : WatchLists) (list rest : List Watch) (gone : Literal) (i i' : ℕ)
    → IsWalked j n s u ws list gone i
    → rest ≡ list → i ≤ i' → i' ≤ length rest → ((m : ℕ) (d : Watch) → i ≤ m → m < i' → true_in u.assigned
    (get_or rest m d).blocker ≡ true)
    → IsWalked j n s u ws list gone i'
passed j n s u ws list rest gone i i' before same low high blocked =
    let e : i + (i' - i) ≡ i' = omega arith in
    let long : length rest ≡ length list = ap length same in
    record {
      walking = before.walking;
      progress = before.progress;
      visited = subst (AreVisited n u.assigned list) e (visited-blocked n u.assigned list i (i' - i) (omega arith)
          (list-blocked n u ws list gone before.walking)
          (λ m d from to. ap (λ l. true_in u.assigned (get_or l m d).blocker) (sym same) ∙ blocked m d from
          (omega arith)) before.visited);
      within = omega arith;
    }

-- each blocker is known
pub blockers-known : (k : Store) (t : TrailState) (ws : WatchLists) (list rest : List Watch) (gone : Literal) →
    IsWalking k t ws list gone → rest ≡ list
    → All (λ (w : Watch). w.blocker.index < t.vars) rest
blockers-known k t ws list rest gone walk same =
    subst (All (λ (w : Watch). w.blocker.index < t.vars)) (sym same)
    (All-weaker (IsBlocked k) (λ (w : Watch). w.blocker.index < t.vars)
    (λ w blocked. member-known (lits_at k w.place.0) w.blocker (walk.known w.place.0) blocked) list
    (list-blocked k t ws list gone walk))
