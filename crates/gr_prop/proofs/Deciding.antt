-- a base that starts, opens a level or goes back
use Rattle.std.proofs.Common.{◌≡◌, ℕ, ◌+◌, ◌*◌, ◌≤◌, ◌<◌, false, All, List, [], ◌∷◌, ◌++◌, replicate, None, IsSome, length, take, drop, get_or, zero, suc, refl, sym, ap, ◌∙◌, subst, arith}
use Rattle.std.proofs.lemmas.List.{length-append, length-replicate, take-append-le, drop_at}
use Rattle.std.proofs.lemmas.List.Elements.{All-nil}
use Rattle.std.specs.Option.{unwrap_or, option_map}
use Rattle.std.specs.FinMap as finite
use Rattle.gr_logic.specs.Literals.{Literal}
use Rattle.gr_logic.specs.Codes.{code_of}
use Rattle.gr_logic.specs.declared.places.Place.{Place}
use Rattle.gr_trail.specs.Trails.{Assigned, TrailState, value_in}
use Rattle.gr_watch.specs.WatchLists.{WatchLists, list_of}
use Rattle.gr_arena.specs.Arenas.{Stored, no_clause}
use Rattle.gr_prop.specs.Bases.{BaseClause, base_clause, clauses_in}
use Rattle.gr_prop.specs.BaseChanges.{with_decision}
use Rattle.std.specs.Ordering.{nat_cmp}
use Rattle.gr_prop.specs.Watching.{Store, lits_at, count_in, watched, longer, paired, IsOther, ArePaired, occurs, IsBlocked, Guards, AreAt, AreBroken, IsReady, IsIndexed, IsKeptBase}
use Rattle.gr_prop.proofs.TrailSets.{open-false}
use Rattle.gr_prop.proofs.Kept.{guarded-more}
use Rattle.gr_prop.proofs.Stores.{get-clauses_in, same-map}
use Rattle.gr_prop.proofs.Sound.{sound-decided}
use Rattle.gr_prop.proofs.Rounds.{none-broken}
use Rattle.gr_prop.proofs.Keeping.{kept-open}

-- a decision opens a level, where all was propagated
pub ready-decided : (k : Store) (t : TrailState) (ws : WatchLists) (head : ℕ) (broken : List Place) (l : Literal) →
    IsReady k t ws head broken
    → length t.assigned ≤ head → broken ≡ [] → l.index < t.vars → value_in t.assigned l ≡ None → IsReady k
    (with_decision t l) ws head broken
ready-decided k t ws head broken l ready end none low free =
    let item : Assigned = record { lit = l; level = t.depth + 1; reason = None } in
    let at : head ≡ length t.assigned = let h = ready.within in omega arith in
    let front : take head (t.assigned ++ item ∷ []) ≡ take head t.assigned = take-append-le head t.assigned
    (item ∷ []) ready.within in
    let back : drop head (t.assigned ++ item ∷ []) ≡ item ∷ [] = drop_at t.assigned (item ∷ []) head (sym at) in
    record {
      watching = ready.watching;
      blocked = ready.blocked;
      distinct = ready.distinct;
      known = ready.known;
      vars = ready.vars;
      even = ready.even;
      sound = sound-decided (clauses_in k) t l ready.sound low (open-false t.assigned l free);
      within = omega (arith, length-append t.assigned (item ∷ []), at);
      guards = subst (Guards k broken (t.assigned ++ item ∷ [])) (sym front)
          (λ q there other. guarded-more t.assigned (item ∷ []) (take head t.assigned) (lits_at k q)
          (ready.guards q there other));
      queue = subst (AreAt (t.depth + 1)) (sym back) (refl, tt);
      broken' = subst (AreBroken k (with_decision t l)) (sym none) (none-broken k (with_decision t l));
    }

-- nothing is there
empty-lits : (q : ℕ) → lits_at finite.empty q ≡ []
empty-lits q = ap (λ o. (unwrap_or o no_clause).lits) (finite.get-empty _ q)

same-everywhere : {X : Type 0} (n i : ℕ) (x : X) → get_or (replicate n x) i x ≡ x
same-everywhere zero i x = refl
same-everywhere (suc n) zero x = refl
same-everywhere (suc n) (suc i) x = same-everywhere n i x

empty-list : (vars : ℕ) (l : Literal) → list_of (record { vars = vars; lists = replicate (2 * vars) [] }) l ≡ []
empty-list vars l = same-everywhere (2 * vars) (code_of l) []

pub kept-empty : (vars : ℕ) → IsKeptBase finite.empty (record { vars = vars; depth = 0; assigned = [] })
    (record { vars = vars; lists = replicate (2 * vars) [] }) finite.empty 0 [] false None
kept-empty vars = kept-open _ _ _ _ _ _ _ _ record {
  watching = λ q l. ap (count_in q) (empty-list vars l) ∙ sym (ap (λ c. watched (longer c) l) (empty-lits q));
  blocked = λ l. subst (All (IsBlocked finite.empty)) (sym (empty-list vars l)) (All-nil (IsBlocked finite.empty));
  distinct = λ q index. subst (λ c. occurs c index ≤ 1) (sym (empty-lits q)) (omega arith);
  known = λ q. subst (All (λ (l : Literal). l.index < vars)) (sym (empty-lits q)) (All-nil _);
  vars = refl;
  even = length-replicate (2 * vars) [];
  sound = record { founded = tt; consistent = λ l e. absurd (cc); climbs = refl; within = tt };
  within = omega arith;
  guards = λ q there. absurd (gone q there);
  queue = tt;
  broken' = none-broken _ _;
} indexed refl refl
  where
    gone : (q : ℕ) → IsSome (finite.get {X = Stored} {R = nat_cmp} finite.empty q) → ⊥
    gone q there = let e = finite.get-empty {X = Stored} nat_cmp q in cc

    indexed : IsIndexed (clauses_in finite.empty) finite.empty
    indexed = record {
      found = λ id p e. let f = finite.get-empty {X = Place} nat_cmp id in absurd (cc);
      kept = λ p id h. let f = get-clauses_in finite.empty p.0 ∙ ap (option_map base_clause)
          (finite.get-empty {X = Stored} nat_cmp p.0) in let g = h.1 in absurd (cc);
    }

pub paired-empty : (vars : ℕ) → ArePaired finite.empty vars
    (record { vars = vars; lists = replicate (2 * vars) [] })
paired-empty vars = record {
  watching = λ q l. ap (count_in q) (empty-list vars l) ∙ sym (ap (λ c. watched (paired c) l) (empty-lits q));
  others = λ l. subst (All (IsOther finite.empty l)) (sym (empty-list vars l)) (All-nil (IsOther finite.empty l));
  vars' = refl;
  even = length-replicate (2 * vars) [];
}

pub empty-clauses : clauses_in finite.empty ≡ finite.empty
empty-clauses = same-map _ _ (λ q. get-clauses_in finite.empty q ∙ ap (option_map base_clause)
    (finite.get-empty {X = Stored} nat_cmp q) ∙ sym (finite.get-empty {X = BaseClause} nat_cmp q))
