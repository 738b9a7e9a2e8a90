-- what a base keeps, from what a call left
use Rattle.std.proofs.Common.{◌≡◌, ℕ, ◌≤◌, Bool, true, false, ◌||◌, nat_eq, All, List, [], ◌∷◌, ◌++◌, Option, Some, None, IsSome, length, refl, ap, ◌∙◌, subst, arith}
use Rattle.std.proofs.lemmas.List.{append_assoc}
use Rattle.std.proofs.lemmas.List.Elements.{All-append}
use Rattle.std.specs.Option.{unwrap_or}
use Rattle.std.specs.List.{slice_get}
use Rattle.std.proofs.lemmas.Bool.Decides.{nat_tests}
use Rattle.std.specs.FinMap as finite
use Rattle.gr_logic.specs.Closure.{DerivesConflict}
use Rattle.gr_logic.specs.Rup.{members}
use Rattle.gr_logic.specs.declared.places.Place.{Place}
use Rattle.gr_trail.specs.Trails.{TrailState}
use Rattle.gr_watch.specs.WatchLists.{WatchLists}
use Rattle.gr_prop.specs.Bases.{clauses_in, family, decisions, IsFalseAt}
use Rattle.gr_prop.specs.BaseChanges.{IsGrown, IsForcedAt, Ends}
use Rattle.gr_prop.specs.declared.bases.Propagated.TheVariants.{Conflict}
use Rattle.gr_prop.specs.Watching.{Store, lits_at, AllFalse, IsReady, IsIndexed, IsKeptBase, is_in}
use Rattle.gr_prop.proofs.Closed.{falsified-derives}
use Rattle.gr_prop.proofs.Stores.{family-there}
use Rattle.gr_prop.proofs.Rounds.{grown-decisions}

pub grown-on : (t s u : TrailState) → IsGrown t s → IsGrown s u → IsGrown t u
grown-on t s u one two = record {
  vars = two.vars ∙ one.vars;
  depth = two.depth ∙ one.depth;
  more = one.more ++ two.more;
  assigned = two.assigned ∙ ap (λ x. x ++ two.more) one.assigned ∙ append_assoc t.assigned one.more two.more;
  forced = All-append (IsForcedAt t.depth) one.more two.more one.forced
      (subst (λ d. All (IsForcedAt d) two.more) one.depth two.forced);
}

pub decisions-grown : (t u : TrailState) → IsGrown t u → decisions u.assigned ≡ decisions t.assigned
decisions-grown t u g = ap decisions g.assigned ∙ grown-decisions t.depth t.assigned g.more g.forced

-- neither quiet nor in conflict
pub kept-open : (k : Store) (t : TrailState) (ws : WatchLists) (places : finite.FinMap _ Place) (head : ℕ)
    (broken : List Place) (quiet : Bool) (conflict : Option Place)
    → IsReady k t ws head broken → IsIndexed (clauses_in k) places → quiet ≡ false → conflict ≡ None → IsKeptBase k t
    ws places head broken quiet conflict
kept-open k t ws places head broken quiet conflict ready indexed no' none = record {
  ready = ready;
  indexed = indexed;
  ended = record { done = λ e. absurd (cc); falsified = λ place e. absurd (cc) };
}

-- in conflict
pub kept-conflict : (k : Store) (t : TrailState) (ws : WatchLists) (places : finite.FinMap _ Place) (head : ℕ)
    (broken : List Place) (quiet : Bool) (place : Place)
    → IsReady k t ws head broken → IsIndexed (clauses_in k) places → quiet ≡ false
    → IsSome (finite.get k place.0) → AllFalse t.assigned (lits_at k place.0) → IsKeptBase k t ws places head broken
    quiet (Some place)
kept-conflict k t ws places head broken quiet place ready indexed no' there falses = record {
  ready = ready;
  indexed = indexed;
  ended = record {
    done = λ e. absurd (cc);
    falsified = λ p e. subst (λ (q : Place). IsSome (finite.get k q.0) × AllFalse t.assigned (lits_at k q.0))
        (ap (λ (o : Option Place). unwrap_or {T = Place} o p) e) (there, falses);
  };
}

-- quiet
pub kept-quiet : (k : Store) (t : TrailState) (ws : WatchLists) (places : finite.FinMap _ Place) (head : ℕ)
    (broken : List Place) (conflict : Option Place)
    → IsReady k t ws head broken → IsIndexed (clauses_in k) places → length t.assigned ≤ head → broken ≡ [] →
    conflict ≡ None
    → IsKeptBase k t ws places head broken true conflict
kept-quiet k t ws places head broken conflict ready indexed end none no' = record {
  ready = ready;
  indexed = indexed;
  ended = record { done = λ _. (end, none); falsified = λ place e. absurd (cc) };
}

-- a false clause, as a contract says it
pub false-at : (k : Store) (t : TrailState) (place : Place) → IsSome (finite.get k place.0) → AllFalse t.assigned
    (lits_at k place.0)
    → IsFalseAt (clauses_in k) t.assigned place
false-at k t place there falses = (members (lits_at k place.0), (family-there k place.0 there, falses))

pub false-derives : (k : Store) (t : TrailState) (ws : WatchLists) (head : ℕ) (broken : List Place) (place : Place) →
    IsReady k t ws head broken
    → IsSome (finite.get k place.0) → AllFalse t.assigned (lits_at k place.0) → DerivesConflict
    (family (clauses_in k)) (members (decisions t.assigned))
false-derives k t ws head broken place ready there falses =
    falsified-derives (family (clauses_in k)) t.assigned place.0 (lits_at k place.0) ready.sound.founded
    (family-there k place.0 there) falses

-- the first clause that was false when it came in
pub first-broken : (broken : List Place) (place : Place) → slice_get broken 0 ≡ Some place → is_in broken place.0 ≡ true
first-broken [] place e = absurd (cc)
first-broken (p ∷ ps) place e =
    let is : p ≡ place = ap (λ (o : Option Place). unwrap_or {T = Place} o p) e in
    let same : nat_eq p.0 p.0 ≡ true = grind (arith, nat_tests) in
    ap (λ b. b || is_in ps place.0) (subst (λ (q : Place). nat_eq p.0 q.0 ≡ true) is same)

-- so propagation ends at it
pub ends-false : (k : Store) (t : TrailState) (ws : WatchLists) (head : ℕ) (broken : List Place) (quiet : Bool)
    (place : Place) → quiet ≡ false → IsReady k t ws head broken → IsSome (finite.get k place.0)
    → AllFalse t.assigned (lits_at k place.0)
    → Ends (Conflict place) (record { clauses = clauses_in k; trail = t; quiet = quiet; conflict = Some place })
ends-false k t ws head broken quiet place going ready there falses = (
  going,
  refl,
  false-at k t place there falses,
  false-derives k t ws head broken place ready there falses,
)

pub none-first : (broken : List Place) → slice_get broken 0 ≡ None → broken ≡ []
none-first [] e = refl
none-first (p ∷ ps) e = absurd (cc)
