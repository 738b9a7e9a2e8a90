-- clauses that may go, and those that went
use Rattle.std.proofs.Common.{◌≡◌, ◌≢◌, inl, inr, ℕ, zero, suc, ◌<◌, ◌≤◌, Bool, true, false, ◌&&◌, ◌||◌, List, [], ◌∷◌, ◌++◌, length, get_or, Some, IsSome, refl, sym, ap, ◌∙◌, subst, arith}
use Rattle.std.specs.Prelude.{All, AllPairs, slice_get}
use Rattle.std.specs.Option.{option_map}
use Rattle.std.specs.List.{list_any}
use Rattle.std.specs.FinMap as finite
use Rattle.std.specs.FinSet as set
use Rattle.std.proofs.lemmas.Bool.Decides.{nat_tests}
use Rattle.std.proofs.lemmas.List.Elements.{All-cons, All-nil, All-append, All-weaker}
use Rattle.std.proofs.lemmas.Option.{slice_get-get_or}
use Rattle.gr_logic.specs.Literals.{Literal, same_literal, var_of}
use Rattle.gr_logic.specs.Formulas.{Cnf}
use Rattle.gr_logic.specs.NormalForms.{IsNormal}
use Rattle.gr_logic.specs.Rup.{LiteralSet, members}
use Rattle.gr_logic.specs.Closure.{no_literals}
use Rattle.gr_logic.specs.declared.places.Place.{Place}
use Rattle.gr_logic.proofs.Sound.{same_literal-is}
use Rattle.gr_logic.proofs.SameLiteral.{members-first, members-later}
use Rattle.gr_arena.specs.Arenas.{Stored, ArenaState, at}
use Rattle.gr_trail.specs.Trails.{Assigned, TrailState, IsTrail, assigned_to}
use Rattle.gr_trail.proofs.Standing.{at-true, assigned-at}
use Rattle.gr_prop.specs.Bases.{BaseClause, BaseState, IsBase, clauses_in, family}
use Rattle.gr_prop.proofs.Founded.{founded-at}
use Rattle.gr_prop.proofs.Lookups.{family-stored, known-stored}
use Rattle.gr_strengthen.specs.Families.{IsLongClause, clauses_above}
use Rattle.gr_strengthen.specs.Holding.{IsHolding}
use Rattle.gr_strengthen.specs.LettingGo.{HasUniqueIds, IsUnneeded, IsFree, IsPassed, IsLettingGo, forces, is_reason}
use Rattle.gr_strengthen.specs.Reaching.{reason_of}
use Rattle.gr_strengthen.proofs.KeptMaps.{above-get, above-remove, remove-there, without-push}
use Rattle.gr_strengthen.proofs.Regrounded.{remove-grounded}
use Rattle.gr_strengthen.proofs.Loaded.{formula-remove}

some-set : (x y : LiteralSet) → Some x ≡ Some y → x ≡ y
some-set x y e = cc

-- a normal list of two literals or more has two that differ
two-of : (ls : List Literal) → IsNormal ls → 2 ≤ length ls
    → (l : Literal) × (q : Literal) × (members ls l ≡ true) × (members ls q ≡ true) × (l ≢ q)
two-of [] normal long = absurd (omega arith)
two-of (x ∷ []) normal long = absurd (omega arith)
two-of (x ∷ y ∷ rest) normal long = (
  x,
  y,
  members-first x (y ∷ rest),
  members-later y x (y ∷ rest) (members-first y rest),
  λ e. normal.0 y (members-first y rest) (ap (λ (l : Literal). l.index) (sym e)),
)

any-member : (p : Literal → Bool) (ls : List Literal) (l : Literal) → members ls l ≡ true → p l ≡ true
    → list_any p ls ≡ true
any-member p [] l m e = absurd (cc)
any-member p (x ∷ xs) l m e = go (same_literal l x) refl m (any-member p xs l)
  where
    or-true : (b : Bool) → (b || true) ≡ true
    or-true true = refl
    or-true false = refl

    go : (b : Bool) → same_literal l x ≡ b → (b || members xs l) ≡ true
        → (members xs l ≡ true → p l ≡ true → list_any p xs ≡ true) → (p x || list_any p xs) ≡ true
    go true s m rest = ap (λ b. b || list_any p xs) (ap p (sym (same_literal-is l x s)) ∙ e)
    go false s m rest = ap (λ b. p x || b) (rest m e) ∙ or-true (p x)

pub unneeded : (b : BaseState) (arena : ArenaState) (t : TrailState) (place : Place) (lits : List Literal) → IsBase b
    → IsTrail t → t ≡ b.trail → clauses_in arena.clauses ≡ b.clauses
    → ((p : ℕ) (s : Stored) → finite.get arena.clauses p ≡ Some s → IsNormal s.lits)
    → IsSome (finite.get b.clauses place.0) → lits ≡ (at arena place).lits → 2 ≤ length lits
    → list_any (forces t.assigned place) lits ≡ false → IsUnneeded b place
unneeded b arena t place lits base trail is same normal there told long none = record {
  long = λ c e.
      let two = two-of lits (known-stored IsNormal arena.clauses b.clauses place.0 lits same there told normal) long in
      let f : set.contains c.literals ≡ members lits = some-set (set.contains c.literals) (members lits)
      (sym (ap (option_map (λ (y : BaseClause). set.contains y.literals)) e) ∙ stored) in
      (two.0, two.1, ap (λ s. s two.0) f ∙ two.2, ap (λ s. s two.1) f ∙ two.3, two.4);
  unneeded = λ k d low by. needed k (get_or b.trail.assigned k d) (slice_get-get_or b.trail.assigned k d low) by;
}
  where
    stored : family b.clauses place.0 ≡ Some (members lits)
    stored = family-stored arena.clauses b.clauses place.0 lits same there told

    needed : (k : ℕ) (a : Assigned) → slice_get b.trail.assigned k ≡ Some a → a.reason ≡ Some place → ⊥
    needed k a stands by =
        let f = founded-at (family b.clauses) no_literals b.trail.assigned k a place base.founded stands by in
        let m : members lits a.lit ≡ true =
        ap (λ s. s a.lit) (some-set (members lits) f.clause (sym stored ∙ f.there)) ∙ f.has in
        let stood : slice_get t.assigned k ≡ Some a = ap (λ (u : TrailState). slice_get u.assigned k) is ∙ stands in
        let yes' : forces t.assigned place a.lit ≡ true =
        ap (λ b. b && is_reason place (reason_of (assigned_to t.assigned (var_of a.lit))))
        (at-true t.assigned k a stood)
        ∙ ap (λ o. is_reason place (reason_of o)) (assigned-at t k a trail stood) ∙ ap (is_reason place) by
        ∙ (grind (arith, nat_tests)) in
        let any = any-member (forces t.assigned place) lits a.lit m yes' in
        cc

-- ---- ids that rise
pairs-tail : (x : ℕ) (xs : List ℕ) → AllPairs (λ a b. a < b) (x ∷ xs) → AllPairs (λ a b. a < b) xs
pairs-tail x xs all i j d low high = all (suc i) (suc j) d (omega arith) (omega arith)

pairs-head : (x : ℕ) (xs : List ℕ) → AllPairs (λ a b. a < b) (x ∷ xs) → All (λ b. x < b) xs
pairs-head x xs all k d low = all 0 (suc k) d (omega arith) (omega arith)

pairs-cons : (x : ℕ) (xs : List ℕ) → All (λ b. x < b) xs → AllPairs (λ a b. a < b) xs → AllPairs (λ a b. a < b) (x ∷ xs)
pairs-cons x xs first rest zero zero d low high = absurd (omega arith)
pairs-cons x xs first rest zero (suc j) d low high = first j d (omega arith)
pairs-cons x xs first rest (suc i) zero d low high = absurd (omega arith)
pairs-cons x xs first rest (suc i) (suc j) d low high = rest i j d (omega arith) (omega arith)

pairs-push : (xs : List ℕ) (y : ℕ) → AllPairs (λ a b. a < b) xs → All (λ a. a < y) xs
    → AllPairs (λ a b. a < b) (xs ++ y ∷ [])
pairs-push [] y all low = pairs-cons y [] (All-nil (λ b. y < b)) (λ i j d low high. absurd (omega arith))
pairs-push (x ∷ xs) y all low = pairs-cons x (xs ++ y ∷ [])
    (All-append (λ b. x < b) xs (y ∷ []) (pairs-head x xs all)
    (All-cons (λ b. x < b) y [] (low 0 x (omega arith)) (All-nil (λ b. x < b))))
    (pairs-push xs y (pairs-tail x xs all) (λ k d h. low (suc k) d (omega arith)))

-- ---- the clauses go one after another
pub go-begins : (b : BaseState) (last : ℕ) (ids : List ℕ) → AllPairs (λ a b. a < b) ids → IsLettingGo b b last [] ids
go-begins b last ids rising = record {
  let_go = record {
    rising = λ i j d low high. absurd (omega arith);
    long = All-nil (IsLongClause (clauses_above last b.clauses));
    rest = refl;
  };
  coming = rising;
  below = All-nil (λ id. All (λ other. id < other) ids);
  part = λ p c e. e;
  holding = λ f n x y e h. h;
}

all-tail : (P : ℕ → Type 0) (x : ℕ) (xs : List ℕ) → All P (x ∷ xs) → All P xs
all-tail P x xs all k d low = all (suc k) d (omega arith)

all-head : (P : ℕ → Type 0) (x : ℕ) (xs : List ℕ) → All P (x ∷ xs) → P x
all-head P x xs all = all 0 x (omega arith)

pub go-on : (start old new : BaseState) (last id : ℕ) (gone after rest : List ℕ) → HasUniqueIds start.clauses
    → IsLettingGo start old last gone (id ∷ rest) → IsPassed old new last id gone after
    → IsLettingGo start new last after rest
go-on start old new last id gone after rest unique going (inl stays) =
    subst (λ ids. IsLettingGo start new last ids rest) (sym stays.0)
    (subst (λ b. IsLettingGo start b last gone rest) (sym stays.1) (record {
      let_go = going.let_go;
      coming = pairs-tail id rest going.coming;
      below = All-weaker (λ x. All (λ other. x < other) (id ∷ rest)) (λ x. All (λ other. x < other) rest)
          (λ x. all-tail (λ other. x < other) id rest) gone going.below;
      part = going.part;
      holding = going.holding;
    }))
go-on start old new last id gone after rest unique going (inr went) =
    subst (λ ids. IsLettingGo start new last ids rest) (sym went.0)
    (subst (λ b. IsLettingGo start b last (gone ++ id ∷ []) rest) (sym went.3) (record {
      let_go = record {
        rising = pairs-push gone id going.let_go.rising
            (All-weaker (λ x. All (λ other. x < other) (id ∷ rest)) (λ x. x < id)
            (λ x. all-head (λ other. x < other) id rest) gone going.below);
        long = All-append (IsLongClause (clauses_above last start.clauses)) gone (id ∷ []) going.let_go.long
            (All-cons (IsLongClause (clauses_above last start.clauses)) id [] is-long
            (All-nil (IsLongClause (clauses_above last start.clauses))));
        rest = above-remove last old.clauses place.0 free.clause unique-now free.there
            ∙ ap (finite.remove (clauses_above last old.clauses)) free.named
            ∙ ap (λ kept. finite.remove kept id) going.let_go.rest
            ∙ sym (without-push (clauses_above last start.clauses) gone id);
      };
      coming = pairs-tail id rest going.coming;
      below = All-append (λ x. All (λ other. x < other) rest) gone (id ∷ [])
          (All-weaker (λ x. All (λ other. x < other) (id ∷ rest)) (λ x. All (λ other. x < other) rest)
          (λ x. all-tail (λ other. x < other) id rest) gone going.below)
          (All-cons (λ x. All (λ other. x < other) rest) id [] (pairs-head id rest going.coming)
          (All-nil (λ x. All (λ other. x < other) rest)));
      part = λ p c e. going.part p c (remove-there old.clauses place.0 p c e);
      holding = λ f n x y e h. removed f n x y e (going.holding f n x y e h);
    }))
  where
    place : Place
    place = went.1

    free : IsFree old last id place
    free = went.2

    unique-now : HasUniqueIds old.clauses
    unique-now p q c d at-p at-q same = unique p q c d (going.part p c at-p) (going.part q d at-q) same

    is-long : IsLongClause (clauses_above last start.clauses) id
    is-long = (
      free.clause.literals,
      ap (finite.get (clauses_above last start.clauses)) (sym free.named)
          ∙ above-get last start.clauses place.0 free.clause unique (going.part place.0 free.clause free.there)
          (let a = free.above in let n = free.named in omega (arith, a, n)),
      free.free.long free.clause free.there,
    )

    removed : (f : Cnf) (n x y : ℕ) → length f.clauses ≡ last → IsHolding f old.clauses old.trail n x y
        → IsHolding f (finite.remove old.clauses place.0) old.trail n x y
    removed f n x y e h = record {
      formula = formula-remove f old.clauses place.0 free.clause free.there
          (let a = free.above in let m = free.named in omega (arith, a, m, e)) h.formula;
      grounded = remove-grounded f old.clauses old.trail n place.0 free.clause free.there
          (free.free.long free.clause free.there) h.grounded;
      forced' = h.forced';
      decided' = h.decided';
    }
