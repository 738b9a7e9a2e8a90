-- the clauses of a formula that come into a base, one after the other
use Rattle.std.proofs.Common.{◌≡◌, ◌⊎◌, inl, inr, ℕ, zero, suc, ◌+◌, ◌<◌, ◌≤◌, false, not, List, [], ◌∷◌, length, get_or, All, Option, Some, None, refl, sym, ap, ◌∙◌, subst, arith, nat_eq, if◌then◌else◌}
use Rattle.std.specs.Prelude.{slice_get}
use Rattle.std.specs.Option.{option_map}
use Rattle.std.specs.Ordering.{nat_cmp}
use Rattle.std.specs.FinMap as finite
use Rattle.std.specs.FinSet as set
use Rattle.std.proofs.lemmas.Bool.{cases_eq}
use Rattle.std.proofs.lemmas.Bool.Decides.{nat_tests}
use Rattle.std.proofs.lemmas.List.Elements.{All-cons, All-head, All-tail, All-filter}
use Rattle.std.proofs.lemmas.Option.{slice_get-get_or, slice_get_within, get_or_from_slice_get}
use Rattle.gr_logic.specs.Literals.{Literal, same_literal}
use Rattle.gr_logic.specs.Formulas.{Cnf, VarsUpTo}
use Rattle.gr_logic.specs.NormalForms.{IsTautology, IsNormal, first_occurrences}
use Rattle.gr_logic.specs.Rup.{members}
use Rattle.gr_logic.specs.Closure.{family_of}
use Rattle.gr_logic.specs.Log as log
use Rattle.gr_logic.specs.declared.places.Place.{Place}
use Rattle.gr_logic.proofs.FirstOccurrences.{normal-forms}
use Rattle.gr_diary.specs.States.{initial_state}
use Rattle.gr_diary.proofs.LogPieces.{get-insert_at}
use Rattle.gr_diary.proofs.Moved.{get-new}
use Rattle.gr_trail.specs.Trails.{TrailState}
use Rattle.gr_prop.specs.Bases.{BaseState, BaseClause, Clauses, LacksId, family, empty_base}
use Rattle.gr_prop.specs.BaseChanges.{IsAdded, IsAddable, with_forced}
use Rattle.gr_prop.proofs.Stores.{by_place, get-insert-same, get-insert-other, contains-clause}
use Rattle.gr_search.specs.HeldClauses.{Knows}

-- what is true of all literals is true of the first occurrences
all-firsts : (P : Literal → Type 0) (c : List Literal) → All P c → All P (first_occurrences c)
all-firsts P [] all = all
all-firsts P (l ∷ ls) all =
    All-cons P l _ (All-head P l ls all)
    (All-filter (λ q. not (same_literal q l)) P (first_occurrences ls) (all-firsts P ls (All-tail P l ls all)))

-- ---- the formula's clauses under their ids
-- what is there below the ids stays
get-before : (cs : List (List Literal)) (live : log.Clauses) (id q : ℕ) → q < id
    → finite.get (log.with_clauses live id cs) q ≡ finite.get live q
get-before [] live id q low = refl
get-before (c ∷ cs) live id q low =
    let other : nat_eq q id ≡ false = grind (arith, nat_tests) in
    get-before cs (finite.insert live id c) (id + 1) q (omega (arith, low))
    ∙ get-insert_at live id c q ∙ ap (λ b. if b then Some c else finite.get live q) other

get-at : (cs : List (List Literal)) (live : log.Clauses) (id i : ℕ) (c : List Literal) → slice_get cs i ≡ Some c
    → finite.get (log.with_clauses live id cs) (id + i) ≡ Some c
get-at [] live id i c at = absurd (cc)
get-at (x ∷ cs) live id zero c at =
    ap (finite.get (log.with_clauses (finite.insert live id x) (id + 1) cs)) (omega arith)
    ∙ get-before cs (finite.insert live id x) (id + 1) id (omega arith) ∙ get-new live id x ∙ at
get-at (x ∷ cs) live id (suc i) c at =
    ap (finite.get (log.with_clauses (finite.insert live id x) (id + 1) cs)) (omega arith)
    ∙ get-at cs (finite.insert live id x) (id + 1) i c at

-- the clause at an index has the index and one as its id
family-at : (f : Cnf) (i id : ℕ) (c : List Literal) → slice_get f.clauses i ≡ Some c → id ≡ i + 1
    → family_of (finite.get (initial_state f).live) id ≡ Some (members c)
family-at f i id c at is =
    ap (option_map members) (ap (finite.get (initial_state f).live) (omega (arith, is))
    ∙ get-at f.clauses finite.empty 1 i c at)

-- ---- a clause of the formula
pub clause-at : (f : Cnf) (cs : List (List Literal)) (i : ℕ) (c : List Literal) → cs ≡ f.clauses → i < length cs
    → c ≡ get_or cs i c → slice_get f.clauses i ≡ Some c
clause-at f cs i c same low is =
    sym (ap (λ (xs : List (List Literal)). slice_get xs i) same) ∙ slice_get-get_or cs i c low ∙ ap Some (sym is)

pub clause-within : (f : Cnf) (i : ℕ) (c : List Literal) → slice_get f.clauses i ≡ Some c
    → All (VarsUpTo f.vars) f.clauses → VarsUpTo f.vars c
clause-within f i c at all =
    subst (VarsUpTo f.vars) (get_or_from_slice_get f.clauses i c c at) (all i c (slice_get_within f.clauses i c at))

-- its first occurrences, where it is no tautology, may come in
pub firsts-known : (f : Cnf) (vars i : ℕ) (c firsts : List Literal) → slice_get f.clauses i ≡ Some c
    → All (VarsUpTo f.vars) f.clauses → vars ≡ f.vars → firsts ≡ first_occurrences c → VarsUpTo vars firsts
firsts-known f vars i c firsts at all is normal =
    subst (VarsUpTo vars) (sym normal)
    (subst (λ (n : ℕ). VarsUpTo n (first_occurrences c)) (sym is)
    (all-firsts (λ l. l.index < f.vars) c (clause-within f i c at all)))

pub firsts-normal : (c firsts : List Literal) → ¬ IsTautology c → firsts ≡ first_occurrences c → IsNormal firsts
firsts-normal c firsts sound normal = subst IsNormal (sym normal) (normal-forms c sound).0

-- ---- what the first so many clauses put in
pub record HoldsFirst (f : Cnf) (b : BaseState) (n : ℕ) : Type 0 where
  pub vars : b.trail.vars ≡ f.vars
  pub ground : b.trail.depth ≡ 0
  pub ids : (place : ℕ) (c : BaseClause) → finite.get b.clauses place ≡ Some c → c.id ≤ n
  pub cited : (place : ℕ) (c : BaseClause) → finite.get b.clauses place ≡ Some c
      → family_of (finite.get (initial_state f).live) c.id ≡ Some (set.contains c.literals)
  pub there : (k : ℕ) (c : List Literal) → k < n → slice_get f.clauses k ≡ Some c
      → IsTautology c ⊎ ((place : ℕ) × (family b.clauses place ≡ Some (members c)))

pub holds-none : (f : Cnf) (b : BaseState) → b ≡ empty_base f.vars → HoldsFirst f b 0
holds-none f b is = subst (λ (x : BaseState). HoldsFirst f x 0) (sym is) (record {
  vars = refl;
  ground = refl;
  ids = λ place c at. absurd (none place c at);
  cited = λ place c at. absurd (none place c at);
  there = λ k c low at. absurd (omega (arith, low));
})
  where
    none : (place : ℕ) (c : BaseClause) → finite.get (empty_base f.vars).clauses place ≡ Some c → ⊥
    none place c at = let no = finite.get-empty {X = BaseClause} nat_cmp place in cc

-- a tautology stays out
pub holds-tautology : (f : Cnf) (b : BaseState) (n : ℕ) (c : List Literal) → slice_get f.clauses n ≡ Some c
    → IsTautology c → HoldsFirst f b n → HoldsFirst f b (n + 1)
holds-tautology f b n c at taut old = record {
  vars = old.vars;
  ground = old.ground;
  ids = λ place d there. let low = old.ids place d there in omega (arith, low);
  cited = old.cited;
  there = λ k d low there. elim (cases_eq k n) as
      (λ _. IsTautology d ⊎ ((place : ℕ) × (family b.clauses place ≡ Some (members d)))) [
        | inl same ↦
            let both : Some d ≡ Some c = sym there ∙ ap (slice_get f.clauses) same ∙ at in
            let is : d ≡ c = cc in
            inl (subst IsTautology (sym is) taut)
        | inr apart ↦ old.there k d (grind (arith, low, apart)) there
      ];
}

-- no clause has the next id
pub next-unused : (f : Cnf) (b : BaseState) (n id : ℕ) → id ≡ n + 1 → HoldsFirst f b n → LacksId b.clauses id
next-unused f b n id is old p c there same = let low = old.ids p c there in omega (arith, low, is, same)

-- another clause comes in under its id
module _ (f : Cnf) (b d : BaseState) (n id : ℕ) (c firsts : List Literal) (place : Place)
    (at : slice_get f.clauses n ≡ Some c) (is : id ≡ n + 1) (sound : ¬ IsTautology c)
    (normal : firsts ≡ first_occurrences c) (added : IsAdded b d id 1 firsts place) (old : HoldsFirst f b n) where
  same-trail : (v : TrailState → ℕ) → ((l : Literal) (p : Place) → v (with_forced b.trail l p) ≡ v b.trail)
      → v d.trail ≡ v b.trail
  same-trail v forced = elim added.trail as (λ _. v d.trail ≡ v b.trail) [
    | inl more ↦ ap v more.1.1 ∙ forced more.0 place
    | inr stays ↦ ap v stays.1
  ]

  -- what is there now was there, or is the new one
  each-clause : (P : BaseClause → Type 0) → P (record { id = id; lbd = 1; literals = set.from_list firsts })
      → ((p : ℕ) (x : BaseClause) → finite.get b.clauses p ≡ Some x → P x)
      → (p : ℕ) (x : BaseClause) → finite.get d.clauses p ≡ Some x → P x
  each-clause P here before =
      by_place (λ p. (x : BaseClause) → finite.get d.clauses p ≡ Some x → P x) place.0
      (λ x there.
      let e : Some (record { id = id; lbd = 1; literals = set.from_list firsts }) ≡ Some x =
      sym (ap (λ (k : Clauses). finite.get k place.0) added.clauses
      ∙ get-insert-same b.clauses place.0 (record { id = id; lbd = 1; literals = set.from_list firsts })) ∙ there in
      subst P (inside e) here)
      (λ p apart x there. before p x (sym (ap (λ (k : Clauses). finite.get k p) added.clauses
      ∙ get-insert-other b.clauses place.0 (record { id = id; lbd = 1; literals = set.from_list firsts }) p apart)
      ∙ there))
    where
      inside : {x y : BaseClause} → Some x ≡ Some y → x ≡ y
      inside e = cc

  has : set.contains (set.from_list {R = Rattle.gr_logic.specs.LiteralSets.literal_cmp} firsts) ≡ members c
  has = contains-clause firsts ∙ ap members normal ∙ (normal-forms c sound).1

  family-new : family d.clauses place.0 ≡ Some (members c)
  family-new =
      ap (option_map (λ (x : BaseClause). set.contains x.literals))
      (ap (λ (k : Clauses). finite.get k place.0) added.clauses
      ∙ get-insert-same b.clauses place.0 (record { id = id; lbd = 1; literals = set.from_list firsts }))
      ∙ ap Some has

  family-old : (p : ℕ) (ls : List Literal) → family b.clauses p ≡ Some (members ls)
      → family d.clauses p ≡ Some (members ls)
  family-old p ls there =
      ap (option_map (λ (x : BaseClause). set.contains x.literals))
      (ap (λ (k : Clauses). finite.get k p) added.clauses
      ∙ get-insert-other b.clauses place.0 (record { id = id; lbd = 1; literals = set.from_list firsts }) p
      (λ same. no (finite.get b.clauses p) (ap (finite.get b.clauses) same ∙ added.fresh) there))
      ∙ there
    where
      no : (o : Option BaseClause) → o ≡ None
          → option_map (λ (x : BaseClause). set.contains x.literals) o ≡ Some (members ls) → ⊥
      no None e bad = cc
      no (Some x) e bad = cc

  pub holds-more : HoldsFirst f d (n + 1)
  holds-more = record {
    vars = same-trail (λ t. t.vars) (λ l p. refl) ∙ old.vars;
    ground = same-trail (λ t. t.depth) (λ l p. refl) ∙ old.ground;
    ids = each-clause (λ x. x.id ≤ n + 1) (omega (arith, is))
        (λ p x there. let low = old.ids p x there in omega (arith, low));
    cited = each-clause (λ x. family_of (finite.get (initial_state f).live) x.id ≡ Some (set.contains x.literals))
        (family-at f n id c at is ∙ ap Some (sym has)) old.cited;
    there = λ k x low there. elim (cases_eq k n) as
        (λ _. IsTautology x ⊎ ((q : ℕ) × (family d.clauses q ≡ Some (members x)))) [
          | inl same ↦
              let both : Some c ≡ Some x = sym at ∙ sym (ap (slice_get f.clauses) same) ∙ there in
              let one : c ≡ x = cc in
              inr (place.0, family-new ∙ ap (λ (ls : List Literal). Some (members ls)) one)
          | inr apart ↦ on x (old.there k x (grind (arith, low, apart)) there)
        ];
  }
    where
      on : (x : List Literal) → IsTautology x ⊎ ((q : ℕ) × (family b.clauses q ≡ Some (members x)))
          → IsTautology x ⊎ ((q : ℕ) × (family d.clauses q ≡ Some (members x)))
      on x (inl taut) = inl taut
      on x (inr w) = inr (w.0, family-old w.0 x w.1)

-- all are there
pub knows-all : (f : Cnf) (b : BaseState) (n : ℕ) → n ≡ length f.clauses → HoldsFirst f b n → Knows f b.clauses
knows-all f b n is all = record {
  cited = λ place c there low. all.cited place c there;
  there = λ k d low. all.there k (get_or f.clauses k d) (omega (arith, low, is)) (slice_get-get_or f.clauses k d low);
}
