-- how a clause reads, by its members alone
use Rattle.std.proofs.Common.{◌≡◌, ℕ, Bool, true, false, not, ◌||◌, ◌&&◌, List, [], ◌∷◌, Option, Some, None, refl, sym, ap, ◌∙◌, subst, if◌then◌else◌, All}
use Rattle.std.specs.List.{list_all, filter}
use Rattle.std.specs.Option.{option_map}
use Rattle.std.proofs.lemmas.List.Elements.{All-head, All-tail}
use Rattle.gr_logic.specs.Literals.{Literal, negation, same_literal}
use Rattle.gr_logic.specs.Rup.{LiteralSet, Live, members, negated, with_literal, false_in, Reading, Falsified, Forces, Undecided, reading, reading_of_open, Answer, steps, after_hint, after_reading}
use Rattle.gr_logic.specs.Closure.{family_of}
use Rattle.gr_logic.specs.ClosureLaws.{UnitStepsReadSets, UnitStepsReadHints}
use Rattle.gr_logic.proofs.Sound.{same_literal-is}
use Rattle.gr_logic.proofs.SameLiteral.{same_literal-itself, members-first, members-later, negated-is}

-- the literals of a clause that are not false
abbrev open_of : LiteralSet → List Literal → List Literal
open_of set c = filter (λ l. not (false_in set l)) c

-- each other literal of the clause is false
abbrev pub OthersFalse : LiteralSet → List Literal → Literal → Type 0
OthersFalse set c l = (q : Literal) → members c q ≡ true → same_literal q l ≡ false → set (negation q) ≡ true

-- each literal of the clause is false
abbrev pub AllFalse : LiteralSet → List Literal → Type 0
AllFalse set c = (q : Literal) → members c q ≡ true → set (negation q) ≡ true

and-first : (a b : Bool) → (a && b) ≡ true → a ≡ true
and-first true b e = refl
and-first false b e = e

and-second : (a b : Bool) → (a && b) ≡ true → b ≡ true
and-second true b e = e
and-second false b e = absurd (cc)

-- an open literal is in the clause and not false
open-has : (set : LiteralSet) (c : List Literal) (l : Literal) → members (open_of set c) l ≡ true
    → (members c l ≡ true) × (set (negation l) ≡ false)
open-has set [] l m = absurd (cc)
open-has set (x ∷ xs) l m =
    elim (set (negation x)) as (λ b. set (negation x) ≡ b
    → members (if not b then x ∷ open_of set xs else open_of set xs) l ≡ true
    → (members (x ∷ xs) l ≡ true) × (set (negation l) ≡ false)) [
      | true ↦ λ _ m. let rest = open-has set xs l m in (members-later l x xs rest.0, rest.1)
      | false ↦ λ open' m.
          elim (same_literal l x) as (λ b. same_literal l x ≡ b → (b || members (open_of set xs) l) ≡ true
          → ((b || members xs l) ≡ true) × (set (negation l) ≡ false)) [
            | true ↦ λ same _. (refl, ap (λ y. set (negation y)) (same_literal-is l x same) ∙ open')
            | false ↦ λ _ m. open-has set xs l m
          ] refl m
    ] refl m

-- a literal of the clause that is not false is open
has-open : (set : LiteralSet) (c : List Literal) (l : Literal) → members c l ≡ true → set (negation l) ≡ false
    → members (open_of set c) l ≡ true
has-open set [] l m open' = m
has-open set (x ∷ xs) l m open' =
    elim (same_literal l x) as (λ b. same_literal l x ≡ b → (b || members xs l) ≡ true
    → members (if not (set (negation x)) then x ∷ open_of set xs else open_of set xs) l ≡ true) [
      | true ↦ λ same _. here (set (negation x))
          (ap (λ y. set (negation y)) (sym (same_literal-is l x same)) ∙ open') same
      | false ↦ λ _ rest. there (set (negation x)) (has-open set xs l rest open')
    ] refl m
  where
    here : (b : Bool) → b ≡ false → same_literal l x ≡ true
        → members (if not b then x ∷ open_of set xs else open_of set xs) l ≡ true
    here true e same = absurd (cc)
    here false e same = ap (λ b. b || members (open_of set xs) l) same

    there : (b : Bool) → members (open_of set xs) l ≡ true
        → members (if not b then x ∷ open_of set xs else open_of set xs) l ≡ true
    there true m = m
    there false m = members-later l x (open_of set xs) m

-- the open literals are all this one
only-open : (set : LiteralSet) (c : List Literal) (l : Literal) → OthersFalse set c l
    → list_all (same_literal l) (open_of set c) ≡ true
only-open set c l others = all (open_of set c) (λ q m. one q (same_literal q l) refl (open-has set c q m))
  where
    one : (q : Literal) (b : Bool) → same_literal q l ≡ b → (members c q ≡ true) × (set (negation q) ≡ false) → l ≡ q
    one q true same open' = sym (same_literal-is q l same)
    one q false other open' = let no : set (negation q) ≡ true = others q open'.0 other in absurd (cc (no, open'.1))

    all : (o : List Literal) → ((q : Literal) → members o q ≡ true → l ≡ q) → list_all (same_literal l) o ≡ true
    all [] each = refl
    all (x ∷ xs) each =
        ap (λ b. b && list_all (same_literal l) xs)
        (subst (λ y. same_literal l y ≡ true) (each x (members-first x xs)) (same_literal-itself l))
        ∙ all xs (λ q m. each q (members-later q x xs m))

all-one : (o : List Literal) (l q : Literal) → list_all (same_literal l) o ≡ true → members o q ≡ true → l ≡ q
all-one [] l q all m = absurd (cc)
all-one (x ∷ xs) l q all m =
    elim (same_literal q x) as (λ b. same_literal q x ≡ b → (b || members xs q) ≡ true → l ≡ q) [
      | true ↦ λ same _. same_literal-is l x (and-first (same_literal l x) (list_all (same_literal l) xs) all)
          ∙ sym (same_literal-is q x same)
      | false ↦ λ _ m. all-one xs l q (and-second (same_literal l x) (list_all (same_literal l) xs) all) m
    ] refl m

-- a clause whose other literals are false, and which is not false, forces the one
pub reads-forces : (set : LiteralSet) (c : List Literal) (l : Literal) → members c l ≡ true → OthersFalse set c l
    → set (negation l) ≡ false → reading set c ≡ Forces l
reads-forces set c l m others open' = go (open_of set c) (only-open set c l others) (has-open set c l m open')
  where
    go : (o : List Literal) → list_all (same_literal l) o ≡ true → members o l ≡ true → reading_of_open o ≡ Forces l
    go [] all has = absurd (cc)
    go (x ∷ xs) all has =
        let is : l ≡ x = same_literal-is l x (and-first (same_literal l x) (list_all (same_literal l) xs) all) in
        let rest : list_all (same_literal x) xs ≡ true =
        subst (λ y. list_all (same_literal y) xs ≡ true) is
        (and-second (same_literal l x) (list_all (same_literal l) xs) all) in
        ap (λ b. if b then Forces x else Undecided) rest ∙ ap Forces (sym is)

-- and a clause that forces a literal is such a clause
pub forces-reads : (set : LiteralSet) (c : List Literal) (l : Literal) → reading set c ≡ Forces l
    → (members c l ≡ true) × (OthersFalse set c l × (set (negation l) ≡ false))
forces-reads set c l e =
    let one = go (open_of set c) e in
    let is = open-has set c l one.0 in
    (is.0, ((λ q m other. falls q (set (negation q)) refl m other one.1), is.1))
  where
    of : (x : Literal) (xs : List Literal) (b : Bool) → list_all (same_literal x) xs ≡ b
        → (if b then Forces x else Undecided) ≡ Forces l
        → (members (x ∷ xs) l ≡ true) × (list_all (same_literal l) (x ∷ xs) ≡ true)
    of x xs true all e =
        let is : x ≡ l = cc in (
          subst (λ y. members (x ∷ xs) y ≡ true) is (members-first x xs),
          subst (λ y. list_all (same_literal y) (x ∷ xs) ≡ true) is
              (ap (λ b. b && list_all (same_literal x) xs) (same_literal-itself x) ∙ all),
        )
    of x xs false all e = absurd (cc)

    go : (o : List Literal) → reading_of_open o ≡ Forces l → (members o l ≡ true) × (list_all (same_literal l) o ≡ true)
    go [] e = absurd (cc)
    go (x ∷ xs) e = of x xs (list_all (same_literal x) xs) refl e

    falls : (q : Literal) (b : Bool) → set (negation q) ≡ b → members c q ≡ true → same_literal q l ≡ false
        → list_all (same_literal l) (open_of set c) ≡ true → b ≡ true
    falls q true e m other all = refl
    falls q false e m other all =
        let is : l ≡ q = all-one (open_of set c) l q all (has-open set c q m e) in
        let same : same_literal q l ≡ true = subst (λ y. same_literal q y ≡ true) (sym is) (same_literal-itself q) in
        absurd (cc (same, other))

-- a clause whose literals are all false is falsified
pub reads-falsified : (set : LiteralSet) (c : List Literal) → AllFalse set c → reading set c ≡ Falsified
reads-falsified set c falses = ap reading_of_open (none (open_of set c) (λ q m. open-has set c q m))
  where
    none : (o : List Literal) → ((q : Literal) → members o q ≡ true
        → (members c q ≡ true) × (set (negation q) ≡ false)) → o ≡ []
    none [] each = refl
    none (x ∷ xs) each =
        let open' = each x (members-first x xs) in
        let no : set (negation x) ≡ true = falses x open'.0 in absurd (cc (no, open'.1))

-- and the literals of a falsified clause are all false
pub falsified-reads : (set : LiteralSet) (c : List Literal) → reading set c ≡ Falsified → AllFalse set c
falsified-reads set c e q m =
    elim (set (negation q)) as (λ b. set (negation q) ≡ b → b ≡ true) [
      | true ↦ λ _. refl
      | false ↦ λ open'. absurd (nothing (open_of set c) e (has-open set c q m open'))
    ] refl
  where
    of : (x : Literal) (b : Bool) → (if b then Forces x else Undecided) ≡ Falsified → ⊥
    of x true e = cc
    of x false e = cc

    nothing : (o : List Literal) → reading_of_open o ≡ Falsified → members o q ≡ true → ⊥
    nothing [] e m = cc
    nothing (x ∷ xs) e m = of x (list_all (same_literal x) xs) e

-- two lists of one set read alike
pub reading-set : (set : LiteralSet) (c d : List Literal) → members c ≡ members d → reading set c ≡ reading set d
reading-set set c d same = at (reading set c) refl
  where
    back : (q : Literal) → members d q ≡ true → members c q ≡ true
    back q m = ap (λ s. s q) same ∙ m

    there : (q : Literal) → members c q ≡ true → members d q ≡ true
    there q m = sym (ap (λ s. s q) same) ∙ m

    undecided : (r : Reading) → reading set c ≡ Undecided → reading set d ≡ r → Undecided ≡ r
    undecided Falsified e f =
        let no : reading set c ≡ Falsified = reads-falsified set c (λ q m. falsified-reads set d f q (there q m)) in
        cc (no, e)
    undecided (Forces l) e f =
        let r = forces-reads set d l f in
        let no : reading set c ≡ Forces l = reads-forces set c l (back l r.0)
        (λ q m other. r.1.0 q (there q m) other) r.1.1 in cc (no, e)
    undecided Undecided e f = refl

    at : (r : Reading) → reading set c ≡ r → reading set c ≡ reading set d
    at Falsified e = e ∙ sym (reads-falsified set d (λ q m. falsified-reads set c e q (back q m)))
    at (Forces l) e =
        let r = forces-reads set c l e in
        e ∙ sym (reads-forces set d l (there l r.0) (λ q m other. r.1.0 q (back q m) other) r.1.1)
    at Undecided e = e ∙ undecided (reading set d) e refl

-- a step goes on alike
after_hint-set : (id : ℕ) (set : LiteralSet) (go stay : LiteralSet → Answer) (one other : Option (List Literal))
    → option_map members one ≡ option_map members other → ((next : LiteralSet) → go next ≡ stay next)
    → after_hint id set go one ≡ after_hint id set stay other
after_hint-set id set go stay None None same each = refl
after_hint-set id set go stay None (Some d) same each = absurd (cc)
after_hint-set id set go stay (Some c) None same each = absurd (cc)
after_hint-set id set go stay (Some c) (Some d) same each =
    let is : members c ≡ members d = cc in
    ap (after_reading id set go) (reading-set set c d is) ∙ on (reading set d)
  where
    on : (r : Reading) → after_reading id set go r ≡ after_reading id set stay r
    on Falsified = refl
    on (Forces l) = each (with_literal set l)
    on Undecided = refl

-- two families have the same clause at the id
abbrev Agree : Live → Live → ℕ → Type 0
Agree one other id = family_of one id ≡ family_of other id

pub steps-set : (one other : Live) (hints : List ℕ) → All (Agree one other) hints → (set : LiteralSet)
    → steps one set hints ≡ steps other set hints
steps-set one other [] same set = refl
steps-set one other (id ∷ ids) same set =
    after_hint-set id set (λ next. steps one next ids) (λ next. steps other next ids) (one id) (other id)
    (All-head (Agree one other) id ids same)
    (λ next. steps-set one other ids (All-tail (Agree one other) id ids same) next)

pub negated-set : (c d : List Literal) → members c ≡ members d → negated c ≡ negated d
negated-set c d same = λ i q. (negated-is c q ∙ ap (λ s. s (negation q)) same ∙ sym (negated-is d q)) i

pub rup-hints : UnitStepsReadHints
rup-hints one other c d is hints same =
    steps-set one other hints same (negated c) ∙ ap (λ set. steps other set hints) (negated-set c d is)

pub rup-sets : UnitStepsReadSets
rup-sets one other same c d is hints = rup-hints one other c d is hints (λ i d within. same _)
