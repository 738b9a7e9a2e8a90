-- what the unit steps accept is implied
use Rattle.std.proofs.Common.{◌≡◌, ℕ, Bool, true, false, not, ◌||◌, ◌&&◌, List, [], ◌∷◌, Some, None, refl, sym, ap, ◌∙◌, arith, nat_eq, if◌then◌else◌}
use Rattle.std.specs.List.{list_any, list_all, filter}
use Rattle.std.proofs.lemmas.Bool.Decides.{nat_tests}
use Rattle.gr_logic.specs.Literals.{Literal, negation, same_literal, same_sign}
use Rattle.gr_logic.specs.Truth.{literal_true, clause_true, value_of}
use Rattle.gr_logic.specs.Rup.{LiteralSet, Live, Answer, Accepted, Forces, Undecided, reading_of_open, with_literal, false_in, after_reading, after_hint, steps, negated}
use Rattle.gr_logic.specs.Laws.{MeetsLive, UnitStepsAreSound}

both-true : (p q : Bool) → (p && q) ≡ true → (p ≡ true) × (q ≡ true)
both-true true q e = (refl, e)
both-true false q e = absurd (cc)

one-true : (p q : Bool) → (p || q) ≡ true → (p ≡ false → q ≡ true)
one-true true q e f = absurd (cc)
one-true false q e f = e

same_sign-is : (a b : Bool) → same_sign a b ≡ true → a ≡ b
same_sign-is true true e = refl
same_sign-is true false e = absurd (cc)
same_sign-is false true e = absurd (cc)
same_sign-is false false e = refl

-- equal by the test is equal
pub same_literal-is : (a b : Literal) → same_literal a b ≡ true → a ≡ b
same_literal-is a b e =
    let both = both-true (nat_eq a.index b.index) (same_sign a.positive b.positive) e in
    let v : a.index ≡ b.index = grind (arith, nat_tests) in
    let s : a.positive ≡ b.positive = same_sign-is a.positive b.positive both.1 in
    λ i. record { index = v i; positive = s i }

sign-not : (b v : Bool) → (if not b then v else not v) ≡ not (if b then v else not v)
sign-not true v = refl
sign-not false true = refl
sign-not false false = refl

pub literal_true-negation : (a : List Bool) (l : Literal) → literal_true a (negation l) ≡ not (literal_true a l)
literal_true-negation a l = sign-not l.positive (value_of a l.index)

-- each member of the set is true
abbrev pub AllTrue : List Bool → LiteralSet → Type 0
AllTrue a set = (q : Literal) → set q ≡ true → literal_true a q ≡ true

with_literal-AllTrue : (a : List Bool) (set : LiteralSet) (l : Literal) → AllTrue a set
    → literal_true a l ≡ true → AllTrue a (with_literal set l)
with_literal-AllTrue a set l all one q e =
    elim (same_literal q l) as (λ b. same_literal q l ≡ b → (b || set q) ≡ true → literal_true a q ≡ true) [
      | true ↦ λ same _. ap (literal_true a) (same_literal-is q l same) ∙ one
      | false ↦ λ _ rest. all q rest
    ] refl e

-- what is false in a set of true literals is not true
false_in-not : (a : List Bool) (set : LiteralSet) → AllTrue a set → (l : Literal)
    → false_in set l ≡ true → literal_true a l ≡ false
false_in-not a set all l e =
    let n : not (literal_true a l) ≡ true = sym (literal_true-negation a l) ∙ all (negation l) e in
    elim (literal_true a l) as (λ b. not b ≡ true → b ≡ false) [ true ↦ λ n. absurd (cc) | false ↦ λ _. refl ] n

-- a true clause has a true literal that is not false in the set
open-true : (a : List Bool) (set : LiteralSet) → AllTrue a set → (c : List Literal)
    → list_any (literal_true a) c ≡ true
    → list_any (literal_true a) (filter (λ l. not (false_in set l)) c) ≡ true
open-true a set all [] e = e
open-true a set all (l ∷ ls) e =
    elim (false_in set l)
    as (λ b. false_in set l ≡ b
    → list_any (literal_true a)
    (if not b then l ∷ filter (λ x. not (false_in set x)) ls else filter (λ x. not (false_in set x)) ls) ≡ true) [
      | true ↦ λ no. open-true a set all ls
          (one-true (literal_true a l) (list_any (literal_true a) ls) e (false_in-not a set all l no))
      | false ↦ λ _.
          elim (literal_true a l)
          as (λ t. (t || list_any (literal_true a) ls) ≡ true
          → (t || list_any (literal_true a) (filter (λ x. not (false_in set x)) ls)) ≡ true) [
            | true ↦ λ _. refl
            | false ↦ λ rest. open-true a set all ls rest
          ] e
    ] refl

-- where all are one literal, that one is true
forced-true : (a : List Bool) (l : Literal) (ls : List Literal)
    → list_all (same_literal l) ls ≡ true → list_any (literal_true a) (l ∷ ls) ≡ true
    → literal_true a l ≡ true
forced-true a l [] all one =
    elim (literal_true a l) as (λ b. (b || false) ≡ true → b ≡ true) [ true ↦ λ _. refl | false ↦ λ e. e ] one
forced-true a l (x ∷ xs) all one =
    let both = both-true (same_literal l x) (list_all (same_literal l) xs) all in
    elim (literal_true a l) as (λ b. literal_true a l ≡ b → b ≡ true) [
      | true ↦ λ _. refl
      | false ↦ λ no.
          let x_no : literal_true a x ≡ false = ap (literal_true a) (sym (same_literal-is l x both.0)) ∙ no in
          let rest : (literal_true a x || list_any (literal_true a) xs) ≡ true =
          one-true (literal_true a l) (list_any (literal_true a) (x ∷ xs)) one no in
          sym no
          ∙ forced-true a l xs both.1
          (rw no (one-true (literal_true a x) (list_any (literal_true a) xs) rest x_no))
    ] refl

-- a hint's clause is met, so the steps don't end there
at_open : (a : List Bool) (id : ℕ) (set : LiteralSet) → AllTrue a set → (go : LiteralSet → Answer)
    → ((next : LiteralSet) → AllTrue a next → go next ≡ Accepted → ⊥) → (lits : List Literal)
    → list_any (literal_true a) lits ≡ true
    → after_reading id set go (reading_of_open lits) ≡ Accepted → ⊥
at_open a id set all go sound [] one e = cc
at_open a id set all go sound (l ∷ ls) one e =
    elim (list_all (same_literal l) ls)
    as (λ b. list_all (same_literal l) ls ≡ b
    → after_reading id set go (if b then Forces l else Undecided) ≡ Accepted → ⊥) [
      | true ↦ λ same e. sound (with_literal set l) (with_literal-AllTrue a set l all (forced-true a l ls same one)) e
      | false ↦ λ _ e. cc
    ] refl e

pub steps-sound : (a : List Bool) (live : Live) → MeetsLive a live
    → (hints : List ℕ) (set : LiteralSet) → AllTrue a set → steps live set hints ≡ Accepted → ⊥
steps-sound a live meets [] set all e = cc
steps-sound a live meets (id ∷ ids) set all e =
    elim (live id) as (λ o. live id ≡ o → after_hint id set (λ next. steps live next ids) o ≡ Accepted → ⊥) [
      | None ↦ λ _ e. cc
      | Some c ↦ λ is e.
          at_open a id set all (λ next. steps live next ids) (λ next ok e. steps-sound a live meets ids next ok e)
          (filter (λ l. not (false_in set l)) c) (open-true a set all c (meets id c is)) e
    ] refl e

-- where a clause isn't met, the negations of its literals are true
negated-true : (a : List Bool) (c : List Literal) → clause_true a c ≡ false → AllTrue a (negated c)
negated-true a [] unmet q e = absurd (cc)
negated-true a (l ∷ ls) unmet q e =
    elim (same_literal q (negation l))
    as (λ b. same_literal q (negation l) ≡ b → (b || negated ls q) ≡ true → literal_true a q ≡ true) [
      | true ↦ λ same _.
          ap (literal_true a) (same_literal-is q (negation l) same) ∙ literal_true-negation a l
          ∙ ap not (none-first (literal_true a l) _ unmet)
      | false ↦ λ _ rest. negated-true a ls (none-rest (literal_true a l) _ unmet) q rest
    ] refl e
  where
    none-first : (p q : Bool) → (p || q) ≡ false → p ≡ false
    none-first true q e = e
    none-first false q e = refl

    none-rest : (p q : Bool) → (p || q) ≡ false → q ≡ false
    none-rest true q e = absurd (cc)
    none-rest false q e = e

pub rup-sound : UnitStepsAreSound
rup-sound live c hints e a meets =
    elim (clause_true a c) as (λ b. clause_true a c ≡ b → b ≡ true) [
      | true ↦ λ _. refl
      | false ↦ λ no. absurd (steps-sound a live meets hints (negated c) (negated-true a c no) e)
    ] refl
