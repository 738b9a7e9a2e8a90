-- the first occurrences of a clause's literals, and tautologies
use Rattle.std.proofs.Common.{◌≡◌, ℕ, ◌+◌, ◌<◌, Bool, true, false, not, ◌&&◌, ◌||◌, zero, suc, List, [], ◌∷◌, ◌++◌, length, take, refl, sym, ap, ◌∙◌, subst, arith, nat_eq, if◌then◌else◌, slice_index_or}
use Rattle.std.specs.List.{filter}
use Rattle.std.proofs.lemmas.Bool.Decides.{nat_tests}
use Rattle.std.proofs.lemmas.List.{take_more, append-nil}
use Rattle.std.proofs.lemmas.List.Elements.{filter-append}
use Rattle.gr_logic.specs.Literals.{Literal, negation, same_literal, same_sign}
use Rattle.gr_logic.specs.Rup.{members}
use Rattle.gr_logic.specs.NormalForms.{IsTautology, IsNormal, first_occurrences, with_new}
use Rattle.gr_logic.specs.ClosureLaws.{NormalFormsAreNormal}
use Rattle.gr_logic.proofs.Members.{members-push_at}
use Rattle.gr_logic.proofs.Sound.{same_literal-is}
use Rattle.gr_logic.proofs.SameLiteral.{negation-negation, negation-apart, members-first, members-later}

-- the list without a literal
abbrev pub without : Literal → List Literal → List Literal
without l ls = filter (λ q. not (same_literal q l)) ls

-- it has the other members of the list
members-without : (l q : Literal) (ls : List Literal) → same_literal q l ≡ false
    → members (without l ls) q ≡ members ls q
members-without l q [] other = refl
members-without l q (x ∷ xs) other =
    elim (same_literal x l) as (λ b. same_literal x l ≡ b
    → members (if not b then x ∷ without l xs else without l xs) q ≡ (same_literal q x || members xs q)) [
      | true ↦ λ same.
          let apart : same_literal q x ≡ false =
          subst (λ y. same_literal q y ≡ false) (sym (same_literal-is x l same)) other in
          members-without l q xs other ∙ ap (λ b. b || members xs q) (sym apart)
      | false ↦ λ _. ap (λ b. same_literal q x || b) (members-without l q xs other)
    ] refl

-- and has no member that is the literal
without-other : (l q : Literal) (ls : List Literal) → members (without l ls) q ≡ true → same_literal q l ≡ false
without-other l q [] m = absurd (cc)
without-other l q (x ∷ xs) m =
    elim (same_literal x l) as (λ b. same_literal x l ≡ b
    → members (if not b then x ∷ without l xs else without l xs) q ≡ true → same_literal q l ≡ false) [
      | true ↦ λ _ m. without-other l q xs m
      | false ↦ λ apart m.
          elim (same_literal q x) as (λ b. same_literal q x ≡ b → (b || members (without l xs) q) ≡ true
          → same_literal q l ≡ false) [
            | true ↦ λ same _. subst (λ y. same_literal y l ≡ false) (sym (same_literal-is q x same)) apart
            | false ↦ λ _ m. without-other l q xs m
          ] refl m
    ] refl m

pub members-first_occurrences : (c : List Literal) (q : Literal) → members (first_occurrences c) q ≡ members c q
members-first_occurrences [] q = refl
members-first_occurrences (l ∷ ls) q =
    elim (same_literal q l) as (λ b. same_literal q l ≡ b
    → (b || members (without l (first_occurrences ls)) q) ≡ (b || members ls q)) [
      | true ↦ λ _. refl
      | false ↦ λ other. members-without l q (first_occurrences ls) other ∙ members-first_occurrences ls q
    ] refl

-- a list and its end, without a literal
new-without : (l x : Literal) (ls : List Literal) → l ∷ without l (with_new ls x) ≡ with_new (l ∷ without l ls) x
new-without l x ls =
    elim (same_literal x l) as (λ b. same_literal x l ≡ b
    → l ∷ without l (with_new ls x) ≡ (if b || members (without l ls) x then l ∷ without l ls else
    (l ∷ without l ls) ++ x ∷ [])) [
      | true ↦ λ same. ap (λ t. l ∷ t) (dropped same (members ls x))
      | false ↦ λ other.
          ap (λ t. l ∷ t) (kept other (members ls x))
          ∙ grown (members ls x)
          ∙ ap (λ b. if b then l ∷ without l ls else (l ∷ without l ls) ++ x ∷ []) (sym (members-without l x ls other))
    ] refl
  where
    at-end : (b : Bool) → same_literal x l ≡ b
        → without l (ls ++ x ∷ []) ≡ without l ls ++ (if not b then x ∷ [] else [])
    at-end b is = filter-append (λ q. not (same_literal q l)) ls (x ∷ [])
        ∙ ap (λ s. without l ls ++ (if not s then x ∷ [] else [])) is

    dropped : same_literal x l ≡ true → (b : Bool) → without l (if b then ls else ls ++ x ∷ []) ≡ without l ls
    dropped same true = refl
    dropped same false = at-end true same ∙ append-nil (without l ls)

    kept : same_literal x l ≡ false → (b : Bool)
        → without l (if b then ls else ls ++ x ∷ []) ≡ (if b then without l ls else without l ls ++ x ∷ [])
    kept other true = refl
    kept other false = at-end false other

    grown : (b : Bool) → l ∷ (if b then without l ls else without l ls ++ x ∷ []) ≡
        (if b then l ∷ without l ls else (l ∷ without l ls) ++ x ∷ [])
    grown true = refl
    grown false = refl

first_occurrences-push : (c : List Literal) (x : Literal)
    → first_occurrences (c ++ x ∷ []) ≡ with_new (first_occurrences c) x
first_occurrences-push [] x = refl
first_occurrences-push (l ∷ ls) x =
    ap (λ t. l ∷ without l t) (first_occurrences-push ls x) ∙ new-without l x (first_occurrences ls)

-- one more literal of a clause
pub first_occurrences-next : (c : List Literal) (i : ℕ) (x : Literal) → i < length c → x ≡ slice_index_or c i x
    → first_occurrences (take (i + 1) c) ≡ with_new (first_occurrences (take i c)) x
first_occurrences-next c i x within is =
    ap first_occurrences (take_more c i x within)
    ∙ first_occurrences-push (take i c) (slice_index_or c i x)
    ∙ ap (with_new (first_occurrences (take i c))) (sym is)

-- the first occurrences so far have what the front has
pub members-front : (c firsts : List Literal) (i : ℕ) (q : Literal) → firsts ≡ first_occurrences (take i c)
    → members (take i c) q ≡ members firsts q
members-front c firsts i q so_far =
    sym (members-first_occurrences (take i c) q) ∙ ap (λ ls. members ls q) (sym so_far)

-- no literal stands beside its negation
abbrev pub IsApart : List Literal → Type 0
IsApart c = (q : Literal) → members c q ≡ true → members c (negation q) ≡ false

apart-push : (c : List Literal) (x : Literal) → IsApart c → members c (negation x) ≡ false → IsApart (c ++ x ∷ [])
apart-push c x apart new q m =
    members-push_at (negation q) c x
    ∙ elim (same_literal q x) as (λ b. same_literal q x ≡ b → (b || members c q) ≡ true
    → (same_literal (negation q) x || members c (negation q)) ≡ false) [
      | true ↦ λ same _.
          subst (λ y. (same_literal (negation y) x || members c (negation y)) ≡ false)
          (sym (same_literal-is q x same)) (rw (negation-apart x) new)
      | false ↦ λ _ m.
          elim (same_literal (negation q) x) as
          (λ b. same_literal (negation q) x ≡ b → (b || members c (negation q)) ≡ false) [
            | true ↦ λ same.
                let is : q ≡ negation x = sym (negation-negation q)
                ∙ ap negation (same_literal-is (negation q) x same) in
                absurd (cc (sym m, ap (members c) is, new))
            | false ↦ λ _. apart q m
          ] refl
    ] refl (sym (members-push_at q c x) ∙ m)

pub apart-next : (c : List Literal) (i : ℕ) (x : Literal) → i < length c → x ≡ slice_index_or c i x
    → IsApart (take i c) → members (take i c) (negation x) ≡ false → IsApart (take (i + 1) c)
apart-next c i x within is apart new =
    subst IsApart (ap (λ y. take i c ++ y ∷ []) is ∙ sym (take_more c i x within)) (apart-push (take i c) x apart new)

pub apart-no_tautology : (c : List Literal) → IsApart c → ¬ IsTautology c
apart-no_tautology c apart t = let no : members c (negation t.0) ≡ false = apart t.0 t.1 in cc (no, t.2)

-- what the front of a clause has, the clause has
members-take : (c : List Literal) (i : ℕ) (q : Literal) → members (take i c) q ≡ true → members c q ≡ true
members-take [] zero q m = m
members-take [] (suc i) q m = m
members-take (x ∷ xs) zero q m = absurd (cc)
members-take (x ∷ xs) (suc i) q m = later (same_literal q x) (members (take i xs) q) (members xs q)
    (members-take xs i q) m
  where
    later : (s t u : Bool) → (t ≡ true → u ≡ true) → (s || t) ≡ true → (s || u) ≡ true
    later true t u f e = refl
    later false t u f e = f e

members-at : (c : List Literal) (i : ℕ) (d : Literal) → i < length c → members c (slice_index_or c i d) ≡ true
members-at [] i d within = absurd (omega arith)
members-at (x ∷ xs) zero d within = members-first x xs
members-at (x ∷ xs) (suc i) d within = members-later (slice_index_or xs i d) x xs (members-at xs i d (omega arith))

-- a literal whose negation stands before it
pub tautology-at : (c : List Literal) (i : ℕ) (x : Literal) → i < length c → x ≡ slice_index_or c i x
    → members (take i c) (negation x) ≡ true → IsTautology c
tautology-at c i x within is m =
    (x, subst (λ y. members c y ≡ true) (sym is) (members-at c i x within), members-take c i (negation x) m)

-- literals of one variable are one, or one is the other's negation
one-variable : (a b : Literal) → a.index ≡ b.index → same_literal a b ≡ false → a ≡ negation b
one-variable a b is other =
    let v : nat_eq a.index b.index ≡ true = grind (arith, nat_tests) in
    let s : a.positive ≡ not b.positive = signs a.positive b.positive
    (sym (ap (λ t. t && same_sign a.positive b.positive) v) ∙ other) in
    λ i. record { index = is i; positive = s i }
  where
    signs : (s t : Bool) → same_sign s t ≡ false → s ≡ not t
    signs true true e = absurd (cc)
    signs true false e = refl
    signs false true e = refl
    signs false false e = absurd (cc)

without-within : (l q : Literal) (ls : List Literal) → members (without l ls) q ≡ true → members ls q ≡ true
without-within l q ls m = sym (members-without l q ls (without-other l q ls m)) ∙ m

normal-without : (l : Literal) (ls : List Literal) → IsNormal ls → IsNormal (without l ls)
normal-without l [] normal = tt
normal-without l (x ∷ xs) normal = kept (same_literal x l) (normal-without l xs normal.1)
  where
    kept : (b : Bool) → IsNormal (without l xs) → IsNormal (if not b then x ∷ without l xs else without l xs)
    kept true rest = rest
    kept false rest = ((λ q m. normal.0 q (without-within l q xs m)), rest)

normal-first_occurrences : (c : List Literal) → ¬ IsTautology c → IsNormal (first_occurrences c)
normal-first_occurrences [] sound = tt
normal-first_occurrences (l ∷ ls) sound = (
  other-variable,
  normal-without l (first_occurrences ls)
      (normal-first_occurrences ls behind),
)
  where
    behind : ¬ IsTautology ls
    behind t = sound (t.0, members-later t.0 l ls t.1, members-later (negation t.0) l ls t.2)

    other-variable : (q : Literal) → members (without l (first_occurrences ls)) q ≡ true → q.index ≡ l.index → ⊥
    other-variable q m same =
        let is : q ≡ negation l = one-variable q l same (without-other l q (first_occurrences ls) m) in
        let later : members ls q ≡ true = sym (members-first_occurrences ls q)
        ∙ without-within l q (first_occurrences ls) m in
        sound (l, members-first l ls, members-later (negation l) l ls (subst (λ y. members ls y ≡ true) is later))

pub normal-forms : NormalFormsAreNormal
normal-forms c sound = (normal-first_occurrences c sound, λ i q. members-first_occurrences c q i)
