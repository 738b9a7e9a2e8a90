-- Beginnings of one list, entries by a number, and totals.
use Rattle.std.proofs.Common.{◌≡◌, ◌≢◌, ℕ, zero, suc, ◌+◌, ◌<◌, ◌≤◌, ◌==◌, Bool, true, false, List, [], ◌∷◌, ◌++◌, length, set}
use Rattle.std.proofs.Common.{refl, ap, sym, ◌∙◌, arith, append_assoc, ne_eqb, eq-eqb, cond}
use Rattle.std.proofs.lemmas.List.{append-nil}
use Rattle.std.proofs.lemmas.List.Elements.{filter-append}
use Rattle.std.proofs.lemmas.Bool.{leb-true, leb-false}
use mathlib.Core.List.{IsPrefix}
use mathlib.Core.Option.{some, some-injective, some-ne-none}
use lib.ListN.{get_elem?}
use lib.Dec.{leb}
use Rattle.gr_turn.specs.Views.{by, longer}
use Rattle.gr_turn.specs.Queues.{total}

-- each list begins with itself
pub prefix_self : {A : Type 0} (xs : List A) → IsPrefix xs xs
prefix_self [] = ([], refl)
prefix_self (x ∷ xs) = (let r = prefix_self xs in r.0, ap (λ ys. x ∷ ys) (prefix_self xs).1)

-- each list begins with nothing
pub prefix_nil : {A : Type 0} (xs : List A) → IsPrefix [] xs
prefix_nil xs = (xs, refl)

-- a beginning of a beginning is a beginning
pub prefix_trans : {A : Type 0} (xs ys zs : List A) → IsPrefix xs ys → IsPrefix ys zs
    → IsPrefix xs zs
prefix_trans xs ys zs p q =
    (p.0 ++ q.0, sym (append_assoc xs p.0 q.0) ∙ (ap (λ w. w ++ q.0) p.1 ∙ q.1))

-- of two beginnings of one list the shorter begins the longer
pub prefix_shorter : {A : Type 0} (xs ys zs : List A) → IsPrefix xs zs → IsPrefix ys zs
    → length xs ≤ length ys → IsPrefix xs ys
prefix_shorter [] ys zs p q le = (ys, refl)
prefix_shorter (x ∷ xs) [] zs p q le = absurd (omega arith)
prefix_shorter (x ∷ xs) (y ∷ ys) [] p q le = absurd (cc (p.1))
prefix_shorter (x ∷ xs) (y ∷ ys) (z ∷ zs) p q le =
    let heads : x ≡ y = cc (p.1, q.1) in
    let rest = prefix_shorter xs ys zs (p.0, cc (p.1)) (q.0, cc (q.1)) (omega arith) in
    (rest.0, cc (heads, rest.1))

-- what begins nothing is nothing
pub append_nothing : {A : Type 0} (xs ys : List A) → xs ++ ys ≡ [] → xs ≡ []
append_nothing [] ys e = refl
append_nothing (x ∷ xs) ys e = absurd (cc e)

-- what lies between two equal ends of a list is nothing
pub nothing_between : {A : Type 0} (xs ys zs : List A) → (xs ++ ys) ++ zs ≡ xs → ys ≡ []
nothing_between [] ys zs e = append_nothing ys zs e
nothing_between (x ∷ xs) ys zs e = nothing_between xs ys zs (cc e)

-- the entries of a number in two lists, one behind the other
pub by-append : {E : Type 0} (number : E → ℕ) (xs ys : List E) (n : ℕ)
    → by number (xs ++ ys) n ≡ by number xs n ++ by number ys n
by-append number xs ys n = filter-append (λ e. number e == n) xs ys

-- where the whole has no entry of a number, its beginnings have none
pub by_none : {E : Type 0} (number : E → ℕ) (xs ys : List E) (n : ℕ) → IsPrefix xs ys
    → by number ys n ≡ [] → by number xs n ≡ []
by_none number xs ys n p e =
    append_nothing (by number xs n) (by number p.0 n)
    (sym (by-append number xs p.0 n) ∙ (ap (λ l. by number l n) p.1 ∙ e))

-- behind an entry of another number they are the same
pub by_other : {E : Type 0} (number : E → ℕ) (h : List E) (e : E) (n : ℕ) → number e ≢ n
    → by number (h ++ e ∷ []) n ≡ by number h n
by_other number h e n ne =
    by-append number h (e ∷ []) n
    ∙ (ap (λ b. by number h n ++ cond b (e ∷ []) []) (ne_eqb (number e) n ne)
    ∙ append-nil (by number h n))

-- behind an entry of this number they are one more
pub by_this : {E : Type 0} (number : E → ℕ) (h : List E) (e : E) (n : ℕ) → number e ≡ n
    → by number (h ++ e ∷ []) n ≡ by number h n ++ e ∷ []
by_this number h e n is =
    by-append number h (e ∷ []) n
    ∙ ap (λ b. by number h n ++ cond b (e ∷ []) []) (eq-eqb (number e) n is)

-- where a beginning has all entries of a number, so has each longer one
pub by_between : {E : Type 0} (number : E → ℕ) (xs ys zs : List E) (n : ℕ) → IsPrefix xs ys
    → IsPrefix ys zs → by number zs n ≡ by number xs n → by number ys n ≡ by number xs n
by_between number xs ys zs n p q e =
    let first : by number ys n ≡ by number xs n ++ by number p.0 n =
    ap (λ l. by number l n) (sym p.1) ∙ by-append number xs p.0 n in
    let whole : by number zs n ≡ by number ys n ++ by number q.0 n =
    ap (λ l. by number l n) (sym q.1) ∙ by-append number ys q.0 n in
    let none : by number p.0 n ≡ [] =
    nothing_between (by number xs n) (by number p.0 n) (by number q.0 n)
    (ap (λ l. l ++ by number q.0 n) (sym first) ∙ (sym whole ∙ e)) in
    first ∙ (ap (λ l. by number xs n ++ l) none ∙ append-nil (by number xs n))

longer_cases : {A : Type 0} (xs ys zs : List A) → IsPrefix xs zs → IsPrefix ys zs → (b : Bool)
    → leb (length xs) (length ys) ≡ b → IsPrefix xs (cond b ys xs) × IsPrefix ys (cond b ys xs)
longer_cases xs ys zs p q true e =
    (prefix_shorter xs ys zs p q (leb-true (length xs) (length ys) e), prefix_self ys)
longer_cases xs ys zs p q false e =
    let lt = leb-false (length xs) (length ys) e in
    (prefix_self xs, prefix_shorter ys xs zs q p (omega arith))

-- two beginnings of one list begin the longer of them
pub longer_prefixes : {A : Type 0} (xs ys zs : List A) → IsPrefix xs zs → IsPrefix ys zs
    → IsPrefix xs (longer xs ys) × IsPrefix ys (longer xs ys)
longer_prefixes xs ys zs p q = longer_cases xs ys zs p q (leb (length xs) (length ys)) refl

-- what stands at an index is within the list
pub at_lt : {A : Type 0} (l : List A) (i : ℕ) (a : A) → get_elem? l i ≡ some a → i < length l
at_lt [] i a e = absurd (some-ne-none a (sym e))
at_lt (x ∷ xs) zero a e = omega arith
at_lt (x ∷ xs) (suc i) a e = let r = at_lt xs i a e in omega arith

-- a total where one element became another
pub total_set : {A : Type 0} (f : A → ℕ) (l : List A) (i : ℕ) (a b : A) → get_elem? l i ≡ some a
    → total f (set l i b) + f a ≡ total f l + f b
total_set f [] i a b e = absurd (some-ne-none a (sym e))
total_set f (x ∷ xs) zero a b e = let same : f x ≡ f a = ap f (some-injective x a e) in omega arith
total_set f (x ∷ xs) (suc i) a b e = let r = total_set f xs i a b e in omega arith

-- a total with one element more
pub total_snoc : {A : Type 0} (f : A → ℕ) (l : List A) (a : A)
    → total f (l ++ a ∷ []) ≡ total f l + f a
total_snoc f [] a = omega arith
total_snoc f (x ∷ xs) a = let r = total_snoc f xs a in omega arith

-- a total of numbers up to 1
pub total_le : {A : Type 0} (f : A → ℕ) (l : List A) → ((a : A) → f a ≤ 1) → total f l ≤ length l
total_le f [] h = omega arith
total_le f (x ∷ xs) h = let r = total_le f xs h in let t = h x in omega arith

-- one element is within the total
pub total_at : {A : Type 0} (f : A → ℕ) (l : List A) (i : ℕ) (a : A) → get_elem? l i ≡ some a
    → f a ≤ total f l
total_at f [] i a e = absurd (some-ne-none a (sym e))
total_at f (x ∷ xs) zero a e = let same : f x ≡ f a = ap f (some-injective x a e) in omega arith
total_at f (x ∷ xs) (suc i) a e = let r = total_at f xs i a e in omega arith

-- and so are two
pub total_two : {A : Type 0} (f : A → ℕ) (l : List A) (i j : ℕ) (a b : A) → get_elem? l i ≡ some a
    → get_elem? l j ≡ some b → i ≢ j → f a + f b ≤ total f l
total_two f [] i j a b e d ne = absurd (some-ne-none a (sym e))
total_two f (x ∷ xs) zero zero a b e d ne = absurd (ne refl)
total_two f (x ∷ xs) zero (suc j) a b e d ne =
    let same : f x ≡ f a = ap f (some-injective x a e) in
    let r = total_at f xs j b d in omega arith
total_two f (x ∷ xs) (suc i) zero a b e d ne =
    let same : f x ≡ f b = ap f (some-injective x b d) in
    let r = total_at f xs i a e in omega arith
total_two f (x ∷ xs) (suc i) (suc j) a b e d ne =
    let r = total_two f xs i j a b e d (λ h. ne (ap suc h)) in omega arith
