-- greedy strengthening has no two outcomes, and each is of literals of the clause
use Rattle.std.proofs.Common.{◌≡◌, inl, inr, Bool, true, false, ◌||◌, List, [], ◌∷◌, ◌++◌, refl, sym, ap, ◌∙◌}
use Rattle.gr_logic.specs.Literals.{Literal, same_literal}
use Rattle.gr_logic.specs.Rup.{members, negated}
use Rattle.gr_logic.specs.Closure.{ClauseFamily, DerivesConflict}
use Rattle.gr_logic.specs.Greedy.{WalkKeeps, WalksPast}
use Rattle.gr_logic.specs.ClosureLaws.{GreedyIsUnique, GreedyIsWithin}
use Rattle.gr_logic.proofs.Members.{members-push_at}

-- a step goes one way alone, unless a conflict is derived
past-one : (k : ClauseFamily) (kept : List Literal) (l : Literal) (x y : List Literal) (A B A' B' : Type 0)
    → ¬ DerivesConflict k (negated kept) → (A → A' → x ≡ y) → (B → B' → x ≡ y)
    → WalksPast k kept l A (x ≡ kept ++ l ∷ []) B → WalksPast k kept l A' (y ≡ kept ++ l ∷ []) B' → x ≡ y
past-one k kept l x y A B A' B' quiet same more (inl a) (inl b) = same a.1 b.1
past-one k kept l x y A B A' B' quiet same more (inl a) (inr (inl b)) = absurd (quiet (inl (l, (b.0, a.0))))
past-one k kept l x y A B A' B' quiet same more (inl a) (inr (inr b)) = absurd (b.0 a.0)
past-one k kept l x y A B A' B' quiet same more (inr (inl a)) (inl b) = absurd (quiet (inl (l, (a.0, b.0))))
past-one k kept l x y A B A' B' quiet same more (inr (inl a)) (inr (inl b)) = a.1 ∙ sym b.1
past-one k kept l x y A B A' B' quiet same more (inr (inl a)) (inr (inr b)) = absurd (b.1 a.0)
past-one k kept l x y A B A' B' quiet same more (inr (inr a)) (inl b) = absurd (a.0 b.0)
past-one k kept l x y A B A' B' quiet same more (inr (inr a)) (inr (inl b)) = absurd (a.1 b.0)
past-one k kept l x y A B A' B' quiet same more (inr (inr a)) (inr (inr b)) = more a.2 b.2

walk-one : (k : ClauseFamily) (rest kept x y : List Literal) → WalkKeeps k kept rest x → WalkKeeps k kept rest y → x ≡ y
walk-one k [] kept x y a b = a ∙ sym b
walk-one k (l ∷ rest) kept x y (inl a) (inl b) = a.1 ∙ sym b.1
walk-one k (l ∷ rest) kept x y (inl a) (inr b) = absurd (b.0 a.0)
walk-one k (l ∷ rest) kept x y (inr a) (inl b) = absurd (a.0 b.0)
walk-one k (l ∷ rest) kept x y (inr a) (inr b) =
    past-one k kept l x y (WalkKeeps k kept rest x) (WalkKeeps k (kept ++ l ∷ []) rest x) (WalkKeeps k kept rest y)
    (WalkKeeps k (kept ++ l ∷ []) rest y) a.0 (walk-one k rest kept x y)
    (walk-one k rest (kept ++ l ∷ []) x y) a.1 b.1

pub greedy-unique : GreedyIsUnique
greedy-unique k c one other a b = walk-one k c [] one other a b

or-left : (a b : Bool) → a ≡ true → (a || b) ≡ true
or-left true b e = refl
or-left false b e = absurd (cc)

-- kept before, or the literal, or behind it
one-of : (kept rest : List Literal) (l q : Literal) → (members (kept ++ l ∷ []) q || members rest q) ≡ true
    → (members kept q || (same_literal q l || members rest q)) ≡ true
one-of kept rest l q e =
    any (members kept q) (same_literal q l) (members rest q)
    (sym (ap (λ b. b || members rest q) (members-push_at q kept l)) ∙ e)
  where
    any : (k s r : Bool) → ((s || k) || r) ≡ true → (k || (s || r)) ≡ true
    any true s r e = refl
    any false true r e = refl
    any false false r e = e

behind : (kept rest : List Literal) (l q : Literal) → (members kept q || members rest q) ≡ true
    → (members kept q || (same_literal q l || members rest q)) ≡ true
behind kept rest l q e = later (members kept q) (same_literal q l) (members rest q) e
  where
    later : (k s r : Bool) → (k || r) ≡ true → (k || (s || r)) ≡ true
    later true s r e = refl
    later false true r e = refl
    later false false r e = e

past-within : (k : ClauseFamily) (kept rest x : List Literal) (l q : Literal) (A B : Type 0)
    → (A → (members kept q || members rest q) ≡ true)
    → (B → (members (kept ++ l ∷ []) q || members rest q) ≡ true)
    → members x q ≡ true → WalksPast k kept l A (x ≡ kept ++ l ∷ []) B
    → (members kept q || (same_literal q l || members rest q)) ≡ true
past-within k kept rest x l q A B same more m (inl a) = behind kept rest l q (same a.1)
past-within k kept rest x l q A B same more m (inr (inl a)) =
    one-of kept rest l q (or-left (members (kept ++ l ∷ []) q) (members rest q) (sym (ap (λ t. members t q) a.1) ∙ m))
past-within k kept rest x l q A B same more m (inr (inr a)) = one-of kept rest l q (more a.2)

walk-within : (k : ClauseFamily) (rest kept x : List Literal) → WalkKeeps k kept rest x → (q : Literal)
    → members x q ≡ true → (members kept q || members rest q) ≡ true
walk-within k [] kept x a q m = or-left (members kept q) false (sym (ap (λ t. members t q) a) ∙ m)
walk-within k (l ∷ rest) kept x (inl a) q m =
    or-left (members kept q) (same_literal q l || members rest q) (sym (ap (λ t. members t q) a.1) ∙ m)
walk-within k (l ∷ rest) kept x (inr a) q m =
    past-within k kept rest x l q (WalkKeeps k kept rest x) (WalkKeeps k (kept ++ l ∷ []) rest x)
    (λ w. walk-within k rest kept x w q m) (λ w. walk-within k rest (kept ++ l ∷ []) x w q m) m a.1

pub greedy-within : GreedyIsWithin
greedy-within k c outcome w q m = walk-within k c [] outcome w q m
