-- the best item of a list, and where it stands
use Rattle.std.proofs.Common.{◌≡◌, Bool, true, false, List, [], ◌∷◌, ◌++◌, Some, None, refl, sym, ap, ◌∙◌, arith, inl}
use Rattle.std.proofs.Common.{inr, if◌then◌else◌}
use Rattle.std.specs.Prelude.{All, unwrap_or, ◌⊎◌}
use Rattle.std.proofs.lemmas.Bool.Decides.{nat_tests}
use Rattle.std.proofs.lemmas.List.Elements.{All-nil, All-cons, All-head, All-tail}
use Rattle.gr_logic.specs.declared.items.Item.{Item}
use Rattle.gr_logic.specs.WorkLists.{best, best_from, comes_before}
use Rattle.gr_work.specs.Laws.{is_better, IsBest}

-- one that is better than all that follow stays
stays : (item : Item) (after : List Item) → All (λ other. is_better item other ≡ true) after
    → best_from item after ≡ item
stays item [] worse = refl
stays item (x ∷ xs) worse =
    ap (λ b. best_from (if b then item else x) xs) (All-head (λ other. is_better item other ≡ true) x xs worse)
    ∙ stays item xs (All-tail (λ other. is_better item other ≡ true) x xs worse)

-- one that none before it is better than is taken when its turn comes
taken : (first : Item) (before : List Item) (item : Item) (after : List Item) → is_better first item ≡ false
    → All (λ other. is_better other item ≡ false) before → All (λ other. is_better item other ≡ true) after
    → best_from first (before ++ item ∷ after) ≡ item
taken first [] item after none earlier later =
    ap (λ b. best_from (if b then first else item) after) none ∙ stays item after later
taken first (x ∷ xs) item after none earlier later =
    either (comes_before first x) (taken first xs item after none rest later)
    (taken x xs item after (All-head (λ other. is_better other item ≡ false) x xs earlier) rest later)
  where
    rest : All (λ other. is_better other item ≡ false) xs
    rest = All-tail (λ other. is_better other item ≡ false) x xs earlier

    either : (b : Bool) → best_from first (xs ++ item ∷ after) ≡ item → best_from x (xs ++ item ∷ after) ≡ item
        → best_from (if b then first else x) (xs ++ item ∷ after) ≡ item
    either true one two = one
    either false one two = two

pub best_stands : (before : List Item) (item : Item) (after : List Item)
    → All (λ other. is_better other item ≡ false) before → All (λ other. is_better item other ≡ true) after
    → best (before ++ item ∷ after) ≡ Some item
best_stands [] item after earlier later = ap Some (stays item after later)
best_stands (x ∷ xs) item after earlier later =
    ap Some (taken x xs item after (All-head (λ other. is_better other item ≡ false) x xs earlier)
    (All-tail (λ other. is_better other item ≡ false) x xs earlier) later)

-- one more item before the best one
pub one_before : (x : Item) (xs : List Item) (item : Item) → is_better x item ≡ false → IsBest xs item
    → IsBest (x ∷ xs) item
one_before x xs item none is = record {
  before = x ∷ is.before;
  after = is.after;
  stands = ap (λ list. x ∷ list) is.stands;
  earlier = All-cons (λ other. is_better other item ≡ false) x is.before none is.earlier;
  later = is.later;
}

-- the best of a list that begins with an item is this one, or the best of the others
abbrev Found : Item → List Item → Item → Type 0
Found first xs item =
    ((item ≡ first) × All (λ other. is_better first other ≡ true) xs)
    ⊎ (IsBest xs item × (is_better first item ≡ false))

-- the first one, with all others worse
pub alone : (first : Item) (xs : List Item) (item : Item) → item ≡ first
    → All (λ other. is_better first other ≡ true) xs → IsBest (first ∷ xs) item
alone first xs item same worse = record {
  before = [];
  after = xs;
  stands = ap (λ x. x ∷ xs) (sym same);
  earlier = All-nil (λ other. is_better other item ≡ false);
  later = rw same worse;
}

-- what the best one is, where one more is before it
whole : (first : Item) (xs : List Item) (item : Item) → Found first xs item → IsBest (first ∷ xs) item
whole first xs item (inl p) = alone first xs item p.0 p.1
whole first xs item (inr p) = one_before first xs item p.1 p.0

itself : (first item : Item) → item ≡ first → is_better first item ≡ false
itself first item same = rw same (grind (arith, nat_tests))

-- not better than one that is not better
beaten : (first x item : Item) → is_better first x ≡ false → is_better x item ≡ false → is_better first item ≡ false
beaten first x item one two = grind (arith, nat_tests)

-- what the first one is better than is not better than what the first one is not better than
below : (first x item : Item) → is_better first x ≡ true → is_better first item ≡ false → is_better x item ≡ false
below first x item one two = grind (arith, nat_tests)

none_better : (first : Item) (xs : List Item) (item : Item) → Found first xs item → is_better first item ≡ false
none_better first xs item (inl p) = itself first item p.0
none_better first xs item (inr p) = p.1

step : (first x : Item) (xs : List Item) (b : Bool) → is_better first x ≡ b
    → Found first xs (best_from first xs) → Found x xs (best_from x xs)
    → Found first (x ∷ xs) (best_from (if b then first else x) xs)
step first x xs true e (inl p) other =
    inl (p.0, All-cons (λ other. is_better first other ≡ true) x xs e p.1)
step first x xs true e (inr p) other =
    inr (one_before x xs (best_from first xs) (below first x (best_from first xs) e p.1) p.0, p.1)
step first x xs false e one other =
    inr (
      whole x xs (best_from x xs) other,
      beaten first x (best_from x xs) e (none_better x xs (best_from x xs) other),
    )

found : (first : Item) (xs : List Item) → Found first xs (best_from first xs)
found first [] = inl (refl, All-nil (λ other. is_better first other ≡ true))
found first (x ∷ xs) = step first x xs (is_better first x) refl (found first xs) (found x xs)

-- the best item is the best
pub best_is : (items : List Item) (item : Item) → best items ≡ Some item → IsBest items item
best_is [] item e = absurd (let none : None ≡ Some item = e in cc)
best_is (x ∷ xs) item e =
    let same : best_from x xs ≡ item = ap (λ o. unwrap_or o item) e in
    rw (sym same) (whole x xs (best_from x xs) (found x xs))

-- and no other
pub only_best : (items : List Item) (item : Item) → IsBest items item → best items ≡ Some item
only_best items item is = ap best is.stands ∙ best_stands is.before item is.after is.earlier is.later
