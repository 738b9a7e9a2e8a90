-- ids that count up are new
use Rattle.std.proofs.Common.{◌≡◌, ℕ, ◌<◌, ◌+◌, Bool, true, false, not, ◌||◌, List, [], ◌∷◌, ◌++◌, length, Option}
use Rattle.std.proofs.Common.{Some, None, refl, ap, ◌∙◌, arith, nat_eq, if◌then◌else◌}
use Rattle.std.specs.Prelude.{All}
use Rattle.std.proofs.lemmas.Bool.Decides.{nat_tests}
use Rattle.std.proofs.lemmas.List.Elements.{All-nil, All-cons, All-head, All-tail, All-append, All-filter}
use Rattle.gr_logic.specs.declared.items.Item.{Item}
use Rattle.gr_logic.specs.WorkLists.{enter, without_first}
use Rattle.gr_work.specs.WorkSets.{is_in, without}

-- the ids are below this number
abbrev pub AreBelow : ℕ → List Item → Type 0
AreBelow n items = All (λ item. item.id < n) items

pub new_id : (n : ℕ) (items : List Item) → AreBelow n items → is_in n items ≡ false
new_id n [] below = refl
new_id n (x ∷ xs) below =
    let low : x.id < n = All-head (λ item. item.id < n) x xs below in
    let other : nat_eq n x.id ≡ false = grind (arith, nat_tests) in
    ap (λ b. b || is_in n xs) other ∙ new_id n xs (All-tail (λ item. item.id < n) x xs below)

pub none_below : (n : ℕ) → AreBelow n []
none_below n = All-nil (λ item. item.id < n)

pub still_below : (m n : ℕ) (items : List Item) → m < n + 1 → AreBelow m items → AreBelow n items
still_below m n items more below = λ k d low. omega (arith, below k d low)

pub entered_below : (n : ℕ) (items : List Item) (capacity : ℕ) (item : Item) → item.id < n → AreBelow n items
    → AreBelow n (enter items capacity item)
entered_below n items capacity item low below = cases (nat_eq (length items) capacity)
  where
    one : AreBelow n (item ∷ [])
    one = All-cons (λ item. item.id < n) item [] low (All-nil (λ item. item.id < n))

    rest : (items : List Item) → AreBelow n items → AreBelow n (without_first items)
    rest [] below = below
    rest (x ∷ xs) below = All-tail (λ item. item.id < n) x xs below

    cases : (b : Bool) → AreBelow n ((if b then without_first items else items) ++ item ∷ [])
    cases true = All-append (λ item. item.id < n) (without_first items) (item ∷ []) (rest items below) one
    cases false = All-append (λ item. item.id < n) items (item ∷ []) below one

pub left_below : (n : ℕ) (items : List Item) (left : Option Item) → AreBelow n items → AreBelow n (without left items)
left_below n items None below = below
left_below n items (Some item) below = All-filter (λ x. not (nat_eq item.id x.id)) (λ x. x.id < n) items below
