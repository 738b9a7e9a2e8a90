-- what guards a clause against a false watch
use Rattle.std.proofs.Common.{◌≡◌, ℕ, ◌+◌, ◌≤◌, Bool, true, false, ◌||◌, List, [], ◌∷◌, ◌++◌, refl, sym, ap, ◌∙◌, subst, arith, nat_eq, nat_le, if◌then◌else◌}
use Rattle.std.specs.List.{list_any}
use Rattle.std.specs.List.Sorted.{IsPermutation}
use Rattle.std.proofs.lemmas.Bool.Decides.{nat_tests}
use Rattle.std.proofs.lemmas.List.Sorted.{list_any-IsPermutation}
use Rattle.std.proofs.lemmas.List.Sums.{sum_by-cons}
use Rattle.gr_logic.specs.Literals.{Literal, negation, same_literal}
use Rattle.gr_logic.specs.Rup.{members}
use Rattle.gr_logic.specs.Closure.{Forces}
use Rattle.gr_logic.proofs.Sound.{same_literal-is}
use Rattle.gr_logic.proofs.SameLiteral.{members-first, members-later, or-true}
use Rattle.gr_trail.specs.Trails.{Assigned, true_in, up_to}
use Rattle.gr_prop.specs.Watching.{true_by, IsKept, IsGuarded, IsConsistent, occurs, bit}
use Rattle.gr_prop.proofs.TrailSets.{true_by-true, true_by-up_to, true_by-more, or-first, or-second}

-- a test that some literal passes, weakened
pub any-weaker : (p q : Literal → Bool) (c : List Literal) → ((l : Literal) → p l ≡ true → q l ≡ true)
    → list_any p c ≡ true → list_any q c ≡ true
any-weaker p q [] f e = e
any-weaker p q (v ∷ vs) f e = step (p v) (q v) (list_any p vs) (list_any q vs) (f v) (any-weaker p q vs f) e
  where
    step : (a s r t : Bool) → (a ≡ true → s ≡ true) → (r ≡ true → t ≡ true) → (a || r) ≡ true → (s || t) ≡ true
    step true s r t f g e = ap (λ z. z || t) (f refl)
    step false s r t f g e = ap (λ z. s || z) (g e) ∙ or-true s

-- a member that passes the test
pub any-member : (p : Literal → Bool) (c : List Literal) (l : Literal) → members c l ≡ true → p l ≡ true → list_any p
    c ≡ true
any-member p [] l m e = absurd (cc)
any-member p (v ∷ vs) l m e =
    elim (same_literal l v) as (λ b. same_literal l v ≡ b → (b || members vs l) ≡ true → (p v || list_any p vs) ≡
    true) [
      | true ↦ λ same _. ap (λ b. b || list_any p vs) (ap p (sym (same_literal-is l v same)) ∙ e)
      | false ↦ λ _ rest. ap (λ b. p v || b) (any-member p vs l rest e) ∙ or-true (p v)
    ] refl m

-- the order of a clause does not matter
pub kept-order : (xs done : List Assigned) (w : Literal) (c d : List Literal) → IsPermutation c d → IsKept xs done w
    c → IsKept xs done w d
kept-order xs [] w c d p k = tt
kept-order xs (x ∷ done) w c d p k =
    ((λ same. sym (list_any-IsPermutation (true_by xs x.level) c d p) ∙ k.0 same), kept-order xs done w c d p k.1)

-- the trail grows
pub kept-more : (xs more done : List Assigned) (w : Literal) (c : List Literal) → IsKept xs done w c → IsKept
    (xs ++ more) done w c
kept-more xs more [] w c k = tt
kept-more xs more (x ∷ done) w c k = (
  (λ same. any-weaker (true_by xs x.level) (true_by (xs ++ more) x.level) c (true_by-more xs more x.level) (k.0 same)),
  kept-more xs more done w c k.1,
)

-- the trail goes back
pub kept-up_to : (b : ℕ) (xs done : List Assigned) (w : Literal) (c : List Literal) → IsKept xs done w c → IsKept
    (up_to b xs) (up_to b done) w c
kept-up_to b xs [] w c k = tt
kept-up_to b xs (x ∷ done) w c k =
    elim (nat_le x.level b) as (λ t. nat_le x.level b ≡ t → IsKept (up_to b xs)
    (if t then x ∷ up_to b done else up_to b done) w c) [
      | true ↦ λ low. (
        (λ same. any-weaker (true_by xs x.level) (true_by (up_to b xs) x.level) c
            (λ l. true_by-up_to b x.level xs l (let v : x.level ≤ b = grind (arith, nat_tests) in v)) (k.0 same)),
        kept-up_to b xs done w c k.1,
      )
      | false ↦ λ _. kept-up_to b xs done w c k.1
    ] refl

-- no propagated literal makes the watch false
pub kept-none : (xs done : List Assigned) (w : Literal) (c : List Literal) → true_in done (negation w) ≡ false →
    IsKept xs done w c
kept-none xs [] w c e = tt
kept-none xs (x ∷ done) w c e = (
  (λ same. let no' = or-first (same_literal (negation w) x.lit) (true_in done (negation w)) e in absurd (cc)),
  kept-none xs done w c (or-second (same_literal (negation w) x.lit) (true_in done (negation w)) e),
)

-- whatever the level, some literal of the clause is true
pub kept-any : (xs done : List Assigned) (w : Literal) (c : List Literal) →
    ((level : ℕ) → list_any (true_by xs level) c ≡ true) → IsKept xs done w c
kept-any xs [] w c e = tt
kept-any xs (x ∷ done) w c e = ((λ _. e x.level), kept-any xs done w c e)

-- one more is propagated
pub kept-next : (xs done : List Assigned) (x : Assigned) (w : Literal) (c : List Literal) → IsKept xs done w c
    → (same_literal (negation w) x.lit ≡ true → list_any (true_by xs x.level) c ≡ true) → IsKept xs (done ++ x ∷ []) w c
kept-next xs [] x w c k now = (now, tt)
kept-next xs (y ∷ done) x w c k now = (k.0, kept-next xs done x w c k.1 now)

-- a true literal of a clause that forces is the forced one
any-forced : (xs : List Assigned) (c part : List Literal) (l : Literal) (level : ℕ) → IsConsistent xs
    → Forces (true_in xs) (members c) l → ((q : Literal) → members part q ≡ true → members c q ≡ true)
    → list_any (true_by xs level) part ≡ true → true_in xs l ≡ true
any-forced xs c [] l level consistent f within e = absurd (cc)
any-forced xs c (v ∷ vs) l level consistent f within e =
    elim (true_by xs level v) as (λ b. true_by xs level v ≡ b → (b || list_any (true_by xs level) vs) ≡ true →
    true_in xs l ≡ true) [
      | true ↦ λ now _.
          let there : true_in xs v ≡ true = true_by-true xs level v now in
          elim (same_literal v l) as (λ b. same_literal v l ≡ b → true_in xs l ≡ true) [
            | true ↦ λ same. ap (true_in xs) (sym (same_literal-is v l same)) ∙ there
            | false ↦ λ apart. absurd (consistent v there (f.others v (within v (members-first v vs)) apart))
          ] refl
      | false ↦ λ _ rest. any-forced xs c vs l level consistent f (λ q m. within q (members-later q v vs m)) rest
    ] refl e

kept-forced : (xs done : List Assigned) (w l : Literal) (c : List Literal) → IsConsistent xs → Forces (true_in xs)
    (members c) l
    → IsKept xs done w c → true_in done (negation w) ≡ true → true_in xs l ≡ true
kept-forced xs [] w l c consistent f k e = absurd (cc)
kept-forced xs (x ∷ done) w l c consistent f k e =
    elim (same_literal (negation w) x.lit) as (λ b. same_literal (negation w) x.lit ≡ b →
    (b || true_in done (negation w)) ≡ true → true_in xs l ≡ true) [
      | true ↦ λ same _. any-forced xs c c l x.level consistent f (λ q m. m) (k.0 same)
      | false ↦ λ _ rest. kept-forced xs done w l c consistent f k.1 rest
    ] refl e

-- guarded against the whole trail, a clause has what it forces
pub guarded-closed : (xs : List Assigned) (c : List Literal) (l : Literal) → IsConsistent xs
    → ((index : ℕ) → occurs c index ≤ 1) → IsGuarded xs xs c → Forces (true_in xs) (members c) l → true_in xs l ≡ true
guarded-closed xs [] l consistent distinct g f = absurd g
guarded-closed xs (w ∷ []) l consistent distinct g f =
    elim (same_literal l w) as (λ b. same_literal l w ≡ b → (b || false) ≡ true → true_in xs l ≡ true) [
      | true ↦ λ same _. ap (true_in xs) (same_literal-is l w same) ∙ true_by-true xs 0 w g
      | false ↦ λ _ e. absurd (cc)
    ] refl f.has
guarded-closed xs (w ∷ o ∷ rest) l consistent distinct g f =
    elim (same_literal w l) as (λ b. same_literal w l ≡ b → true_in xs l ≡ true) [
      | true ↦ λ same. kept-forced xs xs o l _ consistent f g.1
          (f.others o (members-later o w (o ∷ rest) (members-first o rest))
          (subst (λ y. same_literal o y ≡ false) (same_literal-is w l same) (apart w o rest (distinct o.index))))
      | false ↦ λ other. kept-forced xs xs w l _ consistent f g.0 (f.others w (members-first w (o ∷ rest)) other)
    ] refl
  where
    apart : (w o : Literal) (rest : List Literal) → occurs (w ∷ o ∷ rest) o.index ≤ 1 → same_literal o w ≡ false
    apart w o rest low =
        let e : occurs (w ∷ o ∷ rest) o.index ≡ bit (nat_eq w.index o.index) + occurs (o ∷ rest) o.index =
        sum_by-cons (λ x. bit (nat_eq x.index o.index)) w (o ∷ rest) in
        let f : occurs (o ∷ rest) o.index ≡ bit (nat_eq o.index o.index) + occurs rest o.index =
        sum_by-cons (λ x. bit (nat_eq x.index o.index)) o rest in
        let one : nat_eq o.index o.index ≡ true = grind (arith, nat_tests) in
        let g : bit (nat_eq o.index o.index) ≡ 1 = ap bit one in
        elim (same_literal o w) as (λ t. same_literal o w ≡ t → t ≡ false) [
          | true ↦ λ same.
              let is : o ≡ w = same_literal-is o w same in
              let two : bit (nat_eq w.index o.index) ≡ 1 = ap (λ (y : Literal). bit (nat_eq y.index o.index))
              (sym is) ∙ g in
              absurd (omega arith)
          | false ↦ λ _. refl
        ] refl

pub guarded-more : (xs more done : List Assigned) (c : List Literal) → IsGuarded xs done c → IsGuarded (xs ++ more)
    done c
guarded-more xs more done [] g = g
guarded-more xs more done (w ∷ []) g = true_by-more xs more 0 w g
guarded-more xs more done (w ∷ o ∷ rest) g = (kept-more xs more done w _ g.0, kept-more xs more done o _ g.1)

pub guarded-up_to : (b : ℕ) (xs done : List Assigned) (c : List Literal) → IsGuarded xs done c → IsGuarded
    (up_to b xs) (up_to b done) c
guarded-up_to b xs done [] g = g
guarded-up_to b xs done (w ∷ []) g = true_by-up_to b 0 xs w (omega arith) g
guarded-up_to b xs done (w ∷ o ∷ rest) g = (kept-up_to b xs done w _ g.0, kept-up_to b xs done o _ g.1)
