-- how much a search learns that learns fresh clauses
use Rattle.std.proofs.Common.{◌≡◌, ◌≤◌, ◌<◌, ◌+◌, ◌*◌, ◌^◌, ℕ, suc, Bool, true, false, not, ◌||◌, List, [], ◌∷◌, ◌++◌, append-nil, append_assoc, length, refl, sym, ap, ◌∙◌, subst, arith, if◌then◌else◌}
use Rattle.std.specs.List.{filter, list_any, fold}
use Rattle.std.proofs.lemmas.Bool.{or_parts, false_from_ne_true}
use Rattle.std.proofs.lemmas.List.Folds.{list_any-append}
use Rattle.std.proofs.Math.Nat.{mul-le-mul_right, suc-mul}
use Rattle.gr_logic.specs.Formulas.{Cnf}
use Rattle.gr_diary.specs.declared.entries.Entry.{Entry}
use Rattle.gr_diary.specs.declared.entries.Entry.TheVariants.{Learn, Take, Return, Import, Drained, Forget, Close}
use Rattle.gr_diary.specs.declared.entries.Entry.TheVariants as entry
use Rattle.gr_diary.specs.Entries.{adds_empty, is_learn}
use Rattle.gr_diary.specs.Histories.{IsLegal, learn_count}
use Rattle.gr_diary.specs.SearchRules.{LearnsFresh, SpacesForgets, IsSpaced, since, is_solver_forget, forget_count}
use Rattle.gr_diary.specs.Budget.{is_learn_of_some, KeptClausesAreFew, SparedClausesAreFew}
use Rattle.gr_diary.proofs.Counting.{grows, IsGood, good-front, fresh-clauses-are-few}
use Rattle.gr_diary.proofs.Growing.{fits-push}
use Rattle.gr_diary.proofs.Tallies.{one-more, learns-since}
use Rattle.gr_diary.proofs.Ternary.{ternary-below}

-- where no entry adds the empty clause, each learnt clause is not empty
learns-some : (e : Entry) → adds_empty e ≡ false → is_learn_of_some e ≡ is_learn e
learns-some (Learn clause hints lbd offered) some = ap not some
learns-some (entry.Unit actor lit hints) some = refl
learns-some (Take actor) some = refl
learns-some (Return actor outcome) some = refl
learns-some Import some = refl
learns-some Drained some = refl
learns-some (Forget actor ids) some = refl
learns-some Close some = refl

all-learn-some : (d : List Entry) → list_any adds_empty d ≡ false → filter is_learn_of_some d ≡ filter is_learn d
all-learn-some [] none = refl
all-learn-some (e ∷ es) none =
    let parts = or_parts (adds_empty e) (list_any adds_empty es) none in
    (λ i. if learns-some e parts.0 i then e ∷ all-learn-some es parts.1 i else all-learn-some es parts.1 i)

-- so it is since the searching thread let ids go
since-none : (d behind : List Entry) → list_any adds_empty behind ≡ false → list_any adds_empty d ≡ false
    → list_any adds_empty
    (fold (λ (so_far : List Entry) x. if is_solver_forget x then [] else so_far ++ x ∷ []) behind d) ≡ false
since-none [] behind none all = none
since-none (e ∷ es) behind none all =
    let parts = or_parts (adds_empty e) (list_any adds_empty es) all in
    since-none es (if is_solver_forget e then [] else behind ++ e ∷ []) (pick parts.0 (is_solver_forget e)) parts.1
  where
    pick : adds_empty e ≡ false → (b : Bool) → list_any adds_empty (if b then [] else behind ++ e ∷ []) ≡ false
    pick first true = refl
    pick first false = list_any-append adds_empty behind (e ∷ []) ∙ (λ i. none i || (first i || false))

-- where it never let ids go, all entries came since
since-all : (d behind : List Entry) → forget_count d ≡ 0
    → fold (λ (so_far : List Entry) x. if is_solver_forget x then [] else so_far ++ x ∷ []) behind d ≡ behind ++ d
since-all [] behind none = sym (append-nil behind)
since-all (e ∷ es) behind none = pick (is_solver_forget e) refl (since-all es)
  where
    pick : (b : Bool) → is_solver_forget e ≡ b
        → ((start : List Entry) → forget_count es ≡ 0
        → fold (λ (so_far : List Entry) x. if is_solver_forget x then [] else so_far ++ x ∷ []) start es ≡ start ++ es)
        → fold (λ (so_far : List Entry) x. if is_solver_forget x then [] else so_far ++ x ∷ [])
        (if is_solver_forget e then [] else behind ++ e ∷ []) es ≡ behind ++ e ∷ es
    pick true is rest = absurd (let some : length (e ∷ filter is_solver_forget es) ≡ 0 =
        sym (ap (λ b. length (if b then e ∷ filter is_solver_forget es else filter is_solver_forget es)) is) ∙ none in
        omega arith)
    pick false is rest =
        ap (λ b. fold (λ (so_far : List Entry) x. if is_solver_forget x then [] else so_far ++ x ∷ [])
        (if b then [] else behind ++ e ∷ []) es) is
        ∙ rest (behind ++ e ∷ [])
        (sym (ap (λ b. length (if b then e ∷ filter is_solver_forget es else filter is_solver_forget es)) is) ∙ none)
        ∙ append_assoc behind (e ∷ []) es

-- since the searching thread let ids go, it learnt fewer than there are clauses
learns-few : (f : Cnf) (reducers capacity : ℕ) (d : List Entry) → IsLegal f reducers capacity d
    → LearnsFresh f reducers capacity d → list_any adds_empty d ≡ false
    → learn_count (since is_solver_forget d) < 3 ^ f.vars
learns-few f reducers capacity d legal fresh none =
    subst (λ n. n < 3 ^ f.vars)
    (ap length (all-learn-some (since is_solver_forget d) (since-none d [] refl none)))
    (fresh-clauses-are-few f reducers capacity d legal fresh)

pub kept-clauses-are-few : KeptClausesAreFew
kept-clauses-are-few f reducers capacity d legal fresh kept none =
    subst (λ z. learn_count z < 3 ^ f.vars) (since-all d [] kept)
    (learns-few f reducers capacity d legal fresh (false_from_ne_true (list_any adds_empty d) none))

one-more-times : (n p : ℕ) → (n + 1) * p ≡ n * p + p
one-more-times n p = ap (λ k. k * p) (let e : n + 1 ≡ suc n = omega arith in e) ∙ suc-mul n p

-- what was learnt so far, by how often ids were let go
record IsBudgeted (f : Cnf) (q : ℕ) (d : List Entry) : Type 0 where
  forgets : forget_count d < q
  learns : learn_count d ≤ forget_count d * 3 ^ f.vars + learn_count (since is_solver_forget d)

module _ (f : Cnf) (reducers capacity q : ℕ) (enough : 3 ^ f.vars ≤ 2_000 * q) where
  abbrev IsSpare : List Entry → Type 0
  IsSpare d = IsGood f reducers capacity d × SpacesForgets d × (list_any adds_empty d ≡ false)

  spare-front : (x y : List Entry) → IsSpare (x ++ y) → IsSpare x
  spare-front x y spare = (
    good-front f reducers capacity x y spare.0,
    λ before e later same. spare.1 before e (later ++ y)
        (ap (λ z. z ++ y) same ∙ append_assoc before (e ∷ later) y),
    (or_parts (list_any adds_empty x) (list_any adds_empty y)
        (sym (list_any-append adds_empty x y) ∙ spare.2)).0,
  )

  budgeted : (d : List Entry) (e : Entry) → IsSpare (d ++ e ∷ []) → IsBudgeted f q d → IsBudgeted f q (d ++ e ∷ [])
  budgeted d e spare was = pick (is_solver_forget e) refl (is_learn e) refl
    where
      at : IsSpare d
      at = spare-front d (e ∷ []) spare

      few : learn_count (since is_solver_forget d) < 3 ^ f.vars
      few = learns-few f reducers capacity d at.0.0 at.0.1 at.2

      spaced : IsSpaced d e
      spaced = ((fits-push IsSpaced d e).0 spare.1).1

      no-learn : (x : Entry) → is_solver_forget x ≡ true → is_learn x ≡ true → true ≡ false
      no-learn (Learn clause hints lbd offered) forgets learns = sym forgets
      no-learn (entry.Unit actor lit hints) forgets learns = sym learns
      no-learn (Take actor) forgets learns = sym learns
      no-learn (Return actor outcome) forgets learns = sym learns
      no-learn Import forgets learns = sym learns
      no-learn Drained forgets learns = sym learns
      no-learn (Forget actor ids) forgets learns = sym learns
      no-learn Close forgets learns = sym learns

      sums : (b c : Bool) → is_solver_forget e ≡ b → is_learn e ≡ c
          → (forget_count (d ++ e ∷ []) ≡ (if b then forget_count d + 1 else forget_count d))
          × (learn_count (d ++ e ∷ []) ≡ (if c then learn_count d + 1 else learn_count d))
          × (learn_count (since is_solver_forget (d ++ e ∷ []))
          ≡ (if b then 0 else (if c then learn_count (since is_solver_forget d) + 1
          else learn_count (since is_solver_forget d))))
      sums b c is learns = (
        one-more is_solver_forget d e ∙ ap (λ x. if x then forget_count d + 1 else forget_count d) is,
        one-more is_learn d e ∙ ap (λ x. if x then learn_count d + 1 else learn_count d) learns,
        learns-since d e ∙ (λ i. if is i then 0 else (if learns i then learn_count (since is_solver_forget d) + 1
            else learn_count (since is_solver_forget d))),
      )

      pick : (b : Bool) → is_solver_forget e ≡ b → (c : Bool) → is_learn e ≡ c → IsBudgeted f q (d ++ e ∷ [])
      pick true is true learns = absurd (let no = no-learn e is learns in cc no)
      pick true is false learns =
          let s = sums true false is learns in
          let forgot : forget_count (d ++ e ∷ []) ≡ forget_count d + 1 = s.0 in
          let learnt : learn_count (d ++ e ∷ []) ≡ learn_count d = s.1 in
          let anew : learn_count (since is_solver_forget (d ++ e ∷ [])) ≡ 0 = s.2 in
          let space = spaced is in
          let count = was.learns in
          let less = few in
          let more : (forget_count d + 1) * 3 ^ f.vars ≡ forget_count d * 3 ^ f.vars + 3 ^ f.vars =
          one-more-times (forget_count d) (3 ^ f.vars) in record {
            forgets = omega arith;
            learns = rw (forgot, learnt, anew, more) (omega arith);
          }
      pick false is true learns =
          let s = sums false true is learns in
          let forgot : forget_count (d ++ e ∷ []) ≡ forget_count d = s.0 in
          let learnt : learn_count (d ++ e ∷ []) ≡ learn_count d + 1 = s.1 in
          let since' : learn_count (since is_solver_forget (d ++ e ∷ []))
          ≡ learn_count (since is_solver_forget d) + 1 = s.2 in
          let count = was.learns in record {
            forgets = rw forgot was.forgets;
            learns = rw (forgot, learnt, since') (omega arith);
          }
      pick false is false learns =
          let s = sums false false is learns in
          let forgot : forget_count (d ++ e ∷ []) ≡ forget_count d = s.0 in
          let learnt : learn_count (d ++ e ∷ []) ≡ learn_count d = s.1 in
          let since' : learn_count (since is_solver_forget (d ++ e ∷ []))
          ≡ learn_count (since is_solver_forget d) = s.2 in record {
            forgets = rw forgot was.forgets;
            learns = rw (forgot, learnt, since') was.learns;
          }

  all-budgeted : (d : List Entry) → IsSpare d → IsBudgeted f q d
  all-budgeted d spare =
      grows (IsBudgeted f q) IsSpare spare-front budgeted d [] spare
      (record { forgets = let some = ternary-below [] f.vars in omega arith; learns = omega arith })

  few-in-all : (d : List Entry) → IsSpare d → learn_count d < q * 3 ^ f.vars
  few-in-all d spare =
      let b = all-budgeted d spare in
      let few = learns-few f reducers capacity d spare.0.0 spare.0.1 spare.2 in
      let more : (forget_count d + 1) * 3 ^ f.vars ≡ forget_count d * 3 ^ f.vars + 3 ^ f.vars =
      one-more-times (forget_count d) (3 ^ f.vars) in
      let count = b.learns in
      let fewer : (forget_count d + 1) * 3 ^ f.vars ≤ q * 3 ^ f.vars =
      mul-le-mul_right (3 ^ f.vars) (let l = b.forgets in omega arith) in
      omega arith

pub spared-clauses-are-few : SparedClausesAreFew
spared-clauses-are-few f reducers capacity d legal fresh spaced none q enough =
    few-in-all f reducers capacity q enough d
    ((legal, fresh), spaced, false_from_ne_true (list_any adds_empty d) none)
