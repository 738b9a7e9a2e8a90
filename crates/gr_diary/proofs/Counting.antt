-- counting what a search learnt
use Rattle.std.proofs.Common.{◌≡◌, ◌≢◌, ◌<◌, ◌+◌, ◌^◌, ◌⊎◌, inl, inr, ℕ, suc, Bool, true, false, List, [], ◌∷◌, ◌++◌, append-nil, append_assoc, length, refl, sym, ap, ◌∙◌, subst, arith, nat_eq, if◌then◌else◌, All}
use Rattle.std.proofs.lemmas.Bool.{eqb-true, false_from_ne_true, or_cases}
use Rattle.std.proofs.lemmas.List.Elements.{All-nil, All-cons, All-head, All-tail, All-weaker}
use Rattle.gr_logic.specs.Literals.{Literal}
use Rattle.gr_logic.specs.Formulas.{Cnf, VarsUpTo}
use Rattle.gr_logic.specs.NormalForms.{IsNormal}
use Rattle.gr_diary.specs.declared.entries.Entry.{Entry}
use Rattle.gr_diary.specs.declared.entries.Entry.TheVariants.{Learn, Take, Return, Import, Drained, Forget, Close}
use Rattle.gr_diary.specs.declared.entries.Entry.TheVariants as entry
use Rattle.gr_diary.specs.Entries.{actor_of}
use Rattle.gr_diary.specs.Rules.{Allowed, IsSubclause}
use Rattle.gr_diary.specs.Invariant.{IsApart, among}
use Rattle.gr_diary.specs.Histories.{IsLegal, state_of}
use Rattle.gr_diary.specs.SearchRules.{LearnsFresh, IsFresh, since, is_solver_forget}
use Rattle.gr_diary.specs.Budget.{is_learn_of_some, some_learn_count, FreshClausesAreFew}
use Rattle.gr_diary.proofs.Covering.{IsCovered, other-covers, addition-covers, new-covers, nothing-covers, import-covers}
use Rattle.gr_diary.proofs.Ends.{histories-grow, beginnings-are-legal}
use Rattle.gr_diary.proofs.Growing.{fits-push}
use Rattle.gr_diary.proofs.Tallies.{one-more, since-push}
use Rattle.gr_diary.proofs.Ternary.{ternary, ternary-below, same-number-within, some-number, few-numbers}

-- the clauses' numbers
abbrev codes : ℕ → List (List Literal) → List ℕ
codes vars [] = []
codes vars (c ∷ cs) = ternary c vars ∷ codes vars cs

-- a clause that may be learnt, and is not empty
abbrev IsLearnable : ℕ → List Literal → Type 0
IsLearnable vars c = IsNormal c × VarsUpTo vars c × (c ≢ [])

-- the clauses learnt since the searching thread let ids go last: different ones, each covered
record IsCounted (f : Cnf) (reducers capacity : ℕ) (d : List Entry) : Type 0 where
  clauses : List (List Literal)
  count : length clauses ≡ some_learn_count (since is_solver_forget d)
  learnable : All (IsLearnable f.vars) clauses
  covered : All (IsCovered f reducers capacity d) clauses
  apart : IsApart (λ n. n) (codes f.vars clauses)

-- of a list of clauses with such a number, one has it
find : (P : List Literal → Type 0) (vars n : ℕ) (cs : List (List Literal)) → All P cs
    → among (λ k. k) n (codes vars cs) ≡ true → (c : List Literal) × P c × (n ≡ ternary c vars)
find P vars n [] all there = absurd (cc)
find P vars n (c ∷ cs) all there =
    pick (or_cases (nat_eq n (ternary c vars)) (among (λ k. k) n (codes vars cs)) there)
    (find P vars n cs (All-tail P c cs all))
  where
    pick : (nat_eq n (ternary c vars) ≡ true) ⊎ (among (λ k. k) n (codes vars cs) ≡ true)
        → (among (λ k. k) n (codes vars cs) ≡ true → (c : List Literal) × P c × (n ≡ ternary c vars))
        → (c : List Literal) × P c × (n ≡ ternary c vars)
    pick (inl here) rest = (c, All-head P c cs all, eqb-true n (ternary c vars) here)
    pick (inr later) rest = rest later

both : {X : Type 0} (P Q : X → Type 0) (xs : List X) → All P xs → All Q xs → All (λ x. P x × Q x) xs
both P Q [] p q = All-nil (λ x. P x × Q x)
both P Q (x ∷ xs) p q = All-cons (λ x. P x × Q x) x xs (All-head P x xs p, All-head Q x xs q)
    (both P Q xs (All-tail P x xs p) (All-tail Q x xs q))

counts : (d : List Entry) (e : Entry) → some_learn_count (since is_solver_forget (d ++ e ∷ []))
    ≡ (if is_solver_forget e then 0
    else (if is_learn_of_some e then some_learn_count (since is_solver_forget d) + 1
    else some_learn_count (since is_solver_forget d)))
counts d e = ap some_learn_count (since-push is_solver_forget d e) ∙ pick (is_solver_forget e)
  where
    pick : (b : Bool) → some_learn_count (if b then [] else since is_solver_forget d ++ e ∷ [])
        ≡ (if b then 0 else (if is_learn_of_some e then some_learn_count (since is_solver_forget d) + 1
        else some_learn_count (since is_solver_forget d)))
    pick true = refl
    pick false = one-more is_learn_of_some (since is_solver_forget d) e

module _ (f : Cnf) (reducers capacity : ℕ) where
  -- an entry that learns nothing, and lets nothing go
  same-clauses : (d : List Entry) (e : Entry) → is_solver_forget e ≡ false → is_learn_of_some e ≡ false
      → ((c : List Literal) → IsCovered f reducers capacity d c → IsCovered f reducers capacity (d ++ e ∷ []) c)
      → IsCounted f reducers capacity d → IsCounted f reducers capacity (d ++ e ∷ [])
  same-clauses d e no_forget no_learn covers was = record {
    clauses = was.clauses;
    count = was.count ∙ sym (counts d e
        ∙ (λ i. if no_forget i then 0 else (if no_learn i then some_learn_count (since is_solver_forget d) + 1
        else some_learn_count (since is_solver_forget d))));
    learnable = was.learnable;
    covered = All-weaker (IsCovered f reducers capacity d) (IsCovered f reducers capacity (d ++ e ∷ [])) covers
        was.clauses was.covered;
    apart = was.apart;
  }

  -- the searching thread learns a clause that is not empty
  learnt : (d : List Entry) (c : List Literal) (hints : List ℕ) (lbd : ℕ) (offered : Bool)
      → is_learn_of_some (Learn c hints lbd offered) ≡ true → c ≢ []
      → IsLegal f reducers capacity (d ++ Learn c hints lbd offered ∷ [])
      → IsFresh f reducers capacity d (Learn c hints lbd offered)
      → IsCounted f reducers capacity d → IsCounted f reducers capacity (d ++ Learn c hints lbd offered ∷ [])
  learnt d c hints lbd offered learns some legal fresh was = record {
    clauses = c ∷ was.clauses;
    count = ap suc was.count ∙ omega arith
        ∙ sym (counts d (Learn c hints lbd offered)
        ∙ ap (λ b. if b then some_learn_count (since is_solver_forget d) + 1
        else some_learn_count (since is_solver_forget d)) learns);
    learnable = All-cons (IsLearnable f.vars) c was.clauses (able.normal, able.within, some) was.learnable;
    covered = All-cons (IsCovered f reducers capacity (d ++ Learn c hints lbd offered ∷ [])) c was.clauses
        (new-covers f reducers capacity d (Learn c hints lbd offered) legal refl refl
        (record { clause = c; hints = hints }) refl)
        (All-weaker (IsCovered f reducers capacity d)
        (IsCovered f reducers capacity (d ++ Learn c hints lbd offered ∷ []))
        (addition-covers f reducers capacity d (Learn c hints lbd offered) legal refl refl refl) was.clauses
        was.covered);
    apart = (
      false_from_ne_true (among (λ k. k) (ternary c f.vars) (codes f.vars was.clauses)) clash,
      was.apart,
    );
  }
    where
      able : Rattle.gr_diary.specs.Rules.IsJustified f
          (Rattle.gr_diary.specs.Rules.part_of f (state_of f reducers capacity d) 0) c hints
      able = ((histories-grow f reducers capacity d (Learn c hints lbd offered)).0.0 legal).1.able.0

      clash : among (λ k. k) (ternary c f.vars) (codes f.vars was.clauses) ≡ true → ⊥
      clash there =
          let x = find (λ x. IsLearnable f.vars x × IsCovered f reducers capacity d x) f.vars (ternary c f.vars)
          was.clauses (both (IsLearnable f.vars) (IsCovered f reducers capacity d) was.clauses was.learnable
          was.covered) there in
          (fresh some).1 x.1.1.id x.1.1.part x.1.1.held
          (λ l in_part. same-number-within f.vars x.0 c x.1.0.0 x.1.0.1 (sym x.2) l (x.1.1.within l in_part))

  by-actor : (d : List Entry) (e : Entry) (b : Bool) → nat_eq (actor_of e) 0 ≡ b
      → IsLegal f reducers capacity (d ++ e ∷ [])
      → (actor_of e ≡ 0 → (c : List Literal) → IsCovered f reducers capacity d c
      → IsCovered f reducers capacity (d ++ e ∷ []) c)
      → (c : List Literal) → IsCovered f reducers capacity d c → IsCovered f reducers capacity (d ++ e ∷ []) c
  by-actor d e true is legal mine = mine (eqb-true (actor_of e) 0 is)
  by-actor d e false is legal mine =
      other-covers f reducers capacity d e legal (λ same. absurd (let no : nat_eq (actor_of e) 0 ≡ true =
      ap (λ a. nat_eq a 0) same in cc (no, is)))

  counted : (d : List Entry) (e : Entry) → IsLegal f reducers capacity (d ++ e ∷ [])
      → IsFresh f reducers capacity d e → IsCounted f reducers capacity d → IsCounted f reducers capacity (d ++ e ∷ [])
  counted d (Learn [] hints lbd offered) legal fresh was =
      same-clauses d (Learn [] hints lbd offered) refl refl
      (addition-covers f reducers capacity d (Learn [] hints lbd offered) legal refl refl refl) was
  counted d (Learn (l ∷ ls) hints lbd offered) legal fresh was =
      learnt d (l ∷ ls) hints lbd offered refl (λ none. cc none) legal fresh was
  counted d (entry.Unit actor lit hints) legal fresh was =
      same-clauses d (entry.Unit actor lit hints) refl refl
      (by-actor d (entry.Unit actor lit hints) (nat_eq actor 0) refl legal
      (λ mine. addition-covers f reducers capacity d (entry.Unit actor lit hints) legal mine refl refl)) was
  counted d (Take actor) legal fresh was =
      same-clauses d (Take actor) refl refl
      (other-covers f reducers capacity d (Take actor) legal
      (λ none. absurd (let above = ((histories-grow f reducers capacity d (Take actor)).0.0 legal).1.able.0 in
      omega arith))) was
  counted d (Return actor outcome) legal fresh was =
      same-clauses d (Return actor outcome) refl refl
      (other-covers f reducers capacity d (Return actor outcome) legal
      (λ none. absurd (let above = ((histories-grow f reducers capacity d (Return actor outcome)).0.0 legal).1.able.0 in
      omega arith))) was
  counted d Import legal fresh was =
      same-clauses d Import refl refl (import-covers f reducers capacity d Import legal refl) was
  counted d Drained legal fresh was =
      same-clauses d Drained refl refl (nothing-covers f reducers capacity d Drained legal refl refl refl) was
  counted d (Forget actor ids) legal fresh was = pick (nat_eq actor 0) refl
    where
      pick : (b : Bool) → nat_eq actor 0 ≡ b → IsCounted f reducers capacity (d ++ Forget actor ids ∷ [])
      pick true is = record {
        clauses = [];
        count = sym (counts d (Forget actor ids) ∙ ap (λ b. if b then 0 else some_learn_count
            (since is_solver_forget d)) is);
        learnable = All-nil (IsLearnable f.vars);
        covered = All-nil (IsCovered f reducers capacity (d ++ Forget actor ids ∷ []));
        apart = tt;
      }
      pick false is =
          same-clauses d (Forget actor ids) is refl
          (by-actor d (Forget actor ids) false is legal (λ mine. absurd (let no : nat_eq actor 0 ≡ true =
          ap (λ a. nat_eq a 0) mine in cc (no, is)))) was
  counted d Close legal fresh was =
      same-clauses d Close refl refl (nothing-covers f reducers capacity d Close legal refl refl refl) was

-- what grows entry by entry holds of a whole history
pub grows : (P : List Entry → Type 0) (Good : List Entry → Type 0)
    → ((x y : List Entry) → Good (x ++ y) → Good x)
    → ((d : List Entry) (e : Entry) → Good (d ++ e ∷ []) → P d → P (d ++ e ∷ []))
    → (es before : List Entry) → Good (before ++ es) → P before → P (before ++ es)
grows P Good front step [] before good so_far = subst P (sym (append-nil before)) so_far
grows P Good front step (e ∷ es) before good so_far =
    let again : Good ((before ++ e ∷ []) ++ es) = subst Good (sym (append_assoc before (e ∷ []) es)) good in
    subst P (append_assoc before (e ∷ []) es)
    (grows P Good front step es (before ++ e ∷ []) again
    (step before e (front (before ++ e ∷ []) es again) so_far))

-- a legal history that learns fresh
abbrev pub IsGood : Cnf → ℕ → ℕ → List Entry → Type 0
IsGood f reducers capacity d = IsLegal f reducers capacity d × LearnsFresh f reducers capacity d

pub good-front : (f : Cnf) (reducers capacity : ℕ) (x y : List Entry) → IsGood f reducers capacity (x ++ y)
    → IsGood f reducers capacity x
good-front f reducers capacity x y good = (
  beginnings-are-legal f reducers capacity x (x ++ y) (y, refl) good.0,
  λ before e later same. good.1 before e (later ++ y)
      (ap (λ z. z ++ y) same ∙ append_assoc before (e ∷ later) y),
)

all-counted : (f : Cnf) (reducers capacity : ℕ) (d : List Entry) → IsGood f reducers capacity d
    → IsCounted f reducers capacity d
all-counted f reducers capacity d good =
    grows (IsCounted f reducers capacity) (IsGood f reducers capacity) (good-front f reducers capacity)
    (λ before e both was. counted f reducers capacity before e both.0
    ((fits-push (IsFresh f reducers capacity) before e).0 both.1).1 was)
    d [] good (record {
      clauses = [];
      count = refl;
      learnable = All-nil (IsLearnable f.vars);
      covered = All-nil (IsCovered f reducers capacity []);
      apart = tt;
    })

codes-length : (vars : ℕ) (cs : List (List Literal)) → length (codes vars cs) ≡ length cs
codes-length vars [] = refl
codes-length vars (c ∷ cs) = ap suc (codes-length vars cs)

codes-below : (vars : ℕ) (cs : List (List Literal)) (q : ℕ) → among (λ k. k) q (codes vars cs) ≡ true → q < 3 ^ vars
codes-below vars [] q there = absurd (cc)
codes-below vars (c ∷ cs) q there =
    pick (or_cases (nat_eq q (ternary c vars)) (among (λ k. k) q (codes vars cs)) there) (codes-below vars cs q)
  where
    pick : (nat_eq q (ternary c vars) ≡ true) ⊎ (among (λ k. k) q (codes vars cs) ≡ true)
        → (among (λ k. k) q (codes vars cs) ≡ true → q < 3 ^ vars) → q < 3 ^ vars
    pick (inl here) rest = subst (λ n. n < 3 ^ vars) (sym (eqb-true q (ternary c vars) here)) (ternary-below c vars)
    pick (inr later) rest = rest later

not-zero : (vars : ℕ) (cs : List (List Literal)) → All (IsLearnable vars) cs → among (λ k. k) 0 (codes vars cs) ≡ false
not-zero vars cs all = false_from_ne_true (among (λ k. k) 0 (codes vars cs)) (λ there.
    let x = find (IsLearnable vars) vars 0 cs all there in
    some-number vars x.0 x.1.0 x.1.1 x.1.2 (sym x.2))

pub fresh-clauses-are-few : FreshClausesAreFew
fresh-clauses-are-few f reducers capacity d legal fresh =
    let all = all-counted f reducers capacity d (legal, fresh) in
    let few = few-numbers (0 ∷ codes f.vars all.clauses) (3 ^ f.vars)
    (not-zero f.vars all.clauses all.learnable, all.apart)
    (λ q there. below q all.clauses (or_cases (nat_eq q 0) (among (λ k. k) q (codes f.vars all.clauses)) there)) in
    let same = codes-length f.vars all.clauses in
    let count = all.count in
    omega arith
  where
    below : (q : ℕ) (cs : List (List Literal))
        → (nat_eq q 0 ≡ true) ⊎ (among (λ k. k) q (codes f.vars cs) ≡ true) → q < 3 ^ f.vars
    below q cs (inl zero') = subst (λ n. n < 3 ^ f.vars) (sym (eqb-true q 0 zero'))
        (let some = ternary-below [] f.vars in omega arith)
    below q cs (inr there) = codes-below f.vars cs q there
