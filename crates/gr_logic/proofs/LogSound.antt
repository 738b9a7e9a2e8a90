-- what an accepted log says of its formula
use Rattle.std.proofs.Common.{◌≡◌, ℕ, ◌+◌, Bool, true, false, ◌||◌, List, [], ◌∷◌, Option, Some, None, refl, sym, ◌∙◌, subst, nat_le, if◌then◌else◌}
use Rattle.std.specs.Prelude.{All}
use Rattle.std.specs.Ordering.{nat_cmp, eq_by_cmp}
use Rattle.std.specs.Cmp.{nat_cmp_total}
use Rattle.std.specs.FinMap as map
use Rattle.std.proofs.lemmas.List.Elements.{All-head, All-tail, All-nil, All-cons}
use Rattle.gr_logic.specs.Literals.{Literal}
use Rattle.gr_logic.specs.Formulas.{Cnf}
use Rattle.gr_logic.specs.Truth.{Meets, MeetsAll}
use Rattle.gr_logic.specs.Rup.{Answer, Accepted, NotLive, HintNotUnit, NoConflict, rup}
use Rattle.gr_logic.specs.Log.{Clauses, with_clauses, LogState, opening, cause_of, is_empty, is_var_above, addition_cause, without, line_cause, after_line, first_cause, refusal_from, state_after, clauses_added}
use Rattle.gr_logic.specs.Laws.{MeetsLive, AdditionsAreImplied, AcceptedLogsRefute}
use Rattle.gr_logic.specs.declared.lines.Line.{Line}
use Rattle.gr_logic.specs.declared.lines.Line.TheVariants.{Add, Delete}
use Rattle.gr_logic.proofs.Sound.{rup-sound}

-- what holds of a value holds of what is chosen
either-Meets : (a : List Bool) (b : Bool) (x y : Option (List Literal)) (c : List Literal)
    → (x ≡ Some c → Meets a c) → (y ≡ Some c → Meets a c) → (if b then x else y) ≡ Some c
    → Meets a c
either-Meets a true x y c left right e = left e
either-Meets a false x y c left right e = right e

insert-MeetsLive : (a : List Bool) (live : Clauses) (id : ℕ) (c : List Literal)
    → MeetsLive a (map.get live) → Meets a c → MeetsLive a (map.get (map.insert live id c))
insert-MeetsLive a live id c meets one q d e =
    either-Meets a (eq_by_cmp nat_cmp q id) (Some c) (map.get live q) d
    (λ same. let s : c ≡ d = cc in subst (Meets a) s one) (meets q d)
    (sym (map.get-insert nat_cmp_total live id c q) ∙ e)

remove-MeetsLive : (a : List Bool) (live : Clauses) (id : ℕ) → MeetsLive a (map.get live)
    → MeetsLive a (map.get (map.remove live id))
remove-MeetsLive a live id meets q d e =
    either-Meets a (eq_by_cmp nat_cmp q id) None (map.get live q) d (λ none. absurd (cc)) (meets q d)
    (sym (map.get-remove nat_cmp_total live id q) ∙ e)

without-MeetsLive : (a : List Bool) (ids : List ℕ) (live : Clauses) → MeetsLive a (map.get live)
    → MeetsLive a (map.get (without live ids))
without-MeetsLive a [] live meets = meets
without-MeetsLive a (id ∷ ids) live meets =
    without-MeetsLive a ids (map.remove live id) (remove-MeetsLive a live id meets)

empty-MeetsLive : (a : List Bool) → MeetsLive a (map.get (map.empty {R = nat_cmp}))
empty-MeetsLive a q d e = absurd (let none = map.get-empty {X = List Literal} nat_cmp q in cc)

with_clauses-MeetsLive : (a : List Bool) (cs : List (List Literal)) (live : Clauses) (id : ℕ)
    → MeetsLive a (map.get live) → MeetsAll a cs → MeetsLive a (map.get (with_clauses live id cs))
with_clauses-MeetsLive a [] live id meets all = meets
with_clauses-MeetsLive a (c ∷ cs) live id meets all =
    with_clauses-MeetsLive a cs (map.insert live id c) (id + 1)
    (insert-MeetsLive a live id c meets (All-head (Meets a) c cs all)) (All-tail (Meets a) c cs all)

-- an addition with no cause passes the unit steps
no-cause : (id : ℕ) (answer : Answer) → cause_of id answer ≡ None → answer ≡ Accepted
no-cause id Accepted e = refl
no-cause id (NotLive q) e = absurd (cc)
no-cause id (HintNotUnit q) e = absurd (cc)
no-cause id NoConflict e = absurd (cc)

not-first : {X : Type 0} (b : Bool) (x : X) (o : Option X) → (if b then Some x else o) ≡ None → o ≡ None
not-first true x o e = absurd (cc)
not-first false x o e = e

addition-accepted : (s : LogState) (id : ℕ) (c : List Literal) (hints : List ℕ)
    → addition_cause s id c hints ≡ None → rup (map.get s.live) c hints ≡ Accepted
addition-accepted s id c hints e =
    no-cause id _ (not-first (is_var_above s.vars c) _ _ (not-first (nat_le id s.last) _ _ e))

-- no assignment meets the empty clause
empty-unmet : (a : List Bool) (c : List Literal) → Meets a c → is_empty c ≡ false
empty-unmet a [] m = absurd (cc)
empty-unmet a (l ∷ ls) m = refl

line-MeetsLive : (a : List Bool) (s : LogState) (line : Line) → line_cause s line ≡ None
    → MeetsLive a (map.get s.live)
    → MeetsLive a (map.get (after_line s line).live) × ((after_line s line).refuted ≡ s.refuted)
line-MeetsLive a s (Add id c hints) e meets =
    let one = rup-sound (map.get s.live) c hints (addition-accepted s id c hints e) a meets in
    (insert-MeetsLive a s.live id c meets one, rw (empty-unmet a c one) (or-false s.refuted))
  where
    or-false : (b : Bool) → (b || false) ≡ b
    or-false true = refl
    or-false false = refl
line-MeetsLive a s (Delete id ids) e meets = (without-MeetsLive a ids s.live meets, refl)

-- what is met before a log's lines is met after them: no empty clause is added
unrefuted : (a : List Bool) (lines : List Line) (n : ℕ) (s : LogState)
    → MeetsLive a (map.get s.live) → refusal_from n s lines ≡ None → (state_after s lines).refuted ≡ s.refuted
unrefuted a [] n s meets e = refl
unrefuted a (x ∷ xs) n s meets e =
    elim (line_cause s x)
    as (λ o. line_cause s x ≡ o → first_cause n o (refusal_from (n + 1) (after_line s x) xs) ≡ None
    → (state_after (after_line s x) xs).refuted ≡ s.refuted) [
      | None ↦ λ is e.
          let next = line-MeetsLive a s x is meets in
          unrefuted a xs (n + 1) (after_line s x) next.0 e ∙ next.1
      | Some why ↦ λ _ e. absurd (cc)
    ] refl e

-- where no line is refused, each clause that the lines add is met
additions-met : (a : List Bool) (lines : List Line) (n : ℕ) (s : LogState)
    → MeetsLive a (map.get s.live) → refusal_from n s lines ≡ None → All (Meets a) (clauses_added lines)
additions-met a [] n s meets e = All-nil (Meets a)
additions-met a (x ∷ xs) n s meets e =
    elim (line_cause s x)
    as (λ o. line_cause s x ≡ o → first_cause n o (refusal_from (n + 1) (after_line s x) xs) ≡ None
    → All (Meets a) (clauses_added (x ∷ xs))) [
      | None ↦ λ is e. with-line x is (additions-met a xs (n + 1) (after_line s x) (line-MeetsLive a s x is meets).0 e)
      | Some why ↦ λ _ e. absurd (cc)
    ] refl e
  where
    with-line : (x : Line) → line_cause s x ≡ None → All (Meets a) (clauses_added xs)
        → All (Meets a) (clauses_added (x ∷ xs))
    with-line (Add id c hints) is later =
        All-cons (Meets a) c (clauses_added xs)
        (rup-sound (map.get s.live) c hints (addition-accepted s id c hints is) a meets) later
    with-line (Delete id ids) is later = later

-- what meets the formula meets the clauses that are there at first
opening-met : (a : List Bool) (f : Cnf) → MeetsAll a f.clauses → MeetsLive a (map.get (opening f).live)
opening-met a f meets = with_clauses-MeetsLive a f.clauses map.empty 1 (empty-MeetsLive a) meets

pub additions-implied : AdditionsAreImplied
additions-implied f lines e k d h a meets = additions-met a lines 1 (opening f) (opening-met a f meets) e k d h

pub accepts-sound : AcceptedLogsRefute
accepts-sound f lines accepted a meets =
    let same = unrefuted a lines 1 (opening f) (opening-met a f meets) accepted.0 in cc (same, accepted.1)
