-- what an import puts in a clause's place is a part of it
use Rattle.std.proofs.Common.{◌≡◌, ◌<◌, ⊎_elim, ℕ, Bool, true, false, List, [], ◌∷◌, length, Option, Some, None, sym, ap, ◌∙◌, subst, arith, nat_eq, nat_le, nat_lt, if◌then◌else◌, ◌||◌, All}
use Rattle.std.specs.FinMap as map
use Rattle.std.proofs.lemmas.List.Elements.{All-nil, All-cons, All-head, All-tail, All-append}
use Rattle.gr_logic.specs.Literals.{Literal}
use Rattle.gr_logic.specs.Formulas.{Cnf}
use Rattle.gr_logic.specs.WorkLists.{without_first}
use Rattle.gr_logic.specs.declared.items.Strengthened.TheVariants.{Same, Shorter}
use Rattle.gr_diary.specs.declared.entries.Entry.{Entry}
use Rattle.gr_diary.specs.declared.entries.Entry.TheVariants.{Learn, Take, Return, Import, Drained, Forget, Close}
use Rattle.gr_diary.specs.declared.entries.Entry.TheVariants as entry
use Rattle.gr_diary.specs.Entries.{Addition, addition_of}
use Rattle.gr_diary.specs.States.{State, Outcome, has, in_results, initial_state}
use Rattle.gr_diary.specs.Steps.{left_ids, after, live_grown, result_of, is_import}
use Rattle.gr_diary.specs.Rules.{Allowed, IsSubclause, cited_by}
use Rattle.gr_diary.specs.Invariant.{IsKept, OldIsFine}
use Rattle.gr_diary.specs.Histories.{IsLegal, IsLegalFrom, state_from, state_of}
use Rattle.gr_diary.proofs.Among.{same-number, or-first, or-second}
use Rattle.gr_diary.proofs.Left.{kept, begins-kept}
use Rattle.gr_diary.proofs.LogPieces.{get-without}
use Rattle.gr_diary.proofs.Moved.{get-new, grown-cases}

-- a result's clause is a part of the one that it stands for
abbrev pub IsPartOfOld : State → Outcome → Type 0
IsPartOfOld s r =
    (id : ℕ) (whole c : List Literal) → r.old ≡ Some id → map.get s.live id ≡ Some whole
    → map.get s.live r.id ≡ Some c → IsSubclause c whole

-- each result's is
abbrev pub ResultsArePartsOfOld : State → Type 0
ResultsArePartsOfOld s = All (IsPartOfOld s) s.results

-- each result's id is known, and so is that of the clause that it stands for
abbrev IsKnown : State → Outcome → Type 0
IsKnown s r = (r.id < s.next) × ((id : ℕ) → r.old ≡ Some id → id < s.next)

module _ (f : Cnf) (reducers capacity : ℕ) (s : State) (e : Entry) (k : IsKept f reducers s)
    (ok : Allowed f reducers s e)
  where
    abbrev s' : State
    s' = after f reducers capacity s e

    -- a clause that is live after the entry was live, or is the new one
    was-live : (q : ℕ) (c : List Literal) → map.get s'.live q ≡ Some c
        → map.get (live_grown s (addition_of e)) q ≡ Some c
    was-live q c got = pick (has q (left_ids f reducers capacity s e))
        (sym (get-without (left_ids f reducers capacity s e) (live_grown s (addition_of e)) q) ∙ got)
      where
        pick : (b : Bool) → (if b then None else map.get (live_grown s (addition_of e)) q) ≡ Some c
            → map.get (live_grown s (addition_of e)) q ≡ Some c
        pick true got = absurd (cc)
        pick false got = got

    old-live : (q : ℕ) (c : List Literal) → q < s.next → map.get s'.live q ≡ Some c → map.get s.live q ≡ Some c
    old-live q c below got =
        ⊎_elim (λ was. was) (λ (new : (a : Addition) × (addition_of e ≡ Some a) × (q ≡ s.next) × (a.clause ≡ c)).
        let same = new.2 in absurd (omega arith))
        (grown-cases s (addition_of e) q c (was-live q c got))

    -- an earlier result stays so
    stays : (r : Outcome) → IsKnown s r → IsPartOfOld s r → IsPartOfOld s' r
    stays r known part id whole c old whole_live c_live =
        part id whole c old (old-live id whole (known.1 id old) whole_live) (old-live r.id c known.0 c_live)

    known-in : (rs : List Outcome) → All (OldIsFine f s) rs
        → ((id : ℕ) → in_results id rs ≡ true → id < s.next) → All (IsKnown s) rs
    known-in [] fine below = All-nil (IsKnown s)
    known-in (r ∷ rs) fine below =
        All-cons (IsKnown s) r rs (
          below r.id (or-first (nat_eq r.id r.id) (in_results r.id rs) (same-number r.id)),
          λ id old. (All-head (OldIsFine f s) r rs fine id old).1,
        )
        (known-in rs (All-tail (OldIsFine f s) r rs fine)
        (λ id there. below id (or-second (nat_eq id r.id) (in_results id rs) there)))

    all-known : All (IsKnown s) s.results
    all-known = known-in s.results k.order.old (λ id there. (k.order.results id there).below)

    both : (rs : List Outcome) → All (IsKnown s) rs → All (IsPartOfOld s) rs → All (IsPartOfOld s') rs
    both [] known parts = All-nil (IsPartOfOld s')
    both (r ∷ rs) known parts = All-cons (IsPartOfOld s') r rs
        (stays r (All-head (IsKnown s) r rs known) (All-head (IsPartOfOld s) r rs parts))
        (both rs (All-tail (IsKnown s) r rs known) (All-tail (IsPartOfOld s) r rs parts))

    rest : (rs : List Outcome) → All (IsPartOfOld s') rs → All (IsPartOfOld s') (without_first rs)
    rest [] all = All-nil (IsPartOfOld s')
    rest (r ∷ rs) all = All-tail (IsPartOfOld s') r rs all

    earlier : ResultsArePartsOfOld s
        → All (IsPartOfOld s') (if is_import e then without_first s.results else s.results)
    earlier parts = pick (is_import e)
      where
        pick : (b : Bool) → All (IsPartOfOld s') (if b then without_first s.results else s.results)
        pick true = rest s.results (both s.results all-known parts)
        pick false = both s.results all-known parts

some-is : (x y : List Literal) → ◌≡◌ {A = Option (List Literal)} (Some x) (Some y) → x ≡ y
some-is x y e = cc

-- what is cited is live
cited-live : (f : Cnf) (s : State) (a id : ℕ) (c : List Literal) → cited_by f s a id ≡ Some c
    → map.get s.live id ≡ Some c
cited-live f s a id c got = pick (nat_le id (length f.clauses) || has id (s.held a)) got
  where
    pick : (b : Bool) → (if b then map.get s.live id else None) ≡ Some c → map.get s.live id ≡ Some c
    pick true e = e
    pick false e = absurd (cc)

-- and so is a new one
new-results : (f : Cnf) (reducers capacity : ℕ) (s : State) (e : Entry) → IsKept f reducers s → Allowed f reducers s e
    → All (IsPartOfOld (after f reducers capacity s e)) (result_of s e)
new-results f reducers capacity s (Learn clause hints lbd offered) k ok =
    All-nil (IsPartOfOld (after f reducers capacity s (Learn clause hints lbd offered)))
new-results f reducers capacity s (entry.Unit actor lit hints) k ok = pick (nat_lt 0 actor)
  where
    pick : (b : Bool) → All (IsPartOfOld (after f reducers capacity s (entry.Unit actor lit hints)))
        (if b then record { old = None; id = s.next } ∷ [] else [])
    pick true = All-cons (IsPartOfOld (after f reducers capacity s (entry.Unit actor lit hints)))
        (record { old = None; id = s.next }) [] (λ id whole c old. absurd (cc old))
        (All-nil (IsPartOfOld (after f reducers capacity s (entry.Unit actor lit hints))))
    pick false = All-nil (IsPartOfOld (after f reducers capacity s (entry.Unit actor lit hints)))
new-results f reducers capacity s (Take actor) k ok = All-nil (IsPartOfOld (after f reducers capacity s (Take actor)))
new-results f reducers capacity s (Return actor Same) k ok =
    All-nil (IsPartOfOld (after f reducers capacity s (Return actor Same)))
new-results f reducers capacity s (Return actor (Shorter shorter hints)) k ok =
    All-cons (IsPartOfOld (after f reducers capacity s (Return actor (Shorter shorter hints))))
    (record { old = s.taken actor; id = s.next }) [] part
    (All-nil (IsPartOfOld (after f reducers capacity s (Return actor (Shorter shorter hints)))))
  where
    part : IsPartOfOld (after f reducers capacity s (Return actor (Shorter shorter hints)))
        (record { old = s.taken actor; id = s.next })
    part id whole c old whole_live c_live =
        let taken : ℕ = ok.able.2 in
        let same : Some taken ≡ Some id = sym ok.able.4 ∙ old in
        let at : taken ≡ id = cc in
        let cited : map.get s.live id ≡ Some ok.able.3 =
        ap (map.get s.live) (sym at) ∙ cited-live f s actor taken ok.able.3 ok.able.5 in
        let below : id < s.next = (k.order.held actor id (k.order.taken actor id old).0).below in
        let was =
        old-live f reducers capacity s (Return actor (Shorter shorter hints)) k ok id whole below whole_live in
        let whole_is : ok.able.3 ≡ whole = some-is ok.able.3 whole (sym cited ∙ was) in
        let c_is : shorter ≡ c = some-is shorter c (sym (get-new s.live s.next shorter)
        ∙ Rattle.gr_diary.proofs.Replacing.was-live f reducers capacity s (Return actor (Shorter shorter hints)) k ok
        s.next c c_live) in
        subst (λ z. IsSubclause z whole) c_is (subst (IsSubclause shorter) whole_is ok.able.7.0.part)
new-results f reducers capacity s Import k ok = All-nil (IsPartOfOld (after f reducers capacity s Import))
new-results f reducers capacity s Drained k ok = All-nil (IsPartOfOld (after f reducers capacity s Drained))
new-results f reducers capacity s (Forget actor ids) k ok =
    All-nil (IsPartOfOld (after f reducers capacity s (Forget actor ids)))
new-results f reducers capacity s Close k ok = All-nil (IsPartOfOld (after f reducers capacity s Close))

-- an entry keeps it
pub parts-kept : (f : Cnf) (reducers capacity : ℕ) (s : State) (e : Entry) → IsKept f reducers s
    → Allowed f reducers s e → ResultsArePartsOfOld s → ResultsArePartsOfOld (after f reducers capacity s e)
parts-kept f reducers capacity s e k ok parts =
    All-append (IsPartOfOld (after f reducers capacity s e))
    (if is_import e then without_first s.results else s.results) (result_of s e)
    (earlier f reducers capacity s e k ok parts) (new-results f reducers capacity s e k ok)

parts-from : (f : Cnf) (reducers capacity : ℕ) (d : List Entry) (s : State) → IsKept f reducers s
    → ResultsArePartsOfOld s → IsLegalFrom f reducers capacity s d
    → ResultsArePartsOfOld (state_from f reducers capacity s d)
parts-from f reducers capacity [] s k parts legal = parts
parts-from f reducers capacity (e ∷ es) s k parts legal =
    parts-from f reducers capacity es (after f reducers capacity s e) (kept f reducers capacity s e k legal.0)
    (parts-kept f reducers capacity s e k legal.0 parts) legal.1

-- and every legal history
pub results-are-parts : (f : Cnf) (reducers capacity : ℕ) (d : List Entry) → IsLegal f reducers capacity d
    → ResultsArePartsOfOld (state_of f reducers capacity d)
results-are-parts f reducers capacity d legal =
    parts-from f reducers capacity d (initial_state f) (begins-kept f reducers)
    (All-nil (IsPartOfOld (initial_state f))) legal
