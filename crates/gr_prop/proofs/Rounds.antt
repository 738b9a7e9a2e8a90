-- one round of propagation: a literal's list is taken out, walked and put back
use Rattle.std.proofs.Common.{◌≡◌, ℕ, ◌+◌, ◌-◌, ◌<◌, ◌≤◌, true, false, All, List, [], ◌∷◌, ◌++◌, Some, None, get_or, take, drop, length, map, refl, sym, ap, ◌∙◌, subst, inl, inr, arith, is_none, if◌then◌else◌}
use Rattle.std.specs.List.{list_any, filter}
use Rattle.std.proofs.lemmas.List.{length-set, set-set, set-get_or, take_all, take_more, drop_more, get_or_append_left, take-append-le, take-append-drop, drop-append-le, length-append, length-map, get_or-map, get_or_default, drop_all}
use Rattle.std.proofs.lemmas.List.Elements.{All-head, All-tail}
use Rattle.gr_logic.specs.Literals.{Literal, negation, same_literal}
use Rattle.gr_logic.specs.Codes.{code_of}
use Rattle.gr_logic.specs.Rup.{members}
use Rattle.gr_logic.specs.Closure.{Forces, IsClosedUnder, no_literals}
use Rattle.gr_logic.specs.declared.places.Place.{Place}
use Rattle.gr_logic.proofs.Sound.{same_literal-is}
use Rattle.gr_logic.proofs.SameLiteral.{same_literal-itself, negation-negation, members-first}
use Rattle.gr_trail.specs.Trails.{Assigned, TrailState, true_in, up_to, lits_of, Climbs}
use Rattle.gr_watch.specs.declared.lists.Watch.{Watch}
use Rattle.gr_watch.specs.WatchLists.{WatchLists, list_of, with_list}
use Rattle.gr_prop.specs.Bases.{clauses_in, family, decisions, IsUnitClosure}
use Rattle.gr_prop.specs.BaseChanges.{IsForcedAt, back_to}
use Rattle.gr_prop.specs.Watching.{Store, lits_at, bit, count_in, watched, is_pair, longer, IsWatching, AreBlocked, IsGuarded, Guards, AreAt, AreBroken, IsReady, true_by}
use Rattle.gr_prop.specs.Walking.{IsWalking, AreVisited, IsProgress}
use Rattle.gr_prop.specs.Pairing.{ArePassed}
use Rattle.gr_prop.proofs.TrailSets.{prefix-within, true-at, within-at, at-append, up_to-done, true_by-depth, decisions-up_to}
use Rattle.gr_prop.proofs.Kept.{any-weaker, kept-next, guarded-closed, guarded-up_to}
use Rattle.gr_prop.proofs.Closed.{closed-is}
use Rattle.gr_prop.proofs.Stores.{family-some}
use Rattle.gr_prop.proofs.Sound.{sound-back}
use Rattle.gr_prop.proofs.Counts.{list-same, code-low}

-- with the list put back where it was, the lists are as they were
pub taken-back : (ws : WatchLists) (l : Literal) → with_list (with_list ws l []) l (list_of ws l) ≡ ws
taken-back ws l = ap (λ lists. record ws { lists = lists }) (set-set ws.lists (code_of l) [] (list_of ws l) ∙
    set-get_or ws.lists (code_of l) [])

-- the round begins
pub round-begins : (k : Store) (t : TrailState) (ws vs : WatchLists) (list : List Watch) (head : ℕ) (x : Assigned)
    (gone : Literal)
    → IsReady k t ws head [] → head < length t.assigned → x ≡ get_or t.assigned head x → gone ≡ negation x.lit
    → vs ≡ with_list ws gone [] → list ≡ list_of ws gone → IsWalking k t vs list gone
round-begins k t ws vs list head x gone ready low at is a b =
    let long : length (with_list ws gone []).lists ≡ length ws.lists = length-set ws.lists (code_of gone) [] in
    let known : x.lit.index < t.vars = subst (λ (y : Assigned). y.lit.index < t.vars) (sym at)
    (within-at t.vars t.assigned head x low ready.sound.within) in
    let now : IsWalking k t (with_list ws gone []) (list_of ws gone) gone = record {
      watching = subst (IsWatching longer k) (sym (taken-back ws gone)) ready.watching;
      blocked = subst (AreBlocked k) (sym (taken-back ws gone)) ready.blocked;
      distinct = ready.distinct;
      known = ready.known;
      vars = ready.vars;
      even = long ∙ ready.even;
      low = subst (λ (l : Literal). l.index < t.vars) (sym is) known;
      sound = ready.sound;
      falsified = ap (λ l. true_in t.assigned (negation l)) is ∙ ap (true_in t.assigned) (negation-negation x.lit)
          ∙ ap (λ (y : Assigned). true_in t.assigned y.lit) at ∙ true-at t.assigned head x low;
    } in
    subst (λ v. IsWalking k t v list gone) (sym a) (subst (λ m. IsWalking k t (with_list ws gone []) m gone) (sym b)
    now)

pub forced-at : (depth other : ℕ) (xs : List Assigned) → other ≡ depth → All (IsForcedAt depth) xs → AreAt other xs
forced-at depth other [] e all = tt
forced-at depth other (x ∷ xs) e all =
    let h : IsForcedAt depth x = All-head (IsForcedAt depth) x xs all in
    (h.0 ∙ sym e, forced-at depth other xs e (All-tail (IsForcedAt depth) x xs all))

pub grown-decisions : (depth : ℕ) (xs more : List Assigned) → All (IsForcedAt depth) more → decisions (xs ++ more) ≡
    decisions xs
grown-decisions depth [] [] all = refl
grown-decisions depth [] (y ∷ ys) all =
    let h : IsForcedAt depth y = All-head (IsForcedAt depth) y ys all in
    rw (h.1) (grown-decisions depth [] ys (All-tail (IsForcedAt depth) y ys all))
grown-decisions depth (x ∷ xs) more all =
    elim (is_none x.reason) as (λ b. map (λ z. z.lit) (if b then x ∷ filter (λ z. is_none z.reason) (xs ++ more) else
    filter (λ z. is_none z.reason) (xs ++ more))
    ≡ map (λ z. z.lit) (if b then x ∷ filter (λ z. is_none z.reason) xs else filter (λ z. is_none z.reason) xs)) [
      | true ↦ ap (λ l. x.lit ∷ l) (grown-decisions depth xs more all)
      | false ↦ grown-decisions depth xs more all
    ]

pub none-broken : (k : Store) (t : TrailState) → AreBroken k t []
none-broken k t = record { low = inl refl; false' = λ place h. absurd (cc) }

-- the list is put back, whatever the walk found
pub round-ready : (k n : Store) (t u : TrailState) (ws vs : WatchLists) (list : List Watch) (gone : Literal) (head : ℕ)
    → IsReady k t ws head [] → IsProgress k n t u → IsWalking n u vs list gone → IsReady n u (with_list vs gone list)
    head []
round-ready k n t u ws vs list gone head ready progress walk =
    let long : length (with_list vs gone list).lists ≡ length vs.lists = length-set vs.lists (code_of gone) list in
    let front : take head u.assigned ≡ take head t.assigned = ap (take head) progress.grown.assigned ∙ take-append-le
    head t.assigned progress.grown.more ready.within in
    record {
      watching = walk.watching;
      blocked = walk.blocked;
      distinct = walk.distinct;
      known = walk.known;
      vars = walk.vars;
      even = long ∙ walk.even;
      sound = walk.sound;
      within = let e = ap length progress.grown.assigned ∙ length-append t.assigned progress.grown.more in let f =
          ready.within in omega arith;
      guards = subst (Guards n [] u.assigned) (sym front) (λ q there free. progress.guards (take head t.assigned)
          (prefix-within t.assigned head) q there (ready.guards q (progress.there q there) free));
      queue = subst (AreAt u.depth) (sym (ap (drop head) progress.grown.assigned ∙ drop-append-le head t.assigned
          progress.grown.more ready.within))
          (at-append u.depth (drop head t.assigned) progress.grown.more
          (subst (λ d. AreAt d (drop head t.assigned)) (sym progress.grown.depth) ready.queue)
          (forced-at t.depth u.depth progress.grown.more progress.grown.depth progress.grown.forced));
      broken' = none-broken n u;
    }

-- a clause that has a true literal where it is watched is guarded one literal on
pub guarded-next : (xs done : List Assigned) (x : Assigned) (depth : ℕ) (gone : Literal) (c : List Literal)
    → Climbs 0 xs
    depth → x.level ≡ depth
    → gone ≡ negation x.lit → IsGuarded xs done c → (1 ≤ watched c gone → list_any (true_in xs) c ≡ true) → IsGuarded
    xs (done ++ x ∷ []) c
guarded-next xs done x depth gone [] climbs at is g met = g
guarded-next xs done x depth gone (w ∷ []) climbs at is g met = g
guarded-next xs done x depth gone (w ∷ o ∷ rest) climbs at is g met = (
  kept-next xs done x w (w ∷ o ∷ rest) g.0 (λ same.
      let e : w ≡ gone = back w same in
      now (met (subst (λ z. 1 ≤ bit (same_literal z w) + bit (same_literal z o)) e
      (let h = ap bit (same_literal-itself w) in omega arith)))),
  kept-next xs done x o (w ∷ o ∷ rest) g.1 (λ same.
      let e : o ≡ gone = back o same in
      now (met (subst (λ z. 1 ≤ bit (same_literal z w) + bit (same_literal z o)) e
      (let h = ap bit (same_literal-itself o) in omega arith)))),
)
  where
    back : (w : Literal) → same_literal (negation w) x.lit ≡ true → w ≡ gone
    back w same = sym (negation-negation w) ∙ ap negation (same_literal-is (negation w) x.lit same) ∙ sym is

    now : list_any (true_in xs) (w ∷ o ∷ rest) ≡ true → list_any (true_by xs x.level) (w ∷ o ∷ rest) ≡ true
    now e = any-weaker (true_in xs) (true_by xs x.level) (w ∷ o ∷ rest)
        (λ l h. subst (λ d. true_by xs d l ≡ true) (sym at) (true_by-depth 0 depth xs l climbs h)) e

pub at-first : (depth : ℕ) (xs : List Assigned) (i : ℕ) (x : Assigned) → i < length xs → x ≡ get_or xs i x → AreAt depth
    (drop i xs)
    → (x.level ≡ depth) × AreAt depth (drop (i + 1) xs)
at-first depth xs i x low at all =
    let e : drop i xs ≡ x ∷ drop (i + 1) xs = drop_more xs i x low ∙ ap (λ y. y ∷ drop (i + 1) xs) (sym at) in
    let h : AreAt depth (x ∷ drop (i + 1) xs) = subst (AreAt depth) e all in
    (h.0, h.1)

-- all watches of the list were visited: the literal is propagated
pub round-next : (n : Store) (u : TrailState) (vs : WatchLists) (list : List Watch) (gone : Literal) (head : ℕ)
    (x : Assigned)
    → code_of gone < length vs.lists → head < length u.assigned → x ≡ get_or u.assigned head x → gone ≡ negation x.lit
    → AreVisited n u.assigned list (length list) → ArePassed n u.assigned (take (head + 1) u.assigned)
    → IsReady n u (with_list vs gone list) head [] → IsReady n u (with_list vs gone list) (head + 1) []
round-next n u vs list gone head x room low at is visited passed ready =
    let first = at-first u.depth u.assigned head x low at ready.queue in
    let front : take (head + 1) u.assigned ≡ take head u.assigned ++ x ∷ [] = take_more u.assigned head x low ∙ ap
    (λ y. take head u.assigned ++ y ∷ []) (sym at) in
    record {
      watching = ready.watching;
      blocked = ready.blocked;
      distinct = ready.distinct;
      known = ready.known;
      vars = ready.vars;
      even = ready.even;
      sound = ready.sound;
      within = omega arith;
      guards = λ place there free. elim (is_pair (lits_at n place)) as (λ b. is_pair (lits_at n place) ≡ b
          → IsGuarded u.assigned (take (head + 1) u.assigned) (lits_at n place)) [
            | true ↦ λ pair. passed place there pair
            | false ↦ λ long.
                let still : longer (lits_at n place) ≡ lits_at n place =
                ap (λ b. if b then [] else lits_at n place) long in
                let counted : count_in place list ≡ watched (lits_at n place) gone =
                ap (count_in place) (sym (list-same vs gone list room)) ∙ ready.watching place gone
                ∙ ap (λ c. watched c gone) still in
                subst (λ done. IsGuarded u.assigned done (lits_at n place)) (sym front)
                (guarded-next u.assigned (take head u.assigned) x u.depth gone (lits_at n place)
                ready.sound.climbs first.0 is (ready.guards place there free)
                (λ h. visited place (subst (λ l. 1 ≤ count_in place l)
                (sym (take_all (length list) list (omega arith))) (subst (λ m. 1 ≤ m) (sym counted) h))))
          ] refl;
      queue = first.1;
      broken' = ready.broken';
    }

pub round-on : (k n : Store) (t u : TrailState) (ws vs put : WatchLists) (list : List Watch) (gone : Literal)
    (head : ℕ) (x : Assigned)
    → IsReady k t ws head [] → head < length t.assigned → x ≡ get_or t.assigned head x → gone ≡ negation x.lit →
    IsProgress k n t u
    → IsWalking n u vs list gone → put ≡ with_list vs gone list → AreVisited n u.assigned list (length list)
    → ArePassed n u.assigned (take (head + 1) u.assigned) → IsReady n u put (head + 1) []
round-on k n t u ws vs put list gone head x ready low at is progress walk e visited passed =
    let more : length u.assigned ≡ length t.assigned + length progress.grown.more = ap length progress.grown.assigned
    ∙ length-append t.assigned progress.grown.more in
    let here : x ≡ get_or u.assigned head x = at ∙ sym (ap (λ s. get_or s head x) progress.grown.assigned ∙
    get_or_append_left t.assigned progress.grown.more x head low) in
    let room : code_of gone < length vs.lists = code-low gone u.vars (length vs.lists) walk.even walk.low in
    subst (λ m. IsReady n u m (head + 1) []) (sym e)
    (round-next n u vs list gone head x room (omega arith) here is visited passed
    (round-ready k n t u ws vs list gone head ready progress walk))

pub round-stops : (k n : Store) (t u : TrailState) (ws vs put : WatchLists) (list : List Watch) (gone : Literal)
    (head : ℕ)
    → IsReady k t ws head [] → IsProgress k n t u → IsWalking n u vs list gone → put ≡ with_list vs gone list →
    IsReady n u put head []
round-stops k n t u ws vs put list gone head ready progress walk e =
    subst (λ m. IsReady n u m head []) (sym e) (round-ready k n t u ws vs list gone head ready progress walk)

-- a literal of the trail by its place
abbrev no_assigned : Assigned
no_assigned = record { lit = record { index = 0; positive = true }; level = 0; reason = None }

pub lit-at : (xs : List Assigned) (i : ℕ) (l : Literal) → i < length (lits_of xs) → l ≡ get_or (lits_of xs) i l
    → (x : Assigned) × ((x ≡ get_or xs i x) × ((x.lit ≡ l) × (i < length xs)))
lit-at xs i l low at =
    let short : i < length xs = subst (λ n. i < n) (length-map xs (λ x. x.lit)) low in
    let x : Assigned = get_or xs i no_assigned in (
      x,
      (
        sym (get_or_default xs i x no_assigned short),
        (
          sym (get_or-map (λ y. y.lit) xs i no_assigned l short) ∙ sym
              at,
          short,
        ),
      ),
    )

-- guarded against all of the trail, it is closed
pub ready-closed : (k : Store) (t : TrailState) (ws : WatchLists) (head : ℕ) → IsReady k t ws head [] → length
    t.assigned ≤ head
    → IsUnitClosure (family (clauses_in k)) (decisions t.assigned) t.assigned
ready-closed k t ws head ready end =
    closed-is (family (clauses_in k)) t.assigned ready.sound.founded closed ready.sound.consistent none
  where
    guards : Guards k [] t.assigned t.assigned
    guards = subst (Guards k [] t.assigned) (take_all head t.assigned end) ready.guards

    closed : IsClosedUnder (family (clauses_in k)) (true_in t.assigned)
    closed place c l is f =
        let some = family-some k place c is in
        guarded-closed t.assigned (lits_at k place) l ready.sound.consistent (ready.distinct place)
        (guards place some.0 refl)
        (subst (λ s. Forces (true_in t.assigned) s l) (sym some.1) f)

    empty-guarded : (c : List Literal) → members c ≡ no_literals → IsGuarded t.assigned t.assigned c → ⊥
    empty-guarded [] e g = g
    empty-guarded (w ∷ rest) e g = let a = members-first w rest in let b : members (w ∷ rest) w ≡ false = ap
        (λ s. s w) e in cc

    none : (place : ℕ) → family (clauses_in k) place ≡ Some no_literals → ⊥
    none place is =
        let some = family-some k place no_literals is in
        empty-guarded (lits_at k place) some.1 (guards place some.0 refl)

-- below the present level all is propagated
pub ready-back : (k : Store) (t : TrailState) (ws : WatchLists) (head b : ℕ) (broken : List Place) → IsReady k t ws
    head broken → b < t.depth
    → IsReady k (back_to t b) ws (length (up_to b t.assigned)) broken
ready-back k t ws head b broken ready low =
    let done : up_to b t.assigned ≡ up_to b (take head t.assigned) = ap (up_to b)
    (sym (take-append-drop head t.assigned)) ∙ up_to-done b t.depth (take head t.assigned) (drop head t.assigned)
    low ready.queue in
    let all : take (length (up_to b t.assigned)) (up_to b t.assigned) ≡ up_to b (take head t.assigned) = take_all
    (length (up_to b t.assigned)) (up_to b t.assigned) (omega arith) ∙ done in
    let none : broken ≡ [] = elim ready.broken'.low as (λ _. broken ≡ [])
    [ inl e ↦ e | inr e ↦ absurd (omega arith) ] in
    record {
      watching = ready.watching;
      blocked = ready.blocked;
      distinct = ready.distinct;
      known = ready.known;
      vars = ready.vars;
      even = ready.even;
      sound = sound-back (clauses_in k) t b ready.sound (omega arith);
      within = omega arith;
      guards = subst (Guards k broken (up_to b t.assigned)) (sym all)
          (λ place there free. guarded-up_to b t.assigned (take head t.assigned) (lits_at k place)
          (ready.guards place there free));
      queue = subst (AreAt b) (sym (drop_all (length (up_to b t.assigned)) (up_to b t.assigned) (omega arith))) tt;
      broken' = subst (AreBroken k (back_to t b)) (sym none) (none-broken k (back_to t b));
    }

-- each level below the depth is the closure of its decisions, without conflict
pub levels-closed : (k : Store) (t : TrailState) (ws : WatchLists) (head b : ℕ) (broken : List Place) → IsReady k t
    ws head broken → b < t.depth
    → IsUnitClosure (family (clauses_in k)) (take b (decisions t.assigned)) (up_to b t.assigned)
levels-closed k t ws head b broken ready low =
    let none : broken ≡ [] = elim ready.broken'.low as (λ _. broken ≡ [])
    [ inl e ↦ e | inr e ↦ absurd (omega arith) ] in
    let back : IsReady k (back_to t b) ws (length (up_to b t.assigned)) [] =
    subst (IsReady k (back_to t b) ws (length (up_to b t.assigned))) none (ready-back k t ws head b broken ready low) in
    let same : decisions (up_to b t.assigned) ≡ take b (decisions t.assigned) =
    decisions-up_to b 0 t.assigned t.depth (omega arith) ready.sound.climbs ∙ ap (λ n. take n (decisions t.assigned))
    (let e : b - 0 ≡ b = omega arith in e) in
    subst (λ ds. IsUnitClosure (family (clauses_in k)) ds (up_to b t.assigned)) same
    (ready-closed k (back_to t b) ws (length (up_to b t.assigned)) back (omega arith))
