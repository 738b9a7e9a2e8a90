-- one more literal is true, and the columns tell it
use Rattle.std.proofs.Common.{◌≡◌, ◌≢◌, ℕ, ◌+◌, ◌≤◌, ◌<◌, true, false, ◌||◌, List, [], ◌∷◌, ◌++◌, map, length, get_or, set, take, All, Option, Some, None, nat_eq, nat_le, refl, sym, ap, ◌∙◌, subst, arith, inl, inr, if◌then◌else◌, get_or-set_same, get_or-set_other, length-set, length-append}
use Rattle.std.specs.List.{list_any, IsDistinct}
use Rattle.std.specs.Cmp.{nat_eq_equiv}
use Rattle.std.proofs.lemmas.Bool.{cases_eq, cases_lt, ne_eqb, eqb-true, lt-leb, or_cases}
use Rattle.std.proofs.lemmas.List.{length-map, length-take-le, take_more_set, take-set-le, take-take, get_or-take, get_or-map, map-append, append-nil}
use Rattle.std.proofs.lemmas.List.Elements.{All-head, All-tail, All-take, All-push, All-get_or, filter-append}
use Rattle.std.proofs.lemmas.Map.Keys.{IsDistinct-from_apart, IsDistinct-push}
use Rattle.std.proofs.lemmas.Map.Steps.{length-le_from_distinct_below}
use Rattle.gr_logic.specs.Literals.{Literal, negation}
use Rattle.gr_logic.specs.Codes.{code_of}
use Rattle.gr_logic.specs.declared.places.Place.{Place}
use Rattle.gr_trail.specs.declared.trails.Entry.{Entry}
use Rattle.gr_trail.specs.declared.values.Value.{Value}
use Rattle.gr_trail.specs.Trails.{Assigned, TrailState, Climbs, level_after, up_to, value_in}
use Rattle.gr_trail.specs.Columns.{IsStored, truth_of, entry_of, no_entry, assigned_at, assigned_in, trail_in, made_true}
use Rattle.gr_trail.specs.declared.values.Value.TheVariants.{Open, True, False}
use Rattle.gr_trail.proofs.Truths.{Lacks, lacks_unassigned, value_of, value_pushed}
use Rattle.gr_trail.proofs.Levels.{climbs-le, climbs-push, all_up_to}

-- an entry of a variable that no literal has is not read
pub assigned_in-set : (es : List Entry) (ls : List Literal) (index : ℕ) (e : Entry) → Lacks ls index
    → assigned_in (set es index e) ls ≡ assigned_in es ls
assigned_in-set es [] index e free = refl
assigned_in-set es (l ∷ ls) index e free =
    let here : entry_of (set es index e) l ≡ entry_of es l =
    get_or-set_other es index l.index e no_entry (All-head (λ q. q.index ≢ index) l ls free) in
    λ i. record {
      lit = l;
      level = (here i).level;
      reason =
          (here i).reason;
    } ∷ assigned_in-set es ls index e
    (All-tail (λ q. q.index ≢ index) l ls free) i

-- literals of different variables below a number are no more than it
module _ (ls : List Literal) (p : ℕ → ℕ) (placed : (k : ℕ) (d : Literal) → k < length ls
    → p (get_or ls k d).index ≡ k) where
  abbrev index_of : Literal → ℕ
  index_of l = l.index

  apart_at : (i j d : ℕ) → i < j → j < length (map index_of ls)
      → nat_eq (get_or (map index_of ls) i d) (get_or (map index_of ls) j d) ≡ false
  apart_at i j d lt within =
      let long = length-map ls index_of in
      let some : Literal = record { index = d; positive = true } in
      let first : get_or (map index_of ls) i d ≡ (get_or ls i some).index =
      get_or-map index_of ls i some d (omega (arith, lt, within, long)) in
      let second : get_or (map index_of ls) j d ≡ (get_or ls j some).index =
      get_or-map index_of ls j some d (omega (arith, within, long)) in
      ne_eqb _ _ (λ (e : get_or (map index_of ls) i d ≡ get_or (map index_of ls) j d). let at =
      placed i some (omega (arith, lt, within, long)) in let at' =
      placed j some (omega (arith, within, long)) in
      absurd (omega (arith, lt, at, at', ap p (sym first ∙ e ∙ second))))

  all_below : (n : ℕ) (xs : List Literal) → All (λ l. l.index < n) xs → (q : ℕ)
      → list_any (nat_eq q) (map index_of xs) ≡ true → q < n
  all_below n [] h q e = absurd (grind (arith, e))
  all_below n (x ∷ xs) h q e =
      elim (or_cases (nat_eq q x.index) (list_any (nat_eq q) (map index_of xs)) e) [
        | inl here ↦ (let at : x.index < n = All-head (λ l. l.index < n) x xs h in let same : q
            ≡ x.index = eqb-true q x.index here in omega arith)
        | inr there ↦ all_below n xs (All-tail (λ l. l.index < n) x xs h) q there
      ]

  none_equal : (xs : List Literal) (index : ℕ) → Lacks xs index
      → list_any (nat_eq index) (map index_of xs) ≡ false
  none_equal [] index free = refl
  none_equal (x ∷ xs) index free =
      let here : nat_eq index x.index ≡ false =
      ne_eqb index x.index (λ e. All-head (λ q. q.index ≢ index) x xs free (sym e)) in
      ap (λ t. t || list_any (nat_eq index) (map index_of xs)) here
      ∙ none_equal xs index (All-tail (λ q. q.index ≢ index) x xs free)

  -- there is room for the literal of one more variable
  pub room_left : (n : ℕ) (l : Literal) → All (λ q. q.index < n) ls → l.index < n → Lacks ls l.index
      → length ls < n
  room_left n l within at free =
      let distinct : IsDistinct nat_eq (map index_of ls) =
      IsDistinct-from_apart nat_eq (map index_of ls) apart_at in
      let more : IsDistinct nat_eq (map index_of ls ++ l.index ∷ []) =
      IsDistinct-push nat_eq_equiv (map index_of ls) l.index distinct
      (none_equal ls l.index free) in
      let same : map index_of (ls ++ l ∷ []) ≡ map index_of ls ++ l.index ∷ [] =
      map-append index_of ls (l ∷ []) in
      let few : length (map index_of ls ++ l.index ∷ []) ≤ n =
      length-le_from_distinct_below (map index_of ls
      ++ l.index ∷ []) n more (λ q e. all_below n (ls ++ l ∷ [])
      (All-push (λ q. q.index < n) ls l within at) q (ap (list_any (nat_eq q)) same ∙ e)) in
      omega (arith, few, length-append (map index_of ls) (l.index ∷ []), length-map ls index_of)

-- a reason's level, where the level of a decision was opened or stays as it was
pub record Opens (starts starts' : List ℕ) (depth depth' len : ℕ)
    (reason : Option Place) : Type 0 where
  pub level : depth' ≡ level_after depth reason
  pub long : length starts' ≡ length starts
  pub kept : (b : ℕ) → b < depth → get_or starts' b 0 ≡ get_or starts b 0
  pub last : (b : ℕ) → b < depth' → depth ≤ b → (b ≡ depth) × (get_or starts' b 0 ≡ len)
      × (depth' ≡ depth + 1)

pub stays : (starts : List ℕ) (depth len : ℕ) (p : Place)
    → Opens starts starts depth depth len (Some p)
stays starts depth len p = record {
  level = refl;
  long = refl;
  kept = λ b lt. refl;
  last =
      λ b lt ge. absurd (omega (arith, lt, ge));
}

pub opens : (starts : List ℕ) (depth len : ℕ) → depth < length starts
    → Opens starts (set starts depth len) depth (depth + 1) len None
opens starts depth len room = record {
  level = refl;
  long = length-set starts depth len;
  kept = λ b lt. get_or-set_other starts depth b len 0 (omega (arith, lt));
  last = λ b lt ge.
      let same : b ≡ depth = omega (arith, lt, ge) in (
        same,
        ap (λ k. get_or (set starts depth len) k 0) same
            ∙ get_or-set_same starts depth len 0 room,
        refl,
      );
}

module _ {vs : List Value} {es : List Entry} {ls : List Literal} {len : ℕ} {starts : List ℕ}
    {depth : ℕ} (s : IsStored vs es ls len starts depth) (l : Literal) (at : l.index < length es)
    (none : value_in (assigned_in es (take len ls)) l ≡ None) where
  abbrev front : List Literal
  front = take len ls

  abbrev xs : List Assigned
  xs = assigned_in es front

  free : Lacks front l.index
  free = lacks_unassigned es front l none

  long : length front ≡ len
  long = length-take-le len ls s.short

  pub room : len < length es
  room =
      let placed : (k : ℕ) (d : Literal) → k < length front
      → (get_or es (get_or front k d).index no_entry).position ≡ k =
      λ k d lt. ap (λ (q : Literal). (entry_of es q).position)
      (get_or-take len ls k d (omega (arith, lt, long)))
      ∙ s.position k d (omega (arith, lt, long)) in
      omega (
        arith,
        long,
        room_left front (λ i. (get_or es i no_entry).position) placed (length es)
            l s.within at free,
      )

  pub level_room : depth < length starts
  level_room = omega (
    arith,
    room,
    s.start_room,
    (climbs-le 0 xs depth s.climbs).1,
    length-map front (assigned_at es),
    long,
  )

  module _ {starts' : List ℕ} {depth' : ℕ} {reason : Option Place}
      (o : Opens starts starts' depth depth' len reason) (e : Entry) (level : e.level
      ≡ depth') (position : e.position ≡ len) (because : e.reason ≡ reason) where
    abbrev es' : List Entry
    es' = set es l.index e

    abbrev ls' : List Literal
    ls' = set ls len l

    abbrev x : Assigned
    x = record { lit = l; level = depth'; reason = reason }

    entry : entry_of es' l ≡ e
    entry = get_or-set_same es l.index e no_entry at

    taken : take (len + 1) ls' ≡ front ++ l ∷ []
    taken = take_more_set ls len l (omega (arith, room, s.lit_room))

    newest : assigned_at es' l ≡ x
    newest = λ i. record {
      lit = l;
      level = (ap (λ (n : Entry). n.level) entry ∙ level) i;
      reason =
          (ap (λ (n : Entry). n.reason) entry ∙ because) i;
    }

    older : (n : ℕ) → n ≤ len → assigned_in es' (take n ls') ≡ assigned_in es (take n ls)
    older n le =
        let some : Lacks (take n ls) l.index =
        subst (λ z. Lacks z l.index) (take-take n len ls le)
        (All-take (λ q. q.index ≢ l.index) n front free) in
        ap (assigned_in es') (take-set-le n ls len l le)
        ∙ assigned_in-set es (take n ls) l.index e some

    pub assigned_pushed : assigned_in es' (take (len + 1) ls') ≡ xs ++ x ∷ []
    assigned_pushed =
        ap (assigned_in es') taken ∙ map-append (assigned_at es') front (l ∷ [])
        ∙ (λ i. assigned_in-set es front l.index e free i ++ newest i ∷ [])

    value_is : (q : Literal) → truth_of (get_or (made_true vs l) (code_of q) Open)
        ≡ value_in (assigned_in es' (take (len + 1) ls')) q
    value_is q =
        value_pushed front l free vs (omega (arith, at, s.value_room)) (λ r. s.value r
        ∙ value_of es front r) q
        ∙ sym (value_of es' (front ++ l ∷ []) q)
        ∙ ap (λ z. value_in (assigned_in es' z) q) (sym taken)

    positions : (k : ℕ) (d : Literal) → k < len + 1 → (entry_of es' (get_or ls' k d)).position ≡ k
    positions k d lt =
        elim (cases_eq k len) [
          | inl same ↦
              let here : get_or ls' k d ≡ l = ap (λ n. get_or ls' n d) same
              ∙ get_or-set_same ls len l d (omega (arith, room, s.lit_room)) in
              ap (λ (q : Literal). (entry_of es' q).position) here
              ∙ ap (λ (n : Entry). n.position) entry ∙ position ∙ sym same
          | inr other ↦
              let below : k < len = omega (arith, lt, other) in
              let here : get_or ls' k d ≡ get_or ls k d = get_or-set_other ls len k l d other in
              let there : (get_or ls k d).index ≢ l.index =
              λ same. All-get_or (λ q. q.index ≢ l.index) front k d (omega (arith, below, long))
              free (ap (λ (q : Literal). q.index) (get_or-take len ls k d below) ∙ same) in
              ap (λ (q : Literal). (entry_of es' q).position) here
              ∙ ap (λ (n : Entry). n.position) (get_or-set_other es l.index
              (get_or ls k d).index e no_entry there) ∙ s.position k d below
        ]

    start_is : (b : ℕ) → b < depth' → get_or starts' b 0 ≤ len
    start_is b lt = elim (cases_lt b depth) [
      | inl below ↦ omega (arith, o.kept b below, s.start b below)
      | inr above ↦ omega (arith, (o.last b lt above).1)
    ]

    gone : (b : ℕ) → b < depth' → up_to b (xs ++ x ∷ []) ≡ up_to b xs
    gone b lt = filter-append (λ (a : Assigned). nat_le a.level b) xs (x ∷ [])
        ∙ ap (λ t. up_to b xs ++ (if t then x ∷ [] else [])) (lt-leb depth' b lt)
        ∙ append-nil (up_to b xs)

    level_is : (b : ℕ) → b < depth' → assigned_in es' (take (get_or starts' b 0) ls')
        ≡ up_to b (assigned_in es' (take (len + 1) ls'))
    level_is b lt =
        older (get_or starts' b 0) (start_is b lt) ∙
        elim (cases_lt b depth) [
          | inl below ↦ ap (λ n. assigned_in es (take n ls)) (o.kept b below) ∙ s.level b below
          | inr above ↦
              let l' = o.last b lt above in
              ap (λ n. assigned_in es (take n ls)) l'.1 ∙ sym (all_up_to 0 xs depth s.climbs)
              ∙ ap (λ n. up_to n xs) (sym l'.0)
        ] ∙ sym (gone b lt) ∙ ap (up_to b) (sym assigned_pushed)

    pub stored_pushed : IsStored (made_true vs l) es' ls' (len + 1) starts' depth'
    stored_pushed = record {
      small = omega (arith, s.small, length-set es l.index e);
      value_room = omega (
        arith,
        s.value_room,
        length-set es l.index e,
        length-set (set vs (code_of l) True) (code_of (negation l)) False,
        length-set vs (code_of l) True,
      );
      lit_room = omega (arith, s.lit_room, length-set es l.index e, length-set ls len l);
      start_room = omega (arith, s.start_room, length-set es l.index e, o.long);
      short = omega (arith, room, s.lit_room, length-set ls len l);
      within = subst (All (λ q. q.index < length es')) (sym taken)
          (subst (λ n. All (λ q. q.index < n) (front ++ l ∷ [])) (sym (length-set es l.index e))
          (All-push (λ q. q.index < length es) front l s.within at));
      value = value_is;
      position = positions;
      climbs = subst (λ z. Climbs 0 z depth') (sym assigned_pushed)
          (climbs-push 0 xs depth x s.climbs o.level);
      start = λ b lt. omega (arith, start_is b lt);
      level = level_is;
    }

    pub trail_pushed : trail_in es' ls' (len + 1) depth'
        ≡ record { vars = length es; depth = depth'; assigned = xs ++ x ∷ [] }
    trail_pushed = λ i. record {
      vars = length-set es l.index e i;
      depth = depth';
      assigned =
          assigned_pushed i;
    }

-- ---- as the methods write it
module _ {vs : List Value} {es : List Entry} {ls : List Literal} {len : ℕ} {starts : List ℕ}
    {depth : ℕ} {t : TrailState} (s : IsStored vs es ls len starts depth)
    (is : trail_in es ls len depth ≡ t) (l : Literal) (known : l.index < t.vars)
    (unassigned : value_in t.assigned l ≡ None) where
  here : l.index < length es
  here = omega (arith, known, ap (λ (u : TrailState). u.vars) is)

  none_yet : value_in (assigned_in es (take len ls)) l ≡ None
  none_yet = ap (λ (u : TrailState). value_in u.assigned l) is ∙ unassigned

  pub lit_fits : len < length ls
  lit_fits = omega (arith, room s l here none_yet, s.lit_room)

  pub level_fits : depth < length starts
  level_fits = level_room s l here none_yet

  pub small_depth : depth < 1_000_000
  small_depth = omega (arith, level_fits, s.small, s.start_room)

  module _ {starts' : List ℕ} {depth' : ℕ} {reason : Option Place}
      (o : Opens starts starts' depth depth' len reason) {vs' : List Value} {es' : List Entry}
      {ls' : List Literal} (values : vs' ≡ made_true vs l) (entries : es'
      ≡ set es l.index (record { level = depth'; position = len; reason = reason })) (lits : ls'
      ≡ set ls len l) where
    abbrev e : Entry
    e = record { level = depth'; position = len; reason = reason }

    pub pushed_stored : IsStored vs' es' ls' (len + 1) starts' depth'
    pushed_stored =
        subst (λ z. IsStored z es' ls' (len + 1) starts' depth') (sym values)
        (subst (λ z. IsStored (made_true vs l) z ls' (len + 1) starts' depth') (sym entries)
        (subst (λ z. IsStored (made_true vs l) (set es l.index e) z (len + 1) starts' depth')
        (sym lits)
        (stored_pushed s l here none_yet o e refl refl refl)))

    pub pushed_seen : trail_in es' ls' (len + 1) depth'
        ≡ record {
          vars = length es;
          depth = depth';
          assigned = assigned_in es (take len ls)
              ++ record { lit = l; level = depth'; reason = reason } ∷ [];
        }
    pushed_seen = (λ i. trail_in (entries i) (lits i) (len + 1) depth')
        ∙ trail_pushed s l here none_yet o e refl refl refl
