-- literals are taken back, and the columns tell it
use Rattle.std.proofs.Common.{◌≡◌, ℕ, ◌+◌, ◌-◌, ◌*◌, ◌≤◌, ◌<◌, true, List, ◌++◌, length, get_or, take, drop, All, sym, ap, ◌∙◌, subst, arith}
use Rattle.std.proofs.lemmas.List.{length-map, length-take-le, length-append, take-take, get_or-take, get_or-append-add, get_or_default, take-append-drop, drop-take}
use Rattle.std.proofs.lemmas.List.Elements.{All-take, All-drop, All-weaker}
use Rattle.gr_logic.specs.Literals.{Literal}
use Rattle.gr_logic.specs.Codes.{code_of}
use Rattle.gr_trail.specs.declared.trails.Entry.{Entry}
use Rattle.gr_trail.specs.declared.values.Value.{Value}
use Rattle.gr_trail.specs.declared.values.Value.TheVariants.{Open}
use Rattle.gr_trail.specs.Trails.{Assigned, TrailState, Climbs, up_to, value_in}
use Rattle.gr_trail.specs.Columns.{IsStored, truth_of, entry_of, no_entry, assigned_at, assigned_in, trail_in, cleared}
use Rattle.gr_trail.proofs.Truths.{Lacks, has_variable, place_of, value_by, value_of, value_backed, length-cleared}
use Rattle.gr_trail.proofs.Levels.{climbs-le, climbs-up_to, all_up_to, up_to-up_to, length-up_to}

module _ {vs : List Value} {es : List Entry} {ls : List Literal} {len : ℕ} {starts : List ℕ}
    {depth : ℕ} (s : IsStored vs es ls len starts depth) (b : ℕ) (lt : b < depth)
    (back : List Literal) (parts : take len ls ≡ take (get_or starts b 0) ls ++ back) where
  abbrev kept : ℕ
  kept = get_or starts b 0

  abbrev front : List Literal
  front = take kept ls

  abbrev xs : List Assigned
  xs = assigned_in es (take len ls)

  within : kept ≤ len
  within = s.start b lt

  long : length front ≡ kept
  long = length-take-le kept ls (omega (arith, within, s.short))

  whole : len ≡ kept + length back
  whole = sym (length-take-le len ls s.short) ∙ ap length parts
      ∙ omega (arith, length-append front back, long)

  behind : (j : ℕ) (d : Literal) → j < length back → get_or back j d ≡ get_or ls (kept + j) d
  behind j d lt' =
      sym (get_or-append-add front back j d) ∙ ap (λ n. get_or (front ++ back) (n + j) d) long
      ∙ ap (λ z. get_or z (kept + j) d) (sym parts)
      ∙ get_or-take len ls (kept + j) d (omega (arith, lt', whole))

  -- no variable stands both before and behind
  distinct : (i : ℕ) → has_variable back i ≡ true → Lacks front i
  distinct i e k d lt' same =
      let p = place_of back i e in
      let first : (entry_of es (get_or ls k d)).position ≡ k =
      s.position k d (omega (arith, lt', long, within)) in
      let second : (entry_of es (get_or ls (kept + p.0) d)).position ≡ kept + p.0 =
      s.position (kept + p.0) d (omega (arith, p.1, whole)) in
      let one : (get_or ls k d).index ≡ i = ap (λ (q : Literal). q.index)
      (sym (get_or-take kept ls k d (omega (arith, lt', long)))) ∙ same in
      let other : (get_or ls (kept + p.0) d).index ≡ i =
      ap (λ (q : Literal). q.index) (sym (behind p.0 d p.1)) ∙ p.2 d in
      let equal : k ≡ kept + p.0 = sym first ∙ ap (λ n. (get_or es n no_entry).position) (one
      ∙ sym other) ∙ second in
      absurd (omega (arith, equal, lt', long))

  pub assigned_backed : assigned_in es front ≡ up_to b xs
  assigned_backed = s.level b lt

  value_is : (q : Literal) → truth_of (get_or (cleared vs back) (code_of q) Open)
      ≡ value_in (assigned_in es front) q
  value_is q = value_backed vs front back distinct (λ r. s.value r ∙ value_of es (take len ls) r
      ∙ ap (λ z. value_by z r) parts) q ∙ sym (value_of es front q)

  starts_is : (c : ℕ) → c < b → get_or starts c 0 ≤ kept
  starts_is c lt' =
      let n : ℕ = get_or starts c 0 in
      let here : length (take n ls) ≡ n = length-take-le n ls
      (omega (arith, s.start c (omega (arith, lt, lt')), s.short)) in
      let count : n ≡ length (up_to c xs) = sym here ∙ sym (length-map (take n ls) (assigned_at es))
      ∙ ap length (s.level c (omega (arith, lt, lt'))) in
      let all : kept ≡ length (up_to b xs) = sym long ∙ sym (length-map front (assigned_at es))
      ∙ ap length assigned_backed in
      omega (arith, count, all, length-up_to c b xs (omega (arith, lt')))

  pub stored_backed : IsStored (cleared vs back) es ls kept starts b
  stored_backed = record {
    small = s.small;
    value_room = length-cleared back vs ∙ s.value_room;
    lit_room = s.lit_room;
    start_room = s.start_room;
    short = omega (arith, within, s.short);
    within = subst (All (λ q. q.index < length es)) (take-take kept len ls within)
        (All-take (λ q. q.index < length es) kept (take len ls) s.within);
    value = value_is;
    position = λ k d lt'. s.position k d (omega (arith, lt', within));
    climbs = subst (λ z. Climbs 0 z b) (sym assigned_backed)
        (climbs-up_to b 0 xs depth (omega arith) (omega (arith, lt)) s.climbs);
    start = starts_is;
    level = λ c lt'. s.level c (omega (arith, lt, lt'))
        ∙ sym (up_to-up_to c b xs (omega (arith, lt'))) ∙ ap (up_to c) (sym assigned_backed);
  }

-- ---- as the method writes it
module _ {vs : List Value} {es : List Entry} {ls : List Literal} {len : ℕ} {starts : List ℕ}
    {depth : ℕ} {t : TrailState} (s : IsStored vs es ls len starts depth)
    (is : trail_in es ls len depth ≡ t) (b : ℕ) (low : b ≤ t.depth) where
  pub same_level : b ≡ depth → t ≡ record t { depth = b; assigned = up_to b t.assigned }
  same_level e =
      let depths : t.depth ≡ b = ap (λ (u : TrailState). u.depth) (sym is) ∙ sym e in
      let all : t.assigned ≡ up_to b t.assigned =
      ap (λ (u : TrailState). u.assigned) (sym is)
      ∙ sym (all_up_to 0 (assigned_in es (take len ls)) depth s.climbs)
      ∙ (λ i. up_to (sym e i) (ap (λ (u : TrailState). u.assigned) is i)) in
      λ i. record { vars = t.vars; depth = depths i; assigned = all i }

  module _ (other : b ≡ depth → ⊥) where
    pub below : b < depth
    below = omega (arith, other, low, ap (λ (u : TrailState). u.depth) is)

    pub start_fits : b < length starts
    start_fits = omega (
      arith,
      below,
      s.start_room,
      (climbs-le 0 (assigned_in es (take len ls))
          depth s.climbs).1,
      length-map (take len ls) (assigned_at es),
      length-take-le len ls s.short,
      s.lit_room,
      s.short,
    )

    module _ (kept : ℕ) (read : kept ≡ get_or starts b kept) where
      pub start_at : kept ≡ get_or starts b 0
      start_at = read ∙ get_or_default starts b kept 0 start_fits

      pub start_within : kept ≤ len
      start_within = omega (arith, start_at, s.start b below)

      split : take len ls ≡ take (get_or starts b 0) ls ++ take (len - kept) (drop kept ls)
      split =
          let whole : len ≡ kept + (len - kept) = omega (arith, start_within) in
          sym (take-append-drop kept (take len ls))
          ∙ (λ i. take-take kept len ls start_within i
          ++ (ap (λ n. drop kept (take n ls)) whole ∙ drop-take kept (len - kept) ls) i)
          ∙ ap (λ n. take n ls ++ take (len - kept) (drop kept ls)) start_at

      module _ {vs' : List Value} (values : vs' ≡ cleared vs
          (take (len - kept) (drop kept ls))) where
        pub backed_stored : IsStored vs' es ls kept starts b
        backed_stored =
            subst (λ z. IsStored z es ls kept starts b) (sym values)
            (subst (λ n. IsStored (cleared vs (take (len - kept) (drop kept ls))) es ls n starts b)
            (sym start_at)
            (stored_backed s b below (take (len - kept) (drop kept ls)) split))

      pub backed_seen : trail_in es ls kept b
          ≡ record t { depth = b; assigned = up_to b t.assigned }
      backed_seen =
          ap (λ n. trail_in es ls n b) start_at
          ∙ (λ i. record {
            vars = length es;
            depth = b;
            assigned =
                assigned_backed s b below (take (len - kept) (drop kept ls)) split i;
          })
          ∙ ap (λ (u : TrailState). record u { depth = b; assigned = up_to b u.assigned }) is

      pub lits_known : All (λ q. 2 * q.index + 1 < length vs) (take (len - kept) (drop kept ls))
      lits_known =
          let known : All (λ q. 2 * q.index + 1 < length vs) (take len ls) =
          All-weaker (λ q. q.index < length es) (λ q. 2 * q.index + 1 < length vs)
          (λ q h. omega (arith, h, s.value_room)) (take len ls) s.within in
          let behind : drop kept (take len ls) ≡ take (len - kept) (drop kept ls) =
          ap (λ n. drop kept (take n ls)) {x = len} {y =
          kept + (len - kept)} (omega (arith, start_within)) ∙ drop-take kept (len - kept) ls in
          subst (All (λ q. 2 * q.index + 1 < length vs)) behind
          (All-drop (λ q. 2 * q.index + 1 < length vs) kept (take len ls) known)
