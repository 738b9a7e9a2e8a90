-- a variable of level zero gets another reason, and the columns tell it
use Rattle.std.proofs.Common.{◌≡◌, ◌≢◌, ℕ, ◌+◌, ◌-◌, ◌<◌, ◌⊎◌, true, false, List, [], ◌∷◌, length, get_or, set, take, All, Option, Some, None, nat_eq, refl, sym, ap, ◌∙◌, subst, arith, inl, inr, if◌then◌else◌, get_or-set_same, get_or-set_other, length-set}
use Rattle.std.specs.Prelude.{IsSome, option_map}
use Rattle.std.proofs.lemmas.List.{get_or_default}
use Rattle.std.proofs.lemmas.Bool.{cases_eq, eqb-true, eq-eqb, ne_eqb}
use Rattle.std.proofs.lemmas.List.Elements.{All-map}
use Rattle.gr_logic.specs.Literals.{Literal, var_of}
use Rattle.gr_logic.specs.declared.places.Place.{Place}
use Rattle.gr_trail.specs.declared.trails.Entry.{Entry}
use Rattle.gr_trail.specs.declared.values.Value.{Value}
use Rattle.gr_trail.specs.Trails.{Assigned, TrailState, assigned_to, Climbs, up_to, reason_at, with_reason}
use Rattle.gr_trail.specs.Columns.{IsStored, entry_of, no_entry, assigned_at, assigned_in, trail_in}
use Rattle.gr_trail.proofs.Finds.{var_is, index_in_range, entry_seen}
use Rattle.gr_trail.proofs.Truths.{value_of}
use Rattle.gr_trail.proofs.Levels.{climbs-with_reason, up_to-with_reason}

module _ (es : List Entry) (index var : ℕ) (place : Place) (e : Entry) (room : index < length es)
    (same_var : var ≡ index + 1) (level : e.level ≡ (get_or es index no_entry).level)
    (position : e.position ≡ (get_or es index no_entry).position) (because : e.reason
    ≡ Some place) where
  abbrev es' : List Entry
  es' = set es index e

  entry_is : (q : Literal) → ((q.index ≡ index) × (entry_of es' q ≡ e))
      ⊎ ((q.index ≢ index) × (entry_of es' q ≡ entry_of es q))
  entry_is q = elim (cases_eq q.index index) [
    | inl here ↦ inl (
      here,
      ap (λ n. get_or es' n no_entry) here
          ∙ get_or-set_same es index e no_entry room,
    )
    | inr there ↦ inr (there, get_or-set_other es index q.index e no_entry there)
  ]

  pub same_position : (q : Literal) → (entry_of es' q).position ≡ (entry_of es q).position
  same_position q = elim (entry_is q) [
    | inl here ↦ ap (λ (n : Entry). n.position) here.1 ∙ position
        ∙ ap (λ n. (get_or es n no_entry).position) (sym here.0)
    | inr there ↦ ap (λ (n : Entry). n.position) there.1
  ]

  one_reason : (q : Literal) → assigned_at es' q ≡ reason_at var place (assigned_at es q)
  one_reason q = elim (entry_is q) [
    | inl here ↦
        let hit : nat_eq (var_of q) var ≡ true =
        eq-eqb (var_of q) var (omega (arith, here.0, same_var)) in
        let levels : (entry_of es' q).level ≡ (entry_of es q).level =
        ap (λ (n : Entry). n.level) here.1 ∙ level
        ∙ ap (λ n. (get_or es n no_entry).level) (sym here.0) in
        let reasons : (entry_of es' q).reason ≡ Some place = ap (λ (n : Entry). n.reason) here.1
        ∙ because in
        (λ i. record { lit = q; level = levels i; reason = reasons i })
        ∙ ap (λ t. if t then record (assigned_at es q) {
          reason =
              Some place;
        } else assigned_at es q) (sym hit)
    | inr there ↦
        let miss : nat_eq (var_of q) var ≡ false =
        ne_eqb (var_of q) var (λ same. there.0 (omega (arith, same, same_var))) in
        (λ i. record { lit = q; level = (there.1 i).level; reason = (there.1 i).reason })
        ∙ ap (λ t. if t then record (assigned_at es q) {
          reason =
              Some place;
        } else assigned_at es q) (sym miss)
  ]

  pub assigned_reason : (ls : List Literal) → assigned_in es' ls
      ≡ with_reason (assigned_in es ls) var place
  assigned_reason [] = refl
  assigned_reason (l ∷ ls) = λ i. one_reason l i ∷ assigned_reason ls i

  module _ {vs : List Value} {ls : List Literal} {len : ℕ} {starts : List ℕ} {depth : ℕ}
      (s : IsStored vs es ls len starts depth) (low : (get_or es index no_entry).level ≡ 0) where
    abbrev xs : List Assigned
    xs = assigned_in es (take len ls)

    lowest : All (λ (a : Assigned). nat_eq (var_of a.lit) var ≡ true → a.level ≡ 0) xs
    lowest = All-map (λ (a : Assigned). nat_eq (var_of a.lit) var ≡ true → a.level
        ≡ 0) (assigned_at es) (take len ls)
        (λ k d lt e'. let q : Literal = get_or (take len ls) k d in let same : var_of q ≡ var =
        eqb-true (var_of q) var e' in
        ap (λ n. (get_or es n no_entry).level) {x = q.index} {y =
        index} (omega (arith, same, same_var)) ∙ low)

    pub stored_reason : IsStored vs es' ls len starts depth
    stored_reason = record {
      small = omega (arith, s.small, length-set es index e);
      value_room = omega (arith, s.value_room, length-set es index e);
      lit_room = omega (arith, s.lit_room, length-set es index e);
      start_room = omega (arith, s.start_room, length-set es index e);
      short = s.short;
      within = subst (λ n. All (λ q. q.index < n) (take len ls)) (sym (length-set es index e))
          s.within;
      value = λ q. s.value q ∙ value_of es (take len ls) q ∙ sym (value_of es' (take len ls) q);
      position = λ k d lt. same_position (get_or ls k d) ∙ s.position k d lt;
      climbs = subst (λ z. Climbs 0 z depth) (sym (assigned_reason (take len ls)))
          (climbs-with_reason 0 xs depth var place lowest s.climbs);
      start = s.start;
      level = λ b lt. assigned_reason (take (get_or starts b 0) ls)
          ∙ ap (λ z. with_reason z var place) (s.level b lt)
          ∙ sym (up_to-with_reason b xs var place)
          ∙ ap (up_to b) (sym (assigned_reason (take len ls)));
    }

-- ---- as the method writes it
module _ {vs : List Value} {es : List Entry} {ls : List Literal} {len : ℕ} {starts : List ℕ}
    {depth : ℕ} {t : TrailState} (s : IsStored vs es ls len starts depth)
    (is : trail_in es ls len depth ≡ t) (var : ℕ) (at_zero : option_map (λ (a : Assigned). a.level)
    (assigned_to t.assigned var) ≡ Some 0) where
  pub some : IsSome (assigned_to t.assigned var)
  some = some_of (assigned_to t.assigned var) at_zero
    where
      some_of : (o : Option Assigned) → option_map (λ (a : Assigned). a.level) o ≡ Some 0 → IsSome o
      some_of None e = absurd (cc)
      some_of (Some a) e = refl

  module _ (e : Entry) (read : e ≡ get_or es (var - 1) e) (place : Place) where
    abbrev changed : Entry
    changed = record { level = e.level; position = e.position; reason = Some place }

    range : var - 1 < length es
    range = index_in_range s is var some

    same_var : var ≡ var - 1 + 1
    same_var = omega (arith, var_is s is var some)

    entry : e ≡ get_or es (var - 1) no_entry
    entry = read ∙ get_or_default es (var - 1) e no_entry range

    low : (get_or es (var - 1) no_entry).level ≡ 0
    low = ap (λ (n : Entry). n.level) (sym entry)
        ∙ some_number e.level 0 (sym (ap (option_map (λ (a : Assigned). a.level))
        (entry_seen s is var some e read)) ∙ at_zero)
      where
        some_number : (m n : ℕ) → Some m ≡ Some n → m ≡ n
        some_number m n e' = cc

    pub reason_stored : IsStored vs (set es (var - 1) changed) ls len starts depth
    reason_stored = stored_reason es (var - 1) var place changed range same_var
        (ap (λ (n : Entry). n.level) entry) (ap (λ (n : Entry). n.position) entry) refl s low

    pub reason_seen : trail_in (set es (var - 1) changed) ls len depth
        ≡ record t { assigned = with_reason t.assigned var place }
    reason_seen =
        (λ i. record {
          vars = length-set es (var - 1) changed i;
          depth = depth;
          assigned =
              assigned_reason es (var - 1) var place changed range same_var
              (ap (λ (n : Entry). n.level) entry) (ap (λ (n : Entry). n.position) entry) refl
              (take len ls) i;
        })
        ∙ ap (λ (u : TrailState). record u { assigned = with_reason u.assigned var place }) is
