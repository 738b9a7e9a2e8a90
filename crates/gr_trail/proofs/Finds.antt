-- a variable's entry tells what was assigned to it
use Rattle.std.proofs.Common.{◌≡◌, ◌≢◌, ℕ, suc, ◌+◌, ◌-◌, ◌≤◌, ◌<◌, true, false, List, [], ◌∷◌, length, get_or, take, Option, Some, None, nat_eq, refl, sym, ap, ◌∙◌, subst, arith, if◌then◌else◌}
use Rattle.std.specs.Prelude.{IsSome, slice_get, option_map, AllPairs}
use Rattle.std.proofs.lemmas.Bool.{eqb-true}
use Rattle.std.proofs.lemmas.List.{length-map, length-take-le, get_or-take, get_or-map, get_or_default}
use Rattle.std.proofs.lemmas.List.Elements.{All-map, All-get_or}
use Rattle.std.proofs.lemmas.Option.{slice_get-get_or, slice_get-map}
use Rattle.gr_logic.specs.Literals.{Literal}
use Rattle.gr_trail.specs.declared.trails.Entry.{Entry}
use Rattle.gr_trail.specs.declared.values.Value.{Value}
use Rattle.gr_trail.specs.Trails.{Assigned, TrailState, IsTrail, assigned_to}
use Rattle.gr_trail.specs.Columns.{IsStored, entry_of, no_entry, assigned_at, assigned_in, trail_in}

-- where the variable's literal stands, and what was assigned
pub record Located (es : List Entry) (ls : List Literal) (var : ℕ) : Type 0 where
  pub lit : Literal
  pub place : ℕ
  pub within : place < length ls
  pub at : (d : Literal) → get_or ls place d ≡ lit
  pub is_var : var ≡ lit.index + 1
  pub is : assigned_to (assigned_in es ls) var ≡ Some (assigned_at es lit)

none_some : IsSome {T = Assigned} None → ⊥
none_some h = grind (arith, h)

pub located : (es : List Entry) (ls : List Literal) (var : ℕ)
    → IsSome (assigned_to (assigned_in es ls) var) → Located es ls var
located es [] var some = absurd (none_some some)
located es (l ∷ ls) var some =
    elim (nat_eq (l.index + 1) var) as (λ t. nat_eq (l.index + 1) var ≡ t
    → IsSome (if t then Some (assigned_at es l) else assigned_to (assigned_in es ls) var)
    → Located es (l ∷ ls) var) [
      | true ↦ λ e h. record {
        lit = l;
        place = 0;
        within = omega arith;
        at = λ d. refl;
        is_var =
            sym (eqb-true (l.index + 1) var e);
        is =
            ap (λ t. if t then Some (assigned_at es l) else assigned_to (assigned_in es ls) var) e;
      }
      | false ↦ λ e h.
          let f = located es ls var h in
          record {
            lit = f.lit;
            place = suc f.place;
            within = omega (arith, f.within);
            at = f.at;
            is_var = f.is_var;
            is = ap (λ t. if t then Some (assigned_at es l) else assigned_to
                (assigned_in es ls) var) e ∙ f.is;
          }
    ] refl some

module _ {vs : List Value} {es : List Entry} {ls : List Literal} {len : ℕ} {starts : List ℕ}
    {depth : ℕ} (s : IsStored vs es ls len starts depth) where
  abbrev front : List Literal
  front = take len ls

  long : length front ≡ len
  long = length-take-le len ls s.short

  module _ {var : ℕ} (f : Located es front var) where
    pub in_range : f.lit.index < length es
    in_range = subst (λ (q : Literal). q.index < length es) (f.at f.lit)
        (All-get_or (λ q. q.index < length es) front f.place f.lit f.within s.within)

    pub position_at : slice_get (assigned_in es front) (entry_of es f.lit).position
        ≡ assigned_to (assigned_in es front) var
    position_at =
        let here : get_or ls f.place f.lit ≡ f.lit =
        sym (get_or-take len ls f.place f.lit (omega (arith, f.within, long))) ∙ f.at f.lit in
        let place : (entry_of es f.lit).position ≡ f.place =
        ap (λ (q : Literal). (entry_of es q).position) (sym here)
        ∙ s.position f.place f.lit (omega (arith, f.within, long)) in
        ap (slice_get (assigned_in es front)) place ∙ slice_get-map (assigned_at es) front f.place
        ∙ ap (option_map (assigned_at es)) (slice_get-get_or front f.place f.lit f.within
        ∙ ap Some (f.at f.lit)) ∙ sym f.is

  distinct : AllPairs (λ (a b : Assigned). a.lit.index ≢ b.lit.index) (assigned_in es front)
  distinct i j d lt within same =
      let count = length-map front (assigned_at es) in
      let l : Literal = d.lit in
      let first : get_or (assigned_in es front) i d ≡ assigned_at es (get_or ls i l) =
      get_or-map (assigned_at es) front i l d (omega (arith, lt, within, count))
      ∙ ap (assigned_at es) (get_or-take len ls i l (omega (arith, lt, within, count, long))) in
      let second : get_or (assigned_in es front) j d ≡ assigned_at es (get_or ls j l) =
      get_or-map (assigned_at es) front j l d (omega (arith, within, count))
      ∙ ap (assigned_at es) (get_or-take len ls j l (omega (arith, within, count, long))) in
      let equal : (get_or ls i l).index ≡ (get_or ls j l).index =
      ap (λ (a : Assigned). a.lit.index) (sym first) ∙ same
      ∙ ap (λ (a : Assigned). a.lit.index) second in
      let at : (entry_of es (get_or ls i l)).position ≡ i =
      s.position i l (omega (arith, lt, within, count, long)) in
      let at' : (entry_of es (get_or ls j l)).position ≡ j =
      s.position j l (omega (arith, within, count, long)) in
      absurd (omega (arith, lt, sym at ∙ ap (λ n. (get_or es n no_entry).position) equal ∙ at'))

  pub is_trail : IsTrail (record {
    vars = length es;
    depth = depth;
    assigned =
        assigned_in es front;
  })
  is_trail = record {
    short = omega (
      arith,
      length-map front (assigned_at es),
      long,
      s.short,
      s.lit_room,
    );
    within = All-map (λ (a : Assigned). a.lit.index < length es) (assigned_at es)
        front s.within;
    distinct = distinct;
    climbs = s.climbs;
  }

-- what an entry says of a literal
abbrev pub seen_of : Literal → Entry → Option Assigned
seen_of l e = Some (record { lit = l; level = e.level; reason = e.reason })

-- the entry that is read at a variable's index is what the trail has of the variable
module _ {vs : List Value} {es : List Entry} {ls : List Literal} {len : ℕ} {starts : List ℕ}
    {depth : ℕ} {t : TrailState} (s : IsStored vs es ls len starts depth)
    (is : trail_in es ls len depth ≡ t) (var : ℕ) (some : IsSome (assigned_to t.assigned var)) where
  abbrev f : Located es (take len ls) var
  f = located es (take len ls) var (subst (λ (u : TrailState). IsSome (assigned_to u.assigned var))
      (sym is) some)

  pub var_is : 1 ≤ var
  var_is = omega (arith, f.is_var)

  pub index_in_range : var - 1 < length es
  index_in_range = omega (arith, f.is_var, in_range s f)

  module _ (e : Entry) (read : e ≡ get_or es (var - 1) e) where
    entry_is : e ≡ entry_of es f.lit
    entry_is = read ∙ ap (λ n. get_or es n e) {x = var - 1} {y =
        f.lit.index} (omega (arith, f.is_var))
        ∙ get_or_default es f.lit.index e no_entry (in_range s f)

    pub entry_seen : assigned_to t.assigned var ≡ seen_of f.lit e
    entry_seen =
        ap (λ (u : TrailState). assigned_to u.assigned var) (sym is) ∙ f.is
        ∙ ap (seen_of f.lit) (sym entry_is)

    pub position_seen : slice_get t.assigned e.position ≡ assigned_to t.assigned var
    position_seen =
        ap (λ (u : TrailState). slice_get u.assigned e.position) (sym is)
        ∙ ap (λ (n : Entry). slice_get (assigned_in es (take len ls)) n.position) entry_is
        ∙ position_at s f
        ∙ ap (λ (u : TrailState). assigned_to u.assigned var) is
