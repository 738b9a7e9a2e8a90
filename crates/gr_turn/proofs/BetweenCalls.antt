-- What a seat keeps from one call to the next, and what a split and a join make of it.
use Rattle.std.proofs.Common.{◌≡◌, ℕ, ◌+◌, true, false, List, [], Option, refl, ap, sym, ◌∙◌, subst, arith}
use mathlib.Core.List.{IsPrefix}
use Rattle.atomic_table.specs.Seated.{TableId}
use Rattle.gr_turn.specs.declared.views.View.{View}
use Rattle.gr_turn.specs.declared.views.Stage.TheVariants.{Away}
use Rattle.gr_turn.specs.Views.{by, longer, hand_of}
use Rattle.gr_turn.specs.Seats.{Sitting, sitting_of, IsFit, IsJoined}
use Rattle.gr_turn.specs.Told.{Place, Stays, newborn, joined}
use Rattle.gr_turn.proofs.Lists.{by_none, by_between, longer_prefixes}

module _ {T E F : Type 0} (number : E → ℕ) where
  -- a seat in no turn has no ticket
  pub is_away : (z : TableId) (s : Sitting E F) (m : Place T E F) → sitting_of z m.0 ≡ s
      → IsFit number m → s.in_turn ≡ false → m.0.stage ≡ Away
  is_away z s m is fit out = fit.away (ap (λ (t : Sitting E F). t.in_turn) is ∙ out)

  -- a seat that was split off, after its look
  pub split_off : (v : View E F) (m m' : Place T E F) → m ≡ (newborn v, []) → Stays number m m'
      → IsFit number m' × (m' ≡ (newborn v, []))
  split_off v m m' is g =
      let live : m.0.live ≡ true = ap (λ (z : Place T E F). z.0.live) is in
      let told = g.5 live in
      let fresh : IsFit number m = record {
        live = live;
        own_is = by_none number m.0.seen g.1 m.0.number g.2
            (told.0 ∙ ap (λ (z : Place T E F). z.0.own) is)
            ∙ sym (ap (λ (z : Place T E F). z.0.own) is);
        sums = told.1;
        in_hand = ap (λ (z : Place T E F). z.1) is
            ∙ sym (ap (λ (z : Place T E F). hand_of z.0.stage) is);
        away = λ _. ap (λ (z : Place T E F). z.0.stage) is;
      } in
      (subst (IsFit number) (sym g.0) fresh, g.0 ∙ is)

  -- the first seat, after a join and its look
  pub taken_in : (v w : View E F) (c : List (ℕ × Option T)) (m m' : Place T E F)
      → m ≡ (joined v w, c) → v.live ≡ true → by number v.seen v.number ≡ v.own
      → c ≡ hand_of v.stage → v.stage ≡ Away → Stays number m m'
      → IsFit number m' × (m' ≡ (joined v w, c))
      × (v.splits ≡ (joined v w).out + (joined v w).joined)
      × IsPrefix v.seen (longer v.seen w.seen) × IsPrefix w.seen (longer v.seen w.seen)
  taken_in v w c m m' is live own hand away g =
      let same : m' ≡ (joined v w, c) = g.0 ∙ is in
      let h : List E = g.1 in
      let seen : IsPrefix (longer v.seen w.seen) h =
      subst (λ (z : Place T E F). IsPrefix z.0.seen h) is g.2 in
      let left : IsPrefix v.seen h = subst (λ (z : Place T E F). IsPrefix z.0.left h) is g.3 in
      let right : IsPrefix w.seen h = subst (λ (z : Place T E F). IsPrefix z.0.right h) is g.4 in
      let told : (by number h v.number ≡ v.own)
      × (v.splits ≡ (joined v w).out + (joined v w).joined) =
      subst (λ (z : Place T E F).
      (by number h z.0.number ≡ z.0.own) × (z.0.splits ≡ z.0.out + z.0.joined)) is
      (g.5 (ap (λ (z : Place T E F). z.0.live) is ∙ live)) in
      let both = longer_prefixes v.seen w.seen h left right in (
        subst (IsFit number) (sym same) record {
          live = live;
          own_is = by_between number v.seen (longer v.seen w.seen) h v.number both.0 seen
              (told.0 ∙ sym own) ∙ own;
          sums = told.1;
          in_hand = hand;
          away = λ _. away;
        },
        same,
        told.1,
        both.0,
        both.1,
      )

  -- what contracts see of the join
  pub is_joined : (z zo z' : TableId) (s o : Sitting E F) (v w : View E F) (c : List (ℕ × Option T))
      (m' : Place T E F) → sitting_of z v ≡ s → sitting_of zo w ≡ o → z' ≡ z
      → v.splits ≡ v.out + v.joined → m' ≡ (joined v w, c)
      → v.splits ≡ (joined v w).out + (joined v w).joined
      → IsPrefix v.seen (longer v.seen w.seen) → IsPrefix w.seen (longer v.seen w.seen)
      → IsJoined s o (sitting_of z' m'.0)
  is_joined z zo z' s o v w c m' is is_o same sums new sums' begins begins_o =
      let base : IsJoined (sitting_of z v) (sitting_of zo w) (sitting_of z (joined v w)) = record {
        changed = refl;
        fewer = omega arith;
        begins = begins;
        begins_other = begins_o;
      } in
      subst (λ (k : (Sitting E F × Sitting E F) × (TableId × View E F)).
      IsJoined k.0.0 k.0.1 (sitting_of k.1.0 k.1.1))
      (λ i. ((is i, is_o i), (sym same i, sym (ap (λ (z : Place T E F). z.0) new) i))) base
