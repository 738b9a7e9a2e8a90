-- The opening meets the rule, a split and a join keep it, and at the end the value is at home.
use Rattle.std.proofs.Common.{◌≡◌, ℕ, ◌+◌, ◌<◌, ◌≤◌, true, false, List, [], ◌∷◌, ◌++◌, length, set}
use Rattle.std.proofs.Common.{Option, Some, refl, ap, sym, ◌∙◌, subst, inl, inr, ⊎_elim, arith, length-append, length-set}
use Rattle.std.specs.Prelude.{leb}
use mathlib.Core.List.{IsPrefix}
use mathlib.Core.Option.{some, some-injective}
use mathlib.Core.Option as maybe
use lib.ListN.{get_elem?}
use Rattle.atomic_table.specs.Table.{State, Splits, Joins, opening, Final, Seen}
use Rattle.atomic_table.proofs.Lists.{at_longer, set_here, set_else}
use Rattle.gr_turn.specs.declared.views.View.{View}
use Rattle.gr_turn.specs.declared.views.Stage.{Stage}
use Rattle.gr_turn.specs.declared.views.Stage.TheVariants.{Away}
use Rattle.gr_turn.specs.Views.{by, in_line, in_turn}
use Rattle.gr_turn.specs.Queues.{one_if, total, waits_in, lives, Fits, Kept, newcomer}
use Rattle.gr_turn.specs.Told.{parted, newborn, joined, spent}
use Rattle.gr_turn.proofs.Lists.{prefix_nil, at_lt, total_set, total_snoc, total_two}
use Rattle.gr_turn.proofs.Places.{only, each_set, each_end, longer_by, dead_or_live}
use Rattle.gr_turn.proofs.Keeping.{home_stays}

module _ {T E F : Type 0} (history : T → List E) (number : E → ℕ) (fixed : T → F) where
  abbrev V : Type 0
  V = View E F

  abbrev Rule : State (Option T) V → Type 0
  Rule = Kept history number fixed

  -- the table of a new lock
  pub opens : (x : T) → history x ≡ []
      → Rule (opening (0 ∷ 0 ∷ 0 ∷ []) (Some x ∷ []) (newcomer (fixed x)))
  opens x blank =
      let first : V = newcomer (fixed x) in record {
        h = [];
        part = fixed x;
        served = 0;
        drawn = 0;
        words = refl;
        home = inl (x, refl, blank, refl);
        each = λ i v p.
            let t = only first i v p in
            subst (λ (z : ℕ × V). Fits number [] (fixed x) 0 0 z.0 z.1) (λ k. (sym t.0 k, t.1 k))
            record {
              seen = ([], refl);
              left = ([], refl);
              right = ([], refl);
              stage = tt;
              live = λ _. (refl, refl, refl, refl);
              spent = λ _. refl;
            };
        apart = λ i j v w p q lv lw same. (only first i v p).0 ∙ sym (only first j w q).0;
        queue = refl;
        first = (
          first,
          record { here = refl; live = refl; few = omega arith; count = refl; out = refl },
        );
        others = λ n le. refl;
      }

  -- a split of the first seat
  pub cuts : (id : ℕ) (v : V) → v.live ≡ true → v.number ≡ 0 → v.stage ≡ Away
      → v.splits < 1000000 → Splits Rule id v (parted v) (newborn v)
  cuts id v live at_zero away few s r at =
      let me = r.each id v at in
      let known = me.live live in
      let id_is : id ≡ 0 = sym known.0 ∙ at_zero in
      let hd = r.first.1 in
      let is : r.first.0 ≡ v =
      some-injective r.first.0 v (sym hd.here ∙ (ap (get_elem? s.views) (sym id_is) ∙ at)) in
      let w : V = parted v in
      let u : V = newborn v in
      let vs : List V = set s.views id w in
      let long : length s.views ≡ v.splits + 1 =
      hd.count ∙ ap (λ (y : V). y.splits + 1) is in
      let long' : length vs ≡ v.splits + 1 = length-set s.views id w ∙ long in
      let outs : total lives s.views ≡ v.out + 1 = hd.out ∙ ap (λ (y : V). y.out + 1) is in
      let tot : total lives vs + lives v ≡ total lives s.views + lives w =
      total_set lives s.views id v w at in
      let one : lives v ≡ 1 = ap one_if live in
      let sums = known.3 in
      let waits : total waits_in vs + waits_in v ≡ total waits_in s.views + waits_in w =
      total_set waits_in s.views id v w at in
      let q = r.queue in
      let old : (i : ℕ) (a : V) → get_elem? (vs ++ u ∷ []) i ≡ some a → in_line a.stage ≡ true
      → get_elem? s.views i ≡ some a =
      each_end (λ i a. in_line a.stage ≡ true → get_elem? s.views i ≡ some a) vs u
      (λ e. absurd (cc e))
      (each_set (λ i a. in_line a.stage ≡ true → get_elem? s.views i ≡ some a) s.views id w
      (λ e. absurd (cc (e, ap in_line away))) (λ j b ne p _. p)) in
      record {
        h = r.h;
        part = r.part;
        served = r.served;
        drawn = r.drawn;
        words = r.words;
        home = ⊎_elim inl
            (λ (t : (length s.homes ≡ 1) × (i : ℕ) × (y : V) × (get_elem? vs i ≡ some y)
            × (in_turn y.stage ≡ true)).
            inr (t.0, t.1, t.2, at_longer vs (u ∷ []) t.1 t.2 t.3, t.4))
            (home_stays history number fixed r.h r.part s.homes s.views id v w at (λ t. t) r.home);
        each = each_end (Fits number r.h r.part r.served r.drawn) vs u
            record {
              seen = me.seen;
              left = prefix_nil r.h;
              right = prefix_nil r.h;
              stage = tt;
              live = λ _. (
                sym long',
                known.1,
                r.others (length vs) (let e = length-set s.views id w in omega arith),
                refl,
              );
              spent = λ _. refl;
            }
            (each_set (Fits number r.h r.part r.served r.drawn) s.views id w
            record {
              seen = me.seen;
              left = me.left;
              right = me.right;
              stage = me.stage;
              live = λ _. (known.0, known.1, known.2, omega arith);
              spent = me.spent;
            }
            (λ j b ne p. r.each j b p));
        apart = λ i j a b p q' la lb same.
            r.apart i j a b (old i a p la) (old j b q' lb) la lb same;
        queue = omega (arith, total_snoc waits_in vs u);
        first = (
          w,
          record {
            here = at_longer vs (u ∷ []) 0 w
                (subst (λ (i : ℕ). get_elem? vs i ≡ some w) id_is
                (set_here s.views id w (at_lt s.views id v at)));
            live = live;
            few = omega arith;
            count = length-append vs (u ∷ []) ∙ ap (λ (n : ℕ). n + 1) long';
            out = omega (arith, total_snoc lives vs u);
          },
        );
        others = λ n le. let longer' = length-append vs (u ∷ []) in r.others n (omega arith);
      }

  -- a join into the first seat
  pub glues : (id : ℕ) (v : V) (other : ℕ) (y : V) → v.live ≡ true → v.number ≡ 0
      → v.stage ≡ Away → y.live ≡ true → y.stage ≡ Away
      → Joins Rule id v other y (joined v y) spent
  glues id v other y live at_zero away live' away' s r at apart_ids there' =
      let gone : V = spent in
      let w : V = joined v y in
      let vs : List V = set s.views id w in
      let there : get_elem? s.views other ≡ some y =
      sym (set_else s.views id other w apart_ids) ∙ there' in
      let us : List V = set vs other gone in
      let me = r.each id v at in
      let you = r.each other y there in
      let known = me.live live in
      let id_is : id ≡ 0 = sym known.0 ∙ at_zero in
      let hd = r.first.1 in
      let is : r.first.0 ≡ v =
      some-injective r.first.0 v (sym hd.here ∙ (ap (get_elem? s.views) (sym id_is) ∙ at)) in
      let few : v.splits ≤ 1000000 =
      subst (λ (n : ℕ). n ≤ 1000000) (ap (λ (y : V). y.splits) is) hd.few in
      let long : length s.views ≡ v.splits + 1 =
      hd.count ∙ ap (λ (y : V). y.splits + 1) is in
      let outs : total lives s.views ≡ v.out + 1 = hd.out ∙ ap (λ (y : V). y.out + 1) is in
      let one : lives v ≡ 1 = ap one_if live in
      let one' : lives y ≡ 1 = ap one_if live' in
      let two : lives v + lives y ≤ total lives s.views =
      total_two lives s.views id other v y at there (λ e. apart_ids (sym e)) in
      let tot : total lives vs + lives v ≡ total lives s.views + lives w =
      total_set lives s.views id v w at in
      let tot' : total lives us + lives y ≡ total lives vs + lives gone =
      total_set lives vs other y gone there' in
      let waits : total waits_in vs + waits_in v ≡ total waits_in s.views + waits_in w =
      total_set waits_in s.views id v w at in
      let waits' : total waits_in us + waits_in y ≡ total waits_in vs + waits_in gone =
      total_set waits_in vs other y gone there' in
      let none_yet : waits_in y ≡ 0 = ap (λ (st : Stage E). one_if (in_line st)) away' in
      let sums = known.3 in
      let q = r.queue in
      let old : (i : ℕ) (a : V) → get_elem? us i ≡ some a → in_line a.stage ≡ true
      → get_elem? s.views i ≡ some a =
      each_set (λ i a. in_line a.stage ≡ true → get_elem? s.views i ≡ some a) vs other gone
      (λ e. absurd (cc e))
      (λ j b _. each_set (λ i a. in_line a.stage ≡ true → get_elem? s.views i ≡ some a)
      s.views id w (λ e. absurd (cc (e, ap in_line away))) (λ j b ne p _. p) j b) in
      record {
        h = r.h;
        part = r.part;
        served = r.served;
        drawn = r.drawn;
        words = r.words;
        home = home_stays history number fixed r.h r.part s.homes vs other y gone there'
            (λ t. absurd (cc (t, ap in_turn away')))
            (home_stays history number fixed r.h r.part s.homes s.views id v w at (λ t. t) r.home);
        each = each_set (Fits number r.h r.part r.served r.drawn) vs other gone
            record {
              seen = prefix_nil r.h;
              left = prefix_nil r.h;
              right = prefix_nil r.h;
              stage = tt;
              live = λ e. absurd (cc e);
              spent = λ _. refl;
            }
            (λ j b _. each_set (Fits number r.h r.part r.served r.drawn) s.views id w
            record {
              seen = longer_by (λ l. IsPrefix l r.h) (leb (length v.seen) (length y.seen))
                  v.seen y.seen me.seen you.seen;
              left = me.seen;
              right = you.seen;
              stage = me.stage;
              live = λ _. (known.0, known.1, known.2, omega arith);
              spent = me.spent;
            }
            (λ j b ne p. r.each j b p) j b);
        apart = λ i j a b p q' la lb same.
            r.apart i j a b (old i a p la) (old j b q' lb) la lb same;
        queue = omega arith;
        first = (
          w,
          record {
            here = set_else vs other 0 gone (λ e. apart_ids (sym e ∙ sym id_is))
                ∙ subst (λ (i : ℕ). get_elem? vs i ≡ some w) id_is
                (set_here s.views id w (at_lt s.views id v at));
            live = live;
            few = few;
            count = length-set vs other gone ∙ (length-set s.views id w ∙ long);
            out = omega arith;
          },
        );
        others = λ n le. r.others n
            (subst (λ (k : ℕ). k ≤ n) (length-set vs other gone ∙ length-set s.views id w) le);
      }

  -- where the first seat is alone, the slot has the value
  pub closes : (id : ℕ) (v : V) (words : List ℕ) (slots : List (Option T)) → v.live ≡ true
      → v.number ≡ 0 → v.stage ≡ Away → v.out ≡ 0 → Final (Seen Rule id v) words slots
      → (x : T) × (get_elem? slots 0 ≡ some (Some x)) × IsPrefix v.seen (history x)
      × (by number (history x) v.number ≡ v.own) × (Some (fixed x) ≡ v.fixed)
  closes id v words slots live at_zero away alone last =
      let s : State (Option T) V = last.0 in
      let r : Rule s = last.1.0 in
      let at : get_elem? s.views id ≡ some v = last.1.1 in
      let me = r.each id v at in
      let known = me.live live in
      let id_is : id ≡ 0 = sym known.0 ∙ at_zero in
      let hd = r.first.1 in
      let is : r.first.0 ≡ v =
      some-injective r.first.0 v (sym hd.here ∙ (ap (get_elem? s.views) (sym id_is) ∙ at)) in
      let outs : total lives s.views ≡ v.out + 1 = hd.out ∙ ap (λ (y : V). y.out + 1) is in
      let one : lives v ≡ 1 = ap one_if live in
      ⊎_elim
      (λ (t : (x : T) × (s.homes ≡ some (Some x) ∷ []) × (history x ≡ r.h) × (fixed x ≡ r.part)). (
        t.0,
        last.4 0 (Some t.0) (ap (λ (hs : List (maybe.Option (Option T))). get_elem? hs 0) t.1),
        subst (IsPrefix v.seen) (sym t.2) me.seen,
        ap (λ (h : List E). by number h v.number) t.2 ∙ (ap (by number r.h) known.0 ∙ known.2),
        ap (λ (y : F). let z : Option F = Some y in z) t.3 ∙ sym known.1,
      ))
      (λ (t : (length s.homes ≡ 1) × (i : ℕ) × (u : V) × (get_elem? s.views i ≡ some u)
      × (in_turn u.stage ≡ true)).
      absurd (⊎_elim
      (λ (dead : t.2.live ≡ false).
      cc (sym t.4 ∙ ap in_turn ((r.each t.1 t.2 t.3).spent dead)))
      (λ (al : t.2.live ≡ true).
      let one' : lives t.2 ≡ 1 = ap one_if al in
      let two : lives v + lives t.2 ≤ total lives s.views =
      total_two lives s.views id t.1 v t.2 at t.3
      (λ e.
      let same : v ≡ t.2 =
      some-injective v t.2 (sym at ∙ (ap (get_elem? s.views) e ∙ t.3)) in
      cc (sym t.4 ∙ (ap (λ (u : V). in_turn u.stage) (sym same) ∙ ap in_turn away))) in
      omega arith)
      (dead_or_live t.2.live)))
      r.home
