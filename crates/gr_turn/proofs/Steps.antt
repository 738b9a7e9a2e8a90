-- Each look, draw, count and pass keeps the rule.
use Rattle.std.proofs.Common.{◌≡◌, ◌≢◌, ℕ, ◌+◌, ◌%◌, ◌^◌, ◌<◌, ◌≤◌, true, List, [], ◌∷◌, ◌++◌, length, get_or, set}
use Rattle.std.proofs.Common.{Option, Some, refl, ap, sym, ◌∙◌, subst, inl, inr, ⊎_elim, arith, length-append, length-set}
use mathlib.Core.List.{IsPrefix}
use mathlib.Core.Logic.{dite}
use mathlib.Core.Option.{some, none, some-injective}
use mathlib.Core.Option as maybe
use native.Mathlib.Nat.{mod-add-mod, mod-eq_of_lt}
use native.Mathlib.Decide.{ℕ_discrete}
use lib.ListN.{get_elem?}
use lib.Seq.{set-get_or}
use Rattle.atomic_table.specs.Table.{State, step, keeps, takes, gives, Allows, put_back, rest}
use Rattle.atomic_table.proofs.Lists.{set_here, one_turn}
use Rattle.gr_turn.specs.declared.views.View.{View}
use Rattle.gr_turn.specs.declared.views.Stage.{Stage}
use Rattle.gr_turn.specs.declared.views.Stage.TheVariants.{Away, Waits, Holds}
use Rattle.gr_turn.specs.Views.{by, ticket_of, in_line, in_turn, noted}
use Rattle.gr_turn.specs.Queues.{one_if, total, waits_in, InLine, Kept}
use Rattle.gr_turn.specs.Told.{Place, held_history, glanced, drew, looked, counted, passed}
use Rattle.gr_turn.proofs.Lists.{prefix_self, prefix_trans, by_other, at_lt, total_le}
use Rattle.gr_turn.proofs.Places.{at_most_one, one_home, some_same, line_longer, line_else, turn_line, turn_ticket}
use Rattle.gr_turn.proofs.Keeping.{home_stays, only_one, drawn_before, moves, unmoved}

module _ {T E F : Type 0} (history : T → List E) (number : E → ℕ) (fixed : T → F) where
  abbrev V : Type 0
  V = View E F

  abbrev St : Type 0
  St = State (Option T) V

  abbrev M : Type 0
  M = Place T E F

  abbrev Homes : Type 0
  Homes = List (maybe.Option (Option T))

  abbrev Rule : St → Type 0
  Rule = Kept history number fixed

  -- a look without a ticket
  pub glances : (slots id : ℕ) (m : M) (i : ℕ)
      → Allows Rule slots id m i (λ n. n) (glanced number (step slots i 0 0 none) m)
  glances slots id m i s r deep at fits =
      let me = r.each id m.0 at in (
        m.0,
        keeps,
        tt,
        unmoved history number fixed s i id m.0 m.1 at r,
        (
          refl,
          r.h,
          me.seen,
          me.left,
          me.right,
          λ live. let t = me.live live in (ap (by number r.h) t.0 ∙ t.2, t.3),
        ),
      )

  -- a draw, by a seat that has no ticket
  pub draws : (slots id : ℕ) (m : M) → m.0.stage ≡ Away → m.0.live ≡ true
      → Allows Rule slots id m 0 (λ n. (n + 1) % 2 ^ 64) (drew (step slots 0 1 0 none) m)
  draws slots id m away live s r deep at fits =
      let v : V = m.0 in
      let me = r.each id v at in
      let w : V = record v { stage = Waits r.drawn } in
      let q = r.queue in
      let none_yet : waits_in v ≡ 0 = ap (λ (st : Stage E). one_if (in_line st)) away in (
        w,
        keeps,
        tt,
        moves history number fixed s r id v w at refl refl refl r.h r.served (r.drawn + 1)
            (set s.words 0 ((get_or s.words 0 0 + 1) % 2 ^ 64)) s.homes
            (ap (λ (ws : List ℕ). set ws 0 ((get_or ws 0 0 + 1) % 2 ^ 64)) r.words
            ∙ ap (λ (k : ℕ). k ∷ r.served % 2 ^ 64 ∷ length r.h ∷ [])
            (mod-add-mod r.drawn (2 ^ 64) 1))
            (home_stays history number fixed r.h r.part s.homes s.views id v w at
            (λ t. absurd (cc (t, ap in_turn away))) r.home)
            record {
              seen = me.seen;
              left = me.left;
              right = me.right;
              stage = (omega arith, omega arith);
              live = me.live;
              spent = λ dead. absurd (cc (live, dead));
            }
            (λ j u ne p. let f = r.each j u p in record {
              seen = f.seen;
              left = f.left;
              right = f.right;
              stage = line_longer r.served r.drawn r.h u.stage f.stage;
              live = f.live;
              spent = f.spent;
            })
            (λ _ j u ne p lu same.
            let lt = drawn_before history number fixed s r j u p lu in absurd (omega arith))
            (omega arith)
            r.others,
        (refl, r.drawn, sym (ap (λ (ws : List ℕ). get_or ws 0 0) r.words), refl),
      )

  -- a look with a ticket, which takes the value where it is served
  pub looks : (slots id : ℕ) (m : M) (k : ℕ) → m.0.stage ≡ Waits k → m.0.live ≡ true → slots ≡ 1
      → Allows Rule slots id m 1 (λ n. n)
      (looked history number fixed (step slots 1 0 0 none) m)
  looks slots id m k waits live one_slot s r deep at fits =
      let deep' : length s.homes ≡ 1 = deep ∙ one_slot in
      let v : V = m.0 in
      let me = r.each id v at in
      let known = me.live live in
      let tick : ticket_of v.stage ≡ k = ap ticket_of waits in
      let line : in_line v.stage ≡ true = ap in_line waits in
      let l : InLine r.served r.drawn r.h (Waits k) =
      subst (InLine r.served r.drawn r.h) waits me.stage in
      let here : get_or s.words 1 0 ≡ r.served % 2 ^ 64 =
      ap (λ (ws : List ℕ). get_or ws 1 0) r.words in
      let few : total waits_in s.views ≤ length s.views =
      total_le waits_in s.views (λ u. at_most_one (in_line u.stage)) in
      let hd = r.first.1 in
      let count = hd.count in
      let small = hd.few in
      let q = r.queue in
      let l0 = l.0 in
      let l1 = l.1 in
      dite (ℕ_discrete (get_or s.words 1 0) (ticket_of v.stage % 2 ^ 64))
      (λ hit.
      let mine : r.served ≡ k =
      one_turn r.served k (2 ^ 64) l0 (omega arith)
      (sym here ∙ (hit ∙ ap (λ (n : ℕ). n % 2 ^ 64) tick)) in
      ⊎_elim
      (λ (t : (x : T) × (s.homes ≡ some (Some x) ∷ []) × (history x ≡ r.h) × (fixed x ≡ r.part)).
      let x : T = t.0 in
      let w : V = record v { stage = Holds (ticket_of v.stage) (history x) } in (
        w,
        takes 0 (Some x),
        ap (λ (hs : Homes). get_elem? hs 0) t.1,
        moves history number fixed s r id v w at refl refl refl r.h r.served r.drawn
            (set s.words 1 (get_or s.words 1 0)) (set s.homes 0 none)
            (set-get_or s.words 1 0 ∙ r.words)
            (inr (
              length-set s.homes 0 none ∙ deep',
              id,
              w,
              set_here s.views id w (at_lt s.views id v at),
              refl,
            ))
            record {
              seen = me.seen;
              left = me.left;
              right = me.right;
              stage = (
                tick ∙ sym mine,
                subst (λ (n : ℕ). n < r.drawn) (sym tick) l1,
                t.2,
              );
              live = me.live;
              spent = λ dead. absurd (cc (live, dead));
            }
            (λ j u ne p. r.each j u p)
            (λ _ j u ne p lu same.
            only_one history number fixed s r id v at line j u ne p lu (sym same))
            (let one : waits_in v ≡ 1 = ap one_if line in omega arith)
            r.others,
        (
          (λ _. (
            x,
            (λ i. (w, (0, Some x) ∷ m.1)),
            subst (IsPrefix v.seen) (sym t.2) me.seen,
            ap (λ (h : List E). by number h v.number) t.2
                ∙ (ap (by number r.h) known.0 ∙ known.2),
            ap (λ (y : F). let z : Option F = Some y in z) t.3 ∙ sym known.1,
          )),
          λ miss. absurd (miss hit),
        ),
      ))
      (λ (t : (length s.homes ≡ 1) × (i : ℕ) × (u : V) × (get_elem? s.views i ≡ some u)
      × (in_turn u.stage ≡ true)).
      let same : t.1 ≡ id =
      r.apart t.1 id t.2 v t.3 at (turn_line t.2.stage t.4) line
      (turn_ticket r.served r.drawn r.h t.2.stage t.4 (r.each t.1 t.2 t.3).stage
      ∙ (mine ∙ sym tick)) in
      let is : t.2 ≡ v =
      some-injective t.2 v (sym t.3 ∙ (ap (get_elem? s.views) same ∙ at)) in
      absurd (cc (sym t.4 ∙ (ap (λ (u : V). in_turn u.stage) is ∙ ap in_turn waits))))
      r.home)
      (λ miss. (
        v,
        keeps,
        tt,
        unmoved history number fixed s 1 id v m.1 at r,
        ((λ hit. absurd (miss hit)), λ _. refl),
      ))

  -- a count, of an entry that names the seat
  pub counts : (slots id : ℕ) (m : M) (k : ℕ) (g : List E) (x : T) (e : E) → m.0.stage ≡ Holds k g
      → m.0.live ≡ true → slots ≡ 1 → m.1 ≡ (0, Some x) ∷ [] → history x ≡ g ++ e ∷ []
      → number e ≡ m.0.number → length (history x) < 2 ^ 64
      → Allows Rule slots id m 2 (λ n. (n + 1) % 2 ^ 64)
      (counted history number (step slots 2 1 0 none) m)
  counts slots id m k g x e holds live one_slot carried grown names short s r deep at fits =
      let deep' : length s.homes ≡ 1 = deep ∙ one_slot in
      let v : V = m.0 in
      let me = r.each id v at in
      let known = me.live live in
      let tick : ticket_of v.stage ≡ k = ap ticket_of holds in
      let line : in_line v.stage ≡ true = ap in_line holds in
      let l : InLine r.served r.drawn r.h (Holds k g) =
      subst (InLine r.served r.drawn r.h) holds me.stage in
      let h : List E = held_history history m.1 in
      let is : h ≡ r.h ++ e ∷ [] =
      ap (held_history history) carried ∙ (grown ∙ ap (λ (ys : List E). ys ++ e ∷ []) l.2) in
      let w : V =
      record v { stage = Holds (ticket_of v.stage) h; seen = h; own = by number h v.number } in
      let same : h ≡ history x = ap (held_history history) carried in
      let long : length h ≡ length r.h + 1 = ap length is ∙ length-append r.h (e ∷ []) in
      let begins : (ys : List E) → IsPrefix ys r.h → IsPrefix ys h =
      λ ys p. prefix_trans ys r.h h p (e ∷ [], sym is) in
      let named : number e ≡ id = names ∙ known.0 in
      let other : (n : ℕ) → n ≢ id → by number h n ≡ by number r.h n =
      λ n ne. ap (λ (ys : List E). by number ys n) is
      ∙ by_other number r.h e n (λ z. ne (sym z ∙ named)) in
      let served : ticket_of v.stage ≡ r.served = tick ∙ l.0 in
      let note : noted v.stage ≡ r.h = ap noted holds ∙ l.2 in (
        w,
        keeps,
        tt,
        moves history number fixed s r id v w at refl refl refl h r.served r.drawn
            (set s.words 2 ((get_or s.words 2 0 + 1) % 2 ^ 64)) s.homes
            (ap (λ (ws : List ℕ). set ws 2 ((get_or ws 2 0 + 1) % 2 ^ 64)) r.words
            ∙ ap (λ (n : ℕ). r.drawn % 2 ^ 64 ∷ r.served % 2 ^ 64 ∷ n ∷ [])
            (ap (λ (n : ℕ). n % 2 ^ 64) (sym long)
            ∙ mod-eq_of_lt (subst (λ (ys : List E). length ys < 2 ^ 64) (sym same) short)))
            (inr (deep', id, w, set_here s.views id w (at_lt s.views id v at), refl))
            record {
              seen = prefix_self h;
              left = begins v.left me.left;
              right = begins v.right me.right;
              stage = (served, subst (λ (n : ℕ). n < r.drawn) (sym tick) l.1, refl);
              live = λ _. (known.0, known.1, ap (by number h) (sym known.0), known.3);
              spent = λ dead. absurd (cc (live, dead));
            }
            (λ j u ne p. let f = r.each j u p in record {
              seen = begins u.seen f.seen;
              left = begins u.left f.left;
              right = begins u.right f.right;
              stage = line_else r.served r.served r.drawn r.h h u.stage (omega arith) (omega arith)
                  (λ lu same. only_one history number fixed s r id v at line j u ne p lu
                  (same ∙ sym served)) f.stage;
              live = λ al. let t = f.live al in (t.0, t.1, other j ne ∙ t.2, t.3);
              spent = f.spent;
            })
            (λ _ j u ne p lu same.
            only_one history number fixed s r id v at line j u ne p lu (sym same))
            (let one : waits_in v ≡ 1 = ap one_if line in omega arith)
            (λ n le.
            let lt = at_lt s.views id v at in other n (λ z. omega arith) ∙ r.others n le),
        (
          refl,
          refl,
          ap (λ (ys : List E). by number ys v.number) note
              ∙ (ap (by number r.h) known.0 ∙ known.2),
          subst (IsPrefix v.seen) (sym note) me.seen,
        ),
      )

  -- a pass, by the seat whose ticket is served
  pub passes : (slots id : ℕ) (m : M) (k : ℕ) (g : List E) (x : T) → m.0.stage ≡ Holds k g
      → m.0.live ≡ true → slots ≡ 1 → m.1 ≡ (0, Some x) ∷ [] → history x ≡ g
      → Some (fixed x) ≡ m.0.fixed
      → Allows Rule slots id m 1 (λ n. (n + 1) % 2 ^ 64) (passed number (step slots 1 1 0 none) m)
  passes slots id m k g x holds live one_slot carried same_history same_fixed s r deep at fits =
      let v : V = m.0 in
      let me = r.each id v at in
      let known = me.live live in
      let tick : ticket_of v.stage ≡ k = ap ticket_of holds in
      let l : InLine r.served r.drawn r.h (Holds k g) =
      subst (InLine r.served r.drawn r.h) holds me.stage in
      let note : noted v.stage ≡ r.h = ap noted holds ∙ l.2 in
      let line : in_line v.stage ≡ true = ap in_line holds in
      let served : ticket_of v.stage ≡ r.served = tick ∙ l.0 in
      let w : V = record v { stage = Away; seen = noted v.stage; turns = v.turns + 1 } in
      let deep' : length s.homes ≡ 1 = deep ∙ one_slot in
      let q = r.queue in (
        w,
        gives,
        tt,
        moves history number fixed s r id v w at refl refl refl r.h (r.served + 1) r.drawn
            (set s.words 1 ((get_or s.words 1 0 + 1) % 2 ^ 64)) (put_back s.homes m.1)
            (ap (λ (ws : List ℕ). set ws 1 ((get_or ws 1 0 + 1) % 2 ^ 64)) r.words
            ∙ ap (λ (n : ℕ). r.drawn % 2 ^ 64 ∷ n ∷ length r.h ∷ [])
            (mod-add-mod r.served (2 ^ 64) 1))
            (inl (
              x,
              ap (put_back s.homes) carried ∙ one_home s.homes (some (Some x)) deep',
              same_history ∙ l.2,
              some_same (fixed x) r.part (same_fixed ∙ known.1),
            ))
            record {
              seen = subst (IsPrefix (noted v.stage)) note (prefix_self (noted v.stage));
              left = me.left;
              right = me.right;
              stage = tt;
              live = me.live;
              spent = λ dead. refl;
            }
            (λ j u ne p. let f = r.each j u p in record {
              seen = f.seen;
              left = f.left;
              right = f.right;
              stage = line_else r.served (r.served + 1) r.drawn r.h r.h u.stage (omega arith)
                  (omega arith)
                  (λ lu same. only_one history number fixed s r id v at line j u ne p lu
                  (same ∙ sym served)) f.stage;
              live = f.live;
              spent = f.spent;
            })
            (λ no j u ne p lu same. absurd (cc no))
            (let one : waits_in v ≡ 1 = ap one_if line in omega arith)
            r.others,
        (
          ap (λ (c : List (ℕ × Option T)). rest c) carried,
          refl,
          ap (λ (ys : List E). by number ys v.number) note
              ∙ (ap (by number r.h) known.0 ∙ known.2),
          subst (IsPrefix v.seen) (sym note) me.seen,
        ),
      )
