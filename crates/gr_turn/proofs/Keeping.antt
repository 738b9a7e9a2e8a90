-- One seat's step keeps the rule: what is common to all kinds.
use Rattle.std.proofs.Common.{◌≡◌, ◌≢◌, ℕ, ◌+◌, ◌%◌, ◌^◌, ◌<◌, ◌≤◌, true, List, [], ◌∷◌, length, get_or, set}
use Rattle.std.proofs.Common.{Option, ap, sym, ◌∙◌, subst, inl, inr, ⊎_elim, arith, length-set}
use mathlib.Core.Logic.{dite}
use mathlib.Core.Option.{some, some-injective}
use mathlib.Core.Option as maybe
use native.Mathlib.Decide.{ℕ_discrete}
use lib.ListN.{get_elem?}
use lib.Seq.{set-get_or}
use Rattle.atomic_table.specs.Table.{State, keeps, stepped}
use Rattle.atomic_table.proofs.Lists.{at_set, set_here, set_else, set_again}
use Rattle.gr_turn.specs.declared.views.View.{View}
use Rattle.gr_turn.specs.Views.{by, ticket_of, in_line, in_turn}
use Rattle.gr_turn.specs.Queues.{one_if, total, waits_in, lives, Fits, Heads, Homed, Kept}
use Rattle.gr_turn.proofs.Lists.{at_lt, total_set}
use Rattle.gr_turn.proofs.Places.{line_below}

module _ {T E F : Type 0} (history : T → List E) (number : E → ℕ) (fixed : T → F) where
  abbrev V : Type 0
  V = View E F

  abbrev St : Type 0
  St = State (Option T) V

  abbrev Homes : Type 0
  Homes = List (maybe.Option (Option T))

  abbrev Rule : St → Type 0
  Rule = Kept history number fixed

  -- the first seat still counts, where a seat's counts stay
  heads_stay : (vs : List V) (id : ℕ) (v w : V) → get_elem? vs id ≡ some v → w.live ≡ v.live
      → w.splits ≡ v.splits → w.out ≡ v.out → (head : V) × Heads head vs
      → (head : V) × Heads head (set vs id w)
  heads_stay vs id v w at l s o h =
      let tot : total lives (set vs id w) + lives v ≡ total lives vs + lives w =
      total_set lives vs id v w at in
      let same : lives w ≡ lives v = ap one_if l in
      let out = h.1.out in
      dite (ℕ_discrete 0 id)
      (λ e.
      let is : h.0 ≡ v = some-injective h.0 v (sym h.1.here ∙ (ap (get_elem? vs) e ∙ at)) in (
        w,
        record {
          here = subst (λ (i : ℕ). get_elem? (set vs id w) i ≡ some w) (sym e)
              (set_here vs id w (at_lt vs id v at));
          live = l ∙ (ap (λ (u : V). u.live) (sym is) ∙ h.1.live);
          few = subst (λ (n : ℕ). n ≤ 1000000) (ap (λ (u : V). u.splits) is ∙ sym s) h.1.few;
          count = length-set vs id w
              ∙ (h.1.count ∙ ap (λ (n : ℕ). n + 1) (ap (λ (u : V). u.splits) is ∙ sym s));
          out = let p : h.0.out ≡ w.out = ap (λ (u : V). u.out) is ∙ sym o in omega arith;
        },
      ))
      (λ ne. (
        h.0,
        record {
          here = set_else vs id 0 w ne ∙ h.1.here;
          live = h.1.live;
          few = h.1.few;
          count = length-set vs id w ∙ h.1.count;
          out = omega arith;
        },
      ))

  -- a step that leaves the slot where it is
  pub home_stays : (h : List E) (part : F) (homes : Homes) (vs : List V) (id : ℕ) (v w : V)
      → get_elem? vs id ≡ some v → (in_turn v.stage ≡ true → in_turn w.stage ≡ true)
      → Homed history number fixed h part homes vs
      → Homed history number fixed h part homes (set vs id w)
  home_stays h part homes vs id v w at turn home =
      ⊎_elim inl
      (λ (t : (length homes ≡ 1) × (i : ℕ) × (u : V) × (get_elem? vs i ≡ some u)
      × (in_turn u.stage ≡ true)).
      let there : (i : ℕ) × (u : V) × (get_elem? (set vs id w) i ≡ some u)
      × (in_turn u.stage ≡ true) =
      dite (ℕ_discrete t.1 id)
      (λ e.
      let is : t.2 ≡ v = some-injective t.2 v (sym t.3 ∙ (ap (get_elem? vs) e ∙ at)) in (
        id,
        w,
        set_here vs id w (at_lt vs id v at),
        turn (ap (λ (u : V). in_turn u.stage) (sym is) ∙ t.4),
      ))
      (λ ne. (t.1, t.2, set_else vs id t.1 w ne ∙ t.3, t.4)) in
      inr (t.0, there.0, there.1, there.2, there.3))
      home

  -- of two seats in line only one has the ticket
  pub only_one : (s : St) (r : Rule s) (id : ℕ) (v : V) → get_elem? s.views id ≡ some v
      → in_line v.stage ≡ true → (j : ℕ) (u : V) → j ≢ id → get_elem? s.views j ≡ some u
      → in_line u.stage ≡ true → ticket_of u.stage ≢ ticket_of v.stage
  only_one s r id v at line j u ne p lu same = ne (r.apart j id u v p at lu line same)

  -- each ticket was drawn before the next one
  pub drawn_before : (s : St) (r : Rule s) (j : ℕ) (u : V) → get_elem? s.views j ≡ some u
      → in_line u.stage ≡ true → ticket_of u.stage < r.drawn
  drawn_before s r j u p lu = line_below r.served r.drawn r.h u.stage lu (r.each j u p).stage

  -- a step of one seat, whose view changes and whose counts stay
  pub moves : (s : St) (r : Rule s) (id : ℕ) (v w : V) → get_elem? s.views id ≡ some v
      → w.live ≡ v.live → w.splits ≡ v.splits → w.out ≡ v.out
      → (h : List E) (served drawn : ℕ) (words : List ℕ) (homes : Homes)
      → words ≡ drawn % 2 ^ 64 ∷ served % 2 ^ 64 ∷ length h ∷ []
      → Homed history number fixed h r.part homes (set s.views id w)
      → Fits number h r.part served drawn id w
      → ((j : ℕ) (u : V) → j ≢ id → get_elem? s.views j ≡ some u
      → Fits number h r.part served drawn j u)
      → (in_line w.stage ≡ true → (j : ℕ) (u : V) → j ≢ id → get_elem? s.views j ≡ some u
      → in_line u.stage ≡ true → ticket_of w.stage ≢ ticket_of u.stage)
      → drawn + waits_in v + r.served ≡ r.drawn + served + waits_in w
      → ((n : ℕ) → length s.views ≤ n → by number h n ≡ [])
      → Rule record { words = words; homes = homes; views = set s.views id w }
  moves s r id v w at l sp o h served drawn words homes is home mine others apart queue unborn =
      record {
        h = h;
        part = r.part;
        served = served;
        drawn = drawn;
        words = is;
        home = home;
        each = λ i u p. ⊎_elim
            (λ (t : (i ≡ id) × (w ≡ u)).
            subst (λ (z : ℕ × V). Fits number h r.part served drawn z.0 z.1)
            (λ k. (sym t.0 k, t.1 k)) mine)
            (λ (t : (i ≢ id) × (get_elem? s.views i ≡ some u)). others i u t.0 t.1)
            (at_set s.views id i w u p);
        apart = λ i j a b p q la lb same. ⊎_elim
            (λ (t : (i ≡ id) × (w ≡ a)). ⊎_elim
            (λ (t' : (j ≡ id) × (w ≡ b)). t.0 ∙ sym t'.0)
            (λ (t' : (j ≢ id) × (get_elem? s.views j ≡ some b)).
            absurd (apart (ap (λ (u : V). in_line u.stage) t.1 ∙ la) j b t'.0 t'.1 lb
            (ap (λ (u : V). ticket_of u.stage) t.1 ∙ same)))
            (at_set s.views id j w b q))
            (λ (t : (i ≢ id) × (get_elem? s.views i ≡ some a)). ⊎_elim
            (λ (t' : (j ≡ id) × (w ≡ b)).
            absurd (apart (ap (λ (u : V). in_line u.stage) t'.1 ∙ lb) i a t.0 t.1 la
            (ap (λ (u : V). ticket_of u.stage) t'.1 ∙ sym same)))
            (λ (t' : (j ≢ id) × (get_elem? s.views j ≡ some b)).
            r.apart i j a b t.1 t'.1 la lb same)
            (at_set s.views id j w b q))
            (at_set s.views id i w a p);
        queue =
            let tot : total waits_in (set s.views id w) + waits_in v
            ≡ total waits_in s.views + waits_in w =
            total_set waits_in s.views id v w at in
            let was = r.queue in omega arith;
        first = heads_stay s.views id v w at l sp o r.first;
        others = λ n le. unborn n (subst (λ (k : ℕ). k ≤ n) (length-set s.views id w) le);
      }

  -- a load after which the seat's view is as before
  pub unmoved : (s : St) (i id : ℕ) (v : V) (c : List (ℕ × Option T))
      → get_elem? s.views id ≡ some v → Rule s
      → Rule (stepped s i (get_or s.words i 0) id c v keeps)
  unmoved s i id v c at r =
      subst Rule
      (λ k. record {
        words = sym (set-get_or s.words i 0) k;
        homes = s.homes;
        views = sym (set_again s.views id v at) k;
      })
      r
