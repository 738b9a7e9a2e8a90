-- what the seats of the history in which a clause is driven out may do, step by step
use Rattle.std.proofs.Common.{◌≡◌, ◌+◌, ℕ, true, not, List, [], ◌∷◌, ◌++◌, map, take, drop, None, refl}
use Rattle.std.proofs.Common.{sym, ap, ◌∙◌, subst, arith}
use Rattle.std.specs.List.{filter}
use Rattle.std.proofs.lemmas.List.{append_cancel_right}
use mathlib.Core.List.{IsPrefix}
use Rattle.gr_logic.specs.Formulas.{Cnf}
use Rattle.gr_logic.specs.Literals.{Literal}
use Rattle.gr_logic.specs.declared.items.Strengthened.TheVariants.{Shorter}
use Rattle.gr_diary.specs.declared.entries.Entry.{Entry}
use Rattle.gr_diary.specs.declared.entries.Entry.TheVariants.{Learn, Take, Return, Forget}
use Rattle.gr_diary.specs.Entries.{actor_of}
use Rattle.gr_diary.specs.States.{State, has, initial_state}
use Rattle.gr_diary.specs.Steps.{after}
use Rattle.gr_diary.specs.Rules.{Part}
use Rattle.gr_diary.specs.Histories.{IsLegal, IsEnabled, entries_of, part_after, state_of}
use Rattle.gr_diary.specs.Examples.{plus}
use Rattle.gr_diary.specs.ExampleRuns.{pairs, offer_of, taken_run, shortening_run, give_pair}
use Rattle.gr_diary.proofs.Ends.{beginnings-are-legal}
use Rattle.gr_diary.proofs.Own.{enabled-stays, legal-parts, own-part-stays, state-append}
use Rattle.gr_diary.proofs.ShorteningRun.{shortening-run-is-legal}
use Rattle.gr_turn.proofs.Lists.{by_this}
use Rattle.gr_seat.specs.Handles.{Handle, Enables}
use Rattle.gr_seat.specs.Turns.{IsSameSeat, TakesTurn, Makes, Anything}
use Rattle.gr_seat.proofs.Alone.{at_seat}
use Rattle.gr_seat.proofs.Held.{may_let_go, none_taken}

-- a seat at an exchange over the formula, for one reducer, with room for two clauses on offer
pub record IsAtPairs (h : Handle) : Type 0 where
  pub formula : h.formula ≡ pairs
  pub reducers : h.reducers ≡ 1
  pub capacity : h.capacity ≡ 2

pub stays_at_pairs : (s t : Handle) → IsAtPairs s → IsSameSeat s t → IsAtPairs t
stays_at_pairs s t at same = record {
  formula = same.formula ∙ at.formula;
  reducers = same.reducers ∙ at.reducers;
  capacity = same.capacity ∙ at.capacity;
}

-- what the history allows, the seat enables
enabled_at_pairs : (h : Handle) (d : List Entry) (e : Entry) → IsAtPairs h → h.seen ≡ d → IsEnabled pairs 1 2 d e
    → Enables h e
enabled_at_pairs h d e at seen able =
    subst (λ (k : Cnf × ℕ × ℕ × List Entry). IsEnabled k.0 k.1 k.2 k.3 e)
    (λ i. (sym at.formula i, sym at.reducers i, sym at.capacity i, sym seen i)) able

-- each of the three clauses may be offered behind those before it
offered_so_far : (h : Handle) (d : List Entry) (vars : List ℕ) (lbd : ℕ) (c : List Literal) → IsAtPairs h
    → h.seen ≡ d → c ≡ map plus vars → IsEnabled pairs 1 2 d (offer_of vars lbd) → Enables h (Learn c (1 ∷ []) lbd true)
offered_so_far h d vars lbd c at seen is able =
    subst (λ (ls : List Literal). Enables h (Learn ls (1 ∷ []) lbd true)) (sym is)
    (enabled_at_pairs h d (offer_of vars lbd) at seen able)

pub offer_first : (h : Handle) (c : List Literal) → IsAtPairs h → h.seen ≡ []
    → c ≡ map plus (1 ∷ 2 ∷ 3 ∷ 4 ∷ 5 ∷ []) → Enables h (Learn c (1 ∷ []) 5 true)
offer_first h c at seen is =
    offered_so_far h [] (1 ∷ 2 ∷ 3 ∷ 4 ∷ 5 ∷ []) 5 c at seen is shortening-run-is-legal.0.0.able

pub offer_second : (h : Handle) (c : List Literal) → IsAtPairs h → h.seen ≡ take 1 shortening_run
    → c ≡ map plus (1 ∷ 2 ∷ 3 ∷ 4 ∷ 6 ∷ []) → Enables h (Learn c (1 ∷ []) 3 true)
offer_second h c at seen is =
    offered_so_far h (take 1 shortening_run) (1 ∷ 2 ∷ 3 ∷ 4 ∷ 6 ∷ []) 3 c at seen is
    shortening-run-is-legal.0.1.0.able

pub offer_third : (h : Handle) (c : List Literal) → IsAtPairs h → h.seen ≡ take 2 shortening_run
    → c ≡ map plus (1 ∷ 2 ∷ 3 ∷ 5 ∷ 6 ∷ []) → Enables h (Learn c (1 ∷ []) 4 true)
offer_third h c at seen is =
    offered_so_far h (take 2 shortening_run) (1 ∷ 2 ∷ 3 ∷ 5 ∷ 6 ∷ []) 4 c at seen is
    shortening-run-is-legal.0.1.1.0.able

-- and then that many entries of the history are there
pub one_more : (old new d : List Entry) (vars : List ℕ) (lbd : ℕ) (c : List Literal)
    → new ≡ old ++ Learn c (1 ∷ []) lbd true ∷ [] → old ≡ d → c ≡ map plus vars → new ≡ d ++ offer_of vars lbd ∷ []
one_more old new d vars lbd c grown before is =
    grown ∙ ap (λ (k : List Entry × List Literal). k.0 ++ Learn k.1 (1 ∷ []) lbd true ∷ []) (λ i. (before i, is i))

begins-legally : (d : List Entry) → IsPrefix d shortening_run → IsLegal pairs 1 2 d
begins-legally d begins = beginnings-are-legal pairs 1 2 d shortening_run begins shortening-run-is-legal.0

three_legal : IsLegal pairs 1 2 (take 3 shortening_run)
three_legal = begins-legally (take 3 shortening_run) (drop 3 shortening_run, refl)

-- the searching thread may let the clause go that was driven out
pub driven_out_may_go : (h : Handle) → IsAtPairs h → h.seen ≡ take 3 shortening_run → Enables h (Forget 0 (4 ∷ []))
driven_out_may_go h at seen =
    enabled_at_pairs h (take 3 shortening_run) (Forget 0 (4 ∷ [])) at seen
    (may_let_go pairs 1 2 (take 3 shortening_run) 0 4 (omega arith) refl (none_taken 4))

-- and then, whatever the reducer did in between, the one that was taken
pub taken_may_go : (s t : Handle) → IsAtPairs s → s.actor ≡ 0 → s.seen ≡ take 3 shortening_run → TakesTurn s t
    → Makes s t (Forget 0 (4 ∷ [])) Anything → Enables t (Forget 0 (5 ∷ []))
taken_may_go s t at first seen turn makes =
    enabled_at_pairs t t.seen (Forget 0 (5 ∷ [])) at_t refl
    (may_let_go pairs 1 2 t.seen 0 5 (omega arith) held (λ taken. none_taken 5 (sym idle ∙ taken)))
  where
    e : Entry
    e = Forget 0 (4 ∷ [])

    three : List Entry
    three = take 3 shortening_run

    at_t : IsAtPairs t
    at_t = stays_at_pairs s t at turn.sees.same

    legal : IsLegal pairs 1 2 makes.before
    legal =
        (legal-parts pairs 1 2 makes.before (e ∷ []) (initial_state pairs)
        (subst (λ (k : Cnf × ℕ × ℕ × List Entry). IsLegal k.0 k.1 k.2 k.3)
        (λ i. (at_t.formula i, at_t.reducers i, at_t.capacity i, makes.ends i)) turn.sees.legal)).0

    own : entries_of three 0 ≡ entries_of makes.before 0
    own =
        let last : t.actor ≡ 0 = turn.sees.same.actor ∙ first in
        let grown : entries_of (makes.before ++ e ∷ []) 0 ≡ entries_of makes.before 0 ++ e ∷ [] =
        by_this actor_of makes.before e 0 refl in
        sym (append_cancel_right (entries_of makes.before 0) (entries_of three 0) (e ∷ [])
        (sym grown ∙ ap (λ l. entries_of l 0) (sym makes.ends) ∙ ap (entries_of t.seen) (sym last) ∙ makes.own
        ∙ ap (λ (k : List Entry × ℕ). entries_of k.0 k.1 ++ e ∷ []) (λ i. (seen i, first i))))

    part : part_after pairs 1 2 makes.before 0 ≡ part_after pairs 1 2 three 0
    part =
        sym (own-part-stays pairs 1 2 0 three makes.before record {
          legal = three_legal;
          legal_later = legal;
          begins = subst (λ l. IsPrefix l makes.before) seen makes.begins;
          own = own;
        }).0

    now : state_of pairs 1 2 t.seen ≡ after pairs 1 2 (state_of pairs 1 2 makes.before) e
    now = ap (state_of pairs 1 2) makes.ends ∙ state-append pairs 1 2 makes.before (e ∷ []) (initial_state pairs)

    held : has 5 (part_after pairs 1 2 t.seen 0).held ≡ true
    held = ap (λ (x : State). has 5 (x.held 0)) now
        ∙ ap (λ (p : Part). has 5 (filter (λ q. not (has q (4 ∷ []))) p.held ++ [])) part

    idle : (part_after pairs 1 2 t.seen 0).taken ≡ None
    idle = ap (λ (x : State). x.taken 0) now ∙ ap (λ (p : Part). p.taken) part

-- the reducer that has taken a clause may give its part `1 2` back, by what it holds after the searching thread let its
-- clauses go, of which its own part does not depend
pub pair_fourth : (h : Handle) → IsAtPairs h → h.actor ≡ 1 → h.seen ≡ take 3 shortening_run ++ Take h.actor ∷ []
    → Enables h (Return h.actor (Shorter (plus 1 ∷ plus 2 ∷ []) (1 ∷ [])))
pair_fourth h at actor seen =
    at_seat h pairs 1 2 1 (take 4 shortening_run) (λ n. Return n (Shorter (plus 1 ∷ plus 2 ∷ []) (1 ∷ []))) at.formula
    at.reducers at.capacity actor (seen ∙ ap (λ n. take 3 shortening_run ++ Take n ∷ []) actor) able
  where
    able : IsEnabled pairs 1 2 (take 4 shortening_run) give_pair
    able =
        (enabled-stays pairs 1 2 (take 4 shortening_run) taken_run give_pair record {
          legal = begins-legally (take 4 shortening_run) (drop 4 shortening_run, refl);
          legal_later = begins-legally taken_run (drop 6 shortening_run, refl);
          begins = (drop 4 taken_run, refl);
          own = refl;
        }).1 shortening-run-is-legal.0.1.1.1.1.1.1.0.able
