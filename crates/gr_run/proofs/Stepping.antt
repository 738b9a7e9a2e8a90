-- one step: the search asks, the exchange answers, and the search may be told
use Rattle.std.proofs.Common.{◌≡◌, ◌≤◌, ◌<◌, ◌+◌, inl, inr, ◌||◌, ℕ, Bool, true, false, ◌∙◌, List, [], ◌∷◌, ◌++◌, length, Option, Some, None, refl, sym, ap, subst, arith, nat_eq, if◌then◌else◌, option_to_list}
use Rattle.std.specs.List.{list_any, filter}
use Rattle.std.proofs.Math.Arith.{lt_of_le-ne}
use Rattle.std.proofs.lemmas.List.Folds.{list_any-append}
use Rattle.std.proofs.lemmas.List.Elements.{filter-append}
use Rattle.std.proofs.lemmas.List.{length-append}
use Rattle.gr_logic.specs.Literals.{Literal}
use Rattle.gr_logic.specs.Formulas.{Cnf}
use Rattle.gr_logic.specs.Rup.{members, Live}
use Rattle.gr_logic.specs.Closure.{family_of}
use Rattle.gr_diary.specs.declared.entries.Entry.{Entry}
use Rattle.gr_diary.specs.declared.entries.Entry.TheVariants as entry
use Rattle.gr_diary.specs.Entries.{actor_of, is_close, is_learn, adds_empty}
use Rattle.gr_diary.specs.States.{has}
use Rattle.gr_diary.specs.HoldingLaws as diary
use Rattle.gr_diary.specs.Histories.{IsLegal, IsClosed, AddsEmptyClause, state_of, clauses_held_by, learn_count, IsEnabled}
use Rattle.gr_diary.specs.SearchRules.{forget_count, is_solver_forget}
use Rattle.gr_diary.specs.Tallies.{Tally, next_tally}
use Rattle.gr_diary.proofs.Holding.{held-clauses-change}
use Rattle.gr_diary.proofs.Tallies.{tally-push, one-more}
use Rattle.gr_search.specs.declared.asks.Ask.{Ask}
use Rattle.gr_search.specs.declared.asks.Ask.TheVariants as ask
use Rattle.gr_search.specs.declared.asks.Told.{Told}
use Rattle.gr_search.specs.declared.asks.Told.TheVariants.{Start, Id, Imported, Drained, Forgotten, Closed}
use Rattle.gr_search.specs.Filters.{OffersLow}
use Rattle.gr_search.specs.Searches.{Learning, Deriving, Importing, Forgetting, SearchView, held_family}
use Rattle.gr_search.specs.Tellings.{Answers, held_then, tally_then, adds_clause, lets_go, is_open, without_id, IsNewId}
use Rattle.gr_search.specs.Turns.{asked_by, entry_of, told_to, IsTurn, IsLearning, IsRefuted, IsSpent, IsOfferedBy, AsksInTime}
use Rattle.gr_bench.specs.Answers.{IsFirstResult}
use Rattle.gr_run.specs.Moves.{IsReached, IsToldOf}
use Rattle.gr_run.specs.Driving.{IsDriven}
use Rattle.gr_run.proofs.Sets.{family-with, family-without, family-without_id}
use Rattle.gr_run.proofs.Holding.{held-learnt, held-derived, held-forgotten, held-imported}
use Rattle.gr_run.proofs.Others.{FitsRules, fits-where, rules-push, learns-are}
use Rattle.gr_run.proofs.Waiting.{IsAsking, turned, reached}
use Rattle.gr_run.proofs.Asking.{asked-is-enabled, asked-fits}
use Rattle.gr_run.proofs.Telling.{next-is-new, may-be-imported}

or-none : (b : Bool) → (b || false) ≡ b
or-none true = refl
or-none false = refl

-- a history that is closed but not by the searching thread adds the empty clause
pub closed-by-empty : (d : List Entry) → IsClosed d → list_any is_close d ≡ false → AddsEmptyClause d
closed-by-empty [] closed unclosed = closed
closed-by-empty (e ∷ es) closed unclosed = pick (is_close e) (adds_empty e) closed unclosed (closed-by-empty es)
  where
    pick : (c a : Bool) → ((c || a) || list_any (λ x. is_close x || adds_empty x) es) ≡ true
        → (c || list_any is_close es) ≡ false
        → (IsClosed es → list_any is_close es ≡ false → AddsEmptyClause es) → (a || list_any adds_empty es) ≡ true
    pick true a closed unclosed rest = absurd (cc)
    pick false true closed unclosed rest = refl
    pick false false closed unclosed rest = rest closed unclosed

pub one-more-forget : (d : List Entry) (e : Entry) → is_solver_forget e ≡ false
    → forget_count (d ++ e ∷ []) ≡ forget_count d
one-more-forget d e not = ap length (filter-append is_solver_forget d (e ∷ []))
    ∙ length-append (filter is_solver_forget d) (filter is_solver_forget (e ∷ []))
    ∙ ap (λ b. length (filter is_solver_forget d) + length (if b then e ∷ [] else [])) not
    ∙ omega arith

module _ (f : Cnf) (reducers capacity limit : ℕ) (keep_all : Bool) where
  -- the searching thread's own entry, which goes on
  record Own (p : List Entry) (v : SearchView) (a : Ask) (told : Told) (e : Entry) : Type 0 where
    fits : FitsRules f reducers capacity p e
    mine : actor_of e ≡ 0
    goes_on : is_close e ≡ false
    forgets : keep_all ≡ true → is_solver_forget e ≡ false
    answers : Answers v told
    held : (look : Live) (q : ℕ) → ((id : ℕ) → held_family v.held id ≡ family_of look id)
        → held_family (held_then v.held v.asked told) q
        ≡ family_of (diary.held_then (state_of f reducers capacity p) e look) q
    tally : tally_then v.tally v.asked told ≡ next_tally v.tally e
    refuted : IsRefuted v told → adds_empty e ≡ true
    learning : is_learn e ≡ true → (c : List Literal) × IsLearning v c × ((id : ℕ) × (told ≡ Id id))

  own : (p : List Entry) (v : SearchView) (a : Ask) (told : Told) (e : Entry)
      → IsAsking f reducers capacity limit keep_all p v a → Own p v a told e
      → IsLegal f reducers capacity (p ++ e ∷ [])
      → IsDriven f reducers capacity limit keep_all (p ++ e ∷ []) v told
  own p v a told e asking o legal = record {
    legal = legal;
    rules = rules-push f reducers capacity p e asking.rules o.fits;
    unclosed = list_any-append is_close p (e ∷ []) ∙ (λ i. asking.unclosed i || (o.goes_on i || false));
    answers = o.answers;
    followed = record {
      formula = asking.followed.formula;
      held = λ id. o.held (clauses_held_by f reducers capacity p 0) id asking.followed.held
          ∙ ap (λ actor. family_of (diary.held_then (state_of f reducers capacity p) e
          (clauses_held_by f reducers capacity p actor)) id) (sym o.mine)
          ∙ ap (Rattle.std.specs.Option.option_map members)
          (sym (held-clauses-change f reducers capacity p e legal id))
          ∙ ap (λ actor. family_of (clauses_held_by f reducers capacity (p ++ e ∷ []) actor) id) o.mine;
      tally = o.tally ∙ ap (λ t. next_tally t e) asking.followed.tally ∙ sym (tally-push p e);
    };
    limited = asking.limited;
    keeping = asking.keeping;
    kept = λ is. one-more-forget p e (o.forgets is) ∙ asking.kept is;
    within = more (is_learn e) (learn_count p) (learn_count (p ++ e ∷ [])) (one-more is_learn p e) asking.fewer;
    fewer = one-left (is_learn e) refl;
    refuted = λ is. list_any-append adds_empty p (e ∷ []) ∙ last (list_any adds_empty p) (o.refuted is);
  }
    where
      last : (b : Bool) → adds_empty e ≡ true → (b || (adds_empty e || false)) ≡ true
      last true is = refl
      last false is = or-none (adds_empty e) ∙ is

      more : (b : Bool) (n k : ℕ) → k ≡ (if b then n + 1 else n) → n < limit → k ≤ limit
      more true n k is fewer = omega arith
      more false n k is fewer = omega arith

      tally-is : (tally_then v.tally v.asked told).learns ≡ learn_count (p ++ e ∷ [])
      tally-is = ap (λ (t : Tally). t.learns)
          (o.tally ∙ ap (λ t. next_tally t e) asking.followed.tally ∙ sym (tally-push p e))
          ∙ learns-are (p ++ e ∷ [])

      -- behind a learnt clause no more may come only where this ends the search
      one-left : (b : Bool) → is_learn e ≡ b → ¬ IsSpent v told → ¬ IsRefuted v told
          → learn_count (p ++ e ∷ []) < limit
      one-left true is unspent unrefuted =
          let l = o.learning is in
          lt_of_le-ne
          (more (is_learn e) (learn_count p) (learn_count (p ++ e ∷ [])) (one-more is_learn p e) asking.fewer)
          (λ full. unspent (record {
            clause = l.0;
            learning = l.1;
            some = λ none. unrefuted (inr (subst (IsLearning v) none l.1, l.2));
            id = l.2.0;
            told_id = l.2.1;
            full = tally-is ∙ full ∙ sym asking.limited;
          }))
      one-left false is unspent unrefuted = subst (λ n. n < limit)
          (sym (one-more is_learn p e ∙ ap (λ b. if b then learn_count p + 1 else learn_count p) is)) asking.fewer

  learnt-empty : (v : SearchView) (c : List Literal) (lbd : ℕ) (hints : List ℕ) (offered : Bool) (id : ℕ)
      → v.asked ≡ Learning c lbd → IsRefuted v (Id id) → adds_empty (entry.Learn c hints lbd offered) ≡ true
  learnt-empty v c lbd hints offered id asked (inl closed) = absurd (cc closed)
  learnt-empty v c lbd hints offered id asked (inr learning) =
      let same : Learning c lbd ≡ Learning [] learning.0.0 = sym asked ∙ learning.0.1 in
      let none : c ≡ [] = cc in
      ap Rattle.gr_logic.specs.Log.is_empty none

  own-learn : (p : List Entry) (v : SearchView) (c : List Literal) (hints : List ℕ) (lbd : ℕ) (offered : Bool) (id : ℕ)
      → FitsRules f reducers capacity p (entry.Learn c hints lbd offered)
      → v.asked ≡ Learning c lbd → id ≡ (state_of f reducers capacity p).next → IsNewId v id
      → Own p v (ask.Learn c hints lbd offered) (Id id) (entry.Learn c hints lbd offered)
  own-learn p v c hints lbd offered id fits asked is new = record {
    fits = fits;
    mine = refl;
    goes_on = refl;
    forgets = λ _. refl;
    answers = (ap adds_clause asked, new);
    held = λ look q same. ap (λ x. held_family (held_then v.held x (Id id)) q) asked
        ∙ family-with v.held id c q
        ∙ (λ i. if nat_eq q (is i) then Some (members c) else same q i)
        ∙ sym (held-learnt (state_of f reducers capacity p) c hints lbd offered look q);
    tally = ap (λ x. tally_then v.tally x (Id id)) asked;
    refuted = learnt-empty v c lbd hints offered id asked;
    learning = λ _. (c, (lbd, asked), (id, refl));
  }

  own-unit : (p : List Entry) (v : SearchView) (l : Literal) (hints : List ℕ) (id : ℕ)
      → FitsRules f reducers capacity p (entry.Unit 0 l hints)
      → v.asked ≡ Deriving l → id ≡ (state_of f reducers capacity p).next → IsNewId v id
      → Own p v (ask.Unit l hints) (Id id) (entry.Unit 0 l hints)
  own-unit p v l hints id fits asked is new = record {
    fits = fits;
    mine = refl;
    goes_on = refl;
    forgets = λ _. refl;
    answers = (ap adds_clause asked, new);
    held = λ look q same. ap (λ x. held_family (held_then v.held x (Id id)) q) asked
        ∙ family-with v.held id (l ∷ []) q
        ∙ (λ i. if nat_eq q (is i) then Some (members (l ∷ [])) else same q i)
        ∙ sym (held-derived (state_of f reducers capacity p) l hints look q);
    tally = ap (λ x. tally_then v.tally x (Id id)) asked;
    refuted = no-empty;
    learning = λ is. absurd (cc is);
  }
    where
      no-empty : IsRefuted v (Id id) → adds_empty (entry.Unit 0 l hints) ≡ true
      no-empty (inl closed) = absurd (cc closed)
      no-empty (inr learning) =
          let same : Deriving l ≡ Learning [] learning.0.0 = sym asked ∙ learning.0.1 in absurd (cc same)

  -- where a search imports, nothing that it is told ends it
  not-learning : {A : Type 0} (v : SearchView) → v.asked ≡ Importing → IsLearning v [] → A
  not-learning v asked learning =
      let same : Importing ≡ Learning [] learning.0 = sym asked ∙ learning.1 in absurd (cc same)

  own-import : (p : List Entry) (v : SearchView) (old : Option ℕ) (new : ℕ) (c : List Literal)
      → IsAsking f reducers capacity limit keep_all p v ask.Import
      → IsFirstResult (state_of f reducers capacity p) old new c
      → Own p v ask.Import (Imported old new c) entry.Import
  own-import p v old new c asking r = record {
    fits = fits-where f reducers capacity p entry.Import tt tt refl refl;
    mine = refl;
    goes_on = refl;
    forgets = λ _. refl;
    answers = (asking.asked, may-be-imported f reducers capacity p v asking.legal asking.followed old new c r);
    held = λ look q same. family-with (without_id v.held old) new c q
        ∙ (λ i. if nat_eq q new then Some (members c)
        else (family-without_id old v.held q ∙ (λ j. if has q (option_to_list old) then None else same q j)) i)
        ∙ sym (held-imported (state_of f reducers capacity p) old new c r.later look q r.first r.clause);
    tally = refl;
    refuted = no-empty;
    learning = λ is. absurd (cc is);
  }
    where
      no-empty : IsRefuted v (Imported old new c) → adds_empty entry.Import ≡ true
      no-empty (inl closed) = absurd (cc closed)
      no-empty (inr learning) = not-learning v asking.asked learning.0

  own-drained : (p : List Entry) (v : SearchView) → IsAsking f reducers capacity limit keep_all p v ask.Import
      → Own p v ask.Import Drained entry.Drained
  own-drained p v asking = record {
    fits = fits-where f reducers capacity p entry.Drained tt tt refl refl;
    mine = refl;
    goes_on = refl;
    forgets = λ _. refl;
    answers = asking.asked;
    held = λ look q same. same q;
    tally = refl;
    refuted = no-empty;
    learning = λ is. absurd (cc is);
  }
    where
      no-empty : IsRefuted v Drained → adds_empty entry.Drained ≡ true
      no-empty (inl closed) = absurd (cc closed)
      no-empty (inr learning) = not-learning v asking.asked learning.0

  own-forget : (p : List Entry) (v : SearchView) (ids : List ℕ)
      → IsAsking f reducers capacity limit keep_all p v (ask.Forget ids)
      → FitsRules f reducers capacity p (entry.Forget 0 ids) → v.keep_all ≡ false
      → Own p v (ask.Forget ids) Forgotten (entry.Forget 0 ids)
  own-forget p v ids asking fits may = record {
    fits = fits;
    mine = refl;
    goes_on = refl;
    forgets = λ is. let same = asking.keeping in absurd (cc (is, same, may));
    answers = ap lets_go asking.asked;
    held = λ look q same. ap (λ x. held_family (held_then v.held x Forgotten) q) asking.asked
        ∙ family-without ids v.held q ∙ (λ i. if has q ids then None else same q i)
        ∙ sym (held-forgotten (state_of f reducers capacity p) ids look q);
    tally = refl;
    refuted = no-empty;
    learning = λ is. absurd (cc is);
  }
    where
      no-empty : IsRefuted v Forgotten → adds_empty (entry.Forget 0 ids) ≡ true
      no-empty (inl closed) = absurd (cc closed)
      no-empty (inr learning) =
          let same : Forgetting ids ≡ Learning [] learning.0.0 = sym asking.asked ∙ learning.0.1 in absurd (cc same)

  -- the history is closed
  closed : (p : List Entry) (v : SearchView) (a : Ask) → IsAsking f reducers capacity limit keep_all p v a
      → is_open (asked_by a) ≡ true → IsClosed p → IsDriven f reducers capacity limit keep_all p v Closed
  closed p v a asking open' ended = record {
    legal = asking.legal;
    rules = asking.rules;
    unclosed = asking.unclosed;
    answers = ap is_open asking.asked ∙ open';
    followed = record {
      formula = asking.followed.formula;
      held = asking.followed.held;
      tally = asking.followed.tally;
    };
    limited = asking.limited;
    keeping = asking.keeping;
    kept = asking.kept;
    within = omega (arith, asking.fewer);
    fewer = λ _ _. asking.fewer;
    refuted = λ _. closed-by-empty p ended asking.unclosed;
  }

  -- what is told answers an ask
  told-is-open : (d after : List Entry) (a : Ask) (told : Told) → IsToldOf f reducers capacity d a told after
      → is_open (asked_by a) ≡ true
  told-is-open d after a Start answered = absurd answered
  told-is-open d after (ask.Learn c hints lbd offered) (Id id) answered = refl
  told-is-open d after (ask.Unit l hints) (Id id) answered = refl
  told-is-open d after ask.Import (Id id) answered = refl
  told-is-open d after (ask.Forget ids) (Id id) answered = refl
  told-is-open d after (ask.Done found) (Id id) answered = answered.0
  told-is-open d after a (Imported old new c) answered = ap (λ x. is_open (asked_by x)) answered.0
  told-is-open d after a Drained answered = ap (λ x. is_open (asked_by x)) answered.0
  told-is-open d after (ask.Learn c hints lbd offered) Forgotten answered = refl
  told-is-open d after (ask.Unit l hints) Forgotten answered = refl
  told-is-open d after ask.Import Forgotten answered = refl
  told-is-open d after (ask.Forget ids) Forgotten answered = refl
  told-is-open d after (ask.Done found) Forgotten answered = answered.0
  told-is-open d after a Closed answered = answered.0

  -- the step
  module _ (post : ℕ → ℕ → Bool → Type 0) (low : OffersLow post) (d after : List Entry) (old : SearchView) (was : Told)
      (v : SearchView)
    where
      pub step : (a : Ask) (told : Told) → IsDriven f reducers capacity limit keep_all d old was → IsTurn old was a v
          → IsOfferedBy post a → IsToldOf f reducers capacity d a told after
          → IsDriven f reducers capacity limit keep_all after v told
      step a told driven turn offers answered =
          let goes = turn.goes_on (told-is-open d after a told answered) in
          by a told
          (turned f reducers capacity limit keep_all d old was a v driven turn (told-is-open d after a told answered))
          goes.fresh goes.in_time offers answered
        where
          by : (a : Ask) (told : Told) → IsAsking f reducers capacity limit keep_all d v a
              → Rattle.gr_search.specs.Turns.AsksFresh v a → AsksInTime v a → IsOfferedBy post a
              → IsToldOf f reducers capacity d a told after → IsDriven f reducers capacity limit keep_all after v told
          by a Start asking fresh in_time offers answered = absurd answered
          by (ask.Learn c hints lbd offered) (Id id) asking fresh in_time offers answered =
              let at : IsAsking f reducers capacity limit keep_all answered.1.place v (ask.Learn c hints lbd offered) =
              reached f reducers capacity limit keep_all d answered.1.place v (ask.Learn c hints lbd offered) asking
              answered.1.reached in
              let new : IsNewId v id = subst (IsNewId v) (sym answered.2)
              (next-is-new f reducers capacity answered.1.place v at.legal at.followed) in
              subst (λ z. IsDriven f reducers capacity limit keep_all z v (Id id)) answered.1.splits
              (own answered.1.place v (ask.Learn c hints lbd offered) (Id id) (entry.Learn c hints lbd offered) at
              (own-learn answered.1.place v c hints lbd offered id
              (asked-fits f reducers capacity answered.1.place v at.legal at.followed post low
              (ask.Learn c hints lbd offered) fresh in_time offers)
              at.asked answered.2 new)
              (subst (IsLegal f reducers capacity) (sym answered.1.splits) answered.1.legal))
          by (ask.Unit l hints) (Id id) asking fresh in_time offers answered =
              let at : IsAsking f reducers capacity limit keep_all answered.1.place v (ask.Unit l hints) =
              reached f reducers capacity limit keep_all d answered.1.place v (ask.Unit l hints) asking
              answered.1.reached in
              let new : IsNewId v id = subst (IsNewId v) (sym answered.2)
              (next-is-new f reducers capacity answered.1.place v at.legal at.followed) in
              subst (λ z. IsDriven f reducers capacity limit keep_all z v (Id id)) answered.1.splits
              (own answered.1.place v (ask.Unit l hints) (Id id) (entry.Unit 0 l hints) at
              (own-unit answered.1.place v l hints id
              (asked-fits f reducers capacity answered.1.place v at.legal at.followed post low
              (ask.Unit l hints) fresh in_time offers)
              at.asked answered.2 new)
              (subst (IsLegal f reducers capacity) (sym answered.1.splits) answered.1.legal))
          by ask.Import (Id id) asking fresh in_time offers answered = absurd (let no = answered.0 in cc)
          by (ask.Forget ids) (Id id) asking fresh in_time offers answered = absurd (let no = answered.0 in cc)
          by (ask.Done found) (Id id) asking fresh in_time offers answered = absurd (let no = answered.0 in cc)
          by a (Imported stands new c) asking fresh in_time offers answered =
              let import : IsAsking f reducers capacity limit keep_all d v ask.Import =
              subst (IsAsking f reducers capacity limit keep_all d v) answered.0 asking in
              let at : IsAsking f reducers capacity limit keep_all answered.1.place v ask.Import =
              reached f reducers capacity limit keep_all d answered.1.place v ask.Import import
              answered.1.reached in
              subst (λ z. IsDriven f reducers capacity limit keep_all z v (Imported stands new c)) answered.1.splits
              (own answered.1.place v ask.Import (Imported stands new c) entry.Import at
              (own-import answered.1.place v stands new c at answered.2)
              (subst (IsLegal f reducers capacity) (sym answered.1.splits) answered.1.legal))
          by a Drained asking fresh in_time offers answered =
              let import : IsAsking f reducers capacity limit keep_all d v ask.Import =
              subst (IsAsking f reducers capacity limit keep_all d v) answered.0 asking in
              let at : IsAsking f reducers capacity limit keep_all answered.1.place v ask.Import =
              reached f reducers capacity limit keep_all d answered.1.place v ask.Import import
              answered.1.reached in
              subst (λ z. IsDriven f reducers capacity limit keep_all z v Drained) answered.1.splits
              (own answered.1.place v ask.Import Drained entry.Drained at (own-drained answered.1.place v at)
              (subst (IsLegal f reducers capacity) (sym answered.1.splits) answered.1.legal))
          by (ask.Forget ids) Forgotten asking fresh in_time offers answered =
              let at : IsAsking f reducers capacity limit keep_all answered.1.place v (ask.Forget ids) =
              reached f reducers capacity limit keep_all d answered.1.place v (ask.Forget ids) asking
              answered.1.reached in
              subst (λ z. IsDriven f reducers capacity limit keep_all z v Forgotten) answered.1.splits
              (own answered.1.place v (ask.Forget ids) Forgotten (entry.Forget 0 ids) at
              (own-forget answered.1.place v ids at
              (asked-fits f reducers capacity answered.1.place v at.legal at.followed post low
              (ask.Forget ids) fresh in_time offers)
              in_time.0)
              (subst (IsLegal f reducers capacity) (sym answered.1.splits) answered.1.legal))
          by (ask.Learn c hints lbd offered) Forgotten asking fresh in_time offers answered =
              absurd (let no = answered.0 in cc)
          by (ask.Unit l hints) Forgotten asking fresh in_time offers answered = absurd (let no = answered.0 in cc)
          by ask.Import Forgotten asking fresh in_time offers answered = absurd (let no = answered.0 in cc)
          by (ask.Done found) Forgotten asking fresh in_time offers answered = absurd (let no = answered.0 in cc)
          by a Closed asking fresh in_time offers answered =
              closed after v a (reached f reducers capacity limit keep_all d after v a asking answered.1) answered.0
              answered.2

  -- what is asked may be asked, wherever others came between
  pub may-ask : (d p : List Entry) (old : SearchView) (was : Told) (a : Ask) (v : SearchView)
      → IsDriven f reducers capacity limit keep_all d old was → IsTurn old was a v → IsReached f reducers capacity d p
      → IsEnabled f reducers capacity p (entry_of a)
  may-ask d p old was a v driven turn r = by a turn
    where
      going : (a : Ask) → IsTurn old was a v → is_open (asked_by a) ≡ true
          → IsEnabled f reducers capacity p (entry_of a)
      going a turn open' =
          let goes = turn.goes_on open' in
          let asking = turned f reducers capacity limit keep_all d old was a v driven turn open' in
          let at = reached f reducers capacity limit keep_all d p v a asking r in
          asked-is-enabled f reducers capacity p v at.legal at.followed a goes.lawful

      by : (a : Ask) → IsTurn old was a v → IsEnabled f reducers capacity p (entry_of a)
      by (ask.Learn c hints lbd offered) turn = going (ask.Learn c hints lbd offered) turn refl
      by (ask.Unit l hints) turn = going (ask.Unit l hints) turn refl
      by ask.Import turn = going ask.Import turn refl
      by (ask.Forget ids) turn = going (ask.Forget ids) turn refl
      by (ask.Done found) turn = tt
