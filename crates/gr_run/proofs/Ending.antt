-- how a run ends
use Rattle.std.proofs.Common.{◌≡◌, ◌≤◌, ℕ, Bool, true, false, ◌||◌, ◌∙◌, List, [], ◌∷◌, ◌++◌, append-nil, refl, sym, ap, subst}
use Rattle.std.specs.List.{list_any}
use mathlib.Core.List.{IsPrefix}
use Rattle.std.proofs.lemmas.List.Folds.{list_any-append}
use Rattle.gr_logic.specs.Formulas.{Cnf}
use Rattle.gr_diary.specs.declared.entries.Entry.{Entry}
use Rattle.gr_diary.specs.declared.entries.Entry.TheVariants as entry
use Rattle.gr_diary.specs.Entries.{is_close, is_learn, adds_empty}
use Rattle.gr_diary.specs.Histories.{IsLegal, IsClosed, AddsEmptyClause, learn_count}
use Rattle.gr_diary.specs.SearchRules.{forget_count}
use Rattle.gr_diary.proofs.Ends.{histories-grow, states-tell-the-end, nothing-follows-the-end}
use Rattle.gr_diary.proofs.Tallies.{one-more}
use Rattle.gr_search.specs.declared.asks.Ask.TheVariants as ask
use Rattle.gr_search.specs.declared.asks.Found.{Found}
use Rattle.gr_search.specs.declared.asks.Found.TheVariants.{Refuted}
use Rattle.gr_search.specs.declared.asks.Told.{Told}
use Rattle.gr_search.specs.Searches.{SearchView}
use Rattle.gr_search.specs.Turns.{IsTurn}
use Rattle.gr_run.specs.Moves.{IsReached, IsContinued}
use Rattle.gr_run.specs.Driving.{KeepsRules, IsDriven}
use Rattle.gr_run.specs.Runs.{IsUnderway, IsFound, IsEnded, IsRun}
use Rattle.gr_run.proofs.Others.{fits-where, rules-push, rules-reached, unclosed-reached, forgets-reached, learns-are, learns-reached}
use Rattle.gr_run.proofs.Stepping.{closed-by-empty, one-more-forget}

or-none : (b : Bool) → (b || false) ≡ b
or-none true = refl
or-none false = refl

pub empty-before : (d : List Entry) → AddsEmptyClause (d ++ entry.Close ∷ []) → AddsEmptyClause d
empty-before d e = sym (or-none (list_any adds_empty d)) ∙ sym (list_any-append adds_empty d (entry.Close ∷ [])) ∙ e

-- a closed history is the whole of each legal one that begins with it
pub whole : (f : Cnf) (reducers capacity : ℕ) (d e : List Entry) → IsPrefix d e → IsClosed d
    → IsLegal f reducers capacity e → d ≡ e
whole f reducers capacity d e begins closed legal = by begins.0 begins.1
  where
    by : (rest : List Entry) → d ++ rest ≡ e → d ≡ e
    by [] same = sym (append-nil d) ∙ same
    by (x ∷ xs) same = absurd (nothing-follows-the-end f reducers capacity d x xs closed
        (subst (IsLegal f reducers capacity) (sym same) legal))

-- who adds the empty clause is closed
pub closed-by : (d : List Entry) → AddsEmptyClause d → IsClosed d
closed-by [] e = e
closed-by (x ∷ xs) e = pick (is_close x) (adds_empty x) e (closed-by xs)
  where
    pick : (c a : Bool) → (a || list_any adds_empty xs) ≡ true → (AddsEmptyClause xs → IsClosed xs)
        → ((c || a) || list_any (λ x. is_close x || adds_empty x) xs) ≡ true
    pick true a e rest = refl
    pick false true e rest = refl
    pick false false e rest = rest e

module _ (f : Cnf) (reducers capacity limit : ℕ) (keep_all : Bool) where
  pub underway : (d : List Entry) (v : SearchView) (told : Told)
      → IsDriven f reducers capacity limit keep_all d v told → IsUnderway f reducers capacity limit keep_all d
  underway d v told driven = record {
    legal = driven.legal;
    rules = driven.rules;
    unclosed = driven.unclosed;
    kept = driven.kept;
    within = driven.within;
  }

  pub underway-reached : (d p : List Entry) → IsUnderway f reducers capacity limit keep_all d
      → IsReached f reducers capacity d p → IsUnderway f reducers capacity limit keep_all p
  underway-reached d p u r = record {
    legal = r.legal;
    rules = rules-reached f reducers capacity d p r u.rules;
    unclosed = unclosed-reached f reducers capacity d p r u.unclosed;
    kept = λ is. forgets-reached f reducers capacity d p r ∙ u.kept is;
    within = subst (λ n. n ≤ limit) (sym (learns-reached f reducers capacity d p r)) u.within;
  }

  -- a search that is done found what it says
  pub found : (d : List Entry) (v : SearchView) (told : Told) (what : Found) (new : SearchView)
      → IsDriven f reducers capacity limit keep_all d v told → IsTurn v told (ask.Done what) new
      → IsFound f reducers capacity limit keep_all d what
  found d v told what new driven turn = record {
    underway = underway d v told driven;
    refuted = λ is. driven.refuted (turn.ends.refuted.0 (ap ask.Done is));
    spent = λ is. let spent = turn.ends.spent.0 (ap ask.Done is) in
        sym (learns-are d) ∙ sym (ap (λ (t : Rattle.gr_diary.specs.Tallies.Tally). t.learns) driven.followed.tally)
        ∙ spent.full ∙ driven.limited;
    model = λ m is. let meets = turn.ends.model m (ap ask.Done is) in record {
      length = meets.length ∙ ap (λ (g : Cnf). g.vars) driven.followed.formula;
      meets = subst (λ (g : Cnf). Rattle.gr_logic.specs.Truth.MeetsAll m g.clauses) driven.followed.formula meets.meets;
    };
  }

  -- the searching thread ends the history
  module _ (d after : List Entry) (c : IsContinued f reducers capacity d entry.Close after)
      (u : IsUnderway f reducers capacity limit keep_all d)
    where
      at : IsUnderway f reducers capacity limit keep_all c.place
      at = underway-reached d c.place u c.reached

      learns-after : learn_count after ≡ learn_count c.place
      learns-after = ap learn_count (sym c.splits) ∙ one-more is_learn c.place entry.Close

      pub ended-by-close : IsEnded f reducers capacity limit keep_all after
      ended-by-close = record {
        legal = c.legal;
        rules = subst (KeepsRules f reducers capacity) c.splits
            (rules-push f reducers capacity c.place entry.Close at.rules
            (fits-where f reducers capacity c.place entry.Close tt tt refl refl));
        closed = ap (list_any (λ x. is_close x || adds_empty x)) (sym c.splits)
            ∙ list_any-append (λ x. is_close x || adds_empty x) c.place (entry.Close ∷ [])
            ∙ or-true (list_any (λ x. is_close x || adds_empty x) c.place);
        kept = λ is. ap forget_count (sym c.splits) ∙ one-more-forget c.place entry.Close refl ∙ at.kept is;
        within = subst (λ n. n ≤ limit) (sym learns-after) at.within;
      }
        where
          or-true : (b : Bool) → (b || true) ≡ true
          or-true true = refl
          or-true false = refl

      -- nothing before it adds the empty clause
      no-empty : AddsEmptyClause c.place → true ≡ false
      no-empty adds =
          let grown = (histories-grow f reducers capacity c.place entry.Close).0.0
          (subst (IsLegal f reducers capacity) (sym c.splits) c.legal) in
          sym ((states-tell-the-end f reducers capacity c.place).0.1 (closed-by c.place adds)) ∙ grown.1.still_open

      empty-at : AddsEmptyClause d → AddsEmptyClause c.place
      empty-at adds = ap (list_any adds_empty) (sym c.reached.splits)
          ∙ list_any-append adds_empty d c.reached.between ∙ (λ i. adds i || list_any adds_empty c.reached.between)

      pub run-by-close : (what : Found) → IsFound f reducers capacity limit keep_all d what
          → IsRun f reducers capacity limit keep_all after what
      run-by-close what found = record {
        ended = ended-by-close;
        refuted = (
          λ is. absurd (let no = no-empty (empty-at (found.refuted is)) in cc no),
          λ adds. absurd (let no = no-empty (empty-before c.place (subst AddsEmptyClause (sym c.splits) adds)) in
              cc no),
        );
        spent = λ is. learns-after ∙ learns-reached f reducers capacity d c.place c.reached ∙ found.spent is;
        model = found.model;
      }

  -- the history was closed before
  module _ (d after : List Entry) (r : IsReached f reducers capacity d after) (closed : IsClosed after)
      (u : IsUnderway f reducers capacity limit keep_all d)
    where
      abbrev at-end : IsUnderway f reducers capacity limit keep_all after
      at-end = underway-reached d after u r

      pub ended-before : IsEnded f reducers capacity limit keep_all after
      ended-before = record {
        legal = at-end.legal;
        rules = at-end.rules;
        closed = closed;
        kept = at-end.kept;
        within = at-end.within;
      }

      pub run-ended-before : IsRun f reducers capacity limit keep_all after Refuted
      run-ended-before = record {
        ended = ended-before;
        refuted = (λ _. closed-by-empty after closed at-end.unclosed, λ _. refl);
        spent = λ is. absurd (cc is);
        model = λ m is. absurd (cc is);
      }
