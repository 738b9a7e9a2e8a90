-- a search that waits for what comes of its ask
use Rattle.std.proofs.Common.{◌≡◌, ◌<◌, ℕ, Bool, true, false, ◌∙◌, List, sym, ap, subst}
use Rattle.std.specs.List.{list_any}
use Rattle.gr_logic.specs.Formulas.{Cnf}
use Rattle.gr_diary.specs.declared.entries.Entry.{Entry}
use Rattle.gr_diary.specs.Entries.{is_close}
use Rattle.gr_diary.specs.Histories.{IsLegal, learn_count}
use Rattle.gr_diary.specs.SearchRules.{forget_count}
use Rattle.gr_search.specs.declared.asks.Ask.{Ask}
use Rattle.gr_search.specs.declared.asks.Ask.TheVariants as ask
use Rattle.gr_search.specs.declared.asks.Found.{Found}
use Rattle.gr_search.specs.declared.asks.Found.TheVariants.{Refuted, Spent}
use Rattle.gr_search.specs.declared.asks.Told.{Told}
use Rattle.gr_search.specs.Searches.{SearchView, held_family}
use Rattle.gr_search.specs.Tellings.{is_open}
use Rattle.gr_search.specs.Turns.{asked_by, IsTurn}
use Rattle.gr_run.specs.Moves.{IsReached}
use Rattle.gr_run.specs.Driving.{KeepsRules, IsFollowed, IsDriven}
use Rattle.gr_run.proofs.Others.{followed-reached, rules-reached, unclosed-reached, forgets-reached, learns-reached}

-- a search that follows the history, and was told nothing yet of its ask
pub record IsAsking (f : Cnf) (reducers capacity limit : ℕ) (keep_all : Bool) (d : List Entry) (v : SearchView)
    (a : Ask) : Type 0
  where
    pub legal : IsLegal f reducers capacity d
    pub rules : KeepsRules f reducers capacity d
    pub unclosed : list_any is_close d ≡ false
    pub followed : IsFollowed f reducers capacity d v
    pub limited : v.limit ≡ limit
    pub keeping : v.keep_all ≡ keep_all
    pub kept : keep_all ≡ true → forget_count d ≡ 0
    pub fewer : learn_count d < limit
    pub asked : v.asked ≡ asked_by a

module _ (f : Cnf) (reducers capacity limit : ℕ) (keep_all : Bool) where
  -- behind a turn the search follows the history
  pub turned : (d : List Entry) (v : SearchView) (told : Told) (a : Ask) (new : SearchView)
      → IsDriven f reducers capacity limit keep_all d v told → IsTurn v told a new → is_open (asked_by a) ≡ true
      → IsAsking f reducers capacity limit keep_all d new a
  turned d v told a new driven turn open' = let goes = turn.goes_on open' in record {
    legal = driven.legal;
    rules = driven.rules;
    unclosed = driven.unclosed;
    followed = record {
      formula = goes.formula ∙ driven.followed.formula;
      held = λ id. ap (λ h. held_family h id) goes.held ∙ driven.followed.held id;
      tally = goes.tally ∙ driven.followed.tally;
    };
    limited = goes.limit ∙ driven.limited;
    keeping = goes.keep_all ∙ driven.keeping;
    kept = driven.kept;
    fewer = driven.fewer (λ spent. not-done Spent (turn.ends.spent.1 spent))
        (λ refuted. not-done Refuted (turn.ends.refuted.1 refuted));
    asked = turn.asked;
  }
    where
      not-done : (what : Found) → a ≡ ask.Done what → ⊥
      not-done what is = let no : true ≡ false = sym open' ∙ ap (λ x. is_open (asked_by x)) is in absurd (cc no)

  -- and so where others came
  pub reached : (d p : List Entry) (v : SearchView) (a : Ask) → IsAsking f reducers capacity limit keep_all d v a
      → IsReached f reducers capacity d p → IsAsking f reducers capacity limit keep_all p v a
  reached d p v a asking r = record {
    legal = r.legal;
    rules = rules-reached f reducers capacity d p r asking.rules;
    unclosed = unclosed-reached f reducers capacity d p r asking.unclosed;
    followed = followed-reached f reducers capacity d p r v asking.followed;
    limited = asking.limited;
    keeping = asking.keeping;
    kept = λ is. forgets-reached f reducers capacity d p r ∙ asking.kept is;
    fewer = subst (λ n. n < limit) (sym (learns-reached f reducers capacity d p r)) asking.fewer;
    asked = asking.asked;
  }
