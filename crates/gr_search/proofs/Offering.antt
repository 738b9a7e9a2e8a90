-- whether a learnt clause is offered changes nothing else of a turn
use Rattle.std.proofs.Common.{◌≡◌, ℕ, ◌<◌, ◌≤◌, Bool, true, false, List, length, refl, sym, ap, ◌∙◌, subst, arith, nat_lt}
use Rattle.std.proofs.lemmas.Bool.Decides.{nat_tests}
use Rattle.gr_logic.specs.Literals.{Literal}
use Rattle.gr_search.specs.declared.asks.Ask.{Ask}
use Rattle.gr_search.specs.declared.asks.Ask.TheVariants.{Learn, Import, Forget, Done}
use Rattle.gr_search.specs.declared.asks.Ask.TheVariants as ask
use Rattle.gr_search.specs.declared.asks.Told.{Told}
use Rattle.gr_search.specs.Searches.{SearchView}
use Rattle.gr_search.specs.Turns.{IsOfferedBy, IsTurn}
use Rattle.gr_search.specs.Offers.{unoffered}

abbrev is_learn : Ask → Bool
is_learn (Learn c hints lbd offered) = true
is_learn (ask.Unit l hints) = false
is_learn Import = false
is_learn (Forget ids) = false
is_learn (Done found) = false

module _ (v w : SearchView) (told : Told) where
  -- a learnt clause of two literals may be offered or not
  learn-turn : (c : List Literal) (hints : List ℕ) (lbd : ℕ) (offered other : Bool) → (other ≡ true → 2 ≤ length c)
      → IsTurn v told (Learn c hints lbd offered) w → IsTurn v told (Learn c hints lbd other) w
  learn-turn c hints lbd offered other long turn = record {
    asked = turn.asked;
    goes_on = λ is.
        let on = turn.goes_on is in
        record {
          formula = on.formula;
          limit = on.limit;
          keep_all = on.keep_all;
          held = on.held;
          tally = on.tally;
          lawful = λ reducers part knows. let able = on.lawful reducers part knows in (able.0, able.1, long);
          fresh = on.fresh;
          in_time = on.in_time;
        };
    ends = record {
      refuted = (
        (λ is. absurd (none other _ is)),
        (λ r. absurd (none offered _ (turn.ends.refuted.1 r))),
      );
      spent = (
        (λ is. absurd (none other _ is)),
        (λ r. absurd (none offered _ (turn.ends.spent.1 r))),
      );
      model = λ m is. absurd (none other _ is);
    };
    falls = turn.falls;
  }
    where
      none : (b : Bool) (found : _) → Learn c hints lbd b ≡ Done found → ⊥
      none b found is = let e : true ≡ false = ap is_learn is in cc

  unoffered-turn : (a : Ask) → IsTurn v told a w → IsTurn v told (unoffered a) w
  unoffered-turn (Learn c hints lbd offered) turn =
      learn-turn c hints lbd offered false (λ e. absurd (cc)) turn
  unoffered-turn (ask.Unit l hints) turn = turn
  unoffered-turn Import turn = turn
  unoffered-turn (Forget ids) turn = turn
  unoffered-turn (Done found) turn = turn

  module _ (post : ℕ → ℕ → Bool → Type 0) where
    offered-as : (a : Ask) → IsOfferedBy post a → IsTurn v told (unoffered a) w → IsTurn v told a w
    offered-as (Learn c hints lbd offered) is turn =
        learn-turn c hints lbd false offered (λ e. long (nat_lt (length c) 2) refl e) turn
      where
        long : (b : Bool) → nat_lt (length c) 2 ≡ b → offered ≡ true → 2 ≤ length c
        long true low e =
            let low_too : length c < 2 = grind (arith, nat_tests) in
            let no = is.0 low_too in
            let w : false ≡ true = sym no ∙ e in absurd (cc)
        long false high e = grind (arith, nat_tests)
    offered-as (ask.Unit l hints) is turn = turn
    offered-as Import is turn = turn
    offered-as (Forget ids) is turn = turn
    offered-as (Done found) is turn = turn

    pub offered-turn : (a b : Ask) → unoffered b ≡ unoffered a → IsOfferedBy post b → IsTurn v told a w
        → IsTurn v told b w
    offered-turn a b same is turn =
        offered-as b is (subst (λ x. IsTurn v told x w) (sym same) (unoffered-turn a turn))
