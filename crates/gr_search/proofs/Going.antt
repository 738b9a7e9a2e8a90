-- one step of a search after another
use Rattle.std.proofs.Common.{◌≡◌, ◌<◌, ◌≤◌, sym, ap, ◌∙◌, subst, arith}
use Rattle.gr_prop.specs.Bases.{BaseState, Clauses}
use Rattle.gr_prop.specs.BaseChanges.{IsGrown}
use Rattle.gr_search.specs.Counting.{CountState}
use Rattle.gr_search.specs.declared.asks.Ask.{Ask}
use Rattle.gr_search.specs.declared.asks.Told.{Told}
use Rattle.gr_search.specs.declared.solving.Solver.{Solver}
use Rattle.gr_search.specs.Keeping.{IsKept}
use Rattle.gr_search.specs.Solvers.{IsSteady}
use Rattle.gr_search.specs.TakingOver.{Stays, HasTakenOver, ClausesThen}
use Rattle.gr_search.specs.SolverTurns.{HasSearched, HasPrepared, HasGoneOn}
use Rattle.gr_search.proofs.Steady.{kept-grown}

-- propagation leaves a search steady
pub steady-grown : (s : Solver) (b : BaseState) → b.clauses ≡ s.base.clauses → IsGrown s.base.trail b.trail → IsSteady s
    → IsSteady (record s { base = b })
steady-grown s b clauses grown steady = record {
  kept = subst (λ (k : Clauses). IsKept s.vars k b.trail s.settled s.chooser) (sym clauses)
      (kept-grown s.vars s.base.clauses s.base.trail s.settled s.chooser steady.kept b.trail grown);
  analyzer = steady.analyzer;
}

pub stays-on : (old mid new : Solver) → Stays old mid → Stays mid new → Stays old new
stays-on old mid new one two = record {
  vars = two.vars ∙ one.vars;
  first_learnt = two.first_learnt ∙ one.first_learnt;
  keep_all = two.keep_all ∙ one.keep_all;
  limit = two.limit ∙ one.limit;
}

-- nothing but the base, the chooser and how many literals are settled is another
module _ (old mid new : Solver) (stays : Stays old mid) (clauses : mid.base.clauses ≡ old.base.clauses)
    (counts : mid.counts ≡ old.counts) (settled : old.settled ≤ mid.settled) where
  pub searched-on : (a : Ask) → HasSearched mid a new → HasSearched old a new
  searched-on a has = record {
    stays = stays-on old mid new stays has.stays;
    clauses = has.clauses ∙ clauses;
    counts = has.counts ∙ counts;
    settled = (let more = has.settled in omega (arith, more));
    asking = has.asking;
  }

  pub prepared-on : HasPrepared mid new → HasPrepared old new
  prepared-on has = record {
    steady = has.steady;
    stays = stays-on old mid new stays has.stays;
    clauses = has.clauses ∙ clauses;
    counts = has.counts ∙ counts;
    settled = (let more = has.settled in omega (arith, more));
    waits = has.waits;
  }

-- what was told is taken over, and then something is asked
pub gone-on : (old mid new : Solver) (told : Told) (a : Ask) → HasTakenOver old told mid → HasSearched mid a new
    → HasGoneOn old told a new
gone-on old mid new told a over has = record {
  stays = stays-on old mid new over.stays has.stays;
  clauses = subst (ClausesThen old told) (sym has.clauses) over.clauses;
  tally = ap (λ (n : CountState). n.tally) has.counts ∙ over.tally;
  settled = (let one = over.settled in let two = has.settled in omega (arith, one, two));
  more = subst (λ (n : CountState). n.tally.learns < n.limit) (sym has.counts) over.more;
  asking = has.asking;
}

-- a round of the descent, which ends with an ask
pub searched-round : (old l : Solver) (b : BaseState) (new : Solver) (a : Ask) → Stays old l
    → l.base.clauses ≡ old.base.clauses → l.counts ≡ old.counts → l.settled ≡ old.settled → b.clauses ≡ l.base.clauses
    → HasSearched (record l { base = b }) a new → HasSearched old a new
searched-round old l b new a stays clauses counts settled same has =
    searched-on old (record l { base = b }) new
    (record {
      vars = stays.vars;
      first_learnt = stays.first_learnt;
      keep_all = stays.keep_all;
      limit = stays.limit;
    })
    (same ∙ clauses) counts (omega (arith, settled)) a has
