use Rattle.std.proofs.Common.{◌≡◌, ◌<◌, ◌+◌, ℕ, List, length, replicate, true, sym, ap, ◌∙◌, subst, arith, refl}
use Rattle.gr_logic.specs.Literals.{Literal}
use Rattle.gr_search.specs.Counting.{CountState}
use Rattle.gr_search.proofs.Steady.{kept-begun}
use Rattle.gr_search.proofs.solving.Solver.new.Goals as goal

pub returns : goal.returns
returns c =
    let f = c.args.formula.now in
    let base = c.in_ok-base_of.field-0 in
    let vars = c.vars-vars.result in
    let known : vars ≡ f.vars = c.vars-vars.ensures.vars in
    let small = c.vars-vars.ensures.small in
    let low = c.requires.low in
    record {
      waiting = record {
        steady = record {
          kept = kept-begun vars base.clauses base.trail c.in_ok-new-2.field-0
              (c.in_ok-base_of.ensures.vars ∙ sym known) small
              (c.in_ok-new-2.ensures ∙ ap (λ (n : ℕ). replicate n true) (sym known));
          analyzer = c.in_ok-new.ensures.vars;
        };
        ready = c.in_ok-base_of.ensures.ground;
        more = subst (λ (n : CountState). n.tally.learns < n.limit) (sym c.in_ok-new-3.ensures) (omega (arith, low));
      };
      knows = c.in_ok-base_of.ensures.knows;
      own = c.in_ok-base_of.ensures.own;
      vars = known;
      first_learnt = ap (λ (cs : List (List Literal)). length cs + 1) c.clauses.ensures.clauses;
      keep_all = refl;
      counts = c.in_ok-new-3.ensures;
      request = refl;
    }
