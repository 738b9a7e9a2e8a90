use Rattle.std.proofs.Common.{◌≡◌, length, ap, ◌∙◌, subst, arith}
use Rattle.gr_prop.specs.Bases.{BaseState, empty_base}
use Rattle.gr_strengthen.specs.Loading.{IsLoaded}
use Rattle.gr_strengthen.proofs.Loaded.{loaded-none}
use Rattle.gr_strengthen.proofs.loading.load.Goals as goal

pub loop-index-init : goal.loop-index-init
loop-index-init c =
    let e = c.in_ok-base.ensures ∙ ap empty_base c.vars.ensures.vars in
    record {
      within = omega arith;
      loaded = loaded-none c.args.formula.now c.in_ok-base.base (ap (λ (b : BaseState). b.clauses) e)
          (ap (λ (b : BaseState). b.trail) e);
    }

pub returns : goal.returns
returns c =
    let few = ap length c.clauses-clauses.ensures.clauses in
    let n : c.loop-index.index ≡ length c.args.formula.now.clauses = omega arith in
    subst (IsLoaded c.args.formula.now c.loop-index.base) n c.loop-index.invariant.loaded
