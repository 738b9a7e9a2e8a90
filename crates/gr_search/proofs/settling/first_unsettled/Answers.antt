use Rattle.std.proofs.Common.{◌≡◌, true, ap, ◌∙◌, refl, arith}
use Rattle.std.proofs.lemmas.Bool.Decides.{nat_tests}
use Rattle.gr_logic.specs.Literals.{var_of}
use Rattle.gr_trail.specs.Trails.{TrailState, lits_of}
use Rattle.gr_search.proofs.TrailLiterals.{stands, is-assigned, has-value}
use Rattle.gr_search.proofs.SettledLiterals.{settled-more}
use Rattle.gr_search.proofs.settling.first_unsettled.Goals as goal

pub is_settled-requires-clause-assigned : goal.is_settled-requires-clause-assigned
is_settled-requires-clause-assigned c =
    let t = c.args.base.now.trail in
    let at = stands t.assigned c.lits-lits.result.now c.loop-position.position c.index-lits-position.result
    (c.lits-lits.ensures.lits ∙ ap (λ (u : TrailState). lits_of u.assigned) c.trail.ensures.trail) (omega arith)
    c.index-lits-position.is in
    is-assigned t c.loop-position.position c.index-lits-position.result (var_of c.index-lits-position.result)
    c.trail.ensures.legal at refl

pub returns-then-not-is_settled-clause-first : goal.returns-then-not-is_settled-clause-first
returns-then-not-is_settled-clause-first c =
    let at = stands c.args.base.now.trail.assigned c.lits-lits.result.now c.loop-position.position
    c.index-lits-position.result
    (c.lits-lits.ensures.lits ∙ ap (λ (u : TrailState). lits_of u.assigned) c.trail.ensures.trail) (omega arith)
    c.index-lits-position.is in
    record { settled = c.loop-position.invariant.settled; is = at.is; stands = at.there; literal = at.literal }

pub loop-position-preserved : goal.loop-position-preserved
loop-position-preserved c =
    let b = c.args.base.now in
    let at = stands b.trail.assigned c.lits-lits.result.now c.loop-position.position c.index-lits-position.result
    (c.lits-lits.ensures.lits ∙ ap (λ (u : TrailState). lits_of u.assigned) c.trail.ensures.trail) (omega arith)
    c.index-lits-position.is in
    let yes : c.is_settled.result ≡ true = grind (arith, nat_tests) in
    let before = c.loop-position.invariant.further in
    record {
      further = omega (arith, before);
      settled = settled-more b.clauses b.trail.assigned c.loop-position.position at.is at.there
          c.loop-position.invariant.settled
          (c.is_settled.ensures yes at.is
          (has-value b.trail c.loop-position.position c.index-lits-position.result c.trail.ensures.legal at));
    }
