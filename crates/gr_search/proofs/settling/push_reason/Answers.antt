use Rattle.std.proofs.Common.{◌∷◌, [], ◌++◌, ap, ◌∙◌, ℕ}
use Rattle.std.proofs.lemmas.Result.{on_ok_weaker}
use Rattle.gr_search.proofs.StoredReasons.{reason-stored, reason-id}
use Rattle.gr_search.proofs.settling.push_reason.Goals as goal

pub id-requires : goal.id-requires
id-requires c =
    reason-stored c.args.base.now c.trail.result.now c.arena.result.now.clauses c.var.result c.in-Some.place
    c.arena.ensures.base c.trail.ensures.trail c.arena.ensures.clauses c.in-Some.ensures

pub returns-in-Some : goal.returns-in-Some
returns-in-Some c =
    on_ok_weaker c.push.result
    (λ is a p d to forced there. is ∙ ap (λ (n : ℕ). c.args.hints.now ++ n ∷ []) (c.id.ensures
    ∙ reason-id c.args.base.now c.trail.result.now c.arena.result.now.clauses c.args.lit c.var.result c.in-Some.place
    c.arena.ensures.base c.trail.ensures.trail c.arena.ensures.clauses c.var.ensures.number c.in-Some.ensures
    a p d to forced there)) c.push.ensures.ok
