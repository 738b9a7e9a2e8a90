use Rattle.std.proofs.Common.{◌≡◌, ℕ, ◌++◌, ◌∷◌, [], List, Some, is_some, sym, ap, ◌∙◌, subst, arith, take}
use Rattle.std.proofs.Math.Seq.{take-length}
use Rattle.gr_logic.specs.Literals.{Literal}
use Rattle.gr_logic.specs.Rup.{members}
use Rattle.gr_prop.specs.Bases.{base_clause}
use Rattle.gr_prop.specs.Watching.{stored_at}
use Rattle.gr_prop.proofs.Stores.{contains-clause}
use Rattle.gr_search.specs.Keeping.{IsProved}
use Rattle.gr_search.proofs.StoredReasons.{reason-stored, clause-stored, reason-family}
use Rattle.gr_search.proofs.TrailLiterals.{is-known}
use Rattle.gr_search.proofs.OtherLiterals.{member-at, apart-by, same-by, first-stands, first-assigned, first-forced, others-settled}
use Rattle.gr_search.proofs.UnitHints.{AreHints, next-seen, hints-same, hints-more, derived}
use Rattle.gr_search.proofs.settling.hints_of.Goals as goal
use Rattle.gr_search.proofs.settling.hints_of.Goals.{then-ne+in_ok-push_reason, else-ne}

pub reason-requires : goal.reason-requires
reason-requires c =
    first-assigned c.args.base.now c.trail.result.now c.args.position c.args.lit c.var.result c.trail.ensures.legal
    c.trail.ensures.trail c.var.ensures.number c.requires.first

pub returns-in_default : goal.returns-in_default
returns-in_default c =
    absurd (first-forced c.args.base.now c.trail.result.now c.args.position c.args.lit c.var.result
    c.trail.ensures.legal c.requires.ground c.trail.ensures.trail c.var.ensures.number c.requires.first
    (c.reason.ensures ∙ ap Some c.in_default.is))

pub lits-lits-requires : goal.lits-lits-requires
lits-lits-requires c =
    reason-stored c.args.base.now c.trail.result.now c.arena-arena.result.now.clauses c.var.result c.in-Some.place
    c.arena-arena.ensures.base c.trail.ensures.trail c.arena-arena.ensures.clauses c.in-Some.ensures

pub push_reason-requires : goal.push_reason-requires
push_reason-requires c =
    let b = c.args.base.now in
    let k = c.arena-arena.result.now.clauses in
    let ls = c.lits-lits.result.now in
    let q = c.other-item.result in
    let m = subst (λ y. members ls y ≡ Rattle.std.proofs.Common.true) (sym c.other-item.is)
    (member-at ls c.loop-other.other-index q c.loop-other-test.true) in
    let o = others-settled b c.trail.result.now c.args.position c.args.lit c.var.result c.in-Some.place ls
    c.trail.ensures.base c.trail.ensures.legal c.requires.first c.trail.ensures.trail c.var.ensures.number
    c.in-Some.ensures
    (reason-family b c.trail.result.now k c.var.result c.in-Some.place ls c.trail.ensures.base c.trail.ensures.trail
    c.arena-arena.ensures.clauses c.in-Some.ensures c.lits-lits.ensures) q m
    (apart-by q c.args.lit (sym c.ne.ensures ∙ c.if-ne.true)) in
    record { assigned = ap is_some o.to }

pub loop-other-preserved : goal.loop-other-preserved
loop-other-preserved c =
    let b = c.args.base.now in
    let k = c.arena-arena.result.now.clauses in
    let ls = c.lits-lits.result.now in
    let q = c.other-item.result in
    let i = c.loop-other.other-index in
    let next = next-seen ls i q c.loop-other-test.true c.other-item.is in
    elim c.if-ne.branch [
      | then-ne+in_ok-push_reason w ↦
          let m = subst (λ y. members ls y ≡ Rattle.std.proofs.Common.true) (sym c.other-item.is)
          (member-at ls i q c.loop-other-test.true) in
          let o = others-settled b c.trail.result.now c.args.position c.args.lit c.var.result c.in-Some.place ls
          c.trail.ensures.base c.trail.ensures.legal c.requires.first c.trail.ensures.trail c.var.ensures.number
          c.in-Some.ensures
          (reason-family b c.trail.result.now k c.var.result c.in-Some.place ls c.trail.ensures.base
          c.trail.ensures.trail c.arena-arena.ensures.clauses c.in-Some.ensures c.lits-lits.ensures) q m
          (apart-by q c.args.lit (sym c.ne.ensures ∙ w.if-ne.true)) in
          let e : c.if-ne.hints ≡ c.loop-other.hints ++ o.settled.clause.id ∷ [] =
          w.hints-is ∙ w.in_ok-push_reason.ensures o.is o.settled.place o.settled.clause o.to o.settled.reason
          o.settled.there in
          subst (λ (s : List Literal). AreHints b.clauses c.args.lit s c.if-ne.hints) (sym next)
          (subst (AreHints b.clauses c.args.lit (take i ls ++ q ∷ [])) (sym e)
          (hints-more b.clauses c.args.lit q (take i ls) c.loop-other.hints o.is o.settled o.made
          c.loop-other.invariant))
      | else-ne w ↦
          subst (λ (s : List Literal). AreHints b.clauses c.args.lit s c.if-ne.hints) (sym next)
          (subst (AreHints b.clauses c.args.lit (take i ls ++ q ∷ [])) (sym w.hints-is)
          (hints-same b.clauses c.args.lit q (take i ls) c.loop-other.hints
          (same-by q c.args.lit (sym c.ne.ensures ∙ w.if-ne.false)) c.loop-other.invariant))
    ]

pub id-requires : goal.id-requires
id-requires c =
    reason-stored c.args.base.now c.trail.result.now c.arena-arena.result.now.clauses c.var.result c.in-Some.place
    c.arena-arena.ensures.base c.trail.ensures.trail c.arena-arena.ensures.clauses c.in-Some.ensures

pub returns : goal.returns
returns c =
    let b = c.args.base.now in
    let k = c.arena-arena.result.now.clauses in
    let ls = c.lits-lits.result.now in
    let place = c.in-Some.place in
    let there = reason-stored b c.trail.result.now k c.var.result place c.arena-arena.ensures.base
    c.trail.ensures.trail c.arena-arena.ensures.clauses c.in-Some.ensures in
    let all : take c.loop-other.other-index ls ≡ ls =
    ap (λ (n : ℕ). take n ls) (omega arith) ∙ take-length ls in
    let are = subst (λ (s : List Literal). AreHints b.clauses c.args.lit s c.loop-other.hints) all
    c.loop-other.invariant in
    let e : c.push.new.self ≡ c.loop-other.hints ++ (stored_at k place.0).id ∷ [] =
    c.in_ok-push.ensures.ok ∙ ap (λ (n : ℕ). c.loop-other.hints ++ n ∷ []) c.id.ensures in
    subst (IsProved b.clauses b.trail.vars (c.args.lit ∷ [])) (sym e)
    (derived b.clauses b.trail.vars c.args.lit ls c.loop-other.hints place (base_clause (stored_at k place.0)) are
    (clause-stored k b.clauses place.0 c.arena-arena.ensures.clauses there)
    (contains-clause (stored_at k place.0).lits ∙ ap members (sym c.lits-lits.ensures))
    (is-known b.trail c.args.position c.args.lit c.trail.ensures.legal
    (first-stands b c.args.position c.args.lit c.requires.first)))
