use Rattle.std.proofs.Common.{◌≡◌, ◌≤◌, ◌<◌, None, false, length, ap, sym, ◌∙◌, subst, refl, arith}
use Rattle.std.proofs.lemmas.List.{length-map}
use Rattle.gr_trail.specs.Trails.{TrailState, up_to}
use Rattle.gr_prop.specs.Bases.{BaseState, clauses_in}
use Rattle.gr_prop.specs.BaseChanges.{back_to}
use Rattle.gr_prop.specs.Watching.{IsReady, ArePaired}
use Rattle.gr_prop.proofs.Keeping.{kept-open}
use Rattle.gr_prop.proofs.Rounds.{ready-back}
use Rattle.gr_prop.proofs.Sound.{back-same}
use Rattle.gr_prop.proofs.bases.Base.backtrack.Goals as goal

pub invariant_of-self : goal.invariant_of-self
invariant_of-self c =
    let s = c.self.inside in (
      kept-open s.arena.clauses s.trail s.watches s.places s.head s.broken.items false None c.self.invariant.0.ready
          c.self.invariant.0.indexed refl refl,
      c.self.invariant.1,
    )

pub returns-then-level-depth : goal.returns-then-level-depth
returns-then-level-depth c =
    let s = c.self.inside in
    let same : c.args.level ≡ s.trail.depth = c.if-level-depth.true ∙ c.depth.ensures.depth in
    (λ i. record {
      clauses = clauses_in s.arena.clauses;
      trail = back-same (clauses_in s.arena.clauses) s.trail
          c.args.level c.self.invariant.0.ready.sound same i;
      quiet = false;
      conflict = None;
    })
    ∙ ap (λ (b : BaseState). record b { trail = back_to b.trail c.args.level; quiet = false; conflict = None })
    c.self.view_is

pub invariant_of-self-2 : goal.invariant_of-self-2
invariant_of-self-2 c =
    let s = c.self.inside in
    let under : c.args.level ≤ s.trail.depth = subst (λ n. c.args.level ≤ n)
    (sym (ap (λ (b : BaseState). b.trail.depth) c.self.view_is)) c.requires in
    let other : c.args.level ≡ s.trail.depth → ⊥ = λ e. c.if-level-depth.false (e ∙ sym c.depth.ensures.depth) in
    let low : c.args.level < s.trail.depth = omega (arith, under, other) in
    let long : length c.lits.result.now ≡ length (up_to c.args.level s.trail.assigned) =
    ap length c.lits.ensures.lits ∙ length-map c.backtrack.new.self.assigned (λ x. x.lit) ∙ ap
    (λ t. length t.assigned) c.backtrack.ensures in (
      kept-open s.arena.clauses c.backtrack.new.self s.watches s.places _ s.broken.items false None
          (subst (λ n. IsReady s.arena.clauses c.backtrack.new.self s.watches n s.broken.items) (sym long)
          (subst (λ t. IsReady s.arena.clauses t s.watches (length
          (up_to c.args.level s.trail.assigned)) s.broken.items)
          (sym c.backtrack.ensures)
          (ready-back s.arena.clauses s.trail s.watches s.head c.args.level s.broken.items c.self.invariant.0.ready
          low)))
          c.self.invariant.0.indexed refl refl,
      subst (λ (t : TrailState). ArePaired s.arena.clauses t.vars s.pairs) (sym c.backtrack.ensures) c.self.invariant.1,
    )
