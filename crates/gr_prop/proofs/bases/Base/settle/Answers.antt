use Rattle.std.proofs.Common.{◌≡◌, IsSome, None, ap, sym, ◌∙◌, subst, refl}
use Rattle.std.specs.FinMap as finite
use Rattle.std.specs.Option.{option_map}
use Rattle.gr_trail.specs.Trails.{TrailState, true_in, assigned_to, with_reason}
use Rattle.gr_prop.specs.Bases.{BaseState, clauses_in, LacksId}
use Rattle.gr_prop.specs.BaseChanges.{IsSettled}
use Rattle.gr_prop.specs.Watching.{ArePaired}
use Rattle.gr_prop.proofs.Stores.{get-insert-same, remove-insert}
use Rattle.gr_prop.proofs.Arrivals.{kept-same}
use Rattle.gr_prop.proofs.Settling.{paired-settled, true-zero, true-known, kept-settled-at, is-settled-at}
use Rattle.gr_prop.proofs.bases.Base.settle.Goals as goal

pub remove-requires : goal.remove-requires
remove-requires c =
    subst (λ k. IsSome (finite.get k c.in_ok-place.place.0)) (sym c.in_ok-place.ensures.clauses)
    (subst IsSome (sym (get-insert-same c.self.inside.arena.clauses c.in_ok-place.place.0 _)) refl)

pub invariant_of-self-in-Err : goal.invariant_of-self-in-Err
invariant_of-self-in-Err c =
    let s = c.self.inside in
    let p = c.in_ok-place.place in
    let back : c.remove.new.self.clauses ≡ s.arena.clauses = ap (λ x. x.clauses) c.remove.ensures ∙
    ap (λ k. finite.remove k p.0) c.in_ok-place.ensures.clauses ∙
    remove-insert s.arena.clauses p.0 _ c.in_ok-place.ensures.fresh in (
      kept-same s.arena.clauses c.remove.new.self.clauses s.trail s.watches s.watches s.places c.insert.new.self s.head
          s.broken.items s.broken.items s.quiet s.conflict back refl c.in-Err.ensures.err refl c.self.invariant.0,
      subst (λ k. ArePaired k s.trail.vars s.pairs) (sym back) c.self.invariant.1,
    )

pub set_reason-requires : goal.set_reason-requires
set_reason-requires c =
    let s = c.self.inside in
    let ground = ap (λ (b : BaseState). b.trail.depth) c.self.view_is ∙ c.requires.ground in
    let holds = ap (λ (b : BaseState). true_in b.trail.assigned c.args.lit) c.self.view_is ∙ c.requires.holds in
    ap (λ v. option_map (λ a. a.level) (assigned_to s.trail.assigned v)) c.var.ensures.number
    ∙ true-zero s.trail c.args.lit c.self.invariant.0.ready.sound.climbs ground holds

pub invariant_of-self-2 : goal.invariant_of-self-2
invariant_of-self-2 c =
    let s = c.self.inside in
    let p = c.in_ok-place.place in
    let ground = ap (λ (b : BaseState). b.trail.depth) c.self.view_is ∙ c.requires.ground in
    let holds = ap (λ (b : BaseState). true_in b.trail.assigned c.args.lit) c.self.view_is ∙ c.requires.holds in
    let unused = subst (λ (b : BaseState). LacksId b.clauses c.args.id) (sym c.self.view_is) c.requires.unused in
    let known = true-known s.trail c.args.lit c.self.invariant.0.ready.sound.within holds in (
      kept-settled-at s.arena.clauses s.trail s.watches s.places s.head s.broken.items s.quiet s.conflict p c.args.lit
          c.args.id c.self.invariant.0
          c.in_ok-place.ensures.fresh ground holds known unused
          c.add.new.self.clauses c.set_reason.new.self c.insert.new.self c.in_ok-place.ensures.clauses
          (c.set_reason.ensures ∙ ap (λ v. record s.trail { assigned = with_reason s.trail.assigned v p })
          c.var.ensures.number) c.in_default.ensures.ok,
      subst (λ (t : TrailState). ArePaired c.add.new.self.clauses t.vars s.pairs) (sym c.set_reason.ensures)
          (subst (λ k. ArePaired k s.trail.vars s.pairs) (sym c.in_ok-place.ensures.clauses)
          (paired-settled s.arena.clauses s.trail s.watches s.places s.head s.broken.items s.quiet s.conflict p
          c.args.lit c.args.id c.self.invariant.0 c.in_ok-place.ensures.fresh ground holds known unused s.pairs
          c.self.invariant.1)),
    )

pub returns : goal.returns
returns c =
    let s = c.self.inside in
    let p = c.in_ok-place.place in
    let ground = ap (λ (b : BaseState). b.trail.depth) c.self.view_is ∙ c.requires.ground in
    let holds = ap (λ (b : BaseState). true_in b.trail.assigned c.args.lit) c.self.view_is ∙ c.requires.holds in
    let unused = subst (λ (b : BaseState). LacksId b.clauses c.args.id) (sym c.self.view_is) c.requires.unused in
    let known = true-known s.trail c.args.lit c.self.invariant.0.ready.sound.within holds in
    subst (λ (b : BaseState). IsSettled b (record {
      clauses = clauses_in c.add.new.self.clauses;
      trail =
          c.set_reason.new.self;
      quiet = s.quiet;
      conflict = None;
    }) c.args.lit c.args.id p) c.self.view_is
    (is-settled-at s.arena.clauses s.trail s.watches s.places s.head s.broken.items s.quiet s.conflict p c.args.lit
    c.args.id c.self.invariant.0
    c.in_ok-place.ensures.fresh ground holds known unused
    c.add.new.self.clauses c.set_reason.new.self c.in_ok-place.ensures.clauses
    (c.set_reason.ensures ∙ ap (λ v. record s.trail { assigned = with_reason s.trail.assigned v p })
    c.var.ensures.number))
