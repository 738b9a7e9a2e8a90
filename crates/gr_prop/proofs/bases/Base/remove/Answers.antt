use Rattle.std.proofs.Common.{◌≢◌, IsSome, Some, None, All, ap, sym, ◌∙◌, subst}
use Rattle.std.specs.FinMap as finite
use Rattle.gr_prop.specs.Bases.{BaseState, clauses_in}
use Rattle.gr_prop.specs.Watching.{IsKeptBase, longer, paired, ArePaired}
use Rattle.gr_prop.specs.Additions.{IsWatchedByTwo, unwatching}
use Rattle.gr_prop.proofs.Stores.{clauses-remove}
use Rattle.gr_prop.proofs.Removing.{there-in-base, paired-by-two, paired-removed, watched-by-two, kept-removed}
use Rattle.gr_prop.proofs.bases.Base.remove.Goals as goal

pub lits-lits-requires : goal.lits-lits-requires
lits-lits-requires c = there-in-base c.self.inside.arena.clauses c.args.place.0
    (subst (λ (b : BaseState). IsSome (finite.get b.clauses c.args.place.0)) (sym c.self.view_is) c.requires.there)

pub id-requires : goal.id-requires
id-requires c = there-in-base c.self.inside.arena.clauses c.args.place.0
    (subst (λ (b : BaseState). IsSome (finite.get b.clauses c.args.place.0)) (sym c.self.view_is) c.requires.there)

pub remove-requires-2 : goal.remove-requires-2
remove-requires-2 c = there-in-base c.self.inside.arena.clauses c.args.place.0
    (subst (λ (b : BaseState). IsSome (finite.get b.clauses c.args.place.0)) (sym c.self.view_is) c.requires.there)

pub unwatch-requires-clause-watched_pair : goal.unwatch-requires-clause-watched_pair
unwatch-requires-clause-watched_pair c =
    let s = c.self.inside in
    let there = there-in-base s.arena.clauses c.args.place.0 (subst
    (λ (b : BaseState). IsSome (finite.get b.clauses c.args.place.0)) (sym c.self.view_is) c.requires.there) in
    let free = subst (λ (b : BaseState). All (λ a. a.reason ≢ Some c.args.place) b.trail.assigned)
    (sym c.self.view_is) c.requires.unneeded in
    subst (λ ls. IsWatchedByTwo s.pairs c.args.place (paired ls)) (sym c.lits-lits.ensures)
    (paired-by-two s.arena.clauses s.trail s.watches s.places s.head s.broken.items s.quiet s.conflict c.args.place
    c.self.invariant.0 there free s.pairs c.self.invariant.1)

pub unwatch-requires-clause-watched : goal.unwatch-requires-clause-watched
unwatch-requires-clause-watched c =
    let s = c.self.inside in
    let there = there-in-base s.arena.clauses c.args.place.0 (subst
    (λ (b : BaseState). IsSome (finite.get b.clauses c.args.place.0)) (sym c.self.view_is) c.requires.there) in
    let free = subst (λ (b : BaseState). All (λ a. a.reason ≢ Some c.args.place) b.trail.assigned)
    (sym c.self.view_is) c.requires.unneeded in
    subst (λ ls. IsWatchedByTwo s.watches c.args.place (longer ls)) (sym c.lits-lits.ensures)
    (watched-by-two s.arena.clauses s.trail s.watches s.places s.head s.broken.items s.quiet s.conflict c.args.place
    c.self.invariant.0 there free)

pub invariant_of-self : goal.invariant_of-self
invariant_of-self c =
    let s = c.self.inside in
    let there = there-in-base s.arena.clauses c.args.place.0 (subst
    (λ (b : BaseState). IsSome (finite.get b.clauses c.args.place.0)) (sym c.self.view_is) c.requires.there) in
    let free = subst (λ (b : BaseState). All (λ a. a.reason ≢ Some c.args.place) b.trail.assigned)
    (sym c.self.view_is) c.requires.unneeded in (
      subst (λ k. IsKeptBase k s.trail c.unwatch.new.watches c.remove.new.self s.head c.forget.new.places.items s.quiet
          None) (sym (ap (λ a. a.clauses) c.remove-2.ensures))
          (kept-removed s.arena.clauses s.trail s.watches s.places s.head s.broken.items s.quiet s.conflict c.args.place
          c.self.invariant.0 there free
          c.unwatch.new.watches (c.unwatch.ensures.watches ∙ ap (λ ls. unwatching s.watches c.args.place
          (longer ls)) c.lits-lits.ensures)
          c.remove.new.self (c.remove.ensures ∙ ap (finite.remove s.places) c.id.ensures)
          c.forget.new.places.items c.forget.ensures),
      subst (λ k. ArePaired k s.trail.vars c.unwatch.new.pairs) (sym (ap (λ a. a.clauses) c.remove-2.ensures))
          (paired-removed s.arena.clauses s.trail s.watches s.places s.head s.broken.items s.quiet s.conflict
          c.args.place c.self.invariant.0 there free s.pairs c.self.invariant.1 c.unwatch.new.pairs
          (c.unwatch.ensures.pairs ∙ ap (λ ls. unwatching s.pairs c.args.place (paired ls)) c.lits-lits.ensures)),
    )

pub returns : goal.returns
returns c =
    let s = c.self.inside in
    (λ i. record {
      clauses = (ap (λ a. clauses_in a.clauses) c.remove-2.ensures ∙ clauses-remove s.arena.clauses c.args.place.0) i;
      trail = s.trail;
      quiet = s.quiet;
      conflict = None;
    })
    ∙ ap (λ (b : BaseState). record b { clauses = finite.remove b.clauses c.args.place.0; conflict = None })
    c.self.view_is
