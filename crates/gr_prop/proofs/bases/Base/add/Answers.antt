use Rattle.std.proofs.Common.{length, ◌≡◌, ◌<◌, ◌++◌, ◌∷◌, [], IsSome, None, All, false, true, is_ok, if◌then◌else◌, ap, sym, ◌∙◌, subst, refl, arith}
use Rattle.std.specs.FinMap as finite
use Rattle.gr_logic.specs.Literals.{Literal}
use Rattle.gr_prop.specs.Bases.{BaseState}
use Rattle.gr_prop.specs.Watching.{lits_at, IsKeptBase, ArePaired}
use Rattle.gr_trail.specs.Trails.{TrailState}
use Rattle.gr_prop.specs.Additions.{IsArranged}
use Rattle.gr_prop.specs.declared.additions.Standing.TheVariants.{Broken, Forced, Rests}
use Rattle.gr_prop.proofs.Stores.{get-insert-same, lits-insert}
use Rattle.gr_prop.proofs.Forcing.{forced-known}
use Rattle.gr_prop.proofs.Arrivals.{pairs-back, kept-same, kept-broken, kept-forced, added-rests, added-broken, added-forced}
use Rattle.gr_prop.proofs.bases.Base.add.Answers.Incoming.{few, watched, index-back, kept-at-rest, taken, come, known, now, pairs-now, stands, as-added}
use Rattle.gr_prop.proofs.bases.Base.add.Goals.{After-vars-longest, After-lits-lits, After-arrange, After-assess}
use Rattle.gr_prop.proofs.bases.Base.add.Goals as goal
mod Incoming

pub add-requires : goal.add-requires
add-requires c =
    let short = few (goal.at.add-requires c).After-vars-longest in omega (arith, short, ap length c.lits.ensures)

pub arrange-requires-clause-there : goal.arrange-requires-clause-there
arrange-requires-clause-there c =
    subst (λ k. IsSome (finite.get k c.in_ok-place.place.0)) (sym c.in_ok-place.ensures.clauses)
    (subst IsSome (sym (get-insert-same c.self.inside.arena.clauses c.in_ok-place.place.0 _)) refl)

pub arrange-requires-clause-known : goal.arrange-requires-clause-known
arrange-requires-clause-known c =
    subst (All (λ (l : Literal). l.index < c.self.inside.trail.vars))
    (sym (ap (λ k. lits_at k c.in_ok-place.place.0) c.in_ok-place.ensures.clauses ∙ lits-insert
    c.self.inside.arena.clauses c.in_ok-place.place.0 _ ∙ c.lits.ensures))
    (subst (λ (b : BaseState). All (λ (l : Literal). l.index < b.trail.vars) c.args.clause.now) (sym c.self.view_is)
    c.requires.known)

pub invariant_of-self-in-Err : goal.invariant_of-self-in-Err
invariant_of-self-in-Err c =
    let s = c.self.inside in
    let g = (goal.at.invariant_of-self-in-Err c).After-arrange in
    let back = ap (λ x. x.clauses) c.remove.ensures ∙ taken g in (
      kept-same s.arena.clauses c.remove.new.self.clauses s.trail s.watches s.watches s.places c.insert.new.self s.head
          s.broken.items c.reserve.new.self.items s.quiet s.conflict back refl c.in-Err.ensures.err
          c.reserve.ensures.items c.self.invariant.0,
      pairs-back _ c.remove.new.self.clauses s.pairs s.pairs _ back refl c.self.invariant.1,
    )

pub watch-requires : goal.watch-requires
watch-requires c = watched (goal.at.watch-requires c).After-lits-lits

pub invariant_of-self-in-Err-watch : goal.invariant_of-self-in-Err-watch
invariant_of-self-in-Err-watch c =
    let s = c.self.inside in
    let g = (goal.at.invariant_of-self-in-Err-watch c).After-arrange in
    let back = ap (λ x. x.clauses) c.remove-in-Err-watch-2.ensures ∙ taken g in
    let index = c.remove-in-Err-watch.ensures ∙ ap (λ m. finite.remove m c.args.id) c.in_default.ensures.ok
    ∙ index-back g in (
      kept-same s.arena.clauses c.remove-in-Err-watch-2.new.self.clauses s.trail s.watches c.watch.new.watches s.places
          c.remove-in-Err-watch.new.self s.head s.broken.items c.reserve.new.self.items s.quiet s.conflict back
          c.in-Err-watch.ensures.err index c.reserve.ensures.items c.self.invariant.0,
      pairs-back _
          c.remove-in-Err-watch-2.new.self.clauses s.pairs c.watch.new.pairs _ back c.in-Err-watch.ensures.err_pairs
          c.self.invariant.1,
    )

pub assess-requires-clause-arranged : goal.assess-requires-clause-arranged
assess-requires-clause-arranged c = subst (IsArranged c.self.inside.trail.assigned) (sym c.lits-2.ensures)
    (come (goal.at.assess-requires-clause-arranged c).After-arrange).arranged

pub assess-requires-clause-known : goal.assess-requires-clause-known
assess-requires-clause-known c = subst (All (λ (l : Literal). l.index < c.self.inside.trail.vars))
    (sym c.lits-2.ensures) (known (goal.at.assess-requires-clause-known c).After-arrange)

pub invariant_of-self-in-Broken : goal.invariant_of-self-in-Broken
invariant_of-self-in-Broken c =
    let g = (goal.at.invariant_of-self-in-Broken c).After-assess in
    let ok : is_ok c.push.result ≡ true = c.push.ensures.succeeds (omega (arith, c.in_ok-reserve.ensures.ok)) in (
      kept-broken (now g) c.push.new.self.items
          (c.push.ensures.items ∙ ap (λ b. if b then c.reserve.new.self.items ++ c.in_ok-place.place ∷ [] else
          c.reserve.new.self.items) ok ∙ ap (λ xs. xs ++ c.in_ok-place.place ∷ []) c.reserve.ensures.items)
          (stands g Broken c.in-Broken.is),
      pairs-now g,
    )

pub assign-requires-clause-within : goal.assign-requires-clause-within
assign-requires-clause-within c =
    let g = (goal.at.assign-requires-clause-within c).After-assess in
    forced-known c.self.inside.trail.assigned c.self.inside.trail.vars
    (lits_at c.arrange.new.arena.clauses c.in_ok-place.place.0) c.in-Forced.lit
    (known (goal.at.assign-requires-clause-within c).After-arrange)
    (stands g (Forced c.in-Forced.lit) c.in-Forced.is)

pub invariant_of-self-in-Forced : goal.invariant_of-self-in-Forced
invariant_of-self-in-Forced c =
    let g = (goal.at.invariant_of-self-in-Forced c).After-assess in (
      subst (λ xs. IsKeptBase c.arrange.new.arena.clauses c.assign.new.self c.watch.new.watches c.insert.new.self
          c.self.inside.head xs false None) (sym c.reserve.ensures.items)
          (kept-forced (now g) c.assign.new.self c.in-Forced.lit c.assign.ensures
          (stands g (Forced c.in-Forced.lit) c.in-Forced.is)),
      subst (λ (t : TrailState). ArePaired c.arrange.new.arena.clauses t.vars c.watch.new.pairs) (sym c.assign.ensures)
          (pairs-now g),
    )

pub invariant_of-self-in-Rests : goal.invariant_of-self-in-Rests
invariant_of-self-in-Rests c = kept-at-rest (goal.at.invariant_of-self-in-Rests c).After-assess c.in-Rests.is

pub returns-in-Broken : goal.returns-in-Broken
returns-in-Broken c =
    let g = (goal.at.returns-in-Broken c).After-assess in
    as-added g c.self.inside.trail (added-broken (now g) (stands g Broken c.in-Broken.is))

pub returns-in-Forced : goal.returns-in-Forced
returns-in-Forced c =
    let g = (goal.at.returns-in-Forced c).After-assess in
    as-added g c.assign.new.self (added-forced (now g) c.assign.new.self c.in-Forced.lit c.assign.ensures
    (stands g (Forced c.in-Forced.lit) c.in-Forced.is))

pub returns-in-Rests : goal.returns-in-Rests
returns-in-Rests c =
    let g = (goal.at.returns-in-Rests c).After-assess in
    as-added g c.self.inside.trail (added-rests (now g) (stands g Rests c.in-Rests.is))
