use Rattle.std.proofs.Common.{ap, sym, refl, ◌∙◌, subst, inl, IsSome, min}
use Rattle.std.specs.Option.{unwrap_or}
use Rattle.gr_arena.specs.Arenas.{no_clause}
use Rattle.gr_import.proofs.Lent.{stored-as}
use Rattle.gr_import.proofs.imports.let_go_id.Goals as goal

pub lbd-lbd-requires : goal.lbd-lbd-requires
lbd-lbd-requires c =
    let found = c.in-Some.ensures.some in
    let s = stored-as c.arena.result.now.clauses c.args.base.now.clauses c.in-Some.place.0 found.0
    c.arena.ensures.clauses found.1 in
    subst IsSome (sym s.1.0) refl

pub returns-in-Some-clause-leaves : goal.returns-in-Some-clause-leaves
returns-in-Some-clause-leaves c =
    let found = c.in-Some.ensures.some in
    let s = stored-as c.arena.result.now.clauses c.args.base.now.clauses c.in-Some.place.0 found.0
    c.arena.ensures.clauses found.1 in
    inl (
      c.in-Some.place,
      found.0,
      found.1,
      found.2,
      ap (λ b. b.clauses) c.remove.ensures,
      c.min.ensures
          ∙ ap (min c.args.len) (c.lbd-lbd.ensures ∙ ap (λ o. (unwrap_or o no_clause).lbd) s.1.0
          ∙ ap (λ x. x.lbd) s.1.1),
    )
