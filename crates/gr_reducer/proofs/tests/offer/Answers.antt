use Rattle.std.proofs.Common.{◌≡◌, ◌≢◌, ℕ, ◌+◌, ◌++◌, ◌∷◌, [], All, true, List, Some, sym, ap, ◌∙◌, subst, rules, arith, length}
use Rattle.std.specs.Prelude.{slice_get}
use Rattle.std.proofs.lemmas.Option.{slice_get-get_or}
use Rattle.gr_logic.specs.Literals.{Literal}
use Rattle.gr_logic.specs.Formulas.{Cnf, VarsUpTo}
use Rattle.gr_diary.specs.declared.entries.Entry.TheVariants.{Learn}
use Rattle.gr_seat.specs.Handles.{Enables}
use Rattle.gr_reducer.proofs.Copies.{two-listed, may-learn-copy}
use Rattle.gr_reducer.proofs.tests.offer.Goals as goal

pub learn-requires-clause-able : goal.learn-requires-clause-able
learn-requires-clause-able g c =
    let a = c.one-item.result in
    let b = c.other-item.result in
    let of = sym c.requires.formula in
    let two : length c.lits.result.now ≡ 2 = omega arith in
    let it = c.index-clauses-index.result in
    let there = sym (ap (λ (cs : List (List Literal)). slice_get cs c.args.index) c.clauses-clauses.ensures.clauses)
    ∙ slice_get-get_or c.clauses-clauses.result.now c.args.index it
    (let few = c.if-clauses-index.false in omega (arith, few))
    ∙ ap Some (sym c.index-clauses-index.is) in
    let listed = sym c.lits.ensures ∙ two-listed c.lits.result.now a b two c.one-item.is c.other-item.is in
    let apart : a.index ≢ b.index = λ same. c.if-var.true (search (rules, same)) in
    let hints = c.in_ok-push-in-len2.ensures.ok
    ∙ ap (λ (ids : List ℕ). ids ++ (c.args.index + 1) ∷ []) c.new-hints.ensures in
    subst (λ (p : List Literal × List ℕ). Enables c.args.solver.now (Learn p.0 p.1 2 true))
    (λ i. (sym c.in_ok-from_lits-in-len2.ensures i, sym hints i))
    (may-learn-copy c.args.solver.now a b c.args.index c.requires.legal
    (ap (λ (f : Cnf). slice_get f.clauses c.args.index) c.requires.formula ∙ there ∙ ap Some listed) apart
    (subst (λ (f : Cnf). All (VarsUpTo f.vars) f.clauses) of c.clauses-clauses.ensures.within))
