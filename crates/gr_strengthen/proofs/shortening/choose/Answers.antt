use Rattle.std.proofs.Common.{◌≡◌, ◌-◌, ◌<◌, ◌++◌, ◌∷◌, [], List, length, take, drop, sym, ap, ◌∙◌, subst, append_assoc}
use Rattle.std.proofs.lemmas.List.Elements.{All-tail}
use Rattle.gr_logic.specs.Literals.{Literal}
use Rattle.gr_logic.specs.Formulas.{VarsUpTo}
use Rattle.gr_strengthen.specs.Reaching.{chosen_from}
use Rattle.gr_strengthen.proofs.Rests.{split-first}
use Rattle.gr_strengthen.proofs.Shortened.{chosen-cons}
use Rattle.gr_strengthen.proofs.shortening.choose.Goals as goal

pub lits-preserved : goal.lits-preserved
lits-preserved c =
    let rest = c.lits.rest.now in
    let x = c.lit-item.result in
    let tail : List Literal = take (length rest - 1) (drop 1 rest) in
    let e : rest ≡ x ∷ tail = split-first rest x c.in-len1-up.len_at_least c.lit-item.is in
    let pick : List Literal → List Literal = chosen_from c.args.trail.now.assigned c.args.decided.now.marked in
    record {
      known = All-tail (λ (l : Literal). l.index < c.args.trail.now.vars) x tail
          (subst (VarsUpTo c.args.trail.now.vars) e c.lits.invariant.known);
      left = ap (λ ls. ls ++ pick tail) c.in_ok-choose_one.ensures
          ∙ append_assoc c.lits.chosen (pick (x ∷ [])) (pick tail)
          ∙ ap (λ ls. c.lits.chosen ++ ls)
          (sym (chosen-cons c.args.trail.now.assigned c.args.decided.now.marked x tail))
          ∙ ap (λ ls. c.lits.chosen ++ pick ls) (sym e) ∙ c.lits.invariant.left;
    }
