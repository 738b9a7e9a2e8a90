use Rattle.std.proofs.Common.{◌<◌, ◌+◌, ◌*◌, [], ◌∷◌, ◌++◌, refl, sym, ap, ◌∙◌, subst, arith}
use Rattle.std.proofs.lemmas.List.Elements.{All-push}
use Rattle.gr_logic.specs.Literals.{Literal}
use Rattle.gr_logic.specs.Formulas.{VarsUpTo}
use Rattle.gr_gen.specs.OddRings.{is}
use Rattle.gr_gen.specs.Pigeonholes.{nest}
use Rattle.gr_gen.proofs.Growth.{push-next}
use Rattle.gr_gen.proofs.pigeonholes.somewhere.Goals as goal

pub loop-hole-preserved : goal.loop-hole-preserved
loop-hole-preserved c =
    let grown = c.in_ok-push.ensures.ok in
    let vars = (c.args.holes + 1) * c.args.holes in (
      grown
          ∙ ap (λ ls. ls ++ c.in_hole.result ∷ []) c.loop-hole.invariant.0
          ∙ push-next [] 0 c.loop-hole.hole c.loop-hole.hole (c.loop-hole.hole + 1) (omega arith) refl
          (λ hole. is (nest c.args.holes c.args.pigeon hole)) c.in_hole.result c.in_hole.ensures.lit,
      subst (VarsUpTo vars) (sym grown)
          (All-push (λ (l : Literal). l.index < vars) c.loop-hole.clause c.in_hole.result c.loop-hole.invariant.1
          (subst (λ (l : Literal). l.index < vars) (sym c.in_hole.ensures.lit) c.in_hole.ensures.within)),
    )
