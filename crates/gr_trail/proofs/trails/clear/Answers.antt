-- each step takes back the next literal
use Rattle.std.proofs.Common.{◌≡◌, ◌∙◌, ◌+◌, ◌*◌, ◌<◌, ◌∷◌, length, drop, set, ap, sym, arith, length-set}
use Rattle.std.proofs.lemmas.List.{at_drop_more}
use Rattle.gr_logic.specs.Literals.{Literal, negation}
use Rattle.gr_logic.specs.Codes.{code_of}
use Rattle.gr_trail.specs.declared.values.Value.TheVariants.{Open}
use Rattle.gr_trail.specs.Columns.{cleared}
use Rattle.gr_trail.proofs.trails.clear.Goals as goal

known : (c : goal.After-code) → 2 * c.lit-item.result.index + 1 < length c.loop-lit.values.items
known c =
    let at = c.requires c.loop-lit.lit-index c.lit-item.result c.loop-lit-test.true in
    omega (arith, at, ap (λ (q : Literal). q.index) c.lit-item.is, c.loop-lit.invariant.long)

pub index_mut-requires : goal.index_mut-requires
index_mut-requires c = grind (arith, known c)

pub loop-lit-preserved : goal.loop-lit-preserved
loop-lit-preserved c = record {
  long = length-set (set c.loop-lit.values.items c.code.result Open) c.code-in-loop-lit.result Open
      ∙ length-set c.loop-lit.values.items c.code.result Open ∙ c.loop-lit.invariant.long;
  left =
      let codes : c.code-in-loop-lit.result ≡ code_of (negation c.lit-item.result) =
      c.code-in-loop-lit.ensures.code ∙ ap code_of c.negate.ensures in
      (λ i. cleared (set (set c.loop-lit.values.items (c.code.ensures.code i) Open) (codes i) Open)
      (drop (c.loop-lit.lit-index + 1) c.args.lits.now))
      ∙ ap (λ q. cleared c.loop-lit.values.items (q ∷ drop (c.loop-lit.lit-index + 1)
      c.args.lits.now)) c.lit-item.is
      ∙ sym (at_drop_more (cleared c.loop-lit.values.items) c.args.lits.now c.loop-lit.lit-index
      c.lit-item.result c.loop-lit-test.true)
      ∙ c.loop-lit.invariant.left;
}
