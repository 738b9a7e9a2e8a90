use Rattle.std.proofs.Common.{sym, ap, ◌∙◌, ◌≡◌, false, arith, slice_index_or, nat_lt}
use Rattle.std.specs.FinSet as set
use Rattle.std.proofs.lemmas.Bool.Decides.{nat_tests}
use Rattle.std.proofs.lemmas.List.{get_or_read, get_or_past}
use Rattle.gr_logic.proofs.FiniteSets.{contains-flagged}
use Rattle.gr_logic.proofs.literal_sets.LitSet.has.Goals as goal

pub returns-then-code-len : goal.returns-then-code-len
returns-then-code-len c =
    get_or_read c.self.inside.flags.items c.code-code.result c.index.result.now (omega arith) c.index.ensures false
    ∙ ap (λ i. slice_index_or c.self.inside.flags.items i false) c.code-code.ensures.code
    ∙ sym (contains-flagged c.self.inside.flags.items c.args.lit)
    ∙ ap (λ s. set.contains s c.args.lit) c.self.view_is

pub returns-else-code-len : goal.returns-else-code-len
returns-else-code-len c =
    let beyond : nat_lt c.code-code.result c.len.result ≡ false = grind (arith, nat_tests) in
    beyond
    ∙ sym (get_or_past c.self.inside.flags.items c.code-code.result false (omega arith))
    ∙ ap (λ i. slice_index_or c.self.inside.flags.items i false) c.code-code.ensures.code
    ∙ sym (contains-flagged c.self.inside.flags.items c.args.lit)
    ∙ ap (λ s. set.contains s c.args.lit) c.self.view_is
