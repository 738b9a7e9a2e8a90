-- what the analysis ends with: the clause is learnt, and what was met is known
use Rattle.std.proofs.Common.{◌≡◌, ◌∷◌, length, sym, ap, ◌∙◌, subst}
use Rattle.std.specs.List.Sorted.{IsPermutation}
use Rattle.gr_analyze.specs.Noting.{Noted, noted_in}
use Rattle.gr_analyze.specs.Learning.{IsLearning, HasMetWithin}
use Rattle.gr_analyze.proofs.Analyses.{learning}
use Rattle.gr_analyze.proofs.MetVariables.{found-met, conflict-named}
use Rattle.gr_analyze.proofs.analyzing.analyze.Answers.Steps.{deep, minimizing, covered, first}
use Rattle.gr_analyze.proofs.analyzing.analyze.Goals as goal

pub learnt : goal.returns-clause-learning
learnt c =
    let uip = (goal.at.returns-clause-learning c).In_ok-uip in
    let high = deep c.args.depth c.args.trail.now.depth c.requires.depth c.if-depth-eq0.false in
    let thinned = c.in_ok-minimize.ensures.thinned in
    let a = c.in_ok-back_to.ensures.arranged in
    let more = c.cite_all-2.ensures.more in
    let lits : c.cite_all-2.new.notes.lits.items ≡ c.minimize.new.notes.lits.items =
    ap (λ (n : Noted). n.lits) more.rest in
    subst (λ s. IsLearning c.args.arena.now c.args.trail.now c.args.conflict s c.in_ok-back_to.back_to)
    (sym (a.rest ∙ ap (λ ls. record (noted_in c.cite_all-2.new.notes) { lits = ls }) a.is))
    (learning c.args.arena.now c.args.trail.now c.args.conflict c.in_ok-uip.uip c.negate.result
    (noted_in c.minimize.new.notes) (noted_in c.cite_all-2.new.notes) c.in_ok-back_to.back_to a.others high
    (first (goal.at.returns-clause-learning c).After-negate)
    (thinned.minimizing c.in_ok-uip.uip (minimizing uip)) c.cite_all-2.ensures.settled more
    (λ q has. thinned.covered q (covered uip q has))
    (subst (λ ls. IsPermutation ls a.others) lits a.permuted) a.highest a.goes)

pub met-within : goal.returns-clause-met
met-within c high =
    let a = c.in_ok-back_to.ensures.arranged in
    let touched : c.arrange.new.notes.touched.items ≡ c.walk_back.new.notes.touched.items =
    ap (λ (n : Noted). n.touched) a.rest ∙ ap (λ (n : Noted). n.touched) c.cite_all-2.ensures.more.rest
    ∙ c.in_ok-minimize.ensures.thinned.touched in
    subst (λ ls. HasMetWithin c.args.arena.now c.args.trail.now c.args.conflict ls
    c.arrange.new.notes.touched.items) (sym a.is)
    (subst (HasMetWithin c.args.arena.now c.args.trail.now c.args.conflict (c.negate.result ∷ a.others))
    (sym touched)
    (found-met c.args.arena.now c.args.trail.now c.args.conflict (noted_in c.walk_back.new.notes)
    c.in_ok-uip.uip c.negate.result a.others c.requires.graph.trail high c.in_ok-uip.ensures.found
    (first (goal.at.returns-clause-met c).After-negate)
    (covered (goal.at.returns-clause-met c).In_ok-uip) (noted_in c.meet.new.notes) c.in_ok-uip.ensures.named
    (conflict-named c.args.arena.now c.args.trail.now c.args.conflict (noted_in c.clear.new.self)
    (noted_in c.meet.new.notes) (length c.args.notes.now.standings) c.lits.result.now
    c.clear.ensures.noted c.lits.ensures c.in_ok-meet.ensures.met)))
