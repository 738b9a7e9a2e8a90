use Rattle.std.proofs.Common.{rules, sym, subst}
use Rattle.gr_diary.specs.declared.entries.Entry.TheVariants.{Learn}
use Rattle.gr_seat.specs.Handles.{Enables}
use Rattle.gr_seat.proofs.Later.{enabled_at_turn}
use Rattle.gr_seat.proofs.shared_benches.SharedBench.learn.Goals as goal

pub learn-answer-requires : goal.learn-answer-requires
learn-answer-requires g c =
    let e = Learn c.args.clause c.args.hints c.args.lbd c.args.offered in
    enabled_at_turn c.seat.inside.seat c.value_mut.result.now.bench e c.seat.invariant.0 (search rules) (search rules)
    (search rules) (search rules) (search rules) (subst (λ h. Enables h e) (sym c.seat.view_is) c.requires.able)
