use Rattle.std.proofs.Common.{◌≡◌, rules, subst}
use Rattle.gr_logic.specs.declared.items.Strengthened.TheVariants.{Same, Shorter}
use Rattle.gr_diary.specs.declared.entries.Entry.TheVariants.{Return}
use Rattle.gr_bench.specs.Exchanges.{IsEnabledAt}
use Rattle.gr_bench.proofs.calls.make.Goals as goal

pub give_back-requires : goal.give_back-requires
give_back-requires c =
    let same : c.args.row.now ≡ Return 1 Same = search rules in
    subst (IsEnabledAt c.args.bench.now) same c.requires

pub give_back-requires-in-Shorter : goal.give_back-requires-in-Shorter
give_back-requires-in-Shorter c =
    let shorter = Shorter c.in_ok-clause-in-Shorter.clause c.in_ok-hints-in-Shorter.hints in
    let same : c.args.row.now ≡ Return 1 shorter = search rules in
    subst (IsEnabledAt c.args.bench.now) same c.requires
