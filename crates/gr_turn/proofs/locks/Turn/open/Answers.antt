use Rattle.std.proofs.Common.{rules, ◌≡◌, ◌∷◌, [], Some}
use Rattle.gr_turn.proofs.Ends.{opens}
use Rattle.gr_turn.proofs.locks.Turn.open.Goals as goal

-- the table begins by the rule
pub new-requires : goal.new-requires
new-requires g c =
    let items : c.push.new.self.items ≡ Some c.args.value ∷ [] = search rules in
    let about : c.of-about.result.value ≡ c.args.value = search rules in
    rw (items, about)
    (opens g.T.Keeps.history g.T.Keeps.number g.T.Keeps.fixed c.args.value c.requires)
