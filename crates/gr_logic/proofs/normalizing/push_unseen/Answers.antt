use Rattle.std.proofs.Common.{◌≡◌, ◌∙◌, ◌||◌, Bool, true, false, if◌then◌else◌, refl, sym, ap}
use Rattle.std.specs.HashSet as set
use Rattle.gr_logic.specs.Literals.{same_literal}
use Rattle.gr_logic.specs.Rup.{members}
use Rattle.gr_logic.specs.Seen.{same_code}
use Rattle.gr_logic.proofs.FiniteSets.{same-code}
use Rattle.gr_logic.proofs.Members.{members-push_at}
use Rattle.gr_logic.proofs.SameLiteral.{same_literal-sym}
use Rattle.gr_logic.proofs.normalizing.push_unseen.Goals as goal

or-is : (a b : Bool) → (if a then true else b) ≡ (a || b)
or-is true b = refl
or-is false b = refl

-- both have one more literal
pub returns-in_ok-push-clause-seen : goal.returns-in_ok-push-clause-seen
returns-in_ok-push-clause-seen c q =
    c.in_ok-insert.ensures.updates.0 q
    ∙ or-is (same_code c.args.lit q) (set.contains same_code c.args.seen.now q)
    ∙ ap (λ b. b || set.contains same_code c.args.seen.now q) (same-code c.args.lit q ∙ same_literal-sym c.args.lit q)
    ∙ ap (λ b. same_literal q c.args.lit || b) (c.requires q)
    ∙ sym (members-push_at q c.args.firsts.now c.args.lit)
    ∙ ap (λ ls. members ls q) (sym c.in_ok-push.ensures.ok)
