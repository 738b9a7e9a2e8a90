-- how many literals a clause has
use Rattle.std.proofs.Common.{◌≡◌, ◌≤◌, ◌+◌, Bool, true, false, cond, List, [], ◌∷◌, length, All, refl, ap, ◌∙◌, arith}
use Rattle.std.specs.FinSet as set
use Rattle.gr_logic.specs.Literals.{Literal}
use Rattle.gr_logic.specs.LiteralSets.{literal_cmp}
use Rattle.gr_logic.specs.NormalForms.{IsNormal}
use Rattle.gr_logic.specs.Rup.{members}
use Rattle.gr_logic.specs.Words.{IsNumbered}
use Rattle.gr_logic.proofs.FiniteSets.{literal_cmp_total}
use Rattle.gr_prop.proofs.Facts.{normal-distinct}
use Rattle.gr_prop.proofs.Short.{short}
use Rattle.gr_prop.proofs.Stores.{contains-clause}

-- a normal clause has at most a million literals
pub few-literals : (c : List Literal) → IsNormal c → All IsNumbered c → length c ≤ 1_000_000
few-literals c normal known = short c 1_000_000 (normal-distinct c normal) known

-- the set of a normal clause has as many literals as the clause
pub len-normal : (c : List Literal) → IsNormal c → set.len (set.from_list {R = literal_cmp} c) ≡ length c
len-normal [] normal = set.len-empty literal_cmp
len-normal (l ∷ ls) normal =
    set.len-insert literal_cmp_total (set.from_list ls) l
    ∙ ap (λ b. cond b (set.len (set.from_list {R = literal_cmp} ls))
    (set.len (set.from_list {R = literal_cmp} ls) + 1)) new
    ∙ (let rest = len-normal ls normal.1 in omega (arith, rest))
  where
    absent : (b : Bool) → members ls l ≡ b → b ≡ false
    absent true m = absurd (normal.0 l m refl)
    absent false m = refl

    new : set.contains (set.from_list {R = literal_cmp} ls) l ≡ false
    new = ap (λ s. s l) (contains-clause ls) ∙ absent (members ls l) refl
