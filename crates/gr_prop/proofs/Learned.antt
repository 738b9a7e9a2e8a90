-- a learnt clause after going back
use Rattle.std.proofs.Common.{◌≡◌, ℕ, false, List, [], ◌∷◌, Some, ap, ◌∙◌, arith}
use Rattle.std.specs.Prelude.{All}
use Rattle.std.specs.Option.{option_map}
use Rattle.std.proofs.lemmas.List.Elements.{All-head, All-tail, All-cons, All-nil}
use Rattle.gr_logic.specs.Literals.{Literal}
use Rattle.gr_trail.specs.Trails.{Assigned, TrailState, IsTrail, value_in, up_to}
use Rattle.gr_prop.specs.BaseChanges.{IsLearnt, back_to}
use Rattle.gr_prop.specs.Learnt.{IsLearntAt, IsUpTo}
use Rattle.gr_trail.proofs.GoingBack.{opens-again, false-stays, assigned-stays}

stay : (t : TrailState) (level : ℕ) (c : List Literal) → IsTrail t → All (IsUpTo t level) c
    → All (λ q. value_in (up_to level t.assigned) q ≡ Some false) c
stay t level [] is all = All-nil (λ q. value_in (up_to level t.assigned) q ≡ Some false)
stay t level (x ∷ c) is all =
    let h = All-head (IsUpTo t level) x c all in
    All-cons (λ q. value_in (up_to level t.assigned) q ≡ Some false) x c
    (false-stays t level x h.is is h.false' h.assigned h.low)
    (stay t level c is (All-tail (IsUpTo t level) x c all))

pub addable : (t : TrailState) (c : List Literal) (level : ℕ) → IsTrail t → IsLearntAt t c level
    → IsLearnt (back_to t level) c
addable t [] level is r = r
addable t (first ∷ []) level is r = r
addable t (first ∷ second ∷ rest) level is r = (
  opens-again t level first r.is is r.assigned r.above,
  stay t level (second ∷ rest) is r.others,
  ap (option_map (λ (a : Assigned). a.level)) (assigned-stays level t.assigned _ r.at r.second_assigned
      (let w = r.second_level in omega (arith, w))) ∙ ap Some r.second_level,
)
