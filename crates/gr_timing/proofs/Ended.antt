-- how propagation ended
use Rattle.std.proofs.Common.{◌≡◌, false, Option, Some, None}
use Rattle.std.specs.Prelude.{is_some}
use Rattle.gr_logic.specs.declared.places.Place.{Place}
use Rattle.gr_prop.specs.Bases.{BaseState}
use Rattle.gr_timing.specs.Rounds.{EndsAs}

-- without a false clause it ended quietly
pub ends-quietly : (conflict : Option Place) (b : BaseState) → is_some conflict ≡ false → EndsAs conflict b
    → EndsAs None b
ends-quietly None b none ends = ends
ends-quietly (Some place) b none ends = absurd (cc)
