use Rattle.std.proofs.Common.{◌≡◌, ◌<◌, ◌||◌, nat_eq, false, take, length, ap, sym, ◌∙◌, arith}
use Rattle.std.specs.List.{swap_remove}
use Rattle.std.proofs.lemmas.List.{get_or_default}
use Rattle.gr_logic.specs.declared.places.Place.{Place}
use Rattle.gr_prop.specs.Watching.{is_in}
use Rattle.gr_prop.proofs.Arranging.{removed-in}
use Rattle.gr_prop.proofs.Counts.{front-removed}
use Rattle.gr_prop.proofs.additions.forget.Goals as goal

pub loop-index-preserved-then-index-place : goal.loop-index-preserved-then-index-place
loop-index-preserved-then-index-place c =
    let low : c.loop-index.index < length c.loop-index.places.items = omega arith in
    let x : Place = c.swap_remove.result in
    let is : x.0 ≡ c.args.place.0 =
    ap (λ (p : Place). p.0) (c.swap_remove.ensures.value ∙ get_or_default c.loop-index.places.items
    c.loop-index.index x c.index.result.now low ∙ sym c.index.ensures)
    ∙ c.if-index-place.true in
    record {
      within = omega arith;
      kept = λ q apart.
          let other : nat_eq x.0 q ≡ false = ap (λ n. nat_eq n q) is ∙ apart in
          ap (λ xs. is_in xs q) c.swap_remove.ensures.items
          ∙ sym (removed-in c.loop-index.places.items c.loop-index.index x q low c.swap_remove.ensures.value ∙ ap
          (λ b. b || is_in (swap_remove c.loop-index.places.items c.loop-index.index x) q) other)
          ∙ c.loop-index.invariant.kept q apart;
      gone = ap (λ xs. is_in (take c.loop-index.index xs) c.args.place.0) c.swap_remove.ensures.items
          ∙ ap (λ xs. is_in xs c.args.place.0) (front-removed c.loop-index.places.items c.loop-index.index x low)
          ∙ c.loop-index.invariant.gone;
    }
