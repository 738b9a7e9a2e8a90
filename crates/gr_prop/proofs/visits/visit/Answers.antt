use Rattle.std.proofs.Common.{◌<◌, ◌++◌, ◌∷◌, [], All, true, false, get_or, refl, sym, ap, ◌∙◌, subst, arith, inl, inr}
use Rattle.gr_logic.specs.Literals.{Literal, negation}
use Rattle.gr_trail.specs.Trails.{true_in}
use Rattle.gr_watch.specs.WatchLists.{list_of, with_list}
use Rattle.gr_prop.specs.Watching.{lits_at}
use Rattle.gr_prop.specs.Visits.{OthersFalse}
use Rattle.gr_prop.proofs.Stores.{reordered-on}
use Rattle.gr_prop.proofs.Endings.{all-false}
use Rattle.gr_prop.proofs.visits.visit.Answers.Swapped.{once, swapped-high, next-second, back-reordered, back-turned}
use Rattle.gr_prop.proofs.visits.visit.Answers.Watched.{all-known, other-is, other-known, next-is, next-known, others}
use Rattle.gr_prop.proofs.visits.visit.Goals.{After-index-lits-0, After-index-lits-k, After-swap, In-None}
use Rattle.gr_prop.proofs.visits.visit.Goals as goal
mod Swapped
mod Watched

pub holds-requires : goal.holds-requires
holds-requires c = other-known c

pub returns-then-holds-clause-ok : goal.returns-then-holds-clause-ok
returns-then-holds-clause-ok c = record {
  reordered = c.bring_second.ensures.reordered;
  turned = c.bring_second.ensures.turned;
  first = other-is (goal.at.returns-then-holds-clause-ok c).After-index-lits-0;
  lists = refl;
  trail = inl (sym c.holds.ensures ∙ c.if-holds.true, refl);
}

pub find_free-requires-clause-known : goal.find_free-requires-clause-known
find_free-requires-clause-known c = subst (All (λ (l : Literal). l.index < c.args.trail.now.vars))
    (sym c.lits-2.ensures) (all-known (goal.at.find_free-requires-clause-known c).After-index-lits-0)

pub attach-moved-requires : goal.attach-moved-requires
attach-moved-requires c = subst (λ n. c.index-lits-k.result.index < n) (sym c.requires.vars)
    (next-known (goal.at.attach-moved-requires c).After-index-lits-k)

pub falls-requires : goal.falls-requires
falls-requires c = other-known (goal.at.falls-requires c).After-index-lits-0

pub returns-then-falls-clause-ok : goal.returns-then-falls-clause-ok
returns-then-falls-clause-ok c =
    let turned = c.bring_second.ensures.turned in
    let is = other-is (goal.at.returns-then-falls-clause-ok c).After-index-lits-0 in
    let others-false = others (goal.at.returns-then-falls-clause-ok c).In-None in
    record {
      reordered = c.bring_second.ensures.reordered;
      turned = turned;
      all_false = all-false _ _ turned.first (ap (λ l. true_in c.args.trail.now.assigned (negation l)) (sym is)
          ∙ sym c.falls.ensures ∙ c.if-falls.true) others-false;
      trail = refl;
      lists = refl;
    }

pub assign-requires-clause-within : goal.assign-requires-clause-within
assign-requires-clause-within c = other-known (goal.at.assign-requires-clause-within c).After-index-lits-0

pub swap-requires-in-Err-clause-there : goal.swap-requires-in-Err-clause-there
swap-requires-in-Err-clause-there c = (once (goal.at.swap-requires-in-Err-clause-there c).After-swap).there

pub swap-requires-in-Err-clause-first : goal.swap-requires-in-Err-clause-first
swap-requires-in-Err-clause-first c =
    omega (arith, swapped-high (goal.at.swap-requires-in-Err-clause-first c).After-swap, c.in-Some.ensures.low)

pub swap-requires-in-Err-clause-second : goal.swap-requires-in-Err-clause-second
swap-requires-in-Err-clause-second c = swapped-high (goal.at.swap-requires-in-Err-clause-second c).After-swap

pub returns-in-Err-clause-err : goal.returns-in-Err-clause-err
returns-in-Err-clause-err c = record {
  reordered = back-reordered c;
  turned = back-turned c;
  trail = refl;
  lists = c.in-Err.ensures.err;
}

pub returns-in_default-clause-ok : goal.returns-in_default-clause-ok
returns-in_default-clause-ok c =
    let turned = c.bring_second.ensures.turned in
    let is = next-is (goal.at.returns-in_default-clause-ok c).After-index-lits-k in
    let swapped = (goal.at.returns-in_default-clause-ok c).After-swap in
    let moved = next-second swapped in
    record {
      reordered = reordered-on _ c.bring_second.new.arena.clauses _ c.args.place.0 c.bring_second.ensures.reordered
          (once swapped);
      first = turned.first;
      next = c.index-lits-k.result;
      rest = moved.0;
      left = turned.rest;
      is = moved.1;
      was = turned.was;
      free = ap (λ l. true_in c.args.trail.now.assigned (negation l)) is
          ∙ ap (λ s. true_in c.args.trail.now.assigned (negation (get_or s c.in-Some.k c.index-lits-k.result)))
          (sym c.lits-2.ensures)
          ∙ c.in-Some.ensures.free c.index-lits-k.result;
      trail = refl;
      lists = c.in_default.ensures.ok
          ∙ ap (λ l. with_list c.args.watches.now c.index-lits-k.result
          (list_of c.args.watches.now c.index-lits-k.result ++ (record { place = c.args.place; blocker = l }) ∷ []))
          (other-is (goal.at.returns-in_default-clause-ok c).After-index-lits-0);
    }

pub returns-else-falls-clause-ok : goal.returns-else-falls-clause-ok
returns-else-falls-clause-ok c =
    let turned = c.bring_second.ensures.turned in
    let is = other-is (goal.at.returns-else-falls-clause-ok c).After-index-lits-0 in
    let others-false = others (goal.at.returns-else-falls-clause-ok c).In-None in
    record {
      reordered = c.bring_second.ensures.reordered;
      turned = turned;
      first = is;
      lists = refl;
      trail = inr (
        subst (OthersFalse c.args.trail.now.assigned (lits_at c.bring_second.new.arena.clauses c.args.place.0))
            (sym is) others-false,
        sym c.holds.ensures ∙ c.if-holds.false,
        sym c.falls.ensures ∙ c.if-falls.false,
        c.assign.ensures,
      );
    }
