use Rattle.std.proofs.Common.{sym, subst, ◌∙◌}
use Rattle.gr_run.specs.Runs.{HasRoom}
use Rattle.gr_run.specs.Shared.{IsRunFrom}
use Rattle.gr_run.proofs.SeatRuns.{sees-after, ended, offered, run, room}
use Rattle.gr_run.proofs.searching.search_on.Goals as goal

pub returns-in-Ok-clause-sees : goal.returns-in-Ok-clause-sees
returns-in-Ok-clause-sees g c =
    sees-after c.args.seat c.search_from-found.new.seat c.close-closing.new.seat
    c.search_from-found.ensures.standing.sees c.close-closing.ensures.turn.sees

pub returns-in-Ok-clause-ended : goal.returns-in-Ok-clause-ended
returns-in-Ok-clause-ended g c =
    let o = c.args.options.now in
    let standing = c.search_from-found.ensures.standing in
    let mine = standing.sees.same.actor ∙ sym c.actor-actor.ensures.actor ∙ c.actor-actor.ensures.first in
    ended o.offer o.conflicts o.keep_all c.args.seat c.search_from-found.new.seat c.close-closing.new.seat
    mine standing c.close-closing.ensures.turn.sees c.close-closing.result c.close-closing.ensures.done
    c.close-closing.ensures.already c.close-closing.ensures.closed

pub returns-in-Ok-clause-offered : goal.returns-in-Ok-clause-offered
returns-in-Ok-clause-offered g c =
    let o = c.args.options.now in
    let standing = c.search_from-found.ensures.standing in
    let mine = standing.sees.same.actor ∙ sym c.actor-actor.ensures.actor ∙ c.actor-actor.ensures.first in
    offered o.offer o.conflicts o.keep_all c.args.seat c.search_from-found.new.seat c.close-closing.new.seat
    mine standing c.close-closing.ensures.turn.sees c.close-closing.result c.close-closing.ensures.done
    c.close-closing.ensures.already c.close-closing.ensures.closed

pub returns-in-Err-clause-sees : goal.returns-in-Err-clause-sees
returns-in-Err-clause-sees g c =
    sees-after c.args.seat c.search_from-found.new.seat c.close-closing.new.seat
    c.search_from-found.ensures.standing.sees c.close-closing.ensures.turn.sees

pub returns-in-Err-clause-ended : goal.returns-in-Err-clause-ended
returns-in-Err-clause-ended g c =
    let o = c.args.options.now in
    let standing = c.search_from-found.ensures.standing in
    let mine = standing.sees.same.actor ∙ sym c.actor-actor.ensures.actor ∙ c.actor-actor.ensures.first in
    ended o.offer o.conflicts o.keep_all c.args.seat c.search_from-found.new.seat c.close-closing.new.seat
    mine standing c.close-closing.ensures.turn.sees c.close-closing.result c.close-closing.ensures.done
    c.close-closing.ensures.already c.close-closing.ensures.closed

pub returns-in-Err-clause-offered : goal.returns-in-Err-clause-offered
returns-in-Err-clause-offered g c =
    let o = c.args.options.now in
    let standing = c.search_from-found.ensures.standing in
    let mine = standing.sees.same.actor ∙ sym c.actor-actor.ensures.actor ∙ c.actor-actor.ensures.first in
    offered o.offer o.conflicts o.keep_all c.args.seat c.search_from-found.new.seat c.close-closing.new.seat
    mine standing c.close-closing.ensures.turn.sees c.close-closing.result c.close-closing.ensures.done
    c.close-closing.ensures.already c.close-closing.ensures.closed

pub returns-in-Ok-clause-found : goal.returns-in-Ok-clause-found
returns-in-Ok-clause-found g c =
    let o = c.args.options.now in
    let standing = c.search_from-found.ensures.standing in
    let mine = standing.sees.same.actor ∙ sym c.actor-actor.ensures.actor ∙ c.actor-actor.ensures.first in
    subst (IsRunFrom o.conflicts o.keep_all c.close-closing.new.seat) (sym c.settle.ensures)
    (run o.offer o.conflicts o.keep_all c.args.seat c.search_from-found.new.seat c.close-closing.new.seat
    mine standing c.close-closing.ensures.turn.sees c.close-closing.result c.close-closing.ensures.done
    c.close-closing.ensures.already c.close-closing.ensures.closed c.in-Ok.found c.in-Ok.ensures.found)

pub returns-in-Ok-clause-room : goal.returns-in-Ok-clause-room
returns-in-Ok-clause-room g c =
    let o = c.args.options.now in
    let standing = c.search_from-found.ensures.standing in
    let mine = standing.sees.same.actor ∙ sym c.actor-actor.ensures.actor ∙ c.actor-actor.ensures.first in
    let z = c.close-closing.new.seat in
    subst (λ f. HasRoom f o.conflicts o.keep_all c.settle.result)
    (c.close-closing.ensures.turn.sees.same.formula ∙ standing.sees.same.formula ∙ c.requires.formula)
    (subst (HasRoom z.formula o.conflicts o.keep_all) (sym c.settle.ensures)
    (room o.offer o.conflicts o.keep_all c.args.seat c.search_from-found.new.seat z
    mine standing c.close-closing.ensures.turn.sees c.close-closing.result c.close-closing.ensures.done
    c.close-closing.ensures.already c.close-closing.ensures.closed c.in-Ok.found c.in-Ok.ensures.found))
