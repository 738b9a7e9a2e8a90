-- a trail over clauses stays one
use Rattle.std.proofs.Common.{◌≡◌, ℕ, ◌+◌, ◌≤◌, ◌<◌, false, Some, None, refl, sym, ap, ◌∙◌, arith}
use Rattle.gr_logic.specs.Literals.{Literal, negation}
use Rattle.gr_logic.specs.Rup.{LiteralSet}
use Rattle.gr_logic.specs.Closure.{Forces, no_literals}
use Rattle.gr_logic.specs.declared.places.Place.{Place}
use Rattle.gr_trail.specs.Trails.{TrailState, true_in, up_to}
use Rattle.gr_trail.proofs.Levels.{climbs-push, climbs-up_to, all_up_to}
use Rattle.gr_prop.specs.Bases.{Clauses, family}
use Rattle.gr_prop.specs.BaseChanges.{with_forced, with_decision, back_to}
use Rattle.gr_prop.specs.Watching.{IsSound}
use Rattle.gr_prop.proofs.TrailSets.{consistent-push, consistent-up_to, within-push, within-up_to}
use Rattle.gr_prop.proofs.Closed.{founded-push, founded-up_to, founded-more}

pub sound-forced : (k : Clauses) (t : TrailState) (l : Literal) (place : Place) (c : LiteralSet) → IsSound k t
    → l.index < t.vars → true_in t.assigned (negation l) ≡ false → family k place.0 ≡ Some c → Forces
    (true_in t.assigned) c l
    → IsSound k (with_forced t l place)
sound-forced k t l place c s low free is f = record {
  founded = founded-push (family k) t.assigned _ s.founded (c, (is, f));
  consistent = consistent-push t.assigned _ s.consistent free;
  climbs = climbs-push 0 t.assigned t.depth (record { lit = l; level = t.depth; reason = Some place }) s.climbs refl;
  within = within-push t.vars t.assigned _ s.within low;
}

pub sound-decided : (k : Clauses) (t : TrailState) (l : Literal) → IsSound k t → l.index < t.vars
    → true_in t.assigned (negation l) ≡ false → IsSound k (with_decision t l)
sound-decided k t l s low free = record {
  founded = founded-push (family k) t.assigned _ s.founded tt;
  consistent = consistent-push t.assigned _ s.consistent free;
  climbs = climbs-push 0 t.assigned t.depth (record { lit = l; level = t.depth + 1; reason = None }) s.climbs refl;
  within = within-push t.vars t.assigned _ s.within low;
}

pub sound-back : (k : Clauses) (t : TrailState) (b : ℕ) → IsSound k t → b ≤ t.depth → IsSound k (back_to t b)
sound-back k t b s low = record {
  founded = founded-up_to (family k) b 0 no_literals t.assigned t.depth s.climbs s.founded;
  consistent = consistent-up_to b t.assigned s.consistent;
  climbs = climbs-up_to b 0 t.assigned t.depth (omega arith) low s.climbs;
  within = within-up_to t.vars b t.assigned s.within;
}

-- where nothing is above the level, going back there changes nothing
pub back-same : (k : Clauses) (t : TrailState) (b : ℕ) → IsSound k t → b ≡ t.depth → t ≡ back_to t b
back-same k t b s e =
    let f : t.assigned ≡ up_to b t.assigned = sym (ap (λ d. up_to d t.assigned) e ∙ all_up_to 0 t.assigned t.depth
    s.climbs) in
    λ i. record { vars = t.vars; depth = sym e i; assigned = f i }

pub sound-more : (k n : Clauses) (t : TrailState) → ((place : Place) (c : LiteralSet) → family k place.0 ≡ Some c →
    family n place.0 ≡ Some c)
    → IsSound k t → IsSound n t
sound-more k n t keep s = record {
  founded = founded-more (family k) (family n) no_literals t.assigned keep s.founded;
  consistent = s.consistent;
  climbs = s.climbs;
  within = s.within;
}
