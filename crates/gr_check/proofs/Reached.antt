-- what holds of a state that accepted lines lead to
use Rattle.std.proofs.Common.{◌≡◌, ◌∙◌, ℕ, ◌+◌, true, List, [], ◌∷◌, ◌++◌, Option, Some, None, Result, Ok, Err, OnOk, OnErr, refl, sym, ap, subst}
use Rattle.gr_logic.specs.Formulas.{Cnf}
use Rattle.gr_logic.specs.Log.{Cause, LogState, opening, line_cause, after_line, first_cause, refusal_from, state_after}
use Rattle.gr_logic.specs.declared.lines.Line.{Line}
use Rattle.gr_logic.proofs.LogSound.{accepts-sound}
use Rattle.gr_check.specs.declared.refusals.Refused.{Refused}
use Rattle.gr_check.specs.Reached.{IsReached, OpeningIsReached, AcceptedLinesLeadOn, ReachedStatesRefute}

-- no line is refused, neither the first one nor a later one
not-first : (n : ℕ) (cause : Option Cause) (later : Option (ℕ × Cause)) → first_cause n cause later ≡ None
    → (cause ≡ None) × (later ≡ None)
not-first n None later e = (refl, e)
not-first n (Some why) later e = absurd (cc)

-- one more line that is not refused
refusal-more : (xs : List Line) (x : Line) (n : ℕ) (s : LogState) → refusal_from n s xs ≡ None
    → line_cause (state_after s xs) x ≡ None → refusal_from n s (xs ++ x ∷ []) ≡ None
refusal-more [] x n s accepted is = rw is refl
refusal-more (y ∷ ys) x n s accepted is =
    let split = not-first n (line_cause s y) (refusal_from (n + 1) (after_line s y) ys) accepted in
    let first = split.0 in
    rw first (refusal-more ys x (n + 1) (after_line s y) split.1 is)

state-more : (xs : List Line) (x : Line) (s : LogState)
    → state_after s (xs ++ x ∷ []) ≡ after_line (state_after s xs) x
state-more [] x s = refl
state-more (y ∷ ys) x s = state-more ys x (after_line s y)

pub opening-reached : OpeningIsReached
opening-reached f = record { lines = []; accepted = refl; state = refl }

pub leads-on : AcceptedLinesLeadOn
leads-on f s x reached is = record {
  lines = reached.lines ++ x ∷ [];
  accepted =
      refusal-more reached.lines x 1 (opening f) reached.accepted
      (ap (λ t. line_cause t x) reached.state ∙ is);
  state = state-more reached.lines x (opening f) ∙ ap (λ t. after_line t x) reached.state;
}

pub reached-refutes : ReachedStatesRefute
reached-refutes f s reached refuted =
    accepts-sound f reached.lines (reached.accepted, ap (λ t. t.refuted) reached.state ∙ refuted)

-- what a line leaves is reached, whether it was refused or not
pub line-reached : (f : Cnf) (s t : LogState) (x : Line) (result : Result (Unit {0}) Refused) → IsReached f s
    → OnOk result (line_cause s x ≡ None) → OnOk result (t ≡ after_line s x) → OnErr result (t ≡ s)
    → IsReached f t
line-reached f s t x (Ok done) reached ok after err = subst (IsReached f) (sym after) (leads-on f s x reached ok)
line-reached f s t x (Err why) reached ok after err = subst (IsReached f) (sym err) reached
