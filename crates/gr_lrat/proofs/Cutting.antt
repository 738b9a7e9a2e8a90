-- a log of which no byte may be looked at beyond a front part of its text
use Rattle.std.proofs.Common.{◌≡◌, ℕ, List, [], ◌∷◌, ◌++◌, length, refl, ap}
use Rattle.gr_logic.specs.Formulas.{Cnf}
use Rattle.gr_logic.specs.Log.{opening}
use Rattle.gr_text.specs.Tokens.{Spot, marks, front, made_known, beyond}
use Rattle.gr_lrat.specs.Logs.{log_from, log_read, outcome_from, log_outcome}

-- the marks are those of the front part alone
marks_cut : (a b : List ℕ) (s : Spot) → marks s (length a) (a ++ b) ≡ marks s (length a) a
marks_cut [] b s = refl
marks_cut (x ∷ xs) b s = ap (λ ms. made_known s x ++ ms) (marks_cut xs b (beyond s x))

-- so are the lines
pub log_read_cut : (a b : List ℕ) → log_read (length a) (a ++ b) ≡ log_read (length a) a
log_read_cut a b = ap (log_from []) (marks_cut a b front)

-- and so is what comes of it: where the bytes a were taken and then the source failed, an outcome under
-- this limit speaks of a alone
pub log_outcome_cut : (f : Cnf) (a b : List ℕ) → log_outcome f (a ++ b) (length a) ≡ log_outcome f a (length a)
log_outcome_cut f a b = ap (λ read. outcome_from (opening f) read.lines read.end) (log_read_cut a b)
