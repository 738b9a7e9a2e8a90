-- what a call says of a formula that it made, and what it leaves on its output
use Rattle.std.specs.Prelude.{◌≡◌, ◌⊎◌, ℕ, List, []}
use Rattle.gr_logic.specs.Formulas.{Cnf}
use Rattle.gr_io.specs.Pieces.{Gains, GainsPart, Rose}
use Rattle.gr_diary.specs.Diaries.{Journal}
use Rattle.gr_diary.specs.Histories.{AddsEmptyClause}
use Rattle.gr_gen.specs.OddRings.{ring}
use Rattle.gr_gen.specs.Pigeonholes.{pigeonhole}
use Rattle.gr_words.specs.declared.calls.Kind.{Kind}
use Rattle.gr_words.specs.declared.calls.Kind.TheVariants.{OddRing, Pigeons}
use Rattle.gr_top.specs.Commands.{default_options}
use Rattle.gr_top.specs.Histories.{IsHistory, IsRefutation, IsSpent, log_of}
use Rattle.gr_top.specs.Checking.{Output}
use Rattle.gr_top.specs.MadeTexts.{large_text, refuted_lines}
use Rattle.gr_top.specs.Solving.{IsBare}
use Rattle.gr_top.specs.Texts.{unknown_line}
use Rattle.gr_top.specs.declared.statuses.Status.{Status}
use Rattle.gr_top.specs.declared.statuses.Status.TheVariants.{Satisfiable, Unsatisfiable, Unknown, Verified, NotVerified, Usage, Grammar, LogGrammar, ReadFault, SinkFault, OutOfMemory}
use Rattle.gr_top.specs.declared.reports.Report.{Report}

-- the formula of this kind and number
abbrev pub formula_made : Kind → ℕ → Cnf
formula_made OddRing n = ring n
formula_made Pigeons n = pigeonhole n

-- the text of a verdict on it
abbrev pub text_made : Kind → ℕ → List ℕ → List ℕ
text_made kind n verdict = large_text kind n (formula_made kind n) verdict

-- a run with the default options refuted the formula
pub record IsRefutedIn (f : Cnf) (diary : Journal) : Type 0 where
  pub history : IsHistory f default_options diary
  pub empty : AddsEmptyClause diary.entries
  pub refutes : IsRefutation f (log_of f default_options diary)

-- it did not decide the formula
pub record IsSpentIn (f : Cnf) (diary : Journal) : Type 0 where
  pub history : IsHistory f default_options diary
  pub spent : IsSpent f default_options diary

-- the text of a true verdict, of which a front part was written
abbrev pub TellsMadePart : Kind → ℕ → Output → Output → Type 0
TellsMadePart kind n old new =
    ((diary : Journal) × IsRefutedIn (formula_made kind n) diary
    × GainsPart (text_made kind n refuted_lines) old.text new.text)
    ⊎ ((diary : Journal) × IsSpentIn (formula_made kind n) diary
    × GainsPart (text_made kind n unknown_line) old.text new.text)

-- what each status says of the formula, why it comes, and what is written then
abbrev pub MakesBy : Status → Kind → ℕ → Output → Output → Report → Type 0
MakesBy Unsatisfiable kind n old new r =
    IsRefutedIn (formula_made kind n) r.diary × Gains (text_made kind n refuted_lines) old.text new.text
    × (r.model ≡ [])
MakesBy Unknown kind n old new r =
    IsSpentIn (formula_made kind n) r.diary × Gains (text_made kind n unknown_line) old.text new.text
    × (r.model ≡ [])
MakesBy SinkFault kind n old new r = Rose old.faults new.faults × TellsMadePart kind n old new × IsBare r
MakesBy OutOfMemory kind n old new r = ((new.text ≡ old.text) ⊎ TellsMadePart kind n old new) × IsBare r
MakesBy Satisfiable kind n old new r = ⊥
MakesBy Verified kind n old new r = ⊥
MakesBy (NotVerified reason) kind n old new r = ⊥
MakesBy Usage kind n old new r = ⊥
MakesBy (Grammar g) kind n old new r = ⊥
MakesBy (LogGrammar fault) kind n old new r = ⊥
MakesBy ReadFault kind n old new r = ⊥

-- the report answers the formula of this kind and number, which no assignment satisfies. Where nothing fails, it is
-- refuted, or the limit was spent, or memory was wanting
abbrev pub Makes : Kind → ℕ → Output → Output → Report → Type 0
Makes kind n old new r = MakesBy r.status kind n old new r
