-- what a call leaves on its streams whose words are no lawful command line
use Rattle.std.specs.Prelude.{◌≡◌}
use Rattle.gr_top.specs.Sinks.{Sinks, OutRose, Tells, TellsPart}
use Rattle.gr_top.specs.Texts.{usage_text}
use Rattle.gr_top.specs.Streams.{Streams}
use Rattle.gr_top.specs.Solving.{IsBare}
use Rattle.gr_top.specs.declared.statuses.Status.{Status}
use Rattle.gr_top.specs.declared.statuses.Status.TheVariants.{Satisfiable, Unsatisfiable, Unknown, Verified, NotVerified, Usage, Grammar, LogGrammar, ReadFault, SinkFault, OutOfMemory}
use Rattle.gr_top.specs.declared.reports.Report.{Report}

-- what each status says where the words are no lawful command line
abbrev pub RefusesBy : Status → Sinks → Sinks → Type 0
RefusesBy Usage old new = Tells usage_text old new
RefusesBy SinkFault old new = OutRose old new × TellsPart usage_text old new
RefusesBy OutOfMemory old new = TellsPart usage_text old new
RefusesBy Satisfiable old new = ⊥
RefusesBy Unsatisfiable old new = ⊥
RefusesBy Unknown old new = ⊥
RefusesBy Verified old new = ⊥
RefusesBy (NotVerified reason) old new = ⊥
RefusesBy (LogGrammar fault) old new = ⊥
RefusesBy (Grammar g) old new = ⊥
RefusesBy ReadFault old new = ⊥

-- the words are refused: the usage text is written, and nothing is read
pub record Refuses (old new : Streams) (r : Report) : Type 0 where
  pub answer : RefusesBy r.status old.sinks new.sinks
  pub bare : IsBare r
  pub text : new.text ≡ old.text
  pub read_faults : new.read_faults ≡ old.read_faults
