-- what is reported of a run
use Rattle.std.specs.Prelude.{◌≡◌, Result, Ok, Err}
use Rattle.gr_io.specs.declared.sinks.SinkError.{SinkError}
use Rattle.gr_run.specs.declared.results.Ran.{Ran}
use Rattle.gr_top.specs.Solving.{IsBare}
use Rattle.gr_top.specs.declared.reports.Report.{Report}

-- the run's model and history, once its text was written; else neither
abbrev pub Reports : Result (Unit {0}) SinkError → Ran → Report → Type 0
Reports (Ok done) ran r = (r.model ≡ ran.model) × (r.diary ≡ ran.diary)
Reports (Err failed) ran r = IsBare r
