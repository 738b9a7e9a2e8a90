-- how a reducer ends
use Rattle.gr_bench.specs.declared.answers.BenchError.{BenchError}
use Rattle.gr_bench.specs.declared.answers.BenchError.TheVariants as refusal
use Rattle.gr_reducer.specs.declared.endings.Ended.{Ended}
use Rattle.gr_reducer.specs.declared.endings.Ended.TheVariants.{Closed, OutOfMemory}

-- what a refused call means to a reducer
abbrev pub ended_by : BenchError → Ended
ended_by refusal.Closed = Closed
ended_by refusal.OutOfMemory = OutOfMemory
