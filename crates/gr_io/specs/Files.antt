-- sources and sinks over what the system keeps, of which no contract can tell the bytes
use Rattle.std.specs.Prelude.{◌≡◌, ◌≤◌, ℕ, Result, IfErr, OnOk, OnErr}
use Rattle.gr_io.specs.Pieces.{Rose}
use Rattle.gr_io.specs.declared.sinks.SinkError.{SinkError}
use Rattle.gr_io.specs.declared.sinks.SinkError.TheVariants.{Fault}

-- how many bytes were taken from a file, and how many reads failed
pub record FileRead : Type 0 where
  pub taken : ℕ
  pub faults : ℕ

-- a write succeeded and no count rose, or it failed and the count of faults rose
pub record IsCounted (result : Result (Unit {0}) SinkError) (old new : ℕ) : Type 0 where
  pub only_fault : IfErr result (λ e. e ≡ Fault)
  pub fault : OnErr result (Rose old new)
  pub calm : OnOk result (new ≡ old)
  pub grows : old ≤ new
