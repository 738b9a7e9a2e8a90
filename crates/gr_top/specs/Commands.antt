-- the options of a run
use Rattle.std.specs.Prelude.{false}
use Rattle.gr_run.specs.declared.options.SolveOptions.{SolveOptions}
use Rattle.gr_words.specs.Meanings.{Solving}

-- those that words mean, with defaults filled in
abbrev pub run_options : Solving → SolveOptions
run_options s = record {
  reducers = s.reducers;
  conflicts = s.conflicts;
  capacity = s.capacity;
  offer = s.offer;
  keep_all = s.keep_all;
}

-- those of a run for which none are given
abbrev pub default_options : SolveOptions
default_options = record {
  reducers = 1;
  conflicts = 1_000_000;
  capacity = 1_000;
  offer = 1_000_000;
  keep_all = false;
}
