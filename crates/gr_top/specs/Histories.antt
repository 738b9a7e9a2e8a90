-- the history of a run, and what a verdict rests on
use Rattle.std.specs.Prelude.{◌≡◌, ◌<◌, ◌≤◌, ◌*◌, ◌^◌, ℕ, true, List, ◌∷◌, ◌++◌, All}
use Rattle.gr_logic.specs.Literals.{Literal}
use Rattle.gr_logic.specs.Formulas.{Cnf}
use Rattle.gr_logic.specs.Truth.{Implied}
use Rattle.gr_logic.specs.Log.{Accepts, HasIds}
use Rattle.gr_logic.specs.declared.items.Strengthened.TheVariants.{Shorter}
use Rattle.gr_logic.specs.declared.lines.Line.{Line}
use Rattle.gr_diary.specs.declared.entries.Entry.{Entry}
use Rattle.gr_diary.specs.declared.entries.Entry.TheVariants.{Return}
use Rattle.gr_diary.specs.Diaries.{Journal}
use Rattle.gr_diary.specs.Histories.{AddsEmptyClause, learn_count, lines_of}
use Rattle.gr_diary.specs.Laws.{IsPartOfLastTaken}
use Rattle.gr_bench.specs.Exchanges as exchange
use Rattle.gr_run.specs.Offers.{IsOfferedUpTo}
use Rattle.gr_run.specs.Runs.{IsEnded}
use Rattle.gr_run.specs.declared.options.SolveOptions.{SolveOptions}

-- the proof log of a run with these options: a line for each clause that was added, and for the ids that left
abbrev pub log_of : Cnf → SolveOptions → Journal → List Line
log_of f o diary = lines_of f o.reducers o.capacity diary.entries

-- each clause that a reducer gives back is implied by the formula, and a proper part of the clause that it took last
abbrev pub ReturnsParts : Cnf → SolveOptions → Journal → Type 0
ReturnsParts f o diary =
    (before : List Entry) (actor : ℕ) (c : List Literal) (hints : List ℕ) (later : List Entry)
    → diary.entries ≡ before ++ Return actor (Shorter c hints) ∷ later
    → IsPartOfLastTaken f o.reducers o.capacity before actor c × Implied f.clauses c

-- a run's diary is one legal history of the formula, with the reducers and the capacity of the options
pub record IsHistory (f : Cnf) (o : SolveOptions) (diary : Journal) : Type 0 where
  -- each entry is legal, and at each the ids left that nobody holds
  pub tells : exchange.Tells f o.reducers o.capacity diary
  -- it is closed; what was learnt was fresh and no more than may be, restarts took over all results, and forgetting was
  -- rare
  pub ended : IsEnded f o.reducers o.capacity o.conflicts o.keep_all diary.entries
  -- learnt clauses were offered up to the LBD of the options
  pub offered : All (IsOfferedUpTo o.offer) diary.entries
  pub returned : ReturnsParts f o diary

-- a log that refutes the formula, and whose ids can be written
pub record IsRefutation (f : Cnf) (log : List Line) : Type 0 where
  pub accepted : Accepts f log
  pub ids : All HasIds log

-- a log refutes the formula
abbrev pub HasRefutation : Cnf → Type 0
HasRefutation f = (log : List Line) × IsRefutation f log

-- as many clauses were learnt as may be, none of them empty. Where all were kept, that were fewer than 3^V, the number
-- of clauses over V variables; else fewer than q times as many, where 2,000 * q are no fewer than 3^V
pub record IsSpent (f : Cnf) (o : SolveOptions) (diary : Journal) : Type 0 where
  pub learns : learn_count diary.entries ≡ o.conflicts
  pub unrefuted : AddsEmptyClause diary.entries → ⊥
  pub keeping : o.keep_all ≡ true → o.conflicts < 3 ^ f.vars
  pub sparing : (q : ℕ) → 3 ^ f.vars ≤ 2_000 * q → o.conflicts < q * 3 ^ f.vars
