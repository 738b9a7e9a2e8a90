-- asks, whether or not a learnt clause is offered
use Rattle.std.specs.Prelude.{◌<◌, ◌^◌, false, length}
use Rattle.gr_search.specs.declared.asks.Ask.{Ask}
use Rattle.gr_search.specs.declared.asks.Ask.TheVariants.{Learn, Import, Forget, Done}
use Rattle.gr_search.specs.declared.asks.Ask.TheVariants as ask

-- the number of literals of a learnt clause is a 32-bit number
abbrev pub HasShortClause : Ask → Type 0
HasShortClause (Learn c hints lbd offered) = length c < 2 ^ 32
HasShortClause (ask.Unit l hints) = Unit {0}
HasShortClause Import = Unit {0}
HasShortClause (Forget ids) = Unit {0}
HasShortClause (Done found) = Unit {0}

-- the same ask, where nothing is offered
abbrev pub unoffered : Ask → Ask
unoffered (Learn c hints lbd offered) = Learn c hints lbd false
unoffered (ask.Unit l hints) = ask.Unit l hints
unoffered Import = Import
unoffered (Forget ids) = Forget ids
unoffered (Done found) = Done found
