-- a clause is added behind the others
use Rattle.std.proofs.Common.{arith, sym, ap, subst, ◌∙◌, ◌≡◌, ◌+◌, length}
use Rattle.std.specs.FinMap as map'
use Rattle.std.specs.Prelude.{None}
use Rattle.gr_arena.specs.Arenas.{ArenaState}
use Rattle.gr_arena.specs.Blocks.{arena_in}
use Rattle.gr_arena.proofs.Changes.{fresh, add_laid, add_arena}
use Rattle.gr_arena.proofs.arenas.Arena.add.Goals as goal

pub invariant_of-self-2 : goal.invariant_of-self-2
invariant_of-self-2 c =
    add_laid c.self.inside.words.items c.args.self.now c.self.view_is c.self.invariant
    (record { id = c.args.id; lbd = c.args.lbd; lits = c.args.lits.now })
    (omega (arith, c.if-lits-ge2147483648.false), c.in_ok-append.ensures.within)
    c.append.new.words.items c.in_ok-append.ensures.ok

-- the place is the old number of words
place : (c : goal.In_ok-append) → length c.self.inside.words.items ≡ c.len-place.result
place c = sym c.self.inside.words.ok.0 ∙ sym c.len-place.ensures

-- what is seen after the clause was added
added : (c : goal.In_ok-append) → arena_in c.append.new.words.items ≡ record {
  clauses = map'.insert c.args.self.now.clauses (length c.self.inside.words.items)
      (record { id = c.args.id; lbd = c.args.lbd; lits = c.args.lits.now });
  words = c.args.self.now.words + (4 + length c.args.lits.now);
}
added c =
    add_arena c.self.inside.words.items c.args.self.now c.self.view_is c.self.invariant
    (record { id = c.args.id; lbd = c.args.lbd; lits = c.args.lits.now })
    (omega (arith, c.if-lits-ge2147483648.false), c.in_ok-append.ensures.within)
    c.append.new.words.items c.in_ok-append.ensures.ok

pub returns-clause-clauses : goal.returns-clause-clauses
returns-clause-clauses c =
    ap (λ (a : ArenaState). a.clauses) (added c)
    ∙ ap (λ n. map'.insert c.args.self.now.clauses n (record
    { id = c.args.id; lbd = c.args.lbd; lits = c.args.lits.now })) (place c)

pub returns-clause-words : goal.returns-clause-words
returns-clause-words c = ap (λ (a : ArenaState). a.words) (added c)

pub returns-clause-fresh : goal.returns-clause-fresh
returns-clause-fresh c =
    subst (λ n. map'.get c.args.self.now.clauses n ≡ None) (place c)
    (fresh c.self.inside.words.items c.args.self.now c.self.view_is c.self.invariant)
