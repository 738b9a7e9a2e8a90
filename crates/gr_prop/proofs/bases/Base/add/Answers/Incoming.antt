-- what is known of a clause while it is added
use Rattle.std.proofs.Common.{length, ◌≤◌, arith, ◌≡◌, ◌<◌, None, All, false, ap, sym, ◌∙◌, subst}
use Rattle.std.specs.FinMap as finite
use Rattle.gr_logic.specs.Literals.{Literal}
use Rattle.gr_logic.specs.NormalForms.{IsNormal}
use Rattle.gr_prop.specs.Bases.{BaseState, clauses_in, LacksId}
use Rattle.gr_prop.specs.BaseChanges.{IsAddable, IsAdded}
use Rattle.gr_trail.specs.Trails.{TrailState}
use Rattle.gr_prop.specs.Watching.{lits_at, longer, paired, ArePaired, IsKeptBase}
use Rattle.gr_prop.specs.Additions.{StandsAs, watching_too}
use Rattle.gr_prop.specs.declared.additions.Standing.{Standing}
use Rattle.gr_prop.specs.declared.additions.Standing.TheVariants.{Rests}
use Rattle.gr_prop.proofs.Facts.{normal-distinct}
use Rattle.gr_prop.proofs.Short.{short}
use Rattle.gr_prop.proofs.Stores.{remove-insert}
use Rattle.gr_prop.proofs.Finding.{unused-none}
use Rattle.gr_prop.proofs.Adding.{clause-known}
use Rattle.gr_prop.proofs.Arrivals.{kept-rests, pairs-come, IsArrived, IsComing, arrived, taken-back, stands-at}
use Rattle.gr_prop.proofs.bases.Base.add.Goals.{After-vars-longest, After-lits-lits, After-arrange, After-assess}
use Rattle.gr_prop.proofs.bases.Base.add.Goals as goal

-- no clause has more literals than there may be variables
pub few : (c : After-vars-longest) → length c.args.clause.now ≤ 1_000_000
few c =
    let most = short c.args.clause.now c.self.inside.trail.vars (normal-distinct c.args.clause.now c.requires.normal)
    (subst (λ (b : BaseState). All (λ (l : Literal). l.index < b.trail.vars) c.args.clause.now) (sym c.self.view_is)
    c.requires.known) in
    omega (arith, most, c.self.invariant.0.ready.vars, c.vars-longest.ensures.is, c.vars-longest.ensures.small)

-- what is known of the clause once its literals are arranged
pub come : (c : After-arrange) → IsArrived c.self.inside.arena.clauses c.arrange.new.arena.clauses c.self.inside.trail
    c.in_ok-place.place (record { id = c.args.id; lbd = c.args.lbd; lits = c.lits.result.now })
come c =
    let s = c.self.inside in
    arrived s.arena.clauses c.add.new.self.clauses c.arrange.new.arena.clauses s.trail c.in_ok-place.place _
    c.in_ok-place.ensures.fresh c.in_ok-place.ensures.clauses
    c.arrange.ensures.reordered c.arrange.ensures.arranged c.arrange.ensures.still
    (subst IsNormal (sym c.lits.ensures) c.requires.normal)
    (subst (All (λ (l : Literal). l.index < s.trail.vars)) (sym c.lits.ensures)
    (subst (λ (b : BaseState). All (λ (l : Literal). l.index < b.trail.vars) c.args.clause.now) (sym c.self.view_is)
    c.requires.known))
    (subst (IsAddable s.trail) (sym c.lits.ensures)
    (subst (λ (b : BaseState). IsAddable b.trail c.args.clause.now) (sym c.self.view_is) c.requires.addable))

-- its literals are known
pub known : (c : After-arrange) → All (λ (l : Literal). l.index < c.self.inside.trail.vars)
    (lits_at c.arrange.new.arena.clauses c.in_ok-place.place.0)
known c =
    let s = c.self.inside in
    let a = come c in
    clause-known s.arena.clauses c.arrange.new.arena.clauses s.trail s.watches s.head s.broken.items
    c.in_ok-place.place _ c.self.invariant.0.ready a.fresh a.reordered a.distinct a.known

-- and the lists have room for its watches
pub watched : (c : After-lits-lits) → record {
  known : All (λ (l : Literal). l.index < c.self.inside.watches.vars) c.lits-lits.result.now;
  alike : c.self.inside.pairs.vars ≡ c.self.inside.watches.vars;
}
watched c = record {
  known = subst (λ n. All (λ (l : Literal). l.index < n) c.lits-lits.result.now) (sym c.self.invariant.0.ready.vars)
      (subst (All (λ (l : Literal). l.index < c.self.inside.trail.vars)) (sym c.lits-lits.ensures)
      (known (goal.at.After-lits-lits c).After-arrange));
  alike = c.self.invariant.1.vars' ∙ sym c.self.invariant.0.ready.vars;
}

-- no clause of the base has its id
pub lacks : (c : After-arrange) → LacksId (clauses_in c.self.inside.arena.clauses) c.args.id
lacks c = subst (λ (b : BaseState). LacksId b.clauses c.args.id) (sym c.self.view_is) c.requires.unused

-- the index is back where its id is taken out
pub index-back : (c : After-arrange) → finite.remove (finite.insert c.self.inside.places c.args.id c.in_ok-place.place)
    c.args.id ≡ c.self.inside.places
index-back c =
    let s = c.self.inside in
    remove-insert s.places c.args.id c.in_ok-place.place
    (unused-none (clauses_in s.arena.clauses) s.places c.args.id c.self.invariant.0.indexed (lacks c))

-- the base's clauses are back where it is removed
pub taken : (c : After-arrange) → finite.remove c.arrange.new.arena.clauses c.in_ok-place.place.0
    ≡ c.self.inside.arena.clauses
taken c = taken-back c.self.inside.arena.clauses c.add.new.self.clauses c.arrange.new.arena.clauses
    c.in_ok-place.place _ c.in_ok-place.ensures.fresh c.in_ok-place.ensures.clauses c.arrange.ensures.reordered

-- it has its watches and its id
pub coming : (c : After-assess) → IsArrived c.self.inside.arena.clauses c.arrange.new.arena.clauses c.self.inside.trail
    c.in_ok-place.place (record { id = c.args.id; lbd = c.args.lbd; lits = c.lits.result.now })
    → LacksId (clauses_in c.self.inside.arena.clauses) c.args.id
    → IsComing c.self.inside.arena.clauses c.arrange.new.arena.clauses c.self.inside.trail c.self.inside.watches
    c.watch.new.watches c.self.inside.places c.insert.new.self c.self.inside.head c.self.inside.broken.items
    c.self.inside.quiet c.self.inside.conflict c.in_ok-place.place
    (record { id = c.args.id; lbd = c.args.lbd; lits = c.lits.result.now })
coming c come unused = record {
  kept = c.self.invariant.0;
  come = come;
  unused = unused;
  lists = c.in_default-watch.ensures.ok
      ∙ ap (λ ls. watching_too c.self.inside.watches c.in_ok-place.place (longer ls)) c.lits-lits.ensures;
  index = c.in_default.ensures.ok;
}

pub now : (c : After-assess) → IsComing c.self.inside.arena.clauses c.arrange.new.arena.clauses c.self.inside.trail
    c.self.inside.watches c.watch.new.watches c.self.inside.places c.insert.new.self c.self.inside.head
    c.self.inside.broken.items c.self.inside.quiet c.self.inside.conflict c.in_ok-place.place
    (record { id = c.args.id; lbd = c.args.lbd; lits = c.lits.result.now })
now c = let a = (goal.at.After-assess c).After-arrange in coming c (come a) (lacks a)

-- so have the lists of the clauses of two literals
pub pairs-now : (c : After-assess) → ArePaired c.arrange.new.arena.clauses c.self.inside.trail.vars c.watch.new.pairs
pairs-now c = pairs-come (now c) c.self.inside.pairs c.watch.new.pairs c.self.invariant.1
    (c.in_default-watch.ensures.pairs
    ∙ ap (λ ls. watching_too c.self.inside.pairs c.in_ok-place.place (paired ls)) c.lits-lits.ensures)

-- how it stands
pub stands : (c : After-assess) (x : Standing) → c.assess.result ≡ x → StandsAs c.self.inside.trail.assigned
    (lits_at c.arrange.new.arena.clauses c.in_ok-place.place.0) x
stands c x is = stands-at c.self.inside.trail.assigned (lits_at c.arrange.new.arena.clauses c.in_ok-place.place.0)
    c.lits-2.result.now c.assess.result x c.lits-2.ensures is c.assess.ensures

-- at rest it leaves a base
pub kept-at-rest : (c : After-assess) → c.assess.result ≡ Rests → IsKeptBase c.arrange.new.arena.clauses
    c.self.inside.trail c.watch.new.watches c.insert.new.self c.self.inside.head c.reserve.new.self.items false None
    × ArePaired c.arrange.new.arena.clauses c.self.inside.trail.vars c.watch.new.pairs
kept-at-rest c is = (
  subst (λ xs. IsKeptBase c.arrange.new.arena.clauses c.self.inside.trail c.watch.new.watches c.insert.new.self
      c.self.inside.head xs false None) (sym c.reserve.ensures.items) (kept-rests (now c) (stands c Rests is)),
  pairs-now c,
)

-- the base before and afterwards, as its view tells them
abbrev pub was : After-assess → BaseState
was c = record {
  clauses = clauses_in c.self.inside.arena.clauses;
  trail = c.self.inside.trail;
  quiet = c.self.inside.quiet;
  conflict = c.self.inside.conflict;
}

abbrev pub becomes : After-assess → TrailState → BaseState
becomes c t = record { clauses = clauses_in c.arrange.new.arena.clauses; trail = t; quiet = false; conflict = None }

pub as-added : (c : After-assess) (t : TrailState) → IsAdded (was c) (becomes c t) c.args.id c.args.lbd
    c.lits.result.now c.in_ok-place.place
    → IsAdded c.args.self.now (becomes c t) c.args.id c.args.lbd c.args.clause.now c.in_ok-place.place
as-added c t added =
    subst (λ (b : BaseState). IsAdded b (becomes c t) c.args.id c.args.lbd c.args.clause.now c.in_ok-place.place)
    c.self.view_is
    (subst (λ ls. IsAdded (was c) (becomes c t) c.args.id c.args.lbd ls c.in_ok-place.place) c.lits.ensures added)
