-- a round of propagation, and how the rounds end
use Rattle.std.proofs.Common.{◌≡◌, ℕ, ◌≤◌, ◌<◌, ◌+◌, length, take, arith, [], IsSome, get_or, refl, sym, ap, ◌∙◌, subst}
use Rattle.std.specs.FinMap as finite
use Rattle.std.specs.List.{slice_get}
use Rattle.std.proofs.lemmas.List.{length-map, length-append}
use Rattle.gr_logic.specs.Literals.{negation}
use Rattle.gr_trail.specs.Trails.{Assigned, lits_of}
use Rattle.gr_prop.specs.Bases.{clauses_in, family, decisions, IsUnitClosure}
use Rattle.gr_prop.specs.BaseChanges.{IsGrown}
use Rattle.gr_prop.specs.Walking.{IsWalking}
use Rattle.gr_prop.specs.Watching.{lits_at, AllFalse, IsReady, IsIndexed, ArePaired}
use Rattle.gr_prop.specs.Pairing.{ArePassed}
use Rattle.gr_prop.proofs.Passing.{ready-grown, paired-grown, paired-walked, passed-walked}
use Rattle.gr_prop.proofs.Rounds.{lit-at, round-begins, round-on, round-stops, ready-closed}
use Rattle.gr_prop.proofs.Keeping.{grown-on, first-broken, none-first, decisions-grown}
use Rattle.gr_prop.proofs.bases.Base.propagate.Goals.{In-Some, In_default, After-pass, After-negate-gone, After-take-list, After-put, In-None, In-Some-2, After-loop-self}
use Rattle.gr_prop.proofs.bases.Base.propagate.Goals as goal

-- the first clause that was false when it came in is false
pub broken : (c : In-Some) → IsSome (finite.get c.self.inside.arena.clauses c.in-Some.place.0)
    × AllFalse c.self.inside.trail.assigned (lits_at c.self.inside.arena.clauses c.in-Some.place.0)
broken c = c.self.invariant.0.ready.broken'.false' c.in-Some.place.0
    (first-broken c.self.inside.broken.items c.in-Some.place (sym (c.copied.ensures ∙ c.first.ensures.value ∙ ap
    (λ xs. slice_get xs 0) c.deref.ensures.value) ∙ c.in-Some.is))

-- where no clause was false when it came in
pub none-broken : (c : In_default) → c.self.inside.broken.items ≡ []
none-broken c = none-first c.self.inside.broken.items
    (sym (c.copied.ensures ∙ c.first.ensures.value ∙ ap (λ xs. slice_get xs 0) c.deref.ensures.value) ∙
    c.in_default.is)

-- the binary lists leave a base that is ready
pub passed-ready : (c : After-pass) → IsReady c.loop-self.self-inside.arena.clauses c.pass.new.trail
    c.loop-self.self-inside.watches c.loop-self.self-inside.head []
passed-ready c =
    let s = c.loop-self.self-inside in
    ready-grown s.arena.clauses s.trail s.watches s.pairs s.head c.loop-self.invariant.ready c.pass.new.trail
    c.pass.ensures.grown c.pass.ensures.sound

pub passed-paired : (c : After-pass) → ArePaired c.loop-self.self-inside.arena.clauses c.pass.new.trail.vars
    c.loop-self.self-inside.pairs
passed-paired c =
    let s = c.loop-self.self-inside in
    paired-grown s.arena.clauses s.trail s.watches s.pairs s.head c.loop-self.invariant.ready c.pass.new.trail
    c.pass.ensures.grown c.loop-self.invariant.paired

pub passed-grown : (c : After-pass) → IsGrown c.args.self.now.trail c.pass.new.trail
passed-grown c = grown-on _ c.loop-self.self-inside.trail _ c.loop-self.invariant.grown c.pass.ensures.grown

-- the literal at the queue's head
pub at-head : (c : After-negate-gone) → (x : Assigned)
    × ((x ≡ get_or c.pass.new.trail.assigned c.loop-self.self-inside.head x)
    × ((x.lit ≡ c.index-lits-self.result) × (c.loop-self.self-inside.head < length c.pass.new.trail.assigned)))
at-head c =
    let s = c.loop-self.self-inside in
    let more = ap length c.pass.ensures.grown.assigned ∙ length-append s.trail.assigned c.pass.ensures.grown.more in
    let was : s.head < length s.trail.assigned = subst (λ n. s.head < n)
    (ap length c.lits.ensures.lits ∙ length-map s.trail.assigned (λ x. x.lit)) c.loop-self-test.true in
    let low : s.head < length (lits_of c.pass.new.trail.assigned) = omega (
      arith,
      more,
      was,
      length-map c.pass.new.trail.assigned (λ x. x.lit),
    ) in
    lit-at c.pass.new.trail.assigned s.head c.index-lits-self.result low
    (c.index-lits-self.is ∙ ap (λ ls. get_or ls s.head c.index-lits-self.result) c.lits-in-loop-self.ensures.lits)

-- its negation is what became false
pub gone-is : (c : After-negate-gone) → c.negate-gone.result ≡ negation (at-head c).0.lit
gone-is c = c.negate-gone.ensures ∙ ap negation (sym (at-head c).1.1.0)

-- and its variable is known
pub gone-known : (c : After-negate-gone) → c.negate-gone.result.index < c.loop-self.self-inside.watches.vars
gone-known c =
    let s = c.loop-self.self-inside in
    let x = at-head c in
    let ready = passed-ready (goal.at.After-negate-gone c).After-pass in
    let walk = round-begins s.arena.clauses c.pass.new.trail s.watches _ _ s.head x.0 c.negate-gone.result
    ready x.1.1.1 x.1.0 (gone-is c) refl refl in
    subst (λ n. c.negate-gone.result.index < n) (sym ready.vars) walk.low

-- the list that was taken out can be walked
pub walks : (c : After-take-list) → IsWalking c.loop-self.self-inside.arena.clauses c.pass.new.trail
    c.take-list.new.self c.take-list.result.items c.negate-gone.result
walks c =
    let s = c.loop-self.self-inside in
    let g = (goal.at.After-take-list c).After-negate-gone in
    let x = at-head g in
    round-begins s.arena.clauses c.pass.new.trail s.watches c.take-list.new.self c.take-list.result.items s.head x.0
    c.negate-gone.result (passed-ready (goal.at.After-take-list c).After-pass) x.1.1.1 x.1.0
    (gone-is g) c.take-list.ensures.rest
    c.take-list.ensures.list

-- the walked list is back
pub stopped : (c : After-put) → IsReady c.walk-found.new.arena.clauses c.walk-found.new.trail c.put.new.self
    c.loop-self.self-inside.head []
stopped c =
    let s = c.loop-self.self-inside in
    round-stops s.arena.clauses _ c.pass.new.trail _ s.watches c.walk-found.new.watches c.put.new.self
    c.walk-found.new.list.items c.negate-gone.result s.head (passed-ready (goal.at.After-put c).After-pass)
    c.walk-found.ensures.progress c.walk-found.ensures.walking c.put.ensures

-- and with the clauses that were false when they came in, of which there are none
pub stopped-broken : (c : After-put) → IsReady c.walk-found.new.arena.clauses c.walk-found.new.trail c.put.new.self
    c.loop-self.self-inside.head c.loop-self.self-inside.broken.items
stopped-broken c = subst (IsReady c.walk-found.new.arena.clauses c.walk-found.new.trail c.put.new.self
    c.loop-self.self-inside.head) (sym c.loop-self.invariant.none) (stopped c)

-- what the walk keeps
pub indexed-still : (c : After-put) → IsIndexed (clauses_in c.walk-found.new.arena.clauses)
    c.loop-self.self-inside.places
indexed-still c = subst (λ k. IsIndexed k c.loop-self.self-inside.places)
    (sym c.walk-found.ensures.progress.clauses) c.loop-self.invariant.indexed

pub clauses-still : (c : After-put) → clauses_in c.walk-found.new.arena.clauses ≡ c.args.self.now.clauses
clauses-still c = c.walk-found.ensures.progress.clauses ∙ c.loop-self.invariant.clauses

pub grown-still : (c : After-put) → IsGrown c.args.self.now.trail c.walk-found.new.trail
grown-still c = grown-on _ c.pass.new.trail _ (passed-grown (goal.at.After-put c).After-pass)
    c.walk-found.ensures.progress.grown

pub paired-still : (c : After-put) → ArePaired c.walk-found.new.arena.clauses c.walk-found.new.trail.vars
    c.loop-self.self-inside.pairs
paired-still c = paired-walked c.loop-self.self-inside.arena.clauses _ c.pass.new.trail _ c.loop-self.self-inside.pairs
    c.walk-found.ensures.progress (passed-paired (goal.at.After-put c).After-pass)

pub decisions-still : (c : After-put) → decisions c.walk-found.new.trail.assigned
    ≡ decisions c.args.self.now.trail.assigned
decisions-still c = decisions-grown _ _ (grown-still c)

-- all literals that the trail had before the walk passed the binary lists
pub passed-on : (c : In-None) → (m : ℕ) → m ≤ length c.pass.new.trail.assigned
    → ArePassed c.walk-found.new.arena.clauses c.walk-found.new.trail.assigned (take m c.walk-found.new.trail.assigned)
passed-on c m low = passed-walked c.loop-self.self-inside.arena.clauses _ c.pass.new.trail _
    c.loop-self.self-inside.pairs c.walk-found.ensures.progress m low (rw c.in_default-pass.is at c.pass.ensures.passed)

-- they are as many as were counted
pub counted : (c : In-None) → length c.lits-ahead.result.now ≡ length c.pass.new.trail.assigned
counted c = ap length c.lits-ahead.ensures.lits ∙ length-map c.pass.new.trail.assigned (λ x. x.lit)

pub ahead-low : (c : In-None) → c.loop-self.self-inside.head + 1 ≤ length c.lits-ahead.result.now
ahead-low c = omega (arith, counted c, (at-head (goal.at.In-None c).After-negate-gone).1.1.1)

pub ahead-high : (c : In-None) → length c.lits-ahead.result.now ≤ length c.walk-found.new.trail.assigned
ahead-high c =
    let more = ap length c.walk-found.ensures.progress.grown.assigned
    ∙ length-append c.pass.new.trail.assigned c.walk-found.ensures.progress.grown.more in
    omega (arith, counted c, more)

pub passed-ahead : (c : In-None) → ArePassed c.walk-found.new.arena.clauses c.walk-found.new.trail.assigned
    (take (length c.lits-ahead.result.now) c.walk-found.new.trail.assigned)
passed-ahead c = passed-on c (length c.lits-ahead.result.now) (omega (arith, counted c))

-- where no clause is false, one literal more was propagated
pub goes-on : (c : In-None) → IsReady c.walk-found.new.arena.clauses c.walk-found.new.trail c.put.new.self
    (c.loop-self.self-inside.head + 1) []
goes-on c =
    let s = c.loop-self.self-inside in
    let w = c.walk-found.ensures in
    let g = (goal.at.In-None c).After-negate-gone in
    let x = at-head g in
    round-on s.arena.clauses c.walk-found.new.arena.clauses c.pass.new.trail c.walk-found.new.trail s.watches
    c.walk-found.new.watches c.put.new.self c.walk-found.new.list.items c.negate-gone.result s.head x.0
    (passed-ready (goal.at.In-None c).After-pass) x.1.1.1 x.1.0 (gone-is g) w.progress w.walking c.put.ensures
    (rw c.in-None.is at c.in_ok-place.ensures.visited)
    (passed-on c (s.head + 1) (omega (arith, x.1.1.1)))

-- the clause that the walk ended at is false
pub found-there : (c : In-Some-2) → IsSome
    (finite.get c.walk-found.new.arena.clauses c.in-Some-2.place.0)
found-there c = rw c.in-Some-2.is at c.in_ok-place.ensures.there

pub found-false : (c : In-Some-2) → AllFalse c.walk-found.new.trail.assigned
    (lits_at c.walk-found.new.arena.clauses c.in-Some-2.place.0)
found-false c = rw c.in-Some-2.is at c.in_ok-place.ensures.falsified

-- nothing is left in the queue
pub ended : (c : After-loop-self) → length c.loop-self.self-inside.trail.assigned ≤ c.loop-self.self-inside.head
ended c = subst (λ n. n ≤ c.loop-self.self-inside.head) (ap length c.lits.ensures.lits
    ∙ length-map c.loop-self.self-inside.trail.assigned (λ x. x.lit)) c.loop-self-test.false

-- so the trail is closed
pub closes : (c : After-loop-self) → IsUnitClosure (family (clauses_in c.loop-self.self-inside.arena.clauses))
    (decisions c.loop-self.self-inside.trail.assigned) c.loop-self.self-inside.trail.assigned
closes c =
    let s = c.loop-self.self-inside in
    ready-closed s.arena.clauses s.trail s.watches s.head c.loop-self.invariant.ready (ended c)
