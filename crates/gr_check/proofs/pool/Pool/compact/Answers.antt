-- the clauses are the same where they were moved to
use Rattle.std.proofs.Common.{◌≡◌, true, length, arith}
use Rattle.gr_check.specs.Runs.{are_in_order}
use Rattle.gr_check.proofs.Compactions.{both_in_order, compacted_within, compacted_clauses}
use Rattle.gr_check.proofs.pool.Pool.compact.Goals as goal

pub slide-middle-requires-clause-order : goal.slide-middle-requires-clause-order
slide-middle-requires-clause-order c =
    (both_in_order c.len-count.result (length c.self.inside.lits.items) c.in-Some.start
    c.self.inside.runs.near.items c.self.inside.runs.far.items c.deref.result.now c.deref-2.result.now
    c.end_in_order.result c.end_in_order-2.result (omega (arith, c.len-count.ensures)) c.deref.ensures.value
    c.deref-2.ensures.value c.end_in_order.ensures.order c.in-Some.is c.end_in_order-2.ensures.order
    c.if-is_none.ensures).0

pub slide-middle-requires-clause-within : goal.slide-middle-requires-clause-within
slide-middle-requires-clause-within c =
    (both_in_order c.len-count.result (length c.self.inside.lits.items) c.in-Some.start
    c.self.inside.runs.near.items c.self.inside.runs.far.items c.deref.result.now c.deref-2.result.now
    c.end_in_order.result c.end_in_order-2.result (omega (arith, c.len-count.ensures)) c.deref.ensures.value
    c.deref-2.ensures.value c.end_in_order.ensures.order c.in-Some.is c.end_in_order-2.ensures.order
    c.if-is_none.ensures).1

pub slide-end-requires-clause-order : goal.slide-end-requires-clause-order
slide-end-requires-clause-order c =
    let in_order = both_in_order c.len-count.result (length c.self.inside.lits.items) c.in-Some.start
    c.self.inside.runs.near.items c.self.inside.runs.far.items c.deref.result.now c.deref-2.result.now
    c.end_in_order.result c.end_in_order-2.result (omega (arith, c.len-count.ensures)) c.deref.ensures.value
    c.deref-2.ensures.value c.end_in_order.ensures.order c.in-Some.is c.end_in_order-2.ensures.order
    c.if-is_none.ensures in
    rw c.slide-middle.ensures.slid.ends in_order.2

pub slide-end-requires-clause-within : goal.slide-end-requires-clause-within
slide-end-requires-clause-within c =
    let in_order = both_in_order c.len-count.result (length c.self.inside.lits.items) c.in-Some.start
    c.self.inside.runs.near.items c.self.inside.runs.far.items c.deref.result.now c.deref-2.result.now
    c.end_in_order.result c.end_in_order-2.result (omega (arith, c.len-count.ensures)) c.deref.ensures.value
    c.deref-2.ensures.value c.end_in_order.ensures.order c.in-Some.is c.end_in_order-2.ensures.order
    c.if-is_none.ensures in
    rw c.slide-middle.ensures.slid.count in_order.3

pub invariant_of-self : goal.invariant_of-self
invariant_of-self c =
    rw c.truncate.ensures.items
    (compacted_within c.self.inside.lits.items c.slide-middle.new.lits.items c.slide-end.new.lits.items
    c.self.inside.runs.far_ids c.self.inside.runs.near.items c.self.inside.runs.far.items
    c.slide-middle.new.slots.items c.slide-end.new.slots.items c.slide-middle.result c.slide-end.result
    c.slide-middle.ensures.slid c.slide-end.ensures.slid)

pub returns : goal.returns
returns c =
    let in_order = both_in_order c.len-count.result (length c.self.inside.lits.items) c.in-Some.start
    c.self.inside.runs.near.items c.self.inside.runs.far.items c.deref.result.now c.deref-2.result.now
    c.end_in_order.result c.end_in_order-2.result (omega (arith, c.len-count.ensures)) c.deref.ensures.value
    c.deref-2.ensures.value c.end_in_order.ensures.order c.in-Some.is c.end_in_order-2.ensures.order
    c.if-is_none.ensures in
    let behind : are_in_order c.slide-middle.result c.self.inside.runs.far.items ≡ true =
    rw c.slide-middle.ensures.slid.ends in_order.2 in
    rw (← c.self.view_is, c.truncate.ensures.items)
    (compacted_clauses c.self.inside.lits.items c.slide-middle.new.lits.items c.slide-end.new.lits.items
    c.self.inside.runs.far_ids c.self.inside.runs.near.items c.self.inside.runs.far.items
    c.slide-middle.new.slots.items c.slide-end.new.slots.items c.slide-middle.result c.slide-end.result
    c.slide-middle.ensures.slid c.slide-end.ensures.slid behind)
