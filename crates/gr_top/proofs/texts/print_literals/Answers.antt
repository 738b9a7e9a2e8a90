use Rattle.std.proofs.Common.{◌≡◌, ◌∙◌, ◌+◌, ◌-◌, ◌++◌, drop, get_or, false, ap, subst, arith}
use Rattle.std.proofs.lemmas.List.{drop_more, drop_all}
use Rattle.gr_io.specs.Pieces.{GainsPart}
use Rattle.gr_logic.specs.Literals.{Literal}
use Rattle.gr_text.specs.Printing.{Prints}
use Rattle.gr_top.specs.Texts.{literals_text, literal_text, true_literals}
use Rattle.gr_lrat.proofs.Printed.{front-failed, front-then}
use Rattle.gr_top.proofs.Pieces.{front-ended, front-cut}
use Rattle.gr_top.proofs.texts.print_literals.Goals as goal

pub loop-value-preserved : goal.loop-value-preserved
loop-value-preserved g c =
    let written = g.K.Sink.written in
    let values = c.args.values.now in
    let begun = c.args.printer.now in
    let here = c.loop-value.printer in
    let then = c.print_literal.new.printer in
    let at = c.loop-value.value-index in
    let place = c.loop-value.place in
    let value = get_or values at false in
    let index : c.loop-value.var + 1 - 1 ≡ c.loop-value.var = omega arith in
    let lit : c.of_var.result ≡ record { index = c.loop-value.var; positive = value } =
    c.of_var.ensures ∙ ap (λ n. record { index = n; positive = value }) index in
    let P : Literal → Type 0 =
    λ l. Prints (literal_text place l) (written here.sink.now) here.pending (written then.sink.now) then.pending in
    let split = drop_more values at false c.loop-value-test.true in
    record {
      same = c.print_literal.ensures.same ∙ c.loop-value.invariant.same;
      front =
          rw c.next_place-place.ensures.next
          (front-then (literals_text 0 (true_literals 0 values))
          (literal_text place (record { index = c.loop-value.var; positive = value }))
          (literals_text _ (true_literals (c.loop-value.var + 1) (drop (at + 1) values)))
          (written begun.sink.now) (written here.sink.now) (written then.sink.now)
          begun.pending here.pending then.pending
          (rw split at c.loop-value.invariant.front) (subst P lit c.in-Ok.ensures.ok));
      grows = omega (arith, c.loop-value.invariant.grows, c.print_literal.ensures.grows);
      calm = c.in-Ok.ensures.calm ∙ c.loop-value.invariant.calm;
      var = omega (arith, c.loop-value.invariant.var);
      place = c.next_place-place.ensures.within;
    }

pub returns-in-Err-clause-err : goal.returns-in-Err-clause-err
returns-in-Err-clause-err g c =
    let written = g.K.Sink.written in
    let values = c.args.values.now in
    let begun = c.args.printer.now in
    let here = c.loop-value.printer in
    let at = c.loop-value.value-index in
    let place = c.loop-value.place in
    let value = get_or values at false in
    let index : c.loop-value.var + 1 - 1 ≡ c.loop-value.var = omega arith in
    let lit : c.of_var.result ≡ record { index = c.loop-value.var; positive = value } =
    c.of_var.ensures ∙ ap (λ n. record { index = n; positive = value }) index in
    let P : Literal → Type 0 =
    λ l. GainsPart (here.pending ++ literal_text place l) (written here.sink.now)
    (written c.print_literal.new.printer.sink.now) in
    let split = drop_more values at false c.loop-value-test.true in
    front-failed (literals_text 0 (true_literals 0 values))
    (literal_text place (record { index = c.loop-value.var; positive = value }))
    (literals_text _ (true_literals (c.loop-value.var + 1) (drop (at + 1) values)))
    (written begun.sink.now) (written here.sink.now) _ begun.pending here.pending
    (rw split at c.loop-value.invariant.front) (subst P lit c.in-Err.ensures.err)

pub returns-clause-ok : goal.returns-clause-ok
returns-clause-ok g c =
    let none = drop_all c.loop-value.value-index c.args.values.now c.loop-value-test.false in
    front-ended c.bytes.result (literals_text 0 (true_literals 0 c.args.values.now)) _ _ _ _ _ _ _
    (rw none at c.loop-value.invariant.front) c.bytes.ensures.ok

pub returns-clause-err : goal.returns-clause-err
returns-clause-err g c =
    let none = drop_all c.loop-value.value-index c.args.values.now c.loop-value-test.false in
    front-cut c.bytes.result (literals_text 0 (true_literals 0 c.args.values.now)) _ _ _ _ _ _
    (rw none at c.loop-value.invariant.front) c.bytes.ensures.err
