use Rattle.std.proofs.Common.{◌≡◌, ◌∙◌, ◌∷◌, sym}
use Rattle.std.proofs.lemmas.List.Elements.{All-head, All-same}
use Rattle.gr_logic.specs.Log.{HasIds}
use Rattle.gr_diary.specs.Diaries.{lines_coming}
use Rattle.gr_history.proofs.LinePieces.{line-failed, line-then}
use Rattle.gr_history.proofs.history_texts.print_history.Goals as goal

pub write_line-requires : goal.write_line-requires
write_line-requires g c =
    let coming : lines_coming c.printing.lines ≡ c.in-Ok-Some.line ∷ lines_coming c.next.new.self =
    rw c.in-Ok-Some.field-0-is at c.in-Ok-Some.ensures.some in
    All-head HasIds c.in-Ok-Some.line _ (All-same HasIds _ _ (sym coming) c.printing.invariant.printed.ids)

pub printing-preserved : goal.printing-preserved
printing-preserved g c =
    let coming : lines_coming c.printing.lines ≡ c.in-Ok-Some.line ∷ lines_coming c.next.new.self =
    rw c.in-Ok-Some.field-0-is at c.in-Ok-Some.ensures.some in
    record {
      same = c.write_line.ensures.same ∙ c.printing.invariant.same;
      printed =
          line-then _ _ _ c.in-Ok-Some.line _ _ _ _ _ _ _ _ _ coming c.printing.invariant.printed
          c.in-Ok.ensures.ok c.in-Ok.ensures.calm;
    }

pub printing-preserved-in-Ok : goal.printing-preserved-in-Ok
printing-preserved-in-Ok g c =
    let coming : lines_coming c.printing.lines ≡ c.in-Ok-Some.line ∷ lines_coming c.next.new.self =
    rw c.in-Ok-Some.field-0-is at c.in-Ok-Some.ensures.some in
    record {
      same = c.write_line.ensures.same ∙ c.printing.invariant.same;
      printed =
          line-then _ _ _ c.in-Ok-Some.line _ _ _ _ _ _ _ _ _ coming c.printing.invariant.printed
          c.in-Ok.ensures.ok c.in-Ok.ensures.calm;
    }

pub returns-in-Err-write_line-clause-err : goal.returns-in-Err-write_line-clause-err
returns-in-Err-write_line-clause-err g c =
    let coming : lines_coming c.printing.lines ≡ c.in-Ok-Some.line ∷ lines_coming c.next.new.self =
    rw c.in-Ok-Some.field-0-is at c.in-Ok-Some.ensures.some in
    line-failed _ _ _ c.in-Ok-Some.line _ _ _ _ _ _ _ coming c.printing.invariant.printed
    c.in-Err-write_line.ensures.err
