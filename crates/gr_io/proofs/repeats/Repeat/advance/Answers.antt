-- the next place in the piece is that of the rest of this round, or of a new one
use Rattle.std.proofs.Common.{◌<◌, ◌≤◌, ◌+◌, ◌∙◌, ap, length, drop, arith}
use Rattle.std.proofs.lemmas.List.{length-drop}
use Rattle.gr_io.proofs.Rounds.{within_round, round_over}
use Rattle.gr_io.proofs.repeats.Repeat.advance.Goals as goal
use Rattle.gr_io.proofs.repeats.Repeat.advance.Goals.{then-self-len, else-self-len}

pub returns : goal.returns
returns c =
    let old = c.self.inside in
    let within : c.args.count ≤ length (drop old.at old.piece.items) =
    rw (← c.self.view_is) at c.requires in
    let size = length-drop old.at old.piece.items in
    let inside : old.at < length old.piece.items = c.self.invariant in
    elim c.if-self-len.branch [
      | then-self-len w ↦ rw (← c.self.view_is) (record {
        piece = ap (λ s. s.piece.items) w.self-inside-is;
        rest = ap (λ s. drop s.at s.piece.items) w.self-inside-is
            ∙ round_over old.piece.items old.at c.args.count
            (omega (arith, w.if-self-len.true, c.len.ensures));
        taken = c.plus-self-inside.ensures
            ∙ ap (λ s. s.taken.count + c.args.count) w.self-inside-is;
      })
      | else-self-len w ↦ rw (← c.self.view_is) (record {
        piece = ap (λ s. s.piece.items) w.self-inside-is;
        rest = ap (λ s. drop s.at s.piece.items) w.self-inside-is
            ∙ within_round old.piece.items old.at c.args.count
            (omega (arith, w.if-self-len.false, c.len.ensures));
        taken = c.plus-self-inside.ensures
            ∙ ap (λ s. s.taken.count + c.args.count) w.self-inside-is;
      })
    ]
