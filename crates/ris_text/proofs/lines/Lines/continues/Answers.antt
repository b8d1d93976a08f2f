use Rattle.ris_text.proofs.Words.{◌≢◌, length, sym, ap, ◌∙◌, arith, eqb-false, Text, lines_from, line_texts, continues}
use Rattle.std.proofs.Common.{not}
use Rattle.ris_text.proofs.LineEnds.{continues_at}
use Rattle.ris_text.proofs.lines.Lines.continues.Goals as goal

pub returns-then-not-is_empty : goal.returns-then-not-is_empty
returns-then-not-is_empty c =
    let some : length c.split_at.result.1.now ≢ 0 = eqb-false _ _ (sym c.is_empty.ensures ∙ c.if-not-is_empty.true) in
    ap not c.has_tag.ensures.tag
    ∙ continues_at c.self.inside.place c.split_at.result.1.now (omega arith)
    ∙ ap (λ (t : Text). continues (lines_from c.self.inside.place (line_texts t))) c.split_at.ensures.back
    ∙ ap continues c.self.view_is
