use Rattle.std.proofs.Common.{sym, ◌∙◌}
use Rattle.bibtex_labels.proofs.PieceLemmas.{special_first}
use Rattle.bibtex_labels.proofs.pieces.Pieces.next.Goals as goal

pub returns-then-begins_special-clause-some : goal.returns-then-begins_special-clause-some
returns-then-begins_special-clause-some c =
    rw (c.split_at.ensures.front, c.split_at.ensures.back)
    (sym c.self.view_is
    ∙ special_first c.self.inside.depth _ c.inside_len.result c.self.inside.text.now _ c.in_ok-byte.ensures.cases.0 c.inside_len.ensures.len
    (sym c.begins_special.ensures ∙ c.if-begins_special.true))
