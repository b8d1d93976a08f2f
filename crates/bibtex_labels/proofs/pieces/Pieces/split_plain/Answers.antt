use Rattle.std.proofs.Common.{◌∙◌, sym}
use Rattle.bibtex_labels.proofs.PieceLemmas.{plain_first}
use Rattle.bibtex_labels.proofs.pieces.Pieces.split_plain.Goals as goal

pub returns : goal.returns
returns c =
    rw (c.split_at.ensures.front, c.split_at.ensures.back)
    (sym c.self.view_is ∙ plain_first c.self.inside.depth c.plain_len.result c.self.inside.text.now c.plain_len.ensures.len)
