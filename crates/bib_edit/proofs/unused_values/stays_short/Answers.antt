use Rattle.bib_edit.proofs.Words.{sym, ◌∙◌}
use Rattle.bib_edit.proofs.unused_values.stays_short.Goals as goal

pub returns-in-Some-clause-short : goal.returns-in-Some-clause-short
returns-in-Some-clause-short g c is db reads v valued spelled =
    record { text = c.is_short_at.ensures is db reads v valued spelled; unused = sym (c.in_ok-is_used_from.ensures.used db reads) ∙ c.if-branch.false }
