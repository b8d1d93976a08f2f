use Rattle.bib_keys.proofs.Words.{◌∙◌, ap, IfOk-weaker, entries_of, LabelParts, parts_of, parts_with, base_from, parts_along}
use Rattle.bib_keys.proofs.RecordBases.{base_along}
use Rattle.bib_keys.proofs.label_bases.Parents.label_base.Goals as goal

pub returns-clause-base : goal.returns-clause-base
returns-clause-base g c = IfOk-weaker c.base_with.result _ _
    (λ base h r reads entry at.
    h
    ∙ ap (λ (parts : LabelParts). base_from (parts_with (parts_of c.as_slice.result.now) parts))
    (c.inherited.ensures c.args.records.now.db.now c.in_ok-find_line.ensures.parents r reads ∙ ap (parts_along (entries_of r)) (c.in_ok-find_line.ensures.line r reads))
    ∙ base_along _ (entries_of r) c.args.records.now.depth c.args.n entry c.as_slice.result.now c.requires.names at (c.as_slice.ensures ∙ c.in-Ok.ensures.fields r reads))
    c.base_with.ensures
