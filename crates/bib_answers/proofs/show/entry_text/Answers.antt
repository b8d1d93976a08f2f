use Rattle.bib_answers.proofs.Words.{◌∙◌, IfOk-weaker, entries_of}
use Rattle.bib_answers.proofs.Shown.{parent_number, shown_with}
use Rattle.bib_answers.proofs.show.entry_text.Goals as goal

pub expanded_text-requires : goal.expanded_text-requires
expanded_text-requires c = parent_number _ c.args.n c.in-Ok.expanded.parent c.in-Ok.ensures.parent

pub returns : goal.returns
returns c =
    IfOk-weaker c.expanded_text.result _ _
    (λ text h r reads. h r reads ∙ shown_with c.args.depth (entries_of r) c.args.n c.in-Ok.expanded.rec c.in-Ok.expanded.parent (c.in-Ok.ensures.rec r reads) (c.in-Ok.ensures.parent r reads))
    c.expanded_text.ensures
