use Rattle.bib_answers.proofs.Words.{◌∙◌, ◌++◌, true, get_or, ap, Text}
use Rattle.bib_answers.specs.Entry.{entry_text}
use Rattle.bib_answers.proofs.LineLists.{lines_more}
use Rattle.bib_answers.proofs.entry.placed_texts.Goals as goal

pub entries-preserved : goal.entries-preserved
entries-preserved c r reads =
    c.in_ok-add_placed.ensures r reads
    ∙ ap (λ (t : Text). t ++ entry_text true r (get_or c.args.list.now c.entries.n-index 0)) (c.entries.invariant r reads)
    ∙ lines_more (entry_text true r) c.args.list.now c.entries.n-index 0 c.entries-test.true
