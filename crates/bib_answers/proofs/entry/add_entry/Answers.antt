use Rattle.bib_answers.proofs.Words.{◌∙◌, ◌++◌, ap, on_ok_weaker, Text}
use Rattle.bib_answers.specs.Entry.{ended}
use Rattle.bib_answers.proofs.StandingEntries.{plain_text}
use Rattle.bib_answers.proofs.entry.add_entry.Goals as goal

pub returns : goal.returns
returns c = on_ok_weaker c.add_ended.result
    (λ is r reads.
    is ∙ ap (λ (t : Text). c.args.out.now.items ++ ended t) c.body.ensures
    ∙ ap (λ (t : Text). c.args.out.now.items ++ t) (plain_text r c.args.n c.entry.result (c.requires r reads) (c.entry.ensures r reads)))
    c.add_ended.ensures
