use Rattle.bib_answers.proofs.Words.{◌∙◌, ◌++◌, ap₂, Text}
use Rattle.std.proofs.Common.{codes}
use Rattle.bib_answers.proofs.EntryNumbers.{entry_key}
use Rattle.bib_answers.proofs.cite.line_of.Goals as goal

pub returns-clause-line : goal.returns-clause-line
returns-clause-line c r reads list are =
    let key_is = c.key.ensures ∙ entry_key r c.args.n c.entry.result (c.requires.number r reads) (c.entry.ensures r reads) in
    ap₂ (λ (key parent : Text). key ++ (parent ++ codes "\n")) key_is (c.listed_parent.ensures.parent r reads list are)
