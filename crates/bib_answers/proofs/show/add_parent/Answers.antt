use Rattle.bib_answers.proofs.Words.{◌∙◌, ◌++◌, ap, Text, entries_of}
use Rattle.bib_answers.proofs.EntryNumbers.{entry_key}
use Rattle.bib_answers.proofs.Shown.{number_is, parent_line_with}
use Rattle.bib_answers.proofs.show.add_parent.Goals as goal

pub entry-requires : goal.entry-requires
entry-requires c = number_is _ c.args.parent c.in-Some.parent c.in-Some.is c.requires

pub returns : goal.returns
returns c r reads =
    let within = number_is _ c.args.parent c.in-Some.parent c.in-Some.is c.requires r reads in
    let key_is = c.key.ensures ∙ entry_key r c.in-Some.parent c.entry.result within (c.entry.ensures r reads) in
    rw c.in_ok-add_field.ensures (ap (λ (line : Text). c.args.out.now.items ++ line) (parent_line_with (entries_of r) c.args.parent c.in-Some.parent c.key.result.now c.in-Some.is key_is))
