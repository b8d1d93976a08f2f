use Rattle.std.proofs.Common.{is_some, sym, ◌∙◌, ap}
use Rattle.std.specs.Option.{option_copied}
use Rattle.bib_spec.specs.Records.{entries_of}
use Rattle.bib_parents.proofs.LostParents.{says_so, says_nothing}
use Rattle.bib_parents.proofs.losing.named_at.Goals as goal

pub returns-in-Some : goal.returns-in-Some
returns-in-Some g c r reads =
    c.named_if.ensures
    ∙ says_so (entries_of r) c.args.text.now c.args.m c.in-Some.other.now _ (sym (c.crossref_text.ensures r reads) ∙ ap option_copied c.in-Some.is)
    (c.is_some.ensures ∙ ap is_some (c.target.ensures r reads))

pub returns-in-None : goal.returns-in-None
returns-in-None g c r reads = says_nothing (entries_of r) c.args.text.now c.args.m (sym (c.crossref_text.ensures r reads) ∙ ap option_copied c.in-None.is)
