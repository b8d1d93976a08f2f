use Rattle.bib_answers.proofs.Words.{◌≡◌, ◌∙◌, Some, rules, sym, entries_of}
use Rattle.bib_spec.proofs.Parents.{target_within}
use Rattle.bib_answers.proofs.findings.grandparent.Goals as goal

pub parent-requires : goal.parent-requires
parent-requires c r reads =
    let there : c.args.found ≡ Some c.in_ok-parent.parent = search rules in
    target_within (entries_of r) c.args.n c.in_ok-parent.parent (sym (c.requires r reads) ∙ there)
