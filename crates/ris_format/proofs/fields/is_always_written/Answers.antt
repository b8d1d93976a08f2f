use Rattle.ris_format.proofs.Words.{◌∙◌, sym}
use Rattle.bib_spec.specs.Text.{folded}
use Rattle.ris_format.specs.Kinds.{kind_of_entry}
use Rattle.ris_format.proofs.NeverDropped.{never_dropped}
use Rattle.ris_format.proofs.fields.is_always_written.Goals as goal

pub returns-clause-kept : goal.returns-clause-kept
returns-clause-kept c is kind_name text = never_dropped (kind_of_entry kind_name) (folded c.args.name.now, text) (sym c.is_always_name.ensures ∙ is)
