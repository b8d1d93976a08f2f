use Rattle.bib_names.proofs.LabelPartLaws.{base_of_parts, parts_inherited}
use Rattle.bib_names.proofs.label_fields.label_bases_are_made_of_parts.Goals as goal

pub returns : goal.returns
returns c = record { base = base_of_parts; inherited = parts_inherited }
