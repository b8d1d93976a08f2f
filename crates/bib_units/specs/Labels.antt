-- The labels of units in the code.
use Rattle.bib_spec.specs.Text.{folded}
use Rattle.bib_units.specs.declared.labels.Label.{Label}
use Rattle.bib_units.specs.declared.labels.Label.TheVariants as code
use Rattle.merge_spec.specs.Units as units

-- the label of the definitions: names are folded
abbrev pub label_seen : Label → units.Label
label_seen (code.Entry key) = units.EntryLabel (folded key.now)
label_seen (code.Macro name) = units.MacroLabel (folded name.now)
label_seen (code.Bytes bytes) = units.BytesLabel bytes.now
