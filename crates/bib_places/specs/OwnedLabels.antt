-- The labels of conflicts in the code.
use Rattle.bib_spec.specs.Text.{folded}
use Rattle.bib_places.specs.declared.owned_label.OwnedLabel.{OwnedLabel}
use Rattle.bib_places.specs.declared.owned_label.OwnedLabel.TheVariants as owned
use Rattle.merge_spec.specs.Units as units

-- the label of the definitions: names are folded
abbrev pub owned_seen : OwnedLabel → units.Label
owned_seen (owned.Entry key) = units.EntryLabel (folded key)
owned_seen (owned.Macro name) = units.MacroLabel (folded name)
owned_seen (owned.Bytes bytes) = units.BytesLabel bytes
