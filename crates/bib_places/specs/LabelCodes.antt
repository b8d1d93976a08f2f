-- Labels as texts.
use Rattle.std.specs.Prelude.{◌∷◌}
use Rattle.bib_spec.specs.Text.{Text}
use Rattle.merge_spec.specs.Units.{Label, EntryLabel, MacroLabel, BytesLabel}

-- a byte for the kind of the label, and the name or the bytes after it: labels with one code are the same
abbrev pub code_of : Label → Text
code_of (EntryLabel key) = 0 ∷ key
code_of (MacroLabel name) = 1 ∷ name
code_of (BytesLabel bytes) = 2 ∷ bytes
