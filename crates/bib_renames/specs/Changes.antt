-- Changes of names as edits.
use Rattle.std.specs.Prelude.{ℕ}
use Rattle.bib_spec.specs.Text.{Text}
use Rattle.bib_spec.specs.Reading.{Reading}
use Rattle.edit_spec.specs.Edits.{holders}
use Rattle.bib_definitions.specs.Definitions.{definition_count}
use Rattle.bib_data.specs.declared.edit.Edit.{Edit}
use Rattle.bib_data.specs.declared.edit.Edit.TheVariants.{RenameKey, RenameMacro}
use Rattle.bib_renames.specs.declared.rename.Named.{Named}
use Rattle.bib_renames.specs.declared.rename.Named.TheVariants as named
use Rattle.bib_renames.specs.declared.rename.Change.{Change}

-- the edit that gives what has the old name the new one
abbrev pub edit_named : Named → Text → Text → Edit
edit_named named.Entry old new = RenameKey old new
edit_named named.Macro old new = RenameMacro old new

-- the edit that makes the change
abbrev pub edit_seen : Change → Edit
edit_seen change = edit_named change.what change.old change.new

-- how many entries of the file have this key, or how many items define this macro
abbrev pub count_named : Named → Text → Reading → ℕ
count_named named.Entry name db = holders name db
count_named named.Macro name db = definition_count name db.items
