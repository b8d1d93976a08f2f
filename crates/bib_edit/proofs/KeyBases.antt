-- Made keys have a base, whatever the edit.
use Rattle.edit_spec.specs.Edits as edits
use Rattle.bib_edit.proofs.Words.{made_base}
use Rattle.edit_spec.specs.EditLaws.{HasKeyBase}
use Rattle.bib_names.proofs.MadeKeyLaws.{key_bases_are_keys}

pub has_key_base : (e : edits.Edit) → HasKeyBase made_base e
has_key_base (edits.RegenerateKeys depth) = key_bases_are_keys
has_key_base (edits.SetField key field v) = tt
has_key_base (edits.DropField key field) = tt
has_key_base (edits.AddEntry position new) = tt
has_key_base (edits.RemoveEntry key) = tt
has_key_base (edits.MoveEntry key position) = tt
has_key_base (edits.RenameKey from to) = tt
has_key_base (edits.RenameMacro from to) = tt
has_key_base (edits.InlineMacro name) = tt
has_key_base (edits.IntroduceMacro name text) = tt
has_key_base (edits.AddMany news) = tt
has_key_base (edits.SetType key kind_name) = tt
has_key_base (edits.UndefineMacro name) = tt
has_key_base (edits.RenameField from to key) = tt
has_key_base (edits.DefineMacro name value) = tt
has_key_base (edits.SetMacro name value) = tt
has_key_base (edits.ChangeEntry key change) = tt
has_key_base (edits.ChangeDefinition name k change) = tt
