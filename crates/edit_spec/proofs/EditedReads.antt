-- What every accepted edit makes is a reading of its bytes, and its file can be opened.
use Rattle.edit_spec.proofs.Words.{◌≡◌, ◌≤◌, is_some, length, ⊎_elim, sym, ◌∙◌, ap, subst, file_limit, Text, Reads, bytes_of, too_long_at, applied, SetField, DropField, AddEntry, RemoveEntry, MoveEntry, RenameKey, RenameMacro, InlineMacro, IntroduceMacro, RegenerateKeys, AddMany, SetType, UndefineMacro, RenameField, DefineMacro, SetMacro, TextTooLong}
use Rattle.edit_spec.proofs.Words.{edited, pieces_of, option_cases}
use Rattle.edit_spec.specs.EditLaws.{edited_reads, applied_opens}
use Rattle.edit_spec.proofs.EditFiles.{pieces-lead}
use Rattle.edit_spec.proofs.Unrefuted.{edited-short}
use Rattle.edit_spec.proofs.SetField.{set_field-reads}
use Rattle.edit_spec.proofs.DropField.{drop_field-reads}
use Rattle.edit_spec.proofs.SetType.{set_type-reads}
use Rattle.edit_spec.proofs.UndefineMacro.{undefine_macro-reads}
use Rattle.edit_spec.proofs.RenameField.{rename_field-reads}
use Rattle.edit_spec.proofs.DefineMacro.{defined_macro-reads}
use Rattle.edit_spec.proofs.SetMacro.{macro_set-reads}
use Rattle.edit_spec.proofs.AddedEntries.{add_entry-reads, add_many-reads}
use Rattle.edit_spec.proofs.MovedEntries.{remove_entry-reads, move_entry-reads}
use Rattle.edit_spec.proofs.RekeyedEntries.{rename_key-reads}
use Rattle.edit_spec.proofs.MadeKeyLengths.{regenerate_keys-reads}
use Rattle.edit_spec.specs.Edits.{ChangeEntry, ChangeDefinition}
use Rattle.edit_spec.proofs.OneOfSeveral.{change_entry-reads, change_definition-reads}
use Rattle.edit_spec.proofs.ChangedParts.{rename_macro-reads, introduce_macro-reads, inline_macro-reads}

pub edited-reads : edited_reads
edited-reads key_base file db (SetField key name value) base reads accepted = set_field-reads key_base file db key name value reads accepted
edited-reads key_base file db (DropField key name) base reads accepted = drop_field-reads key_base file db key name reads accepted
edited-reads key_base file db (AddEntry place new) base reads accepted = add_entry-reads key_base file db place new reads accepted
edited-reads key_base file db (RemoveEntry key) base reads accepted = remove_entry-reads key_base file db key reads accepted
edited-reads key_base file db (MoveEntry key place) base reads accepted = move_entry-reads key_base file db key place reads accepted
edited-reads key_base file db (RenameKey from to) base reads accepted = rename_key-reads key_base file db from to reads accepted
edited-reads key_base file db (RenameMacro from to) base reads accepted = rename_macro-reads key_base file db from to reads accepted
edited-reads key_base file db (InlineMacro name) base reads accepted = inline_macro-reads key_base file db name reads accepted
edited-reads key_base file db (IntroduceMacro name text) base reads accepted = introduce_macro-reads key_base file db name text reads accepted
edited-reads key_base file db (RegenerateKeys depth) base reads accepted = regenerate_keys-reads key_base file db depth base reads accepted
edited-reads key_base file db (AddMany news) base reads accepted = add_many-reads key_base file db news reads accepted
edited-reads key_base file db (SetType key kind_name) base reads accepted = set_type-reads key_base file db key kind_name reads accepted
edited-reads key_base file db (UndefineMacro name) base reads accepted = undefine_macro-reads key_base file db name reads accepted
edited-reads key_base file db (RenameField from to key) base reads accepted = rename_field-reads key_base file db from to key reads accepted
edited-reads key_base file db (DefineMacro name value) base reads accepted = defined_macro-reads key_base file db name value reads accepted
edited-reads key_base file db (SetMacro name value) base reads accepted = macro_set-reads key_base file db name value reads accepted
edited-reads key_base file db (ChangeEntry key change) base reads accepted = change_entry-reads key_base file db reads key change accepted
edited-reads key_base file db (ChangeDefinition name k change) base reads accepted = change_definition-reads key_base file db reads name k change accepted

pub applied-opens : applied_opens
applied-opens key_base file db e base reads accepted =
    let new = edited key_base db e in
    let leads : applied (pieces_of key_base db e) file ≡ bytes_of new = ap (applied (pieces_of key_base db e)) (sym reads.bytes) ∙ (pieces-lead key_base db e).1 in
    record {
      reads = subst (λ (t : Text). Reads t new) (sym leads) (edited-reads key_base file db e base reads accepted);
      short = subst (λ (t : Text). length t ≤ file_limit) (sym leads) (edited-short key_base db e accepted);
      texts = ⊎_elim (λ none. none) (λ some. absurd (accepted TextTooLong (ap is_some some.1))) (option_cases (too_long_at new));
    }
