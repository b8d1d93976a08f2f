use Rattle.edit_spec.proofs.AcceptedExamples.{is_set, is_dropped, is_added, is_removed, is_moved, is_key_renamed, is_macro_renamed, is_macro_respelled, is_macro_inlined, is_macro_introduced, is_keys_made, is_many_added, is_macro_defined, is_macro_set, is_type_set, is_macro_undefined, is_field_renamed, is_one_entry_changed, is_one_definition_changed}
use Rattle.edit_spec.proofs.examples.edits_are_accepted.Goals as goal

pub returns : goal.returns
returns c = record { set = is_set; dropped = is_dropped; added = is_added; removed = is_removed; moved = is_moved; key_renamed = is_key_renamed; macro_renamed = is_macro_renamed; macro_respelled = is_macro_respelled; macro_inlined = is_macro_inlined; macro_introduced = is_macro_introduced; keys_made = is_keys_made; many_added = is_many_added; macro_defined = is_macro_defined; macro_set = is_macro_set; type_set = is_type_set; macro_undefined = is_macro_undefined; field_renamed = is_field_renamed; one_entry_changed = is_one_entry_changed; one_definition_changed = is_one_definition_changed }
