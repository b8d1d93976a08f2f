-- What renamings keep, of the files of a session.
use Rattle.bib_journal.proofs.Words.{◌≡◌, ◌≢◌, ℕ, zero, suc, Bool, true, List, [], ◌∷◌, Option, Some, None, take, refl, sym, ◌∙◌, ap, subst, false≢true, name_limit, Text, Reading, Reads, bytes_of, one_reading, IsAccepted, KeptSteps, history_of, Edit, SetField, DropField, AddEntry, AddMany}
use Rattle.bib_journal.proofs.Words.{RemoveEntry, MoveEntry, RenameKey, RegenerateKeys, RenameMacro, InlineMacro, IntroduceMacro, SetType, UndefineMacro, RenameField, DefineMacro, SetMacro, Request, EditFault, made_base, AsksFor, OfEdit, asked_for, has_key_base, SessionState, DoesAll, OfReadings}
use Rattle.std.proofs.Common.{◌&&◌, ◌<◌, length, get_or, option_map, slice_get}
use Rattle.std.specs.List.{list_all}
use Rattle.std.proofs.Common.{⊎_elim}
use Rattle.std.proofs.lemmas.Bool.{and_parts, cases_Bool, cond-true, cond-false, both_ways}
use Rattle.std.proofs.lemmas.Option.{none-some, slice_get-map, slice_get-get_or, get_or_from_slice_get}
use Rattle.std.proofs.lemmas.List.{ext_get_or}
use Rattle.bib_spec.specs.Records.{EntryTexts, Record, entries_of, keys_of, entry_named, record_of, expanded}
use Rattle.bib_spec.specs.MadeKeys.{IsKeyBase, new_keys}
use Rattle.edit_spec.specs.Edits as edits
use Rattle.edit_spec.specs.Edits.{edited, key_for}
use Rattle.edit_spec.specs.Laws.{KeepsEntries, KeepsMacros, KeepsCitations, KeepsCitationsByKey, KeepsAllButTypes, KeepsAllButNames, KeepsAllButUsers, type_for, is_renamed_in, dependents, record_with_key, no_new_key}
use Rattle.edit_spec.specs.OtherLaws.{is_meant}
use Rattle.edit_spec.proofs.OneMore.{length-keys}
use Rattle.edit_spec.proofs.OneEntry.{rename-one-key-keeps, set-one-type-keeps, rename-fields-of-one-keeps}
use Rattle.edit_spec.proofs.OneDefinition.{set-one-definition-keeps, undefine-one-keeps}
use Rattle.edit_spec.proofs.RenameKey.{rename-key-keeps}
use Rattle.edit_spec.proofs.Regenerate.{regenerate-keys-keeps, length-new, made-keys-differ, regenerating-again}
use Rattle.edit_spec.proofs.SetType.{set-type-keeps}
use Rattle.edit_spec.proofs.UndefineMacro.{undefine-macro-keeps}
use Rattle.edit_spec.proofs.RenameField.{rename-field-keeps}
use Rattle.edit_spec.proofs.DefineMacro.{define-macro-keeps}
use Rattle.edit_spec.proofs.SetMacro.{set-macro-keeps}
use Rattle.edit_spec.proofs.MacroLaws.{rename-macro-keeps, inline-macro-keeps, introduce-macro-keeps}
use Rattle.bib_data.specs.declared.request.Request.TheVariants as request
use Rattle.bib_edit.specs.declared.fault.EditFault.TheVariants as edit_fault
use Rattle.bib_edit.specs.Asking.{rename_key, regenerate_keys, rename_macro, inline_macro, introduce_macro, set_type, undefine_macro, rename_field, define_macro, set_macro}
use Rattle.bib_edit.specs.Planning.{IsRefusal}
use Rattle.bib_edit.specs.Numbers.{is_numbered, which_of}
use Rattle.bib_edit.specs.Asking.{asked_key, asked_type, asked_fields, asked_undefine, asked_macro, entry_asked, name_asked}
use Rattle.bib_edit.proofs.AskedEdits.{some_value, which-plain}
use Rattle.bib_journal.proofs.MadeFiles.{moved_present, made-reads, of-made}
use Rattle.bib_journal.specs.Renaming.{Keeps, edit_keeps, keys_are_made_once, newkeys_are_those_of_regenerate, is_renaming, without_key, KeepsTexts, requests_keep}

is_base : IsKeyBase made_base
is_base = has_key_base (edits.RegenerateKeys 1)

-- ---- one renaming

-- what an accepted edit makes keeps what the edit keeps
made-keeps : (edit : Edit) (db db' : Reading) → OfEdit edit (IsAccepted made_base db) → OfEdit edit (λ e. db' ≡ edited made_base db e) → Keeps edit db db'
made-keeps (RenameKey from to) db db' allowed is = ⊎_elim
    (λ t.
    let e : edits.Edit = edits.ChangeEntry (which_of from) (edits.RenamesKey to) in
    let told : asked_key from to ≡ e = cond-true (is_numbered from) e (edits.RenameKey from to) t in
    let meant = cond-true (is_numbered from) (edits.entry_meant (which_of from) (entries_of db)) (entry_named (entries_of db) from) t in
    subst (λ (o : Option ℕ). KeepsEntries (key_for o to) db db' × KeepsMacros db db' × KeepsCitationsByKey db db') (sym meant)
    (subst (λ (new : Reading). KeepsEntries (key_for (edits.entry_meant (which_of from) (entries_of db)) to) db new × KeepsMacros db new × KeepsCitationsByKey db new)
    (sym (is (asked_key from to) (rename_key from to) ∙ ap (edited made_base db) told))
    (rename-one-key-keeps made_base db (which_of from) to (subst (IsAccepted made_base db) told (allowed (asked_key from to) (rename_key from to))))))
    (λ f.
    let e : edits.Edit = edits.RenameKey from to in
    let told : asked_key from to ≡ e = cond-false (is_numbered from) (edits.ChangeEntry (which_of from) (edits.RenamesKey to)) e f in
    let meant = cond-false (is_numbered from) (edits.entry_meant (which_of from) (entries_of db)) (entry_named (entries_of db) from) f in
    subst (λ (o : Option ℕ). KeepsEntries (key_for o to) db db' × KeepsMacros db db' × KeepsCitationsByKey db db') (sym meant)
    (subst (λ (new : Reading). KeepsEntries (key_for (entry_named (entries_of db) from) to) db new × KeepsMacros db new × KeepsCitationsByKey db new)
    (sym (is (asked_key from to) (rename_key from to) ∙ ap (edited made_base db) told))
    (rename-key-keeps made_base db from to (subst (IsAccepted made_base db) told (allowed (asked_key from to) (rename_key from to))))))
    (cases_Bool (is_numbered from))
made-keeps (RegenerateKeys depth) db db' allowed is =
    let accepted = allowed (edits.RegenerateKeys depth) (regenerate_keys depth) in
    let keeps = regenerate-keys-keeps made_base is_base db depth accepted in
    subst (Keeps (RegenerateKeys depth) db) (sym (is (edits.RegenerateKeys depth) (regenerate_keys depth)))
    (keeps.0, keeps.1, keeps.2, made-keys-differ made_base is_base db depth accepted)
made-keeps (RenameMacro from to) db db' allowed is =
    subst (Keeps (RenameMacro from to) db) (sym (is (edits.RenameMacro from to) (rename_macro from to))) (rename-macro-keeps made_base db from to (allowed (edits.RenameMacro from to) (rename_macro from to)))
made-keeps (InlineMacro name) db db' allowed is =
    subst (Keeps (InlineMacro name) db) (sym (is (edits.InlineMacro name) (inline_macro name))) (inline-macro-keeps made_base db name (allowed (edits.InlineMacro name) (inline_macro name)))
made-keeps (IntroduceMacro name text) db db' allowed is =
    subst (Keeps (IntroduceMacro name text) db) (sym (is (edits.IntroduceMacro name text) (introduce_macro name text)))
    (introduce-macro-keeps made_base db name text (allowed (edits.IntroduceMacro name text) (introduce_macro name text)))
made-keeps (SetType key kind_name) db db' allowed is = ⊎_elim
    (λ t.
    let e : edits.Edit = edits.ChangeEntry (which_of key) (edits.SetsType kind_name) in
    let told : asked_type key kind_name ≡ e = cond-true (is_numbered key) e (edits.SetType key kind_name) t in
    let meant = cond-true (is_numbered key) (edits.entry_meant (which_of key) (entries_of db)) (entry_named (entries_of db) key) t in
    subst (λ (o : Option ℕ). KeepsAllButTypes (type_for o kind_name) db db' × KeepsMacros db db' × KeepsCitations db db') (sym meant)
    (subst (λ (new : Reading). KeepsAllButTypes (type_for (edits.entry_meant (which_of key) (entries_of db)) kind_name) db new × KeepsMacros db new × KeepsCitations db new)
    (sym (is (asked_type key kind_name) (set_type key kind_name) ∙ ap (edited made_base db) told))
    (set-one-type-keeps made_base db (which_of key) kind_name (subst (IsAccepted made_base db) told (allowed (asked_type key kind_name) (set_type key kind_name))))))
    (λ f.
    let e : edits.Edit = edits.SetType key kind_name in
    let told : asked_type key kind_name ≡ e = cond-false (is_numbered key) (edits.ChangeEntry (which_of key) (edits.SetsType kind_name)) e f in
    let meant = cond-false (is_numbered key) (edits.entry_meant (which_of key) (entries_of db)) (entry_named (entries_of db) key) f in
    subst (λ (o : Option ℕ). KeepsAllButTypes (type_for o kind_name) db db' × KeepsMacros db db' × KeepsCitations db db') (sym meant)
    (subst (λ (new : Reading). KeepsAllButTypes (type_for (entry_named (entries_of db) key) kind_name) db new × KeepsMacros db new × KeepsCitations db new)
    (sym (is (asked_type key kind_name) (set_type key kind_name) ∙ ap (edited made_base db) told))
    (set-type-keeps made_base db key kind_name (subst (IsAccepted made_base db) told (allowed (asked_type key kind_name) (set_type key kind_name))))))
    (cases_Bool (is_numbered key))
made-keeps (UndefineMacro name) db db' allowed is = ⊎_elim
    (λ t.
    let which : edits.Which = which_of name in
    let e : edits.Edit = edits.ChangeDefinition which.name (edits.number_of which) edits.Undefines in
    let told : asked_undefine name ≡ e = cond-true (is_numbered name) e (edits.UndefineMacro name) t in
    let kept = undefine-one-keeps made_base db which.name (edits.number_of which) (subst (IsAccepted made_base db) told (allowed (asked_undefine name) (undefine_macro name))) in
    let made : db' ≡ edited made_base db e = is (asked_undefine name) (undefine_macro name) ∙ ap (edited made_base db) told in
    subst (Keeps (UndefineMacro name) db) (sym made)
    (kept.2.0, kept.2.1, record { alone = λ f. absurd (both_ways (is_numbered name) f t); one = λ _. (kept.0, kept.1, kept.2.2) }))
    (λ f.
    let e : edits.Edit = edits.UndefineMacro name in
    let told : asked_undefine name ≡ e = cond-false (is_numbered name) (edits.ChangeDefinition (which_of name).name (edits.number_of (which_of name)) edits.Undefines) e f in
    let kept = undefine-macro-keeps made_base db name (subst (IsAccepted made_base db) told (allowed (asked_undefine name) (undefine_macro name))) in
    let made : db' ≡ edited made_base db e = is (asked_undefine name) (undefine_macro name) ∙ ap (edited made_base db) told in
    subst (Keeps (UndefineMacro name) db) (sym made)
    (kept.0, kept.1, record { alone = λ _. kept.2; one = λ t. absurd (both_ways (is_numbered name) f t) }))
    (cases_Bool (is_numbered name))
made-keeps (RenameField from to None) db db' allowed is =
    subst (Keeps (RenameField from to None) db) (sym (is (edits.RenameField from to None) (rename_field from to None)))
    (rename-field-keeps made_base db from to None (allowed (edits.RenameField from to None) (rename_field from to None)))
made-keeps (RenameField from to (Some key)) db db' allowed is = ⊎_elim
    (λ t.
    let e : edits.Edit = edits.ChangeEntry (which_of key) (edits.RenamesFields from to) in
    let told : asked_fields from to (Some key) ≡ e = cond-true (is_numbered key) e (edits.RenameField from to (Some key)) t in
    let meant = cond-true (is_numbered key) (edits.entry_meant (which_of key) (entries_of db)) (entry_named (entries_of db) key) t in
    subst (λ (o : Option ℕ). KeepsAllButNames from to (is_meant o) db db' × KeepsMacros db db' × KeepsCitations db db') (sym meant)
    (subst (λ (new : Reading). KeepsAllButNames from to (is_meant (edits.entry_meant (which_of key) (entries_of db))) db new × KeepsMacros db new × KeepsCitations db new)
    (sym (is (asked_fields from to (Some key)) (rename_field from to (Some key)) ∙ ap (edited made_base db) told))
    (rename-fields-of-one-keeps made_base db (which_of key) from to (subst (IsAccepted made_base db) told (allowed (asked_fields from to (Some key)) (rename_field from to (Some key)))))))
    (λ f.
    let e : edits.Edit = edits.RenameField from to (Some key) in
    let told : asked_fields from to (Some key) ≡ e = cond-false (is_numbered key) (edits.ChangeEntry (which_of key) (edits.RenamesFields from to)) e f in
    let meant = cond-false (is_numbered key) (edits.entry_meant (which_of key) (entries_of db)) (entry_named (entries_of db) key) f in
    subst (λ (o : Option ℕ). KeepsAllButNames from to (is_meant o) db db' × KeepsMacros db db' × KeepsCitations db db') (sym meant)
    (subst (λ (new : Reading). KeepsAllButNames from to (is_renamed_in db (Some key)) db new × KeepsMacros db new × KeepsCitations db new)
    (sym (is (asked_fields from to (Some key)) (rename_field from to (Some key)) ∙ ap (edited made_base db) told))
    (rename-field-keeps made_base db from to (Some key) (subst (IsAccepted made_base db) told (allowed (asked_fields from to (Some key)) (rename_field from to (Some key)))))))
    (cases_Bool (is_numbered key))
made-keeps (DefineMacro name value) db db' allowed is =
    let v = some_value value in
    let asked = define_macro name value v.0 v.1 in
    subst (Keeps (DefineMacro name value) db) (sym (is (edits.DefineMacro name v.0) asked)) (define-macro-keeps made_base db name v.0 (allowed (edits.DefineMacro name v.0) asked))
made-keeps (SetMacro name value) db db' allowed is = ⊎_elim
    (λ t.
    let v = some_value value in
    let asked = set_macro name value v.0 v.1 in
    let which : edits.Which = which_of name in
    let e : edits.Edit = edits.ChangeDefinition which.name (edits.number_of which) (edits.SetsValue v.0) in
    let told : asked_macro name v.0 ≡ e = cond-true (is_numbered name) e (edits.SetMacro name v.0) t in
    subst (Keeps (SetMacro name value) db) (sym (is (asked_macro name v.0) asked ∙ ap (edited made_base db) told))
    (set-one-definition-keeps made_base db which.name (edits.number_of which) v.0 (subst (IsAccepted made_base db) told (allowed (asked_macro name v.0) asked))))
    (λ f.
    let v = some_value value in
    let asked = set_macro name value v.0 v.1 in
    let e : edits.Edit = edits.SetMacro name v.0 in
    let told : asked_macro name v.0 ≡ e = cond-false (is_numbered name) (edits.ChangeDefinition (which_of name).name (edits.number_of (which_of name)) (edits.SetsValue v.0)) e f in
    let its : name_asked name ≡ name = ap (λ (w : edits.Which). w.name) (which-plain name f) in
    subst (λ (n : Text). KeepsAllButUsers (dependents (n ∷ []) db.items) db db') (sym its)
    (subst (KeepsAllButUsers (dependents (name ∷ []) db.items) db) (sym (is (asked_macro name v.0) asked ∙ ap (edited made_base db) told))
    (set-macro-keeps made_base db name v.0 (subst (IsAccepted made_base db) told (allowed (asked_macro name v.0) asked)))))
    (cases_Bool (is_numbered name))
made-keeps (SetField key field value) db db' allowed is = tt
made-keeps (DropField key field) db db' allowed is = tt
made-keeps (AddEntry position entry) db db' allowed is = tt
made-keeps (AddMany entries) db db' allowed is = tt
made-keeps (RemoveEntry key) db db' allowed is = tt
made-keeps (MoveEntry key position) db db' allowed is = tt

pub edit-keeps : edit_keeps
edit-keeps = of-made Keeps made-keeps

-- ---- making keys again

-- an edit that no reason is against is refused for none
not-refused : (edit : Edit) (e : edits.Edit) → AsksFor edit e → (fault : EditFault) (file : Text) (db : Reading) → Reads file db → IsAccepted made_base db e → fault ≢ edit_fault.Memory → IsRefusal file edit fault → ⊥
not-refused edit e asks edit_fault.Memory file db reads accepted other is = other refl
not-refused edit e asks edit_fault.BadKey file db reads accepted other is = accepted edits.BadKey (is db reads e asks).holds
not-refused edit e asks edit_fault.BadName file db reads accepted other is = accepted edits.BadName (is db reads e asks).holds
not-refused edit e asks edit_fault.BadValue file db reads accepted other is = accepted edits.BadValue (is db reads e asks).holds
not-refused edit e asks edit_fault.BadPosition file db reads accepted other is = accepted edits.BadPosition (is db reads e asks).holds
not-refused edit e asks edit_fault.NotFound file db reads accepted other is = accepted edits.NotFound (is db reads e asks).holds
not-refused edit e asks edit_fault.Ambiguous file db reads accepted other is = accepted edits.Ambiguous (is db reads e asks).holds
not-refused edit e asks edit_fault.KeyInUse file db reads accepted other is = accepted edits.KeyInUse (is db reads e asks).holds
not-refused edit e asks edit_fault.NameInUse file db reads accepted other is = accepted edits.NameInUse (is db reads e asks).holds
not-refused edit e asks edit_fault.Referred file db reads accepted other is = accepted edits.Referred (is db reads e asks).holds
not-refused edit e asks edit_fault.WouldMerge file db reads accepted other is = accepted edits.WouldMerge (is db reads e asks).holds
not-refused edit e asks edit_fault.FileTooLong file db reads accepted other is = accepted edits.FileTooLong (is db reads e asks).holds
not-refused edit e asks edit_fault.TextTooLong file db reads accepted other is = accepted edits.TextTooLong (is db reads e asks).holds

pub keys-are-made-once : keys_are_made_once
keys-are-made-once depth old new sound made =
    let db : Reading = sound.present.0 in
    let reads : Reads old.steps.present db = sound.present.1.reads in
    let e : edits.Edit = edits.RegenerateKeys depth in
    let asks : AsksFor (RegenerateKeys depth) e = regenerate_keys depth in
    let db' : Reading = edited made_base db e in
    let reads' : Reads new.steps.present db' = made-reads (RegenerateKeys depth) old new made db reads e asks in
    let again = regenerating-again made_base is_base db depth (made.allowed db reads e asks) in
    record {
      allowed = λ fault refuses. not-refused (RegenerateKeys depth) e asks fault new.steps.present db' reads' again.0 refuses.0 refuses.1;
      file = λ more makes. moved_present new.current (bytes_of (edited made_base db' e)) (history_of new.steps) (history_of more.steps) (makes.file db' reads' e asks)
          ∙ ap bytes_of again.1 ∙ reads'.bytes;
    }

-- the record with this key has this key
key_given : (o : Option Record) (key was : Text) → option_map (λ r. r.key) o ≡ Some was → option_map (λ r. r.key) (option_map (record_with_key (Some key)) o) ≡ Some key
key_given None key was is = absurd (none-some was is)
key_given (Some r) key was is = refl

-- each entry's record has the entry's key
key_of_record : (entries : List EntryTexts) (n : ℕ) → option_map (λ r. r.key) (expanded 0 entries n) ≡ slice_get (keys_of entries) n
key_of_record entries n = at (slice_get entries n) ∙ sym (slice_get-map (λ entry. entry.key) entries n)
  where
    at : (o : Option EntryTexts) → option_map (λ r. r.key) (option_map (record_of 0 entries n) o) ≡ option_map (λ entry. entry.key) o
    at None = refl
    at (Some entry) = refl

-- if every entry gets a key, the new keys are these
keys_are : (keys : List Text) (old new : Reading) → KeepsEntries (slice_get keys) old new → length keys ≡ length (entries_of old) → keys_of (entries_of new) ≡ keys
keys_are keys old new keeps long = ext_get_or [] its keys (many ∙ sym long) (λ n lt.
    let given : slice_get keys n ≡ Some (get_or keys n []) = slice_get-get_or keys n [] (subst (λ (k : ℕ). n < k) (many ∙ sym long) lt) in
    let had : slice_get was n ≡ Some (get_or was n []) = slice_get-get_or was n [] (subst (λ (k : ℕ). n < k) (many ∙ sym (length-keys (entries_of old))) lt) in
    get_or_from_slice_get its n (get_or keys n []) []
    (sym (key_of_record (entries_of new) n)
    ∙ ap (option_map (λ r. r.key)) (keeps.records 0 n)
    ∙ ap (λ o. option_map (λ r. r.key) (option_map (record_with_key o) (expanded 0 (entries_of old) n))) given
    ∙ key_given (expanded 0 (entries_of old) n) (get_or keys n []) (get_or was n []) (key_of_record (entries_of old) n ∙ had)))
  where
    was : List Text
    was = keys_of (entries_of old)

    its : List Text
    its = keys_of (entries_of new)

    many : length its ≡ length (entries_of old)
    many = length-keys (entries_of new) ∙ keeps.count

pub newkeys-are-those-of-regenerate : newkeys_are_those_of_regenerate
newkeys-are-those-of-regenerate depth old new made db reads db' reads' =
    keys_are (new_keys made_base depth (entries_of db)) db db' (edit-keeps (RegenerateKeys depth) old new made db reads db' reads').0
    (length-new made_base is_base depth (entries_of db))

-- ---- many renamings

no_matter_the_key : (key : Option Text) (o : Option Record) → option_map without_key (option_map (record_with_key key) o) ≡ option_map without_key o
no_matter_the_key key None = refl
no_matter_the_key None (Some r) = refl
no_matter_the_key (Some key) (Some r) = refl

keeps-texts : (new_key : ℕ → Option Text) (old new : Reading) → KeepsEntries new_key old new → KeepsTexts old new
keeps-texts new_key old new keeps = record {
  count = keeps.count;
  records = λ depth n. ap (option_map without_key) (keeps.records depth n) ∙ no_matter_the_key (new_key n) (expanded depth (entries_of old) n);
  parents = keeps.parents;
  preambles = keeps.preambles;
}

renaming-texts : (edit : Edit) → is_renaming (request.Edit edit) ≡ true → (old new : Reading) → Keeps edit old new → KeepsTexts old new
renaming-texts (RenameKey from to) is old new keeps = keeps-texts (key_for (entry_asked from (entries_of old)) to) old new keeps.0
renaming-texts (RegenerateKeys depth) is old new keeps = keeps-texts (slice_get (new_keys made_base depth (entries_of old))) old new keeps.0
renaming-texts (RenameMacro from to) is old new keeps = keeps-texts no_new_key old new keeps.0
renaming-texts (InlineMacro name) is old new keeps = keeps-texts no_new_key old new keeps.0
renaming-texts (IntroduceMacro name text) is old new keeps = keeps-texts no_new_key old new keeps.0
renaming-texts (UndefineMacro name) is old new keeps = keeps-texts no_new_key old new keeps.0
renaming-texts (RenameField from to key) is old new keeps = absurd (false≢true is)
renaming-texts (DefineMacro name value) is old new keeps = absurd (false≢true is)
renaming-texts (SetMacro name value) is old new keeps = absurd (false≢true is)
renaming-texts (SetField key field value) is old new keeps = absurd (false≢true is)
renaming-texts (DropField key field) is old new keeps = absurd (false≢true is)
renaming-texts (AddEntry position entry) is old new keeps = absurd (false≢true is)
renaming-texts (AddMany entries) is old new keeps = absurd (false≢true is)
renaming-texts (RemoveEntry key) is old new keeps = absurd (false≢true is)
renaming-texts (MoveEntry key position) is old new keeps = absurd (false≢true is)
renaming-texts (SetType key kind_name) is old new keeps = absurd (false≢true is)

texts-stay : (db : Reading) → KeepsTexts db db
texts-stay db = record { count = refl; records = λ _ _. refl; parents = λ _. refl; preambles = refl }

texts-kept-on : (a b c : Reading) → KeepsTexts a b → KeepsTexts b c → KeepsTexts a c
texts-kept-on a b c ab bc = record {
  count = bc.count ∙ ab.count;
  records = λ depth n. bc.records depth n ∙ ab.records depth n;
  parents = λ n. bc.parents n ∙ ab.parents n;
  preambles = bc.preambles ∙ ab.preambles;
}

pub all-keep : (requests : List Request) (old new : SessionState) → list_all is_renaming requests ≡ true → DoesAll requests old new → OfReadings old.steps.present new.steps.present KeepsTexts
all-keep [] old new is all db reads db' reads' =
    subst (KeepsTexts db) (one_reading name_limit old.steps.present db db' reads (subst (λ (s : SessionState). Reads s.steps.present db') all reads')) (texts-stay db)
all-keep (request.Undo ∷ requests) old new is all db reads db' reads' = absurd (false≢true is)
all-keep (request.Redo ∷ requests) old new is all db reads db' reads' = absurd (false≢true is)
all-keep (request.Place position edit ∷ requests) old new is all db reads db' reads' = absurd (false≢true is)
all-keep (request.Insert position text ∷ requests) old new is all db reads db' reads' = absurd (false≢true is)
all-keep (request.Begin label ∷ requests) old new is all db reads db' reads' =
    all-keep requests all.0 new (and_parts true (list_all is_renaming requests) is).1 all.2 db (subst (λ (k : KeptSteps). Reads k.present db) (sym all.1.steps) reads) db' reads'
all-keep (request.End ∷ requests) old new is all db reads db' reads' =
    all-keep requests all.0 new (and_parts true (list_all is_renaming requests) is).1 all.2 db (subst (λ (k : KeptSteps). Reads k.present db) (sym all.1.steps) reads) db' reads'
all-keep (request.Edit edit ∷ requests) old new is all db reads db' reads' =
    let both = and_parts (is_renaming (request.Edit edit)) (list_all is_renaming requests) is in
    let one : (e : edits.Edit) × AsksFor edit e = asked_for edit in
    let mid : Reading = edited made_base db one.0 in
    let mid_reads : Reads all.0.steps.present mid = made-reads edit old all.0 all.1 db reads one.0 one.1 in
    texts-kept-on db mid db' (renaming-texts edit both.0 db mid (edit-keeps edit old all.0 all.1 db reads mid mid_reads))
    (all-keep requests all.0 new both.1 all.2 mid mid_reads db' reads')

pub some-pass : {X : Type 0} (p : X → Bool) (n : ℕ) (xs : List X) → list_all p xs ≡ true → list_all p (take n xs) ≡ true
some-pass p zero xs all = refl
some-pass p (suc n) [] all = refl
some-pass p (suc n) (x ∷ xs) all =
    let both = and_parts (p x) (list_all p xs) all in
    ap (λ b. b && list_all p (take n xs)) both.0 ∙ some-pass p n xs both.1

pub requests-keep : requests_keep
requests-keep requests done fault old new renamings performs = all-keep (take done requests) old new (some-pass is_renaming done requests renamings) performs.did
