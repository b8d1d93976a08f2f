-- What edits that add entries or remove one keep of the others, of the files of a session.
use Rattle.bib_journal.proofs.Words.{◌≡◌, ℕ, [], ◌∷◌, length, sym, ◌∙◌, ap, subst, Text, Reading, IsAccepted, Edit, SetField, DropField, AddEntry, AddMany, RemoveEntry, MoveEntry, RenameKey, RegenerateKeys, RenameMacro, InlineMacro, IntroduceMacro, SetType, UndefineMacro, RenameField, DefineMacro, SetMacro, made_base, OfEdit}
use Rattle.std.proofs.Common.{⊎_elim, Option, Some}
use Rattle.std.proofs.lemmas.Bool.{cases_Bool, cond-true, cond-false}
use Rattle.std.proofs.lemmas.List.{length-map}
use Rattle.bib_spec.specs.Records.{entries_of, entry_named}
use Rattle.edit_spec.specs.Edits as edits
use Rattle.edit_spec.specs.Edits.{edited}
use Rattle.edit_spec.specs.OtherLaws.{KeepsOthers, same_number, number_with_one_more}
use Rattle.edit_spec.proofs.OneEntry.{remove-one-keeps-others}
use Rattle.bib_edit.specs.Numbers.{is_numbered, which_of}
use Rattle.bib_edit.specs.Asking.{asked_remove}
use Rattle.edit_spec.proofs.OtherEntries.{add_entry-keeps_others, remove_entry-keeps_others}
use Rattle.edit_spec.proofs.AddedAfter.{add_many-keeps_others}
use Rattle.bib_edit.specs.Asking.{add_entry, add_many, remove_entry}
use Rattle.bib_edit.proofs.AskedEdits.{spelled_entry, spelled_entries}
use Rattle.bib_edit.proofs.SpelledLists.{keys-spelled}
use Rattle.bib_journal.specs.OtherEntries.{NoneWaits, KeepsOtherEntries, others_are_kept}
use Rattle.bib_journal.proofs.MadeFiles.{of-made}

made-others : (edit : Edit) (db db' : Reading) → OfEdit edit (IsAccepted made_base db) → OfEdit edit (λ e. db' ≡ edited made_base db e) → KeepsOtherEntries edit db db'
made-others (AddEntry position entry) db db' allowed is =
    let new = spelled_entry entry in
    let e : edits.Edit = edits.AddEntry position new.0 in
    let asks = add_entry position entry new.0 new.1 in
    subst (KeepsOtherEntries (AddEntry position entry) db) (sym (is e asks))
    (λ none. add_entry-keeps_others made_base db position new.0 (allowed e asks) (subst (λ (key : Text). NoneWaits db (key ∷ [])) (sym new.1.key) none))
made-others (AddMany entries) db db' allowed is =
    let news = spelled_entries entries in
    let e : edits.Edit = edits.AddMany news.0 in
    let asks = add_many entries news.0 news.1 in
    let keys = keys-spelled entries news.0 news.1 in
    let many : length news.0 ≡ length entries = sym (length-map news.0 (λ new. new.key)) ∙ ap length keys ∙ length-map entries (λ entry. entry.key) in
    subst (KeepsOtherEntries (AddMany entries) db) (sym (is e asks))
    (λ none. subst (λ (n : ℕ). KeepsOthers same_number n db (edited made_base db e)) many (add_many-keeps_others made_base db news.0 (allowed e asks) (subst (NoneWaits db) (sym keys) none)))
made-others (RemoveEntry key) db db' allowed is = ⊎_elim
    (λ t.
    let e : edits.Edit = edits.ChangeEntry (which_of key) edits.Removes in
    let told : asked_remove key ≡ e = cond-true (is_numbered key) e (edits.RemoveEntry key) t in
    let meant = cond-true (is_numbered key) (edits.entry_meant (which_of key) (entries_of db)) (entry_named (entries_of db) key) t in
    subst (λ (o : Option ℕ). (i : ℕ) × (o ≡ Some i) × KeepsOthers (number_with_one_more i) 1 db' db) (sym meant)
    (subst (λ (new : Reading). (i : ℕ) × (edits.entry_meant (which_of key) (entries_of db) ≡ Some i) × KeepsOthers (number_with_one_more i) 1 new db)
    (sym (is (asked_remove key) (remove_entry key) ∙ ap (edited made_base db) told))
    (remove-one-keeps-others made_base db (which_of key) (subst (IsAccepted made_base db) told (allowed (asked_remove key) (remove_entry key))))))
    (λ f.
    let e : edits.Edit = edits.RemoveEntry key in
    let told : asked_remove key ≡ e = cond-false (is_numbered key) (edits.ChangeEntry (which_of key) edits.Removes) e f in
    let meant = cond-false (is_numbered key) (edits.entry_meant (which_of key) (entries_of db)) (entry_named (entries_of db) key) f in
    subst (λ (o : Option ℕ). (i : ℕ) × (o ≡ Some i) × KeepsOthers (number_with_one_more i) 1 db' db) (sym meant)
    (subst (λ (new : Reading). (i : ℕ) × (entry_named (entries_of db) key ≡ Some i) × KeepsOthers (number_with_one_more i) 1 new db)
    (sym (is (asked_remove key) (remove_entry key) ∙ ap (edited made_base db) told))
    (remove_entry-keeps_others made_base db key (subst (IsAccepted made_base db) told (allowed (asked_remove key) (remove_entry key))))))
    (cases_Bool (is_numbered key))
made-others (SetField key field value) db db' allowed is = tt
made-others (DropField key field) db db' allowed is = tt
made-others (MoveEntry key position) db db' allowed is = tt
made-others (RenameKey from to) db db' allowed is = tt
made-others (RegenerateKeys depth) db db' allowed is = tt
made-others (RenameMacro from to) db db' allowed is = tt
made-others (InlineMacro name) db db' allowed is = tt
made-others (IntroduceMacro name text) db db' allowed is = tt
made-others (SetType key kind_name) db db' allowed is = tt
made-others (UndefineMacro name) db db' allowed is = tt
made-others (RenameField from to key) db db' allowed is = tt
made-others (DefineMacro name value) db db' allowed is = tt
made-others (SetMacro name value) db db' allowed is = tt

pub others-are-kept : others_are_kept
others-are-kept = of-made KeepsOtherEntries made-others
