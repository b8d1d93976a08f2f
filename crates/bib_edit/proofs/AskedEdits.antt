-- What is asked for, by the kind of edit.
use Rattle.bib_edit.proofs.Words.{ℕ, List, Option, [], ◌∷◌, ⊎_elim, refl, append-nil, Digits, Text, Value, Spells, SetField, DropField, AddEntry, AddMany, RenameKey, RegenerateKeys, NewEntry, SpellFields, SpellsEntry, SpellEntries, OfEdit, set_field, add_entry, add_many, move_entry, rename_key}
use Rattle.bib_edit.proofs.Words.{regenerate_keys}
use Rattle.bib_scan.proofs.PlaceOfFault.{value_or_failing}
use Rattle.std.proofs.Common.{◌≡◌, ◌||◌, ◌-◌, true, false, Some, None, sym, subst, take, fold}
use Rattle.std.proofs.lemmas.Bool.{cond-true, cond-false}
use Rattle.bib_edit.specs.Numbers.{is_numbered, has_number, which_of, name_len, after_comma, with_digit}
use Rattle.bib_edit.specs.Asking.{asked_set, asked_drop, asked_remove, asked_move, asked_key, asked_type, asked_fields, asked_undefine, asked_macro}
use Rattle.bib_edit.specs.Laws.{EditsAreAskedFor}
use Rattle.edit_spec.specs.Edits as edits
use Rattle.bib_data.specs.declared.edit.Edit.TheVariants.{RemoveEntry, MoveEntry, RenameMacro, InlineMacro, IntroduceMacro, SetType, UndefineMacro, RenameField, DefineMacro, SetMacro}
use Rattle.bib_edit.specs.Asking.{drop_field, remove_entry, rename_macro, inline_macro, introduce_macro, set_type, undefine_macro, rename_field, define_macro, set_macro}

pub of-set_field : (key field value : Text) → (is_numbered key || is_numbered field) ≡ false → (P : edits.Edit → Type 0) → ((v : Value) → Spells value v → P (edits.SetField key field v)) → OfEdit (SetField key field value) P
of-set_field key field value plain P h e (set_field k f t v s) = subst P (sym (cond-false (is_numbered key || is_numbered field) (edits.ChangeEntry (which_of key) (edits.SetsField (which_of field) v)) (edits.SetField key field v) plain)) (h v s)

pub of-one-set_field : (key field value : Text) → (is_numbered key || is_numbered field) ≡ true → (P : edits.Edit → Type 0) → ((v : Value) → Spells value v → P (edits.ChangeEntry (which_of key) (edits.SetsField (which_of field) v))) → OfEdit (SetField key field value) P
of-one-set_field key field value numbered P h e (set_field k f t v s) = subst P (sym (cond-true (is_numbered key || is_numbered field) (edits.ChangeEntry (which_of key) (edits.SetsField (which_of field) v)) (edits.SetField key field v) numbered)) (h v s)

pub of-drop_field : (key field : Text) → (is_numbered key || is_numbered field) ≡ false → (P : edits.Edit → Type 0) → P (edits.DropField key field) → OfEdit (DropField key field) P
of-drop_field key field plain P h e (drop_field k f) = subst P (sym (cond-false (is_numbered key || is_numbered field) (edits.ChangeEntry (which_of key) (edits.DropsField (which_of field))) (edits.DropField key field) plain)) h

pub of-one-drop_field : (key field : Text) → (is_numbered key || is_numbered field) ≡ true → (P : edits.Edit → Type 0) → P (edits.ChangeEntry (which_of key) (edits.DropsField (which_of field))) → OfEdit (DropField key field) P
of-one-drop_field key field numbered P h e (drop_field k f) = subst P (sym (cond-true (is_numbered key || is_numbered field) (edits.ChangeEntry (which_of key) (edits.DropsField (which_of field))) (edits.DropField key field) numbered)) h

-- a text without a number means itself
pub which-plain : (text : Text) → is_numbered text ≡ false → which_of text ≡ record { name = text; number = None }
which-plain text plain = cond-false (is_numbered text) (record { name = take (name_len text) text; number = Some (fold with_digit 0 (after_comma text) - 1) }) (record { name = text; number = None }) plain

-- ---- some edit is asked for

pub some_value : (t : Text) → (v : Value) × Spells t v
some_value t = ⊎_elim
    (λ is. (is.0, record { bytes = is.2; value = λ _. is.1 }))
    (λ none. (record { first = Digits t; links = [] }, record { bytes = append-nil t; value = λ is. absurd (none.1.fails is) }))
    (value_or_failing t)

some_fields : (asked : List (Text × Text)) → (fields : List (Text × Value)) × SpellFields asked fields
some_fields [] = ([], tt)
some_fields (field ∷ asked) =
    let value = some_value field.1 in
    let rest = some_fields asked in
    ((field.0, value.0) ∷ rest.0, (refl, value.1, rest.1))

pub spelled_entry : (asked : NewEntry) → (new : edits.NewEntry) × SpellsEntry asked new
spelled_entry asked =
    let fields = some_fields asked.fields in
    (record { kind_name = asked.kind_name; key = asked.key; fields = fields.0 }, record { kind_name = refl; key = refl; fields = fields.1 })

pub spelled_entries : (asked : List NewEntry) → (news : List edits.NewEntry) × SpellEntries asked news
spelled_entries [] = ([], tt)
spelled_entries (entry ∷ asked) =
    let new = spelled_entry entry in
    let rest = spelled_entries asked in
    (new.0 ∷ rest.0, (new.1, rest.1))

pub asked_for : EditsAreAskedFor
asked_for (SetField key field value) = let v = some_value value in (asked_set key field v.0, set_field key field value v.0 v.1)
asked_for (DropField key field) = (asked_drop key field, drop_field key field)
asked_for (AddEntry position entry) = let new = spelled_entry entry in (edits.AddEntry position new.0, add_entry position entry new.0 new.1)
asked_for (AddMany entries) = let news = spelled_entries entries in (edits.AddMany news.0, add_many entries news.0 news.1)
asked_for (RemoveEntry key) = (asked_remove key, remove_entry key)
asked_for (MoveEntry key position) = (asked_move key position, move_entry key position)
asked_for (RenameKey from to) = (asked_key from to, rename_key from to)
asked_for (RegenerateKeys depth) = (edits.RegenerateKeys depth, regenerate_keys depth)
asked_for (RenameMacro from to) = (edits.RenameMacro from to, rename_macro from to)
asked_for (InlineMacro name) = (edits.InlineMacro name, inline_macro name)
asked_for (IntroduceMacro name text) = (edits.IntroduceMacro name text, introduce_macro name text)
asked_for (SetType key kind_name) = (asked_type key kind_name, set_type key kind_name)
asked_for (UndefineMacro name) = (asked_undefine name, undefine_macro name)
asked_for (RenameField from to key) = (asked_fields from to key, rename_field from to key)
asked_for (DefineMacro name value) = let v = some_value value in (edits.DefineMacro name v.0, define_macro name value v.0 v.1)
asked_for (SetMacro name value) = let v = some_value value in (asked_macro name v.0, set_macro name value v.0 v.1)

pub of-add_entry : (position : ℕ) (asked : NewEntry) (P : edits.Edit → Type 0) → ((new : edits.NewEntry) → SpellsEntry asked new → P (edits.AddEntry position new)) → OfEdit (AddEntry position asked) P
of-add_entry position asked P h e (add_entry n a new spells) = h new spells

pub of-add_many : (asked : List NewEntry) (P : edits.Edit → Type 0) → ((news : List edits.NewEntry) → SpellEntries asked news → P (edits.AddMany news)) → OfEdit (AddMany asked) P
of-add_many asked P h e (add_many a news spells) = h news spells

pub of-remove_entry : (key : Text) → (is_numbered key) ≡ false → (P : edits.Edit → Type 0) → P (edits.RemoveEntry key) → OfEdit (RemoveEntry key) P
of-remove_entry key plain P h e (remove_entry k) = subst P (sym (cond-false (is_numbered key) (edits.ChangeEntry (which_of key) edits.Removes) (edits.RemoveEntry key) plain)) h

pub of-one-remove_entry : (key : Text) → (is_numbered key) ≡ true → (P : edits.Edit → Type 0) → P (edits.ChangeEntry (which_of key) edits.Removes) → OfEdit (RemoveEntry key) P
of-one-remove_entry key numbered P h e (remove_entry k) = subst P (sym (cond-true (is_numbered key) (edits.ChangeEntry (which_of key) edits.Removes) (edits.RemoveEntry key) numbered)) h

pub of-move_entry : (key : Text) (position : ℕ) → (is_numbered key) ≡ false → (P : edits.Edit → Type 0) → P (edits.MoveEntry key position) → OfEdit (MoveEntry key position) P
of-move_entry key position plain P h e (move_entry k n) = subst P (sym (cond-false (is_numbered key) (edits.ChangeEntry (which_of key) (edits.Moves position)) (edits.MoveEntry key position) plain)) h

pub of-one-move_entry : (key : Text) (position : ℕ) → (is_numbered key) ≡ true → (P : edits.Edit → Type 0) → P (edits.ChangeEntry (which_of key) (edits.Moves position)) → OfEdit (MoveEntry key position) P
of-one-move_entry key position numbered P h e (move_entry k n) = subst P (sym (cond-true (is_numbered key) (edits.ChangeEntry (which_of key) (edits.Moves position)) (edits.MoveEntry key position) numbered)) h

pub of-rename_key : (from to : Text) → (is_numbered from) ≡ false → (P : edits.Edit → Type 0) → P (edits.RenameKey from to) → OfEdit (RenameKey from to) P
of-rename_key from to plain P h e (rename_key f t) = subst P (sym (cond-false (is_numbered from) (edits.ChangeEntry (which_of from) (edits.RenamesKey to)) (edits.RenameKey from to) plain)) h

pub of-one-rename_key : (from to : Text) → (is_numbered from) ≡ true → (P : edits.Edit → Type 0) → P (edits.ChangeEntry (which_of from) (edits.RenamesKey to)) → OfEdit (RenameKey from to) P
of-one-rename_key from to numbered P h e (rename_key f t) = subst P (sym (cond-true (is_numbered from) (edits.ChangeEntry (which_of from) (edits.RenamesKey to)) (edits.RenameKey from to) numbered)) h

pub of-regenerate_keys : (depth : ℕ) (P : edits.Edit → Type 0) → P (edits.RegenerateKeys depth) → OfEdit (RegenerateKeys depth) P
of-regenerate_keys depth P h e (regenerate_keys d) = h

pub of-rename_macro : (from to : Text) (P : edits.Edit → Type 0) → P (edits.RenameMacro from to) → OfEdit (RenameMacro from to) P
of-rename_macro from to P h e (rename_macro f t) = h

pub of-inline_macro : (name : Text) (P : edits.Edit → Type 0) → P (edits.InlineMacro name) → OfEdit (InlineMacro name) P
of-inline_macro name P h e (inline_macro n) = h

pub of-introduce_macro : (name text : Text) (P : edits.Edit → Type 0) → P (edits.IntroduceMacro name text) → OfEdit (IntroduceMacro name text) P
of-introduce_macro name text P h e (introduce_macro n t) = h

pub of-set_type : (key kind_name : Text) → (is_numbered key) ≡ false → (P : edits.Edit → Type 0) → P (edits.SetType key kind_name) → OfEdit (SetType key kind_name) P
of-set_type key kind_name plain P h e (set_type k t) = subst P (sym (cond-false (is_numbered key) (edits.ChangeEntry (which_of key) (edits.SetsType kind_name)) (edits.SetType key kind_name) plain)) h

pub of-one-set_type : (key kind_name : Text) → (is_numbered key) ≡ true → (P : edits.Edit → Type 0) → P (edits.ChangeEntry (which_of key) (edits.SetsType kind_name)) → OfEdit (SetType key kind_name) P
of-one-set_type key kind_name numbered P h e (set_type k t) = subst P (sym (cond-true (is_numbered key) (edits.ChangeEntry (which_of key) (edits.SetsType kind_name)) (edits.SetType key kind_name) numbered)) h

pub of-undefine_macro : (name : Text) → (is_numbered name) ≡ false → (P : edits.Edit → Type 0) → P (edits.UndefineMacro name) → OfEdit (UndefineMacro name) P
of-undefine_macro name plain P h e (undefine_macro n) = subst P (sym (cond-false (is_numbered name) (edits.ChangeDefinition (which_of name).name (edits.number_of (which_of name)) edits.Undefines) (edits.UndefineMacro name) plain)) h

pub of-one-undefine_macro : (name : Text) → (is_numbered name) ≡ true → (P : edits.Edit → Type 0) → P (edits.ChangeDefinition (which_of name).name (edits.number_of (which_of name)) edits.Undefines) → OfEdit (UndefineMacro name) P
of-one-undefine_macro name numbered P h e (undefine_macro n) = subst P (sym (cond-true (is_numbered name) (edits.ChangeDefinition (which_of name).name (edits.number_of (which_of name)) edits.Undefines) (edits.UndefineMacro name) numbered)) h

pub of-rename_field : (from to : Text) (key : Option Text) → has_number key ≡ false → (P : edits.Edit → Type 0) → P (edits.RenameField from to key) → OfEdit (RenameField from to key) P
of-rename_field from to None plain P h e (rename_field f t k) = h
of-rename_field from to (Some key) plain P h e (rename_field f t k) =
    subst P (sym (cond-false (is_numbered key) (edits.ChangeEntry (which_of key) (edits.RenamesFields from to)) (edits.RenameField from to (Some key)) plain)) h

pub of-one-rename_in_entry : (from to key : Text) → is_numbered key ≡ true → (P : edits.Edit → Type 0) → P (edits.ChangeEntry (which_of key) (edits.RenamesFields from to)) → OfEdit (RenameField from to (Some key)) P
of-one-rename_in_entry from to key numbered P h e (rename_field f t k) =
    subst P (sym (cond-true (is_numbered key) (edits.ChangeEntry (which_of key) (edits.RenamesFields from to)) (edits.RenameField from to (Some key)) numbered)) h

pub of-define_macro : (name value : Text) (P : edits.Edit → Type 0) → ((v : Value) → Spells value v → P (edits.DefineMacro name v)) → OfEdit (DefineMacro name value) P
of-define_macro name value P h e (define_macro n t v s) = h v s

pub of-set_macro : (name value : Text) → (is_numbered name) ≡ false → (P : edits.Edit → Type 0) → ((v : Value) → Spells value v → P (edits.SetMacro name v)) → OfEdit (SetMacro name value) P
of-set_macro name value plain P h e (set_macro n t v s) = subst P (sym (cond-false (is_numbered name) (edits.ChangeDefinition (which_of name).name (edits.number_of (which_of name)) (edits.SetsValue v)) (edits.SetMacro name v) plain)) (h v s)

pub of-one-set_macro : (name value : Text) → (is_numbered name) ≡ true → (P : edits.Edit → Type 0) → ((v : Value) → Spells value v → P (edits.ChangeDefinition (which_of name).name (edits.number_of (which_of name)) (edits.SetsValue v))) → OfEdit (SetMacro name value) P
of-one-set_macro name value numbered P h e (set_macro n t v s) = subst P (sym (cond-true (is_numbered name) (edits.ChangeDefinition (which_of name).name (edits.number_of (which_of name)) (edits.SetsValue v)) (edits.SetMacro name v) numbered)) (h v s)
