-- When dropping a field is refused, and for which reason.
use Rattle.std.proofs.Common.{◌||◌}
use Rattle.bib_edit.proofs.Words.{◌≡◌, ℕ, ◌+◌, ◌<◌, ◌≤◌, ◌&&◌, Bool, true, false, List, [], ◌∷◌, Some, None, is_some, find, slice_get, length, count_by, inl, inr, ⊎_elim, true≢false, refl, sym, ◌∙◌, ap, subst, arith, option_and_then, option_map_or, cases_Bool, cond-true, cond-false, false≢true}
use Rattle.bib_edit.proofs.Words.{none-some, All-nil, name_limit, file_limit, Text, is_name, EntryTree, IsValue, Item, Reading, bytes_of, Reads, months, macros_at, too_long_at, IsOpenable, entries_of, has_name, entry_named, end_of, holders, fields_named, without_field, field_dropped, entry_without_field, IsAccepted}
use Rattle.bib_edit.proofs.Words.{IsFirstRefusal, pieces_of, count-yes, count-no, Field, View, view_of, start_of, one_reading, OfReading, entry_numbers, DropField, made_base, IsAllowedEdit, ArePiecesOf, IsRefusal, field_end, item_named, is_field, cut_piece, joins_key, OfItem}
use Rattle.edit_spec.specs.Edits as edits
use Rattle.bib_data.specs.declared.edit.Edit.{Edit}
use Rattle.bib_edit.specs.declared.fault.EditFault.TheVariants.{BadName, NotFound, Ambiguous, WouldMerge}
use Rattle.bib_edit.proofs.Ranks.{Passes, no_reason, more, is_first, all_clear}
use Rattle.bib_edit.proofs.NamedEntries.{IsNamedEntry, named-entry, held-item}
use Rattle.bib_edit.proofs.PieceLists.{within-one_piece}
use Rattle.bib_edit.proofs.PieceLengths.{makes-no-longer}
use Rattle.bib_edit.proofs.SettingPieces.{item_at, fields-seen}
use Rattle.bib_edit.proofs.LongTexts.{too_long-changed, short-entry, short-dropped}
use Rattle.bib_edit.proofs.CuttingRows.{IsCut, key_text_of, first-cut, row-begins, row-within, key-before, drop-one_piece, joins-found}
use Rattle.bib_edit.proofs.OpenFiles.{opens-as}
use Rattle.bib_edit.specs.Numbers.{is_numbered}
use Rattle.bib_edit.proofs.AskedEdits.{of-drop_field}

-- ---- the reasons in their order

module _ (db : Reading) (key name : Text) where
  abbrev drop : edits.Edit
  drop = edits.DropField key name

  clear_name : Passes made_base db drop 1
  clear_name = more edits.BadKey (λ h. true≢false h) no_reason

  clear_field : is_name name ≡ true → Passes made_base db drop 4
  clear_field n =
      more edits.BadPosition (λ h. h)
      (more edits.BadValue (λ h. h (All-nil (IsValue name_limit)))
      (more edits.BadName (λ h. true≢false (sym (ap (λ b. (b && true) && true) n) ∙ h)) clear_name))

  clear_ambiguous : is_name name ≡ true → (fields_named key name db ≡ 0 → ⊥) → Passes made_base db drop 5
  clear_ambiguous n there = more edits.NotFound there (clear_field n)

  clear_merge : is_name name ≡ true → (fields_named key name db ≡ 0 → ⊥) → holders key db ≤ 1 → fields_named key name db ≤ 1 → Passes made_base db drop 9
  clear_merge n there once few =
      more edits.Referred (λ h. h)
      (more edits.NameInUse (λ h. h)
      (more edits.KeyInUse (λ h. h)
      (more edits.Ambiguous (λ h. ⊎_elim (λ many. omega (arith, many, once)) (λ many. omega (arith, many, few)) h)
      (clear_ambiguous n there))))

-- ---- counts

none-counted : {X : Type 0} (p : X → Bool) (xs : List X) → find p xs ≡ None → count_by p xs ≡ 0
none-counted p [] e = refl
none-counted p (x ∷ xs) e = ⊎_elim
    (λ t. absurd (none-some x (sym e ∙ cond-true (p x) (Some x) (find p xs) t)))
    (λ t. count-no p x xs t ∙ none-counted p xs (sym (cond-false (p x) (Some x) (find p xs) t) ∙ e))
    (cases_Bool (p x))

some-counted : {X : Type 0} (p : X → Bool) (xs : List X) (y : X) → find p xs ≡ Some y → 1 ≤ count_by p xs
some-counted p [] y e = absurd (none-some y e)
some-counted p (x ∷ xs) y e = ⊎_elim
    (λ t. let more = count-yes p x xs t in omega (arith, more))
    (λ t. let less = count-no p x xs t in let rest = some-counted p xs y (sym (cond-false (p x) (Some x) (find p xs) t) ∙ e) in omega (arith, less, rest))
    (cases_Bool (p x))

-- ---- refusals

module _ (file key name : Text) (plain : (is_numbered key || is_numbered name) ≡ false) where
  abbrev asked : Edit
  asked = DropField key name

  pub refused-name : is_name name ≡ false → IsRefusal file asked BadName
  refused-name none db reads = of-drop_field key name plain (λ e. IsFirstRefusal made_base db e edits.BadName) (is_first edits.BadName (ap (λ b. (b && true) && true) none) (clear_name db key name))

  -- what is known once the name is one
  module _ (valid : is_name name ≡ true) where
    pub refused-key : OfReading file (λ db. None ≡ entry_named (entries_of db) key) → IsRefusal file asked NotFound
    refused-key none db reads = of-drop_field key name plain (λ e. IsFirstRefusal made_base db e edits.NotFound)
        (is_first edits.NotFound
        (ap (λ o. option_map_or (λ entry. count_by (has_name name) entry.fields) (option_and_then (slice_get (entries_of db)) o) 0) (sym (none db reads)))
        (clear_field db key name valid))

    -- and that the key names the entry, which is this item, with this view
    module _ (first n : ℕ) (named : OfReading file (λ db. Some first ≡ entry_named (entries_of db) key)) (at : OfReading file (λ db. slice_get (entry_numbers db.items) first ≡ Some n))
        (start : ℕ) (view : View) (seen : OfItem file n (λ s v. view ≡ v)) where
      held : OfReading file (λ db. item_named key db ≡ Some n)
      held = held-item key file first n named at

      fields : (db : Reading) → Reads file db → fields_named key name db ≡ count_by (is_field name) view.fields
      fields db reads =
          let entry = named-entry key db n (held db reads) in
          let item : Item = item_at (EntryTree entry.entry) entry.trail in
          fields-seen db key name n item (held db reads) entry.at ∙ sym (ap (λ v. count_by (is_field name) v.fields) (seen db reads item entry.at))

      pub refused-field : None ≡ find (is_field name) view.fields → IsRefusal file asked NotFound
      refused-field none db reads = of-drop_field key name plain (λ e. IsFirstRefusal made_base db e edits.NotFound)
          (is_first edits.NotFound (fields db reads ∙ none-counted (is_field name) view.fields (sym none)) (clear_field db key name valid))

      -- and that the field is there
      module _ (field : Field) (found : Some field ≡ find (is_field name) view.fields) where
        there : (db : Reading) → Reads file db → fields_named key name db ≡ 0 → ⊥
        there db reads none =
            let count = fields db reads in let some = some-counted (is_field name) view.fields field (sym found) in omega (arith, none, count, some)

        pub refused-holders : OfReading file (λ db. 1 < holders key db) → IsRefusal file asked Ambiguous
        refused-holders many db reads = of-drop_field key name plain (λ e. IsFirstRefusal made_base db e edits.Ambiguous)
            (is_first edits.Ambiguous (inl (many db reads)) (clear_ambiguous db key name valid (there db reads)))

        pub refused-twice : 1 < count_by (is_field name) view.fields → IsRefusal file asked Ambiguous
        refused-twice many db reads = of-drop_field key name plain (λ e. IsFirstRefusal made_base db e edits.Ambiguous)
            (let same_count = fields db reads in
            is_first edits.Ambiguous (inr (omega (arith, many, same_count))) (clear_ambiguous db key name valid (there db reads)))

        -- the entry, in the file
        abbrev entry : (db : Reading) → Reads file db → IsNamedEntry key (option_and_then (slice_get (entries_of db)) (entry_named (entries_of db) key)) db.items n
        entry db reads = named-entry key db n (held db reads)

        module _ (db : Reading) (reads : Reads file db) where
          its_view : view ≡ view_of (item_at (EntryTree (entry db reads).entry) (entry db reads).trail)
          its_view = seen db reads (item_at (EntryTree (entry db reads).entry) (entry db reads).trail) (entry db reads).at

          found_in : Some field ≡ find (is_field name) (view_of (item_at (EntryTree (entry db reads).entry) (entry db reads).trail)).fields
          found_in = found ∙ ap (λ v. find (is_field name) v.fields) its_view

          its_cut : IsCut (without_field name (entry db reads).entry.space_after_key (entry db reads).entry.rows) (field_dropped name (entry db reads).entry.space_after_key (entry db reads).entry.rows) (key_text_of (entry db reads).entry)
              (entry db reads).entry.space_after_key (entry db reads).entry.rows field
          its_cut = first-cut name (entry db reads).entry (entry db reads).trail field found_in

          one_piece : pieces_of made_base db (drop db key name) ≡ cut_piece (start_of db n) view.body field ∷ []
          one_piece =
              drop-one_piece name (entry db reads).entry (entry db reads).trail field found_in db key n (held db reads) (entry db reads).at made_base
              ∙ sym (ap (λ v. cut_piece (start_of db n) v.body field ∷ []) its_view)

          merges : edits.MergesText db (drop db key name) → joins_key view field ≡ true
          merges h =
              ap (λ v. joins_key v field) its_view
              ∙ sym (joins-found name (entry db reads).entry (entry db reads).trail field found_in db key n (held db reads) (entry db reads).at (entry db reads).named) ∙ h

          merged : joins_key view field ≡ true → edits.MergesText db (drop db key name)
          merged h =
              joins-found name (entry db reads).entry (entry db reads).trail field found_in db key n (held db reads) (entry db reads).at (entry db reads).named
              ∙ sym (ap (λ v. joins_key v field) its_view) ∙ h

          pub field-end : field_end field ≤ length view.body
          field-end = subst (λ (v : View). field_end field ≤ length v.body) (sym its_view) (row-within (entry db reads).entry (entry db reads).trail field its_cut)

          pub field-begins : field.start ≤ field_end field
          field-begins = row-begins (entry db reads).entry (entry db reads).trail field its_cut

          pub key-within : view.key_at + length view.key ≤ field.start
          key-within = subst (λ (v : View). v.key_at + length v.key ≤ field.start) (sym its_view) (key-before (entry db reads).entry (entry db reads).trail field its_cut)

          cut-within : end_of (cut_piece (start_of db n) view.body field) ≤ length (bytes_of db)
          cut-within = within-one_piece made_base db (drop db key name) (cut_piece (start_of db n) view.body field) one_piece

        pub refused-merge : OfReading file (λ db. holders key db ≤ 1) → count_by (is_field name) view.fields ≤ 1 → joins_key view field ≡ true → IsRefusal file asked WouldMerge
        refused-merge once few joins db reads = of-drop_field key name plain (λ e. IsFirstRefusal made_base db e edits.WouldMerge)
            (let same_fields = fields db reads in
            is_first edits.WouldMerge (merged db reads joins)
            (clear_merge db key name valid (there db reads) (once db reads) (omega (arith, few, same_fields))))

        pub pieces-drop_field : (begins : OfReading file (λ db. start ≡ start_of db n)) → ArePiecesOf file asked (cut_piece start view.body field ∷ [])
        pieces-drop_field begins db reads = of-drop_field key name plain (λ e. (cut_piece start view.body field ∷ []) ≡ pieces_of made_base db e)
            (ap (λ s. cut_piece s view.body field ∷ []) (begins db reads) ∙ sym (one_piece db reads))

        pub start-within : IsOpenable file → OfReading file (λ db. start ≡ start_of db n) → start + field.start ≤ file_limit
        start-within is begins =
            let inside = cut-within is.0 is.1.reads in let long : length (bytes_of is.0) ≡ length file = ap length is.1.reads.bytes in
            let short = is.1.short in let same_start = begins is.0 is.1.reads in omega (arith, inside, long, short, same_start)

        pub key-small : IsOpenable file → view.key_at + length view.key ≤ file_limit
        key-small is =
            let inside = cut-within is.0 is.1.reads in let long : length (bytes_of is.0) ≡ length file = ap length is.1.reads.bytes in
            let short = is.1.short in let key_first = key-within is.0 is.1.reads in omega (arith, inside, long, short, key_first)

        short_texts : IsOpenable file → (db : Reading) → Reads file db → is_some (too_long_at (edits.edited made_base db (drop db key name))) ≡ false
        short_texts is db reads =
            let opens = opens-as file db (one_reading name_limit) is reads in
            too_long-changed key (entry_without_field name) db n (entry db reads).entry (entry db reads).trail (held db reads) (entry db reads).at opens.texts
            ∙ short-dropped (macros_at months db.items n) name (entry db reads).entry (short-entry db n (entry db reads).entry (entry db reads).trail (entry db reads).at opens.texts)

        pub allowed-drop_field : IsOpenable file → OfReading file (λ db. holders key db ≤ 1) → count_by (is_field name) view.fields ≤ 1 → joins_key view field ≡ false → IsAllowedEdit file asked
        allowed-drop_field is once few apart db reads = of-drop_field key name plain (λ e. IsAccepted made_base db e)
            (let same_fields = fields db reads in
            all_clear
            (more edits.TextTooLong (λ h. false≢true (sym (short_texts is db reads) ∙ h))
            (more edits.FileTooLong (makes-no-longer (drop db key name) file db reads _ (sym (one_piece db reads)) refl is.1.short)
            (more edits.WouldMerge (λ h. false≢true (sym apart ∙ merges db reads h))
            (clear_merge db key name valid (there db reads) (once db reads) (omega (arith, few, same_fields)))))))
