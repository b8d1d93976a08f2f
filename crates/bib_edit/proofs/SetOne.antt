-- Why setting a field is refused, where one of several may be meant, and that it is not.
use Rattle.std.proofs.Common.{◌||◌}
use Rattle.std.proofs.lemmas.Bool.{le-leb}
use Rattle.std.specs.Option.{option_map_or}
use Rattle.bib_edit.proofs.Words.{◌≡◌, ℕ, ◌+◌, ◌<◌, ◌≤◌, ◌&&◌, nat_le, nat_lt, Bool, true, false, List, [], ◌∷◌, Option, Some, None, is_some, length, count_by, true≢false, false≢true, refl, sym, ◌∙◌, ap, ap₂, arith, and_parts, and_from, leb-true, both_ways, All-nil, All-cons, All-head, name_limit, file_limit, Text, is_name, Value, value_bytes, EntryTree}
use Rattle.bib_edit.proofs.Words.{IsValue, Item, Reading, Reads, IsValueWithin, months, macros_at, raw_text, raw_limit, too_long_at, Opens, IsOpenable, bytes_of, Piece, Spells, holders, IsFirstRefusal, pieces_of, Field, View, view_of, start_of, IsPartsOf, OfReading, made_base, one_reading, is_field, olds_len, news_len, set_at, rows_end, slice_get}
use Rattle.bib_edit.proofs.Words.{BadKey, BadName, BadValue, BadPosition, NotFound, Ambiguous, KeyInUse, NameInUse, Referred, WouldMerge, FileTooLong, TextTooLong}
use Rattle.edit_spec.specs.Edits as edits
use Rattle.edit_spec.specs.Edits.{Which, ChangeEntry, SetsField, item_meant, texts_meant, number_of, is_unclear, lacks, repeats, entry_with_one_field, change_entry, entry_changed, with_entry_at}
use Rattle.bib_scan.specs.declared.parts.PartSpan.{PartSpan}
use Rattle.bib_value.specs.Raw.{OfValue}
use Rattle.bib_edit.specs.declared.fault.EditFault.{EditFault as Fault}
use Rattle.bib_edit.specs.declared.fault.EditFault.TheVariants as fault
use Rattle.bib_edit.specs.OneOfSeveral.{ArePiecesFor, IsAllowedFor, IsRefusalFor, OfSpelled}
use Rattle.bib_edit.specs.MeantFields.{field_meant, is_lacking}
use Rattle.bib_edit.proofs.Ranks.{Passes, no_reason, more, is_first, all_clear}
use Rattle.bib_edit.proofs.AskedEdits.{some_value}
use Rattle.bib_edit.proofs.PieceLists.{within-one_piece}
use Rattle.bib_edit.proofs.PieceLengths.{makes-long, makes-short, goes-within}
use Rattle.bib_edit.proofs.LongTexts.{short-entry}
use Rattle.bib_edit.proofs.OpenFiles.{opens-as}
use Rattle.bib_edit.proofs.MeantItems.{item_at, too_long-changed_at}
use Rattle.bib_edit.proofs.MeantTexts.{IsMeantEntry, meant-entry, meant-missing, lacks-is, repeats-is}
use Rattle.bib_edit.proofs.MeantFields.{its_fields, counted, few-named, many-named}
use Rattle.bib_edit.proofs.LaterRows.{set-one_field, long-one_set}

-- ---- the reasons in their order

module _ (key field : Which) (v : Value) (db : Reading) where
  abbrev set : edits.Edit
  set = ChangeEntry key (SetsField field v)

  clear_name : Passes made_base db set 1
  clear_name = more BadKey (λ h. true≢false h) no_reason

  clear_value : is_name field.name ≡ true → Passes made_base db set 2
  clear_value named = more BadName (λ h. true≢false (sym (ap (λ b. (b && true) && true) named) ∙ h)) clear_name

  clear_key : is_name field.name ≡ true → IsValue name_limit v → Passes made_base db set 4
  clear_key named is =
      more BadPosition (λ h. h)
      (more BadValue (λ h. h (All-cons (IsValue name_limit) v [] is (All-nil (IsValue name_limit)))) (clear_value named))

  module _ (n : ℕ) (it : IsMeantEntry key db n) where
    abbrev count : ℕ
    count = count_by (is_field field.name) (its_fields key field db n it)

    abbrev found : Option Field
    found = field_meant field (its_fields key field db n it)

    lacks-here : option_map_or (lacks (SetsField field v)) (texts_meant key db) true ≡ (nat_le count (number_of field) && is_some field.number)
    lacks-here = lacks-is made_base key (SetsField field v) db n it ∙ ap (λ c. nat_le c (number_of field) && is_some field.number) (counted key field db n it)

    repeats-here : (is_unclear key (holders key.name db) || option_map_or (repeats (SetsField field v)) (texts_meant key db) false) ≡ (is_unclear key (holders key.name db) || is_unclear field count)
    repeats-here = repeats-is made_base key (SetsField field v) db n it ∙ ap (λ c. is_unclear key (holders key.name db) || is_unclear field c) (counted key field db n it)

    lacking : (o : Option Field) → found ≡ o → is_lacking field o ≡ true → (nat_le count (number_of field) && is_some field.number) ≡ true
    lacking None is lacks = and_from (nat_le count (number_of field)) (is_some field.number)
        (le-leb count (number_of field) (few-named field.name (number_of field) (its_fields key field db n it) is)) (and_parts (is_some field.number) true lacks).0
    lacking (Some row) is lacks = absurd (false≢true (and_parts (is_some field.number) false lacks).1)

    not-lacking : (o : Option Field) → found ≡ o → is_lacking field o ≡ false → (nat_le count (number_of field) && is_some field.number) ≡ true → ⊥
    not-lacking None is there h = both_ways (is_lacking field None) there (and_from (is_some field.number) true (and_parts (nat_le count (number_of field)) (is_some field.number) h).1 refl)
    not-lacking (Some row) is there h =
        let many = many-named field.name (number_of field) (its_fields key field db n it) row is in
        let few = leb-true count (number_of field) (and_parts (nat_le count (number_of field)) (is_some field.number) h).0 in
        omega (arith, many, few)

    module _ (named : is_name field.name ≡ true) (is : IsValue name_limit v) where
      set-lacking : is_lacking field found ≡ true → IsFirstRefusal made_base db set NotFound
      set-lacking h = is_first NotFound (lacks-here ∙ lacking found refl h) (clear_key named is)

      module _ (there : is_lacking field found ≡ false) where
        clear_ambiguous : Passes made_base db set 5
        clear_ambiguous = more NotFound (λ h. not-lacking found refl there (sym lacks-here ∙ h)) (clear_key named is)

        set-unclear : (is_unclear key (holders key.name db) || is_unclear field count) ≡ true → IsFirstRefusal made_base db set Ambiguous
        set-unclear h = is_first Ambiguous (repeats-here ∙ h) clear_ambiguous

        clear_long : (is_unclear key (holders key.name db) || is_unclear field count) ≡ false → Passes made_base db set 10
        clear_long clear =
            more WouldMerge (λ h. h)
            (more Referred (λ h. h)
            (more NameInUse (λ h. h)
            (more KeyInUse (λ h. h)
            (more Ambiguous (λ h. true≢false (sym h ∙ repeats-here ∙ clear)) clear_ambiguous))))

-- ---- refusals

module _ (file value : Text) (key field : Which) where
  abbrev Refused : Fault → Type 0
  Refused why = OfSpelled value (λ v. IsRefusalFor (ChangeEntry key (SetsField field v)) file why)

  pub set-one-misnamed : is_name field.name ≡ false → Refused fault.BadName
  set-one-misnamed none v s db reads = is_first BadName (ap (λ b. (b && true) && true) none) (clear_name key field v db)

  -- what is known once the name is one
  module _ (named : is_name field.name ≡ true) where
    pub set-one-value : (IsValueWithin name_limit value → ⊥) → Refused fault.BadValue
    set-one-value none v s db reads = is_first BadValue (λ all. none (v, All-head (IsValue name_limit) v [] all, s.bytes)) (clear_value key field v db named)

    -- and that the value is one
    module _ (spans : List PartSpan) (said : IsPartsOf value spans) where
      is_value : (v : Value) → Spells value v → IsValue name_limit v
      is_value v s = s.value (said.0, said.1, said.2)

      pub set-one-missing : OfReading file (λ db. item_meant key db.items ≡ None) → Refused fault.NotFound
      set-one-missing none v s db reads = is_first NotFound (meant-missing made_base key (SetsField field v) db (none db reads)) (clear_key key field v db named (is_value v s))

      -- and that an entry is meant, with this view
      module _ (n : ℕ) (meant : OfReading file (λ db. item_meant key db.items ≡ Some n)) (view : View) (seen : OfReading file (λ db. (item : Item) → slice_get db.items n ≡ Some item → view ≡ view_of item)) where
        abbrev row : Option Field
        row = field_meant field view.fields

        abbrev doubt : Reading → Bool
        doubt db = is_unclear key (holders key.name db) || is_unclear field (count_by (is_field field.name) view.fields)

        module _ (db : Reading) (reads : Reads file db) where
          its_entry : IsMeantEntry key db n
          its_entry = meant-entry key db n (meant db reads)

          its_view : view ≡ view_of (item_at (EntryTree its_entry.entry) its_entry.trail)
          its_view = seen db reads (item_at (EntryTree its_entry.entry) its_entry.trail) its_entry.at

          its_row : row ≡ field_meant field (its_fields key field db n its_entry)
          its_row = ap (λ (w : View). field_meant field w.fields) its_view

          its_lack : is_lacking field row ≡ is_lacking field (field_meant field (its_fields key field db n its_entry))
          its_lack = ap (λ o. is_lacking field o) its_row

          its_doubt : doubt db ≡ (is_unclear key (holders key.name db) || is_unclear field (count_by (is_field field.name) (its_fields key field db n its_entry)))
          its_doubt = ap (λ (w : View). is_unclear key (holders key.name db) || is_unclear field (count_by (is_field field.name) w.fields)) its_view

        pub set-one-lacking : is_lacking field row ≡ true → Refused fault.NotFound
        set-one-lacking h v s db reads = set-lacking key field v db n (its_entry db reads) named (is_value v s) (sym (its_lack db reads) ∙ h)

        -- and that a field that a number names is there
        module _ (there : is_lacking field row ≡ false) where
          its_there : (db : Reading) (reads : Reads file db) → is_lacking field (field_meant field (its_fields key field db n (its_entry db reads))) ≡ false
          its_there db reads = sym (its_lack db reads) ∙ there

          pub set-one-unclear : OfReading file (λ db. doubt db ≡ true) → Refused fault.Ambiguous
          set-one-unclear h v s db reads = set-unclear key field v db n (its_entry db reads) named (is_value v s) (its_there db reads) (sym (its_doubt db reads) ∙ h db reads)

          -- and where the item begins
          module _ (start : ℕ) (begins : OfReading file (λ db. start ≡ start_of db n)) where
            abbrev setting : Piece
            setting = set_at start field.name value (rows_end view) row

            is_piece : (v : Value) → Spells value v → (db : Reading) → Reads file db → pieces_of made_base db (ChangeEntry key (SetsField field v)) ≡ setting ∷ []
            is_piece v s db reads =
                let it = its_entry db reads in
                set-one_field made_base key field v db n it.entry it.trail (meant db reads) it.at (its_there db reads)
                ∙ ap (λ (w : View). set_at (start_of db n) field.name (value_bytes v) (rows_end w) (field_meant field w.fields) ∷ []) (sym (its_view db reads))
                ∙ ap₂ (λ (k : ℕ) (t : Text). set_at k field.name t (rows_end view) row ∷ []) (sym (begins db reads)) s.bytes

            -- the piece lies in the file
            pub set-one-within : IsOpenable file → setting.place ≤ file_limit
            set-one-within is =
                let some = some_value value in
                let inside = within-one_piece made_base is.0 (ChangeEntry key (SetsField field some.0)) setting (is_piece some.0 some.1 is.0 is.1.reads) in
                let long : length (bytes_of is.0) ≡ length file = ap length is.1.reads.bytes in
                let short = is.1.short in
                omega (arith, inside, long, short)

            -- and that it is clear what is meant, and that this list is the piece alone
            module _ (clear : OfReading file (λ db. doubt db ≡ false)) (ps : List Piece) (one : ps ≡ setting ∷ []) where
              are : (v : Value) → Spells value v → (db : Reading) → Reads file db → ps ≡ pieces_of made_base db (ChangeEntry key (SetsField field v))
              are v s db reads = one ∙ sym (is_piece v s db reads)

              pub set-one-pieces : OfSpelled value (λ v. ArePiecesFor (ChangeEntry key (SetsField field v)) file ps)
              set-one-pieces v s db reads = are v s db reads

              pub set-one-goes : IsOpenable file → olds_len ps ≤ file_limit
              set-one-goes is =
                  let some = some_value value in
                  let within = goes-within (ChangeEntry key (SetsField field some.0)) file is.0 is.1.reads ps (are some.0 some.1 is.0 is.1.reads) in
                  let short = is.1.short in omega (arith, within, short)

              clear_file : (v : Value) → Spells value v → (db : Reading) → Reads file db → Passes made_base db (ChangeEntry key (SetsField field v)) 10
              clear_file v s db reads = clear_long key field v db n (its_entry db reads) named (is_value v s) (its_there db reads) (sym (its_doubt db reads) ∙ clear db reads)

              pub set-one-file : file_limit + olds_len ps < length file + news_len ps → Refused fault.FileTooLong
              set-one-file over v s db reads =
                  is_first FileTooLong (makes-long (ChangeEntry key (SetsField field v)) file db reads ps (are v s db reads) over) (clear_file v s db reads)

              -- and that the file is short enough
              module _ (short : length file + news_len ps ≤ file_limit + olds_len ps) (is : IsOpenable file) (long : Bool) (told : OfReading file (λ db. OfValue value (λ v. long ≡ nat_lt raw_limit (length (raw_text (macros_at months db.items n) v))))) where
                clear_text : (v : Value) → Spells value v → (db : Reading) → Reads file db → Passes made_base db (ChangeEntry key (SetsField field v)) 11
                clear_text v s db reads = more FileTooLong (makes-short (ChangeEntry key (SetsField field v)) file db reads ps (are v s db reads) short) (clear_file v s db reads)

                made : (v : Value) (db : Reading) → Reads file db → change_entry key (SetsField field v) db ≡ with_entry_at n (entry_with_one_field field v) db
                made v db reads = ap (λ o. option_map_or (λ n. entry_changed key (SetsField field v) n db) o db) (meant db reads)

                raw : (v : Value) → Spells value v → (db : Reading) → Opens file db → is_some (too_long_at (edits.edited made_base db (ChangeEntry key (SetsField field v)))) ≡ long
                raw v s db opens =
                    let it = its_entry db opens.reads in
                    ap (λ (r : Reading). is_some (too_long_at r)) (made v db opens.reads)
                    ∙ too_long-changed_at (entry_with_one_field field v) db n it.entry it.trail it.at opens.texts
                    ∙ long-one_set (macros_at months db.items n) field v it.entry (field_meant field (its_fields key field db n it)) refl (its_there db opens.reads) (short-entry db n it.entry it.trail it.at opens.texts)
                    ∙ sym (told db opens.reads v (is_value v s) s.bytes)

                pub set-one-text : long ≡ true → Refused fault.TextTooLong
                set-one-text yes_long v s db reads =
                    is_first TextTooLong (raw v s db (opens-as file db (one_reading name_limit) is reads) ∙ yes_long) (clear_text v s db reads)

                pub set-one-allowed : long ≡ false → OfSpelled value (λ v. IsAllowedFor (ChangeEntry key (SetsField field v)) file)
                set-one-allowed no_long v s db reads =
                    all_clear (more TextTooLong (λ h. false≢true (sym (raw v s db (opens-as file db (one_reading name_limit) is reads) ∙ no_long) ∙ h)) (clear_text v s db reads))
