-- Why dropping a field is refused, where one of several may be meant, and that it is not.
use Rattle.std.proofs.Common.{◌||◌, if◌then◌else◌}
use Rattle.std.proofs.lemmas.Bool.{le-leb}
use Rattle.std.specs.Option.{option_map_or}
use Rattle.bib_edit.proofs.Words.{◌≡◌, ℕ, zero, suc, ◌+◌, ◌≤◌, ◌&&◌, ◌++◌, nat_le, Bool, true, false, List, [], ◌∷◌, Option, Some, None, is_some, option_and_then, slice_get, length, count_by, true≢false, false≢true, none-some, same_Some, refl, sym, ◌∙◌, ap, ap₂, subst, arith, leb-true, All-nil, name_limit, file_limit, Text, same, is_name, value_bytes, Row, Tree, EntryTree}
use Rattle.bib_edit.proofs.Words.{IsValue, Item, Reading, Reads, months, macros_at, too_long_at, IsOpenable, bytes_of, row_start, Kept, pieces_of_chunks, kept_items, end_of, holders, IsFirstRefusal, pieces_of, field_dropped, without_field, of_entry, tree_ends_in_key, Field, View, fields_after, view_of, start_of, OfReading, made_base, one_reading, is_field, field_end, cut_piece, joins_key}
use Rattle.bib_edit.proofs.Words.{BadKey, BadName, BadValue, BadPosition, NotFound, Ambiguous, KeyInUse, NameInUse, Referred, WouldMerge, FileTooLong, TextTooLong}
use Rattle.edit_spec.specs.Edits as edits
use Rattle.edit_spec.specs.Edits.{Which, ChangeEntry, DropsField, item_meant, texts_meant, number_of, is_unclear, lacks, repeats, with_later_rows, with_tree_at, with_entry_at, entry_without_one_field, entry_changed, change_entry}
use Rattle.edit_spec.specs.EditChunks.{later_rows_chunked, one_field_dropped, entry_chunked}
use Rattle.bib_edit.specs.declared.fault.EditFault.{EditFault as Fault}
use Rattle.bib_edit.specs.declared.fault.EditFault.TheVariants as fault
use Rattle.bib_edit.specs.OneOfSeveral.{ArePiecesFor, IsAllowedFor, IsRefusalFor}
use Rattle.bib_edit.specs.MeantFields.{nth_field, field_meant}
use Rattle.bib_edit.proofs.Ranks.{Passes, no_reason, more, is_first, all_clear}
use Rattle.bib_edit.proofs.PieceLists.{within-one_piece}
use Rattle.bib_edit.proofs.PieceLengths.{makes-no-longer}
use Rattle.bib_edit.proofs.SettingPieces.{before-next}
use Rattle.bib_edit.proofs.CuttingRows.{IsCut, key_text_of, cut-rows, cut-later, row-begins, row-within, key-before, joins-row, cut-one_piece}
use Rattle.bib_edit.proofs.LongTexts.{short-entry}
use Rattle.bib_edit.proofs.OpenFiles.{opens-as}
use Rattle.bib_edit.proofs.MeantItems.{item_at, pieces-entry_at, too_long-changed_at}
use Rattle.bib_edit.proofs.MeantTexts.{IsMeantEntry, meant-entry, meant-missing, lacks-is, repeats-is}
use Rattle.bib_edit.proofs.MeantFields.{its_fields, counted, nth-first, few-named, many-named}
use Rattle.bib_edit.proofs.LaterRows.{short-one_dropped}

-- ---- the row that is cut out

module _ (name : Text) where
  later-cut : (k : ℕ) (key_text before : Text) (rows : List Row) (field : Field) → nth_field name k (fields_after (key_text ++ before) rows) ≡ Some field →
      IsCut (with_later_rows name k (without_field name) before rows) (later_rows_chunked name k (field_dropped name) before rows) key_text before rows field
  later-cut zero key_text before rows field found = cut-rows name key_text before rows field (sym found ∙ nth-first name (fields_after (key_text ++ before) rows))
  later-cut (suc k) key_text before [] field found = absurd (none-some field found)
  later-cut (suc k) key_text before (row ∷ rows) field found =
      let later : ℕ = if same row.assignment.name name then k else suc k in
      let next : Text = ((key_text ++ before) ++ row_start row) ++ value_bytes row.assignment.value in
      cut-later (with_later_rows name later (without_field name) row.assignment.space_after rows) (later_rows_chunked name later (field_dropped name) row.assignment.space_after rows) key_text before row rows field
      (later-cut later next row.assignment.space_after rows field (ap (λ u. nth_field name later (fields_after u rows)) (before-next (key_text ++ before) row) ∙ found))

-- the item that is changed is there
changed-at : (change : Tree → Tree) (n : ℕ) (items : List Item) (item : Item) → slice_get items n ≡ Some item → slice_get (with_tree_at n change items) n ≡ Some (item_at (change item.tree) item.trail)
changed-at change n [] item at = absurd (none-some item at)
changed-at change zero (first ∷ items) item at = ap (λ (i : Item). Some (item_at (change i.tree) i.trail)) (same_Some first item at)
changed-at change (suc n) (first ∷ items) item at = changed-at change n items item at

-- ---- the reasons in their order

module _ (key field : Which) (db : Reading) where
  abbrev drop : edits.Edit
  drop = ChangeEntry key (DropsField field)

  clear_name : Passes made_base db drop 1
  clear_name = more BadKey (λ h. true≢false h) no_reason

  clear_key : is_name field.name ≡ true → Passes made_base db drop 4
  clear_key named =
      more BadPosition (λ h. h)
      (more BadValue (λ h. h (All-nil (IsValue name_limit)))
      (more BadName (λ h. true≢false (sym (ap (λ b. (b && true) && true) named) ∙ h)) clear_name))

  module _ (n : ℕ) (it : IsMeantEntry key db n) where
    abbrev count : ℕ
    count = count_by (is_field field.name) (its_fields key field db n it)

    abbrev found : Option Field
    found = field_meant field (its_fields key field db n it)

    lacks-here : option_map_or (lacks (DropsField field)) (texts_meant key db) true ≡ nat_le count (number_of field)
    lacks-here = lacks-is made_base key (DropsField field) db n it ∙ ap (λ c. nat_le c (number_of field)) (counted key field db n it)

    repeats-here : (is_unclear key (holders key.name db) || option_map_or (repeats (DropsField field)) (texts_meant key db) false) ≡ (is_unclear key (holders key.name db) || is_unclear field count)
    repeats-here = repeats-is made_base key (DropsField field) db n it ∙ ap (λ c. is_unclear key (holders key.name db) || is_unclear field c) (counted key field db n it)

    module _ (named : is_name field.name ≡ true) where
      drop-lacking : found ≡ None → IsFirstRefusal made_base db drop NotFound
      drop-lacking none = is_first NotFound (lacks-here ∙ le-leb count (number_of field) (few-named field.name (number_of field) (its_fields key field db n it) none)) (clear_key named)

      module _ (row : Field) (there : found ≡ Some row) where
        clear_ambiguous : Passes made_base db drop 5
        clear_ambiguous = more NotFound
            (λ h.
            let many = many-named field.name (number_of field) (its_fields key field db n it) row there in
            let few = leb-true count (number_of field) (sym lacks-here ∙ h) in
            omega (arith, many, few))
            (clear_key named)

        drop-unclear : (is_unclear key (holders key.name db) || is_unclear field count) ≡ true → IsFirstRefusal made_base db drop Ambiguous
        drop-unclear h = is_first Ambiguous (repeats-here ∙ h) clear_ambiguous

        clear_merge : (is_unclear key (holders key.name db) || is_unclear field count) ≡ false → Passes made_base db drop 9
        clear_merge clear =
            more Referred (λ h. h)
            (more NameInUse (λ h. h)
            (more KeyInUse (λ h. h)
            (more Ambiguous (λ h. true≢false (sym h ∙ repeats-here ∙ clear)) clear_ambiguous)))

-- ---- refusals

module _ (file : Text) (key field : Which) where
  abbrev asked : edits.Edit
  asked = ChangeEntry key (DropsField field)

  abbrev Refused : Fault → Type 0
  Refused why = IsRefusalFor asked file why

  pub drop-one-misnamed : is_name field.name ≡ false → Refused fault.BadName
  drop-one-misnamed none db reads = is_first BadName (ap (λ b. (b && true) && true) none) (clear_name key field db)

  -- what is known once the name is one
  module _ (named : is_name field.name ≡ true) where
    pub drop-one-missing : OfReading file (λ db. item_meant key db.items ≡ None) → Refused fault.NotFound
    drop-one-missing none db reads = is_first NotFound (meant-missing made_base key (DropsField field) db (none db reads)) (clear_key key field db named)

    -- and that an entry is meant, with this view
    module _ (n : ℕ) (meant : OfReading file (λ db. item_meant key db.items ≡ Some n)) (view : View) (seen : OfReading file (λ db. (item : Item) → slice_get db.items n ≡ Some item → view ≡ view_of item)) where
      abbrev doubt : Reading → Bool
      doubt db = is_unclear key (holders key.name db) || is_unclear field (count_by (is_field field.name) view.fields)

      module _ (db : Reading) (reads : Reads file db) where
        its_entry : IsMeantEntry key db n
        its_entry = meant-entry key db n (meant db reads)

        its_view : view ≡ view_of (item_at (EntryTree its_entry.entry) its_entry.trail)
        its_view = seen db reads (item_at (EntryTree its_entry.entry) its_entry.trail) its_entry.at

        its_doubt : doubt db ≡ (is_unclear key (holders key.name db) || is_unclear field (count_by (is_field field.name) (its_fields key field db n its_entry)))
        its_doubt = ap (λ (w : View). is_unclear key (holders key.name db) || is_unclear field (count_by (is_field field.name) w.fields)) its_view

        its_row : (o : Option Field) → field_meant field view.fields ≡ o → field_meant field (its_fields key field db n its_entry) ≡ o
        its_row o is = sym (ap (λ (w : View). field_meant field w.fields) its_view) ∙ is

      pub drop-one-lacking : field_meant field view.fields ≡ None → Refused fault.NotFound
      drop-one-lacking none db reads = drop-lacking key field db n (its_entry db reads) named (its_row db reads None none)

      -- and that the field is there
      module _ (row : Field) (there : field_meant field view.fields ≡ Some row) where
        pub drop-one-unclear : OfReading file (λ db. doubt db ≡ true) → Refused fault.Ambiguous
        drop-one-unclear h db reads = drop-unclear key field db n (its_entry db reads) named row (its_row db reads (Some row) there) (sym (its_doubt db reads) ∙ h db reads)

        module _ (db : Reading) (reads : Reads file db) where
          its_cut : IsCut (with_later_rows field.name (number_of field) (without_field field.name) (its_entry db reads).entry.space_after_key (its_entry db reads).entry.rows)
              (later_rows_chunked field.name (number_of field) (field_dropped field.name) (its_entry db reads).entry.space_after_key (its_entry db reads).entry.rows)
              (key_text_of (its_entry db reads).entry) (its_entry db reads).entry.space_after_key (its_entry db reads).entry.rows row
          its_cut = later-cut field.name (number_of field) (key_text_of (its_entry db reads).entry) (its_entry db reads).entry.space_after_key (its_entry db reads).entry.rows row (its_row db reads (Some row) there)

          is_piece : pieces_of made_base db asked ≡ cut_piece (start_of db n) view.body row ∷ []
          is_piece =
              ap (λ o. pieces_of_chunks (Kept db.front ∷ option_map_or (entry_chunked key (DropsField field) db) o (kept_items db.items))) (meant db reads)
              ∙ pieces-entry_at (one_field_dropped field) db n (its_entry db reads).entry (its_entry db reads).trail (its_entry db reads).at
              ∙ cut-one_piece (its_entry db reads).entry (its_entry db reads).trail row its_cut (start_of db n)
              ∙ sym (ap (λ (w : View). cut_piece (start_of db n) w.body row ∷ []) (its_view db reads))

          made : change_entry key (DropsField field) db ≡ with_entry_at n (entry_without_one_field field) db
          made = ap (λ o. option_map_or (λ n. entry_changed key (DropsField field) n db) o db) (meant db reads)

          -- the entry without the row ends in its key where the row joins it
          joins : option_map_or (λ item. tree_ends_in_key item.tree) (option_and_then (slice_get (change_entry key (DropsField field) db).items) (item_meant key db.items)) false ≡ joins_key view row
          joins =
              ap₂ (λ (r : Reading) (o : Option ℕ). option_map_or (λ item. tree_ends_in_key item.tree) (option_and_then (slice_get r.items) o) false) made (meant db reads)
              ∙ ap (λ o. option_map_or (λ item. tree_ends_in_key item.tree) o false)
              (changed-at (of_entry (entry_without_one_field field)) n db.items (item_at (EntryTree (its_entry db reads).entry) (its_entry db reads).trail) (its_entry db reads).at)
              ∙ joins-row (its_entry db reads).entry (its_entry db reads).trail row its_cut
              ∙ sym (ap (λ (w : View). joins_key w row) (its_view db reads))

          pub drop-one-ends : field_end row ≤ length view.body
          drop-one-ends = subst (λ (w : View). field_end row ≤ length w.body) (sym (its_view db reads)) (row-within (its_entry db reads).entry (its_entry db reads).trail row its_cut)

          pub drop-one-begins : row.start ≤ field_end row
          drop-one-begins = row-begins (its_entry db reads).entry (its_entry db reads).trail row its_cut

          key-within : view.key_at + length view.key ≤ row.start
          key-within = subst (λ (w : View). w.key_at + length w.key ≤ row.start) (sym (its_view db reads)) (key-before (its_entry db reads).entry (its_entry db reads).trail row its_cut)

          cut-within : end_of (cut_piece (start_of db n) view.body row) ≤ length (bytes_of db)
          cut-within = within-one_piece made_base db asked (cut_piece (start_of db n) view.body row) is_piece

        -- the place of the row lies in the file
        pub drop-one-within : (start : ℕ) → IsOpenable file → OfReading file (λ db. start ≡ start_of db n) → start + row.start ≤ file_limit
        drop-one-within start is begins =
            let inside = cut-within is.0 is.1.reads in let long : length (bytes_of is.0) ≡ length file = ap length is.1.reads.bytes in
            let short = is.1.short in let same_start = begins is.0 is.1.reads in omega (arith, inside, long, short, same_start)

        -- and so does the end of the key
        pub drop-one-key : IsOpenable file → view.key_at + length view.key ≤ file_limit
        drop-one-key is =
            let inside = cut-within is.0 is.1.reads in let long : length (bytes_of is.0) ≡ length file = ap length is.1.reads.bytes in
            let short = is.1.short in let key_first = key-within is.0 is.1.reads in omega (arith, inside, long, short, key_first)

        pub drop-one-pieces : (start : ℕ) → OfReading file (λ db. start ≡ start_of db n) → ArePiecesFor asked file (cut_piece start view.body row ∷ [])
        drop-one-pieces start begins db reads = ap (λ (k : ℕ). cut_piece k view.body row ∷ []) (begins db reads) ∙ sym (is_piece db reads)

        -- and that it is clear what is meant
        module _ (clear : OfReading file (λ db. doubt db ≡ false)) where
          clear_joins : (db : Reading) → Reads file db → Passes made_base db asked 9
          clear_joins db reads = clear_merge key field db n (its_entry db reads) named row (its_row db reads (Some row) there) (sym (its_doubt db reads) ∙ clear db reads)

          pub drop-one-merges : joins_key view row ≡ true → Refused fault.WouldMerge
          drop-one-merges h db reads = is_first WouldMerge (joins db reads ∙ h) (clear_joins db reads)

          short_texts : IsOpenable file → (db : Reading) → Reads file db → is_some (too_long_at (edits.edited made_base db asked)) ≡ false
          short_texts is db reads =
              let opens = opens-as file db (one_reading name_limit) is reads in
              let it = its_entry db reads in
              ap (λ (r : Reading). is_some (too_long_at r)) (made db reads)
              ∙ too_long-changed_at (entry_without_one_field field) db n it.entry it.trail it.at opens.texts
              ∙ short-one_dropped (macros_at months db.items n) field it.entry (short-entry db n it.entry it.trail it.at opens.texts)

          pub drop-one-allowed : IsOpenable file → joins_key view row ≡ false → IsAllowedFor asked file
          drop-one-allowed is apart db reads = all_clear
              (more TextTooLong (λ h. false≢true (sym (short_texts is db reads) ∙ h))
              (more FileTooLong (makes-no-longer asked file db reads _ (sym (is_piece db reads)) refl is.1.short)
              (more WouldMerge (λ h. false≢true (sym apart ∙ sym (joins db reads) ∙ h)) (clear_joins db reads))))
