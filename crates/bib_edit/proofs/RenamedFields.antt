-- Why a renaming of fields is refused, and that it is not.
use Rattle.bib_edit.proofs.Words.{◌≡◌, ℕ, ◌+◌, ◌<◌, ◌≤◌, ◌&&◌, ◌||◌, nat_lt, Bool, true, false, not, List, [], ◌∷◌, ◌++◌, Option, Some, None, length, map, count_by, slice_get, inl, inr, ⊎_elim, refl, sym, ◌∙◌, ap, ap₂, arith, list_any, true≢false, both_ways, cases_Bool, cond-true, cond-false, ltb-true, lt-ltb, ltb-false, All-nil}
use Rattle.bib_edit.proofs.Words.{option_and_then, option_map_or, name_limit, file_limit, Text, same, is_name, Row, Tree, CommentTree, DefinitionTree, PreambleTree, EntryTree, IsValue, Item, Reading, Reads, Macros, months, raw_text, macros_after, raw_texts_in, IsOpenable, Opens, crossref, entries_of, entry_named, has_name, opening_bytes}
use Rattle.bib_edit.proofs.Words.{BadKey, BadName, BadValue, BadPosition, NotFound, Ambiguous, KeyInUse, NameInUse, Referred, WouldMerge, FileTooLong, TextTooLong, IsMissing, IsAmbiguous, holders, fields_named, of_entry, from_first, with_first_tree, is_entry, IsAccepted, IsFirstRefusal, pieces_of, view_of, start_of, one_reading, OfReading, made_base}
use Rattle.bib_edit.proofs.Words.{IsAllowedEdit, IsRefusal, ArePiecesOf, item_named, OfItem, entry_numbers, olds_len, news_len, replaced}
use Rattle.edit_spec.specs.Edits.{RenameField, row_renamed, entry_renamed, rename_field, has_field, would_repeat}
use Rattle.edit_spec.proofs.FirstEntries.{macros-of_entry}
use Rattle.bib_data.specs.declared.edit.Edit.TheVariants as asked
use Rattle.bib_edit.specs.declared.fault.EditFault.{EditFault as Fault}
use Rattle.bib_edit.specs.declared.fault.EditFault.TheVariants as fault
use Rattle.bib_edit.specs.RenamedFields.{own_fields, fields_clash, item_clashes, names_at, names_in, AreReplaceable, IsRenamingFault, none_found, two_meant, too_long, no_memory}
use Rattle.bib_edit.proofs.NamedFields.{rows-clash, items-clash, items-have, names-counted, some-in}
use Rattle.bib_edit.proofs.RenamedPieces.{renamed-all, renamed-one}
use Rattle.bib_edit.proofs.NamedEntries.{named-entry, held-item}
use Rattle.bib_edit.proofs.SettingPieces.{item_at, fields-seen}
use Rattle.bib_edit.proofs.PieceLengths.{makes-long, makes-short, goes-within}
use Rattle.bib_edit.proofs.LongTexts.{is_long, any_long, too_long-any}
use Rattle.bib_edit.proofs.OpenFiles.{opens-as, none-long}
use Rattle.bib_edit.specs.Numbers.{is_numbered, has_number}
use Rattle.bib_edit.proofs.AskedEdits.{of-rename_field}
use Rattle.bib_edit.proofs.GivenNames.{and_names}
use Rattle.bib_edit.proofs.Ranks.{Passes, no_reason, more, is_first, all_clear}

-- ---- no raw text changes

module _ (from to : Text) where
  values-kept : (rows : List Row) → map (λ row. row.assignment.value) (map (row_renamed from to) rows) ≡ map (λ row. row.assignment.value) rows
  values-kept [] = refl
  values-kept (row ∷ rows) = ap (λ values. row.assignment.value ∷ values) (values-kept rows)

  pub long-tree : (m : Macros) (tree : Tree) → list_any is_long (raw_texts_in m (of_entry (entry_renamed from to) tree)) ≡ list_any is_long (raw_texts_in m tree)
  long-tree m (CommentTree h) = refl
  long-tree m (DefinitionTree d) = refl
  long-tree m (PreambleTree p) = refl
  long-tree m (EntryTree e) = ap (λ values. list_any is_long (map (raw_text m) values)) (values-kept e.rows)

  abbrev renamed : Item → Item
  renamed item = record item { tree = of_entry (entry_renamed from to) item.tree }

  long-each : (m : Macros) (items : List Item) → any_long m (map renamed items) ≡ any_long m items
  long-each m [] = refl
  long-each m (item ∷ items) =
      ap₂ ◌||◌ (long-tree m item.tree)
      (ap (λ after. any_long after (map renamed items)) (macros-of_entry (entry_renamed from to) m item.tree) ∙ long-each (macros_after m item.tree) items)

  abbrev renamed_first : Text → List Item → List Item
  renamed_first key items = from_first (is_entry key) (with_first_tree (of_entry (entry_renamed from to))) items

  long-first : (key : Text) (m : Macros) (items : List Item) → any_long m (renamed_first key items) ≡ any_long m items
  long-first key m [] = refl
  long-first key m (item ∷ items) = ⊎_elim
      (λ t. ap (any_long m) (cond-true (is_entry key item.tree) (renamed item ∷ items) (item ∷ renamed_first key items) t)
      ∙ ap₂ ◌||◌ (long-tree m item.tree) (ap (λ after. any_long after items) (macros-of_entry (entry_renamed from to) m item.tree)))
      (λ t. ap (any_long m) (cond-false (is_entry key item.tree) (renamed item ∷ items) (item ∷ renamed_first key items) t)
      ∙ ap (λ b. list_any is_long (raw_texts_in m item.tree) || b) (long-first key (macros_after m item.tree) items))
      (cases_Bool (is_entry key item.tree))

  long-renamed : (key : Option Text) (db : Reading) → any_long months (rename_field from to key db).items ≡ any_long months db.items
  long-renamed None db = long-each months db.items
  long-renamed (Some key) db = long-first key months db.items

-- ---- the reasons in their order

abbrev pub are_renamable : Text → Text → Bool
are_renamable from to = (not (same from crossref) && not (same to crossref)) && (is_name from && is_name to)

-- these names are those that the edit replaces, there is none where it is missing, and this says whether it is ambiguous
pub record AreFound (from to : Text) (key : Option Text) (db : Reading) (names : List (ℕ × Text)) (is_ambiguous : Bool) : Type 0 where
  pub pieces : replaced to names ≡ pieces_of made_base db (RenameField from to key)
  pub missing : length names ≡ 0 → IsMissing db (RenameField from to key)
  pub some : IsMissing db (RenameField from to key) → length names ≡ 0
  pub ambiguous : is_ambiguous ≡ true → IsAmbiguous db (RenameField from to key)
  pub alone : IsAmbiguous db (RenameField from to key) → is_ambiguous ≡ true

module _ (from to : Text) (key : Option Text) (db : Reading) where
  passes_keys : Passes made_base db (RenameField from to key) 1
  passes_keys = more BadKey (λ h. true≢false h) no_reason

  abbrev leaves : Bool
  leaves = not (same from crossref) && not (same to crossref)

  pub renaming-names : are_renamable from to ≡ false → IsFirstRefusal made_base db (RenameField from to key) BadName
  renaming-names bad = is_first BadName (sym (ap (λ b. leaves && b) (and_names (is_name from) (is_name to))) ∙ bad) passes_keys

  module _ (named : are_renamable from to ≡ true) where
    passes_given : Passes made_base db (RenameField from to key) 4
    passes_given =
        more BadPosition (λ h. h) (more BadValue (λ h. h (All-nil (IsValue name_limit)))
        (more BadName (λ h. true≢false (sym named ∙ ap (λ b. leaves && b) (and_names (is_name from) (is_name to)) ∙ h)) passes_keys))

    pub renaming-missing : IsMissing db (RenameField from to key) → IsFirstRefusal made_base db (RenameField from to key) NotFound
    renaming-missing missing = is_first NotFound missing passes_given

    module _ (names : List (ℕ × Text)) (is_ambiguous : Bool) (found : AreFound from to key db names is_ambiguous) (some : 0 < length names) where
      passes_there : Passes made_base db (RenameField from to key) 5
      passes_there = more NotFound (λ missing. let none = found.some missing in omega (arith, none, some)) passes_given

      pub renaming-ambiguous : is_ambiguous ≡ true → IsFirstRefusal made_base db (RenameField from to key) Ambiguous
      renaming-ambiguous two = is_first Ambiguous (found.ambiguous two) passes_there

      module _ (alone : is_ambiguous ≡ false) where
        passes_found : Passes made_base db (RenameField from to key) 10
        passes_found =
            more WouldMerge (λ h. h) (more Referred (λ h. h) (more NameInUse (λ h. h) (more KeyInUse (λ h. h)
            (more Ambiguous (λ two. both_ways is_ambiguous alone (found.alone two)) passes_there))))

        module _ (file : Text) (reads : Reads file db) where
          pub renaming-long_file : file_limit + olds_len (replaced to names) < length file + news_len (replaced to names) → IsFirstRefusal made_base db (RenameField from to key) FileTooLong
          renaming-long_file over = is_first FileTooLong (makes-long (RenameField from to key) file db reads (replaced to names) found.pieces over) passes_found

          pub renaming-accepted : Opens file db → length file + news_len (replaced to names) ≤ file_limit + olds_len (replaced to names) → IsAccepted made_base db (RenameField from to key)
          renaming-accepted opens short = all_clear
              (more TextTooLong (λ long. both_ways (any_long months (rename_field from to key db).items) (long-renamed from to key db ∙ none-long file db opens) (sym (too_long-any (rename_field from to key db)) ∙ long))
              (more FileTooLong (makes-short (RenameField from to key) file db reads (replaced to names) found.pieces short) passes_found))

-- ---- as it is asked for

module _ (file from to : Text) (key : Option Text) (plain : has_number key ≡ false) where
  pub refused-names : are_renamable from to ≡ false → IsRefusal file (asked.RenameField from to key) fault.BadName
  refused-names bad db reads = of-rename_field from to key plain (λ e. IsFirstRefusal made_base db e BadName) (renaming-names from to key db bad)

  module _ (named : are_renamable from to ≡ true) (names : List (ℕ × Text)) (is_ambiguous : Bool) (found : OfReading file (λ db. AreFound from to key db names is_ambiguous)) where
    pub refused-renaming : (reason : Fault) → IsRenamingFault file to names is_ambiguous reason → IsRefusal file (asked.RenameField from to key) reason
    refused-renaming reason (none_found none) = λ db reads. of-rename_field from to key plain (λ e. IsFirstRefusal made_base db e NotFound) (renaming-missing from to key db named ((found db reads).missing none))
    refused-renaming reason (two_meant some two) = λ db reads. of-rename_field from to key plain (λ e. IsFirstRefusal made_base db e Ambiguous) (renaming-ambiguous from to key db named names is_ambiguous (found db reads) some two)
    refused-renaming reason (too_long some alone over) = λ db reads. of-rename_field from to key plain (λ e. IsFirstRefusal made_base db e FileTooLong) (renaming-long_file from to key db named names is_ambiguous (found db reads) some alone file reads over)
    refused-renaming reason no_memory = tt

    pub allowed-renaming : IsOpenable file → AreReplaceable file to names is_ambiguous → IsAllowedEdit file (asked.RenameField from to key)
    allowed-renaming is are db reads = of-rename_field from to key plain (λ e. IsAccepted made_base db e)
        (renaming-accepted from to key db named names is_ambiguous (found db reads) are.some are.alone file reads (opens-as file db (one_reading name_limit) is reads) are.short)

    pub pieces-renaming : ArePiecesOf file (asked.RenameField from to key) (replaced to names)
    pieces-renaming db reads = of-rename_field from to key plain (λ e. replaced to names ≡ pieces_of made_base db e) (found db reads).pieces

    pub within-renaming : IsOpenable file → olds_len (replaced to names) ≤ length file
    within-renaming is = goes-within (RenameField from to key) file is.0 is.1.reads (replaced to names) (found is.0 is.1.reads).pieces

-- no entry has the key
pub refused-key : (file from to key : Text) → is_numbered key ≡ false → are_renamable from to ≡ true → OfReading file (λ db. None ≡ entry_named (entries_of db) key) → IsRefusal file (asked.RenameField from to (Some key)) fault.NotFound
refused-key file from to key plain named none db reads = of-rename_field from to (Some key) plain (λ e. IsFirstRefusal made_base db e NotFound)
    (renaming-missing from to (Some key) db named
    (ap (λ o. option_map_or (λ entry. count_by (has_name from) entry.fields) (option_and_then (slice_get (entries_of db)) o) 0) (sym (none db reads))))

-- ---- what is found

module _ (from to : Text) where
  -- in every entry
  all-found : (db : Reading) (names : List (ℕ × Text)) (clashes : Bool) → names ≡ names_in (start_of db 0) from db.items → clashes ≡ list_any (item_clashes from to) db.items → AreFound from to None db names clashes
  all-found db names clashes names_are clash =
      let any : nat_lt 0 (length names) ≡ list_any (has_field from) (entries_of db) =
      ap (λ (l : List (ℕ × Text)). nat_lt 0 (length l)) names_are ∙ some-in from (start_of db 0) db.items ∙ items-have from months db.items in
      record {
        pieces = ap (replaced to) names_are ∙ renamed-all from to made_base db;
        missing = λ none. sym any ∙ ap (nat_lt 0) none;
        some = λ missing. let few = ltb-false 0 (length names) (any ∙ missing) in omega (arith, few);
        ambiguous = λ two. sym (clash ∙ items-clash from to months db.items) ∙ two;
        alone = λ two. clash ∙ items-clash from to months db.items ∙ two;
      }

  -- in the entry that a key names
  module _ (key : Text) (db : Reading) (n : ℕ) (held : item_named key db ≡ Some n) where
    one-found : (names : List (ℕ × Text)) (clashes is_ambiguous : Bool) (count : ℕ) →
        ((item : Item) → slice_get db.items n ≡ Some item → names ≡ names_at (start_of db n) from (own_fields (view_of item))) →
        ((item : Item) → slice_get db.items n ≡ Some item → clashes ≡ fields_clash from to (own_fields (view_of item))) →
        count ≡ holders key db → is_ambiguous ≡ (clashes || nat_lt 1 count) → AreFound from to (Some key) db names is_ambiguous
    one-found names clashes is_ambiguous count names_are clash counted judged =
        let entry = named-entry key db n held in
        let item : Item = item_at (EntryTree entry.entry) entry.trail in
        let is : names ≡ names_at (start_of db n) from (own_fields (view_of item)) = names_are item entry.at in
        let fields : fields_named key from db ≡ length names =
        fields-seen db key from n item held entry.at ∙ sym (ap (length {A = ℕ × Text}) is ∙ names-counted from (start_of db n) (own_fields (view_of item))) in
        let repeats : clashes ≡ option_map_or (would_repeat from to) (option_and_then (slice_get (entries_of db)) (entry_named (entries_of db) key)) false =
        clash item entry.at ∙ rows-clash from to entry.macros (opening_bytes entry.entry.opening ++ entry.entry.key ++ entry.entry.space_after_key) entry.entry.rows
        ∙ sym (ap (λ o. option_map_or (would_repeat from to) o false) entry.texts) in
        record {
          pieces = ap (replaced to) is ∙ renamed-one from to made_base db key n entry.entry entry.trail held entry.at;
          missing = λ none. fields ∙ none;
          some = λ missing. sym fields ∙ missing;
          ambiguous = λ two. ⊎_elim
              (λ t. inr (sym repeats ∙ t))
              (λ f. inl (let many = ltb-true 1 count (sym (judged ∙ ap (λ b. b || nat_lt 1 count) f) ∙ two) in omega (arith, many, counted)))
              (cases_Bool clashes);
          alone = λ two. judged ∙ ⊎_elim
              (λ many. ⊎_elim (λ t. ap (λ b. b || nat_lt 1 count) t) (λ f. ap (λ b. b || nat_lt 1 count) f ∙ lt-ltb 1 count (omega (arith, many, counted))) (cases_Bool clashes))
              (λ again. ap (λ b. b || nat_lt 1 count) (repeats ∙ again))
              two;
        }

-- what is found of the fields of all entries of the file
pub found-all : (file from to : Text) (names : List (ℕ × Text)) (clashes : Bool) → OfReading file (λ db. names ≡ names_in (start_of db 0) from db.items) → OfReading file (λ db. clashes ≡ list_any (item_clashes from to) db.items) →
    OfReading file (λ db. AreFound from to None db names clashes)
found-all file from to names clashes names_are clash db reads = all-found from to db names clashes (names_are db reads) (clash db reads)

-- what is found of the fields of item n, which is the first entry with the key; so many have the key
pub found-held : (file from to key : Text) (first n count : ℕ) (names : List (ℕ × Text)) (clashes is_ambiguous : Bool) →
    OfReading file (λ db. Some first ≡ entry_named (entries_of db) key) → OfReading file (λ db. slice_get (entry_numbers db.items) first ≡ Some n) →
    OfItem file n (λ start view. names ≡ names_at start from (own_fields view)) → OfItem file n (λ start view. clashes ≡ fields_clash from to (own_fields view)) →
    OfReading file (λ db. count ≡ holders key db) → is_ambiguous ≡ (clashes || nat_lt 1 count) → OfReading file (λ db. AreFound from to (Some key) db names is_ambiguous)
found-held file from to key first n count names clashes is_ambiguous named at names_are clash counted judged db reads =
    one-found from to key db n (held-item key file first n named at db reads) names clashes is_ambiguous count (names_are db reads) (clash db reads) (counted db reads) judged
