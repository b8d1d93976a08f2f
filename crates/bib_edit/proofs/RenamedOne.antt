-- Why a renaming of fields of one entry among several is refused, and that it is not.
use Rattle.bib_edit.proofs.Words.{◌≡◌, ◌||◌, ◌&&◌, ◌+◌, ◌++◌, ◌<◌, ◌≤◌, ℕ, nat_lt, Bool, true, false, not, List, ◌∷◌, Some, None, is_some, slice_get, length, sym, ◌∙◌, ap, true≢false, false≢true, lt-ltb, or_comm, All-nil, name_limit, file_limit, Text, same, is_name, EntryTree, opening_bytes, crossref, IsValue, Item, Reading, Reads, Opens, IsOpenable, Macros, months, macros_at, texts_of}
use Rattle.bib_edit.proofs.Words.{OfReading, OfItem, BadKey, BadName, BadValue, BadPosition, NotFound, Ambiguous, KeyInUse, NameInUse, Referred, WouldMerge, FileTooLong, TextTooLong, too_long_at, olds_len, news_len, holders, edited, IsAccepted, IsFirstRefusal, pieces_of, made_base, view_of, start_of, kept_items, one_reading, replaced}
use Rattle.std.specs.Option.{option_map_or}
use Rattle.edit_spec.specs.Edits as edits
use Rattle.edit_spec.specs.Edits.{Which, ChangeEntry, RenamesFields, item_meant, is_unclear, entry_changed, entry_renamed, has_field, would_repeat}
use Rattle.edit_spec.specs.EditChunks.{entry_chunked, names_replaced}
use Rattle.bib_spec.specs.Pieces.{Kept, pieces_of_chunks}
use Rattle.bib_edit.specs.declared.numbers.Which.{Which as Meant}
use Rattle.bib_edit.specs.declared.fault.EditFault.{EditFault as Fault}
use Rattle.bib_edit.specs.declared.fault.EditFault.TheVariants as fault
use Rattle.bib_edit.specs.Numbers.{which_seen}
use Rattle.bib_edit.specs.OneOfSeveral.{ArePiecesFor, IsAllowedFor, IsRefusalFor, change}
use Rattle.bib_edit.specs.RenamedFields.{own_fields, fields_clash, names_at, AreReplaceable, IsRenamingFault, none_found, two_meant, too_long, no_memory}
use Rattle.bib_edit.proofs.NamedFields.{any-fields, some-names, rows-clash}
use Rattle.bib_edit.proofs.RenamedPieces.{renamed-entry}
use Rattle.bib_edit.proofs.RenamedFields.{long-tree, are_renamable}
use Rattle.bib_edit.proofs.PieceLengths.{makes-long, makes-short, goes-within}
use Rattle.bib_edit.proofs.LongTexts.{short-entry}
use Rattle.bib_edit.proofs.OpenFiles.{opens-as}
use Rattle.bib_edit.proofs.MeantItems.{item_at, pieces-entry_at, too_long-changed_at}
use Rattle.bib_edit.proofs.MeantTexts.{IsMeantEntry, meant-entry, meant-missing, lacks-is, repeats-is}
use Rattle.bib_edit.proofs.GivenNames.{and_names}
use Rattle.bib_edit.proofs.Ranks.{Passes, no_reason, more, is_first, all_clear}

-- Item n is the entry that is meant, these names are those that the edit replaces there, and this says whether the entry would have two
-- fields of the new name, or it is unclear which entry is meant.
pub record AreFoundIn (key : Which) (from to : Text) (db : Reading) (n : ℕ) (names : List (ℕ × Text)) (is_ambiguous : Bool) : Type 0 where
  pub meant : item_meant key db.items ≡ Some n
  pub names_are : (item : Item) → slice_get db.items n ≡ Some item → names ≡ names_at (start_of db n) from (own_fields (view_of item))
  pub judged : (item : Item) → slice_get db.items n ≡ Some item → is_ambiguous ≡ (fields_clash from to (own_fields (view_of item)) || is_unclear key (holders key.name db))

module _ (key : Which) (from to : Text) (db : Reading) where
  abbrev renaming : edits.Edit
  renaming = ChangeEntry key (RenamesFields from to)

  passes_keys : Passes made_base db renaming 1
  passes_keys = more BadKey (λ h. true≢false h) no_reason

  abbrev leaves : Bool
  leaves = not (same from crossref) && not (same to crossref)

  pub rename-one-names : are_renamable from to ≡ false → IsFirstRefusal made_base db renaming BadName
  rename-one-names bad = is_first BadName (sym (ap (λ b. leaves && b) (and_names (is_name from) (is_name to))) ∙ bad) passes_keys

  module _ (named : are_renamable from to ≡ true) where
    passes_given : Passes made_base db renaming 4
    passes_given =
        more BadPosition (λ h. h) (more BadValue (λ h. h (All-nil (IsValue name_limit)))
        (more BadName (λ h. true≢false (sym named ∙ ap (λ b. leaves && b) (and_names (is_name from) (is_name to)) ∙ h)) passes_keys))

    pub rename-one-missing : item_meant key db.items ≡ None → IsFirstRefusal made_base db renaming NotFound
    rename-one-missing none = is_first NotFound (meant-missing made_base key (RenamesFields from to) db none) passes_given

    module _ (n : ℕ) (names : List (ℕ × Text)) (is_ambiguous : Bool) (found : AreFoundIn key from to db n names is_ambiguous) where
      it : IsMeantEntry key db n
      it = meant-entry key db n found.meant

      abbrev item : Item
      item = item_at (EntryTree it.entry) it.trail

      abbrev macros : Macros
      macros = macros_at months db.items n

      abbrev before_rows : Text
      before_rows = opening_bytes it.entry.opening ++ it.entry.key ++ it.entry.space_after_key

      pub rename-one-pieces : replaced to names ≡ pieces_of made_base db renaming
      rename-one-pieces = ap (replaced to) (found.names_are item it.at) ∙ sym
          (ap (λ o. pieces_of_chunks (Kept db.front ∷ option_map_or (entry_chunked key (RenamesFields from to) db) o (kept_items db.items))) found.meant
          ∙ pieces-entry_at (names_replaced from to) db n it.entry it.trail it.at
          ∙ renamed-entry from to (start_of db n) it.entry it.trail)

      -- there are such names where the entry has such a field
      some-is : nat_lt 0 (length names) ≡ has_field from (texts_of macros it.entry)
      some-is = ap (λ (l : List (ℕ × Text)). nat_lt 0 (length l)) (found.names_are item it.at)
          ∙ some-names from (start_of db n) (own_fields (view_of item)) ∙ any-fields from macros before_rows it.entry.rows

      lacks : (some : Bool) → nat_lt 0 (length names) ≡ some → option_map_or (edits.lacks (RenamesFields from to)) (edits.texts_meant key db) true ≡ not some
      lacks some is = lacks-is made_base key (RenamesFields from to) db n it ∙ ap not (sym some-is ∙ is)

      pub rename-one-none : length names ≡ 0 → IsFirstRefusal made_base db renaming NotFound
      rename-one-none none = is_first NotFound (lacks false (ap (nat_lt 0) none)) passes_given

      module _ (some : 0 < length names) where
        passes_there : Passes made_base db renaming 5
        passes_there = more NotFound (λ none. true≢false (sym none ∙ lacks true (lt-ltb 0 (length names) some))) passes_given

        ambiguous-is : (is_unclear key (holders key.name db) || option_map_or (edits.repeats (RenamesFields from to)) (edits.texts_meant key db) false) ≡ is_ambiguous
        ambiguous-is =
            repeats-is made_base key (RenamesFields from to) db n it
            ∙ or_comm (is_unclear key (holders key.name db)) (would_repeat from to (texts_of macros it.entry))
            ∙ sym (found.judged item it.at ∙ ap (λ b. b || is_unclear key (holders key.name db)) (rows-clash from to macros before_rows it.entry.rows))

        pub rename-one-ambiguous : is_ambiguous ≡ true → IsFirstRefusal made_base db renaming Ambiguous
        rename-one-ambiguous two = is_first Ambiguous (ambiguous-is ∙ two) passes_there

        module _ (alone : is_ambiguous ≡ false) where
          passes_found : Passes made_base db renaming 10
          passes_found = more WouldMerge (λ h. h) (more Referred (λ h. h) (more NameInUse (λ h. h) (more KeyInUse (λ h. h)
              (more Ambiguous (λ two. true≢false (sym two ∙ ambiguous-is ∙ alone)) passes_there))))

          module _ (file : Text) (reads : Reads file db) where
            pub rename-one-long_file : file_limit + olds_len (replaced to names) < length file + news_len (replaced to names) → IsFirstRefusal made_base db renaming FileTooLong
            rename-one-long_file over = is_first FileTooLong (makes-long renaming file db reads (replaced to names) rename-one-pieces over) passes_found

            -- no raw text of the entry changes
            no-longer : Opens file db → is_some (too_long_at (edited made_base db renaming)) ≡ false
            no-longer opens =
                ap (λ o. is_some (too_long_at (option_map_or (λ n. entry_changed key (RenamesFields from to) n db) o db))) found.meant
                ∙ too_long-changed_at (entry_renamed from to) db n it.entry it.trail it.at opens.texts
                ∙ long-tree from to macros (EntryTree it.entry)
                ∙ short-entry db n it.entry it.trail it.at opens.texts

            pub rename-one-accepted : Opens file db → length file + news_len (replaced to names) ≤ file_limit + olds_len (replaced to names) → IsAccepted made_base db renaming
            rename-one-accepted opens short = all_clear
                (more TextTooLong (λ h. false≢true (sym (no-longer opens) ∙ h))
                (more FileTooLong (makes-short renaming file db reads (replaced to names) rename-one-pieces short) passes_found))

-- what is found of the fields of item n, which is the entry that is meant
pub found-meant : (file : Text) (key : Meant) (from to : Text) (n : ℕ) (names : List (ℕ × Text)) (clashes is_ambiguous : Bool) →
    OfReading file (λ db. Some n ≡ item_meant (which_seen key) db.items) → OfItem file n (λ start view. names ≡ names_at start from (own_fields view)) →
    OfItem file n (λ start view. clashes ≡ fields_clash from to (own_fields view)) → OfReading file (λ db. is_ambiguous ≡ (clashes || is_unclear (which_seen key) (holders key.name.now db))) →
    OfReading file (λ db. AreFoundIn (which_seen key) from to db n names is_ambiguous)
found-meant file key from to n names clashes is_ambiguous meant names_are clash judged db reads = record {
  meant = sym (meant db reads);
  names_are = names_are db reads;
  judged = λ item at. judged db reads ∙ ap (λ b. b || is_unclear (which_seen key) (holders key.name.now db)) (clash db reads item at);
}

-- ---- as it is planned

module _ (file : Text) (key : Meant) (from to : Text) where
  abbrev planned : edits.Edit
  planned = change key (RenamesFields from to)

  pub refused-names_of_one : are_renamable from to ≡ false → IsRefusalFor planned file fault.BadName
  refused-names_of_one bad = λ db reads. rename-one-names (which_seen key) from to db bad

  module _ (named : are_renamable from to ≡ true) where
    pub refused-missing_one : OfReading file (λ db. None ≡ item_meant (which_seen key) db.items) → IsRefusalFor planned file fault.NotFound
    refused-missing_one none = λ db reads. rename-one-missing (which_seen key) from to db named (sym (none db reads))

    module _ (n : ℕ) (names : List (ℕ × Text)) (is_ambiguous : Bool) (found : OfReading file (λ db. AreFoundIn (which_seen key) from to db n names is_ambiguous)) where
      pub refused-renaming_of_one : (reason : Fault) → IsRenamingFault file to names is_ambiguous reason → IsRefusalFor planned file reason
      refused-renaming_of_one reason (none_found none) = λ db reads. rename-one-none (which_seen key) from to db named n names is_ambiguous (found db reads) none
      refused-renaming_of_one reason (two_meant some two) = λ db reads. rename-one-ambiguous (which_seen key) from to db named n names is_ambiguous (found db reads) some two
      refused-renaming_of_one reason (too_long some alone over) = λ db reads. rename-one-long_file (which_seen key) from to db named n names is_ambiguous (found db reads) some alone file reads over
      refused-renaming_of_one reason no_memory = tt

      pub allowed-renaming_of_one : IsOpenable file → AreReplaceable file to names is_ambiguous → IsAllowedFor planned file
      allowed-renaming_of_one is are db reads =
          rename-one-accepted (which_seen key) from to db named n names is_ambiguous (found db reads) are.some are.alone file reads (opens-as file db (one_reading name_limit) is reads) are.short

      pub pieces-renaming_of_one : ArePiecesFor planned file (replaced to names)
      pieces-renaming_of_one db reads = rename-one-pieces (which_seen key) from to db named n names is_ambiguous (found db reads)

      pub within-renaming_of_one : IsOpenable file → olds_len (replaced to names) ≤ length file
      within-renaming_of_one is = goes-within planned file is.0 is.1.reads (replaced to names) (pieces-renaming_of_one is.0 is.1.reads)
