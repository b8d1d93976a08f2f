-- When giving one entry among several another type is refused, and for which reason; and the one piece that it is.
use Rattle.bib_edit.proofs.Words.{◌≡◌, ◌||◌, ◌&&◌, ◌+◌, ◌<◌, ◌≤◌, ℕ, true, false, List, [], ◌∷◌, Some, None, is_some, length, sym, ◌∙◌, ap, arith, true≢false, false≢true, All-nil, name_limit, file_limit, Text, EntryTree, IsValue, Reading, Reads, Opens, IsOpenable, too_long_at, Piece, olds_len, news_len}
use Rattle.bib_edit.proofs.Words.{OfReading, OfItem, BadKey, BadName, BadValue, BadPosition, NotFound, Ambiguous, KeyInUse, NameInUse, Referred, WouldMerge, FileTooLong, TextTooLong, holders, is_type, edited, IsAccepted, IsFirstRefusal, pieces_of, made_base, view_of, start_of, kept_items, one_reading}
use Rattle.std.specs.Option.{option_map_or}
use Rattle.edit_spec.specs.Edits as edits
use Rattle.edit_spec.specs.Edits.{Which, ChangeEntry, SetsType, item_meant, is_unclear, entry_changed, entry_with_type}
use Rattle.edit_spec.specs.EditChunks.{entry_chunked, type_replaced}
use Rattle.bib_spec.specs.Pieces.{Kept, pieces_of_chunks}
use Rattle.bib_edit.specs.TypePieces.{type_piece}
use Rattle.bib_edit.specs.declared.numbers.Which.{Which as Meant}
use Rattle.bib_edit.specs.declared.fault.EditFault.{EditFault as Fault}
use Rattle.bib_edit.specs.declared.fault.EditFault.TheVariants as fault
use Rattle.bib_edit.specs.Numbers.{which_seen}
use Rattle.bib_edit.specs.OneOfSeveral.{ArePiecesFor, IsAllowedFor, IsRefusalFor, IsMeantAt, IsMeantFault, none_meant, unclear, change}
use Rattle.bib_edit.proofs.PieceLengths.{makes-long, makes-short, goes-within}
use Rattle.bib_edit.proofs.LongTexts.{short-entry}
use Rattle.bib_edit.proofs.OpenFiles.{opens-as}
use Rattle.bib_edit.proofs.MeantItems.{item_at, pieces-entry_at, too_long-changed_at}
use Rattle.bib_edit.proofs.MeantTexts.{IsMeantEntry, meant-entry, meant-missing, lacks-is, repeats-is}
use Rattle.bib_edit.proofs.TypedEntries.{place-of_type, entry-in}
use Rattle.bib_edit.proofs.Ranks.{Passes, no_reason, more, is_first, all_clear}

module _ (key : Which) (kind_name : Text) (db : Reading) where
  abbrev typed : edits.Edit
  typed = ChangeEntry key (SetsType kind_name)

  passes_key : Passes made_base db typed 1
  passes_key = more BadKey (λ h. true≢false h) no_reason

  pub type-one-name : is_type kind_name ≡ false → IsFirstRefusal made_base db typed BadName
  type-one-name none = is_first BadName (ap (λ b. true && (b && true)) none) passes_key

  module _ (named : is_type kind_name ≡ true) where
    passes_given : Passes made_base db typed 4
    passes_given =
        more BadPosition (λ h. h) (more BadValue (λ h. h (All-nil (IsValue name_limit)))
        (more BadName (λ h. true≢false (sym (ap (λ b. true && (b && true)) named) ∙ h)) passes_key))

    pub type-one-missing : item_meant key db.items ≡ None → IsFirstRefusal made_base db typed NotFound
    type-one-missing none = is_first NotFound (meant-missing made_base key (SetsType kind_name) db none) passes_given

    module _ (n : ℕ) (found : item_meant key db.items ≡ Some n) where
      abbrev it : IsMeantEntry key db n
      it = meant-entry key db n found

      passes_there : Passes made_base db typed 5
      passes_there = more NotFound (λ none. true≢false (sym none ∙ lacks-is made_base key (SetsType kind_name) db n it)) passes_given

      pub type-one-unclear : is_unclear key (holders key.name db) ≡ true → IsFirstRefusal made_base db typed Ambiguous
      type-one-unclear two = is_first Ambiguous (repeats-is made_base key (SetsType kind_name) db n it ∙ ap (λ b. b || false) two) passes_there

      module _ (clear : is_unclear key (holders key.name db) ≡ false) where
        passes_found : Passes made_base db typed 10
        passes_found = more WouldMerge (λ h. h) (more Referred (λ h. h) (more NameInUse (λ h. h) (more KeyInUse (λ h. h)
            (more Ambiguous (λ two. true≢false (sym two ∙ repeats-is made_base key (SetsType kind_name) db n it ∙ ap (λ b. b || false) clear)) passes_there))))

        module _ (file : Text) (reads : Reads file db) where
          -- it is one piece
          type-one-piece : type_piece (start_of db n) (view_of (item_at (EntryTree it.entry) it.trail)) kind_name ∷ [] ≡ pieces_of made_base db typed
          type-one-piece = sym
              (ap (λ o. pieces_of_chunks (Kept db.front ∷ option_map_or (entry_chunked key (SetsType kind_name) db) o (kept_items db.items))) found
              ∙ pieces-entry_at (type_replaced kind_name) db n it.entry it.trail it.at
              ∙ ap (λ (place : ℕ). (let p : Piece = record { place = start_of db n + place; old = it.entry.opening.head.type_name; new = kind_name } in p) ∷ [])
              (sym (place-of_type it.entry (entry-in file db n it.entry it.trail reads it.at))))

          module _ (p : Piece) (is : p ≡ type_piece (start_of db n) (view_of (item_at (EntryTree it.entry) it.trail)) kind_name) (ps : List Piece) (one : ps ≡ p ∷ []) where
            pub type-one-pieces : ps ≡ pieces_of made_base db typed
            type-one-pieces = one ∙ ap (λ (q : Piece). q ∷ []) is ∙ type-one-piece

            pub type-one-long_file : file_limit + olds_len ps < length file + news_len ps → IsFirstRefusal made_base db typed FileTooLong
            type-one-long_file over = is_first FileTooLong (makes-long typed file db reads ps type-one-pieces over) passes_found

            -- no raw text of the entry changes
            no-longer : Opens file db → is_some (too_long_at (edited made_base db typed)) ≡ false
            no-longer opens =
                ap (λ o. is_some (too_long_at (option_map_or (λ n. entry_changed key (SetsType kind_name) n db) o db))) found
                ∙ too_long-changed_at (entry_with_type kind_name) db n it.entry it.trail it.at opens.texts
                ∙ short-entry db n it.entry it.trail it.at opens.texts

            pub type-one-accepted : Opens file db → length file + news_len ps ≤ file_limit + olds_len ps → IsAccepted made_base db typed
            type-one-accepted opens short = all_clear
                (more TextTooLong (λ h. false≢true (sym (no-longer opens) ∙ h))
                (more FileTooLong (makes-short typed file db reads ps type-one-pieces short) passes_found))

-- ---- as it is planned

module _ (file : Text) (key : Meant) (kind_name : Text) where
  abbrev planned : edits.Edit
  planned = change key (SetsType kind_name)

  pub refused-name_of_one : is_type kind_name ≡ false → IsRefusalFor planned file fault.BadName
  refused-name_of_one none = λ db reads. type-one-name (which_seen key) kind_name db none

  module _ (named : is_type kind_name ≡ true) where
    pub refused-key_of_one : (reason : Fault) → IsMeantFault file key reason → IsRefusalFor planned file reason
    refused-key_of_one reason (none_meant none) = λ db reads. type-one-missing (which_seen key) kind_name db named (none db reads)
    refused-key_of_one reason (unclear there two) = λ db reads. let it = there db reads in type-one-unclear (which_seen key) kind_name db named it.0 it.1 (two db reads)

    module _ (n : ℕ) (meant : OfReading file (λ db. IsMeantAt key db n)) (p : Piece) (made : OfItem file n (λ start view. p ≡ type_piece start view kind_name)) (ps : List Piece) (one : ps ≡ p ∷ []) where
      is_its : (db : Reading) (reads : Reads file db) → (let it = meant-entry (which_seen key) db n (meant db reads).item in p ≡ type_piece (start_of db n) (view_of (item_at (EntryTree it.entry) it.trail)) kind_name)
      is_its db reads = let it = meant-entry (which_seen key) db n (meant db reads).item in made db reads (item_at (EntryTree it.entry) it.trail) it.at

      pub pieces-type_of_one : ArePiecesFor planned file ps
      pieces-type_of_one db reads = let m = meant db reads in type-one-pieces (which_seen key) kind_name db named n m.item m.clear file reads p (is_its db reads) ps one

      pub within-type_of_one : IsOpenable file → olds_len ps ≤ file_limit
      within-type_of_one is =
          let within = goes-within planned file is.0 is.1.reads ps (pieces-type_of_one is.0 is.1.reads) in
          let short = is.1.short in omega (arith, within, short)

      pub refused-file_of_one : file_limit + olds_len ps < length file + news_len ps → IsRefusalFor planned file fault.FileTooLong
      refused-file_of_one over = λ db reads. let m = meant db reads in type-one-long_file (which_seen key) kind_name db named n m.item m.clear file reads p (is_its db reads) ps one over

      pub allowed-type_of_one : length file + news_len ps ≤ file_limit + olds_len ps → IsOpenable file → IsAllowedFor planned file
      allowed-type_of_one short is db reads =
          let m = meant db reads in
          type-one-accepted (which_seen key) kind_name db named n m.item m.clear file reads p (is_its db reads) ps one (opens-as file db (one_reading name_limit) is reads) short
