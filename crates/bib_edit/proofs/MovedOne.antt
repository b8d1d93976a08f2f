-- Why a move of one entry among several is refused, and that it is not.
use Rattle.bib_edit.proofs.Words.{◌≡◌, ◌≤◌, ◌<◌, ◌+◌, ◌-◌, ◌||◌, ℕ, Bool, true, false, List, Some, None, is_some, option_map, length, take, sym, ◌∙◌, ap, refl, ◌∷◌, subst, arith, cond-true, cond-false, true≢false, both_ways, All-nil, name_limit, file_limit, Text, EntryTree, IsTree, IsItem, IsValue, Item, Reading, Reads, months, gathered, entry_in, too_long_at, entries_of, BadKey, BadName, BadValue, BadPosition, NotFound, Ambiguous, KeyInUse, NameInUse, Referred, WouldMerge, FileTooLong, TextTooLong}
use Rattle.bib_edit.proofs.Words.{Piece, Kept, holders, in_line, with_item, last_position, kept_items, IsAccepted, IsFirstRefusal, edited, pieces_of, pieces_of_chunks, made_base, HasCleanTexts, fields_of, JoinsCleanly, next_item, moved_pieces, IsFieldLong, FieldsHaveValues, olds_len, news_len}
use Rattle.std.specs.Option.{option_map_or}
use Rattle.bib_store.proofs.KeptItems.{item_in}
use Rattle.edit_spec.specs.Edits as edits
use Rattle.edit_spec.proofs.MeantMembers.{meant-number}
use Rattle.edit_spec.specs.Edits.{Which, ChangeEntry, Moves, number_of, item_meant, entry_meant, is_unclear, entry_changed, without_item, change_entry, Removes}
use Rattle.edit_spec.specs.EditChunks.{entry_chunked, item_moved}
use Rattle.bib_edit.proofs.PieceLengths.{makes-long, makes-short}
use Rattle.bib_edit.proofs.LongTexts.{any_long, too_long-any}
use Rattle.bib_edit.proofs.PlacedTexts.{is_long_in, inserted-long}
use Rattle.bib_edit.proofs.MovedPieces.{move-pieces_at}
use Rattle.bib_edit.proofs.MovedTexts.{macros-next_item_at, entry-values, entry-long}
use Rattle.bib_edit.proofs.MeantItems.{item_at, meant-within, joins-clean_at, clean-joins_at, removed-short_at}
use Rattle.bib_edit.proofs.MeantTexts.{IsMeantEntry, meant-entry, meant-missing, lacks-is, repeats-is}
use Rattle.bib_edit.specs.declared.numbers.Which.{Which as Meant}
use Rattle.bib_edit.specs.declared.fault.EditFault.{EditFault as Fault}
use Rattle.bib_edit.specs.Numbers.{which_seen}
use Rattle.bib_store.specs.Readings.{OfReading}
use Rattle.bib_edit.specs.OneOfSeveral.{IsRefusalFor, IsMeantFault, none_meant, unclear, change}
use Rattle.bib_edit.proofs.Ranks.{Passes, no_reason, more, is_first, all_clear}

-- the item of the entry that is meant
abbrev pub meant_item : (key : Which) (db : Reading) (n : ℕ) → item_meant key db.items ≡ Some n → Item
meant_item key db n found = let it = meant-entry key db n found in item_at (EntryTree it.entry) it.trail

pub meant-tree : (key : Which) (file : Text) (db : Reading) (n : ℕ) (found : item_meant key db.items ≡ Some n) → Reads file db → IsTree name_limit (meant_item key db n found).tree
meant-tree key file db n found reads = (item_in (IsItem name_limit) db.items n (meant_item key db n found) reads.items (meant-entry key db n found).at).tree

-- each of its fields has a value
pub meant-values : (key : Which) (file : Text) (db : Reading) (n : ℕ) (found : item_meant key db.items ≡ Some n) → Reads file db → FieldsHaveValues (fields_of (meant_item key db n found).tree)
meant-values key file db n found reads = entry-values key.name (meant_item key db n found).tree (meant-entry key db n found).named (meant-tree key file db n found reads)

-- the highest position, if there is such an entry
pub last-is : (key : Which) (db : Reading) (n : ℕ) → item_meant key db.items ≡ Some n → last_position db (ChangeEntry key (Moves 0)) ≡ length db.items - 1
last-is key db n found = cond-true (is_some (entry_meant key (entries_of db))) (length db.items - 1) (length db.items) (ap is_some (meant-entry key db n found).number)

-- and if there is none
pub last-none : (key : Which) (db : Reading) → item_meant key db.items ≡ None → last_position db (ChangeEntry key (Moves 0)) ≡ length db.items
last-none key db none = cond-false (is_some (entry_meant key (entries_of db))) (length db.items - 1) (length db.items)
    (ap is_some (meant-number key.name (number_of key) months db.items ∙ ap (option_map (λ n. length (gathered entry_in months (take n db.items)))) none))

module _ (key : Which) (position : ℕ) (db : Reading) where
  abbrev move : edits.Edit
  move = ChangeEntry key (Moves position)

  passes_given : Passes made_base db move 3
  passes_given = more BadValue (λ h. h (All-nil (IsValue name_limit))) (more BadName (λ h. true≢false h) (more BadKey (λ h. true≢false h) no_reason))

  pub move-one-high : last_position db move < position → IsFirstRefusal made_base db move BadPosition
  move-one-high h = is_first BadPosition h passes_given

  module _ (low : position ≤ last_position db move) where
    passes_place : Passes made_base db move 4
    passes_place = more BadPosition (λ h. omega (arith, h, low)) passes_given

    pub move-one-missing : item_meant key db.items ≡ None → IsFirstRefusal made_base db move NotFound
    move-one-missing none = is_first NotFound (meant-missing made_base key (Moves position) db none) passes_place

    module _ (n : ℕ) (found : item_meant key db.items ≡ Some n) where
      abbrev it : IsMeantEntry key db n
      it = meant-entry key db n found

      passes_there : Passes made_base db move 5
      passes_there = more NotFound (λ none. true≢false (sym none ∙ lacks-is made_base key (Moves position) db n it)) passes_place

      pub move-one-unclear : is_unclear key (holders key.name db) ≡ true → IsFirstRefusal made_base db move Ambiguous
      move-one-unclear two = is_first Ambiguous (repeats-is made_base key (Moves position) db n it ∙ ap (λ b. b || false) two) passes_there

      -- the place is one of what remains, or its end
      pub position-within_one : position < length db.items
      position-within_one =
          let last : last_position db move ≡ length db.items - 1 = last-is key db n found in
          let some = meant-within key db n found in
          omega (arith, last, some, low)

      pub moved_one : moved_pieces db n position ≡ pieces_of made_base db move
      moved_one = sym (ap (λ o. pieces_of_chunks (Kept db.front ∷ option_map_or (entry_chunked key (Moves position) db) o (kept_items db.items))) found
          ∙ ap (λ o. pieces_of_chunks (Kept db.front ∷ option_map_or (item_moved n position db.items) o (kept_items db.items))) it.at
          ∙ move-pieces_at db n position (meant_item key db n found) it.at)

      module _ (clear : is_unclear key (holders key.name db) ≡ false) where
        passes_found : Passes made_base db move 9
        passes_found = more Referred (λ h. h) (more NameInUse (λ h. h) (more KeyInUse (λ h. h)
            (more Ambiguous (λ two. true≢false (sym two ∙ repeats-is made_base key (Moves position) db n it ∙ ap (λ b. b || false) clear)) passes_there)))

        abbrev others : Reading
        others = without_item n db.front db.items

        left : change_entry key Removes db ≡ others
        left = ap (λ o. option_map_or (λ n. entry_changed key Removes n db) o db) found

        pub move-one-merges : (JoinsCleanly db n → ⊥) → IsFirstRefusal made_base db move WouldMerge
        move-one-merges unclean = is_first WouldMerge (λ clean. unclean (clean-joins_at db n (meant_item key db n found) it.at (subst HasCleanTexts left clean))) passes_found

        module _ (joins : JoinsCleanly db n) (file : Text) (reads : Reads file db) (ps : List Piece) (made : ps ≡ moved_pieces db n position) where
          passes_joined : Passes made_base db move 10
          passes_joined = more WouldMerge (λ merges. merges (subst HasCleanTexts (sym left) (joins-clean_at db n (meant_item key db n found) it.at file reads joins))) passes_found

          pub move-one-long_file : file_limit + olds_len ps < length file + news_len ps → IsFirstRefusal made_base db move FileTooLong
          move-one-long_file over = is_first FileTooLong (makes-long move file db reads ps (made ∙ moved_one) over) passes_joined

          module _ (short : length file + news_len ps ≤ file_limit + olds_len ps) (none : any_long months db.items ≡ false) where
            passes_length : Passes made_base db move 11
            passes_length = more FileTooLong (makes-short move file db reads ps (made ∙ moved_one) short) passes_joined

            texts_long : (long : Bool) → IsFieldLong long db (next_item n position) (fields_of (meant_item key db n found).tree) → is_some (too_long_at (edited made_base db move)) ≡ long
            texts_long long h =
                let item : Item = meant_item key db n found in
                ap (λ o. is_some (too_long_at (option_map_or (λ n. entry_changed key (Moves position) n db) o db))) found
                ∙ ap (λ o. is_some (too_long_at (option_map_or (λ item. with_item position (in_line item.tree) others) o db))) it.at
                ∙ too_long-any (with_item position (in_line item.tree) others)
                ∙ inserted-long months others.items position (in_line item.tree) it.entry refl (removed-short_at months key.name n db.front db.items item it.at it.named none)
                ∙ ap (λ m. is_long_in m item.tree) (macros-next_item_at key.name months db.front db.items n position item it.at it.named)
                ∙ entry-long key.name db (next_item n position) long item.tree it.named (meant-tree key file db n found reads) h

            pub move-one-long_text : IsFieldLong true db (next_item n position) (fields_of (meant_item key db n found).tree) → IsFirstRefusal made_base db move TextTooLong
            move-one-long_text h = is_first TextTooLong (texts_long true h) passes_length

            pub move-one-accepted : IsFieldLong false db (next_item n position) (fields_of (meant_item key db n found).tree) → IsAccepted made_base db move
            move-one-accepted h = all_clear (more TextTooLong (λ long. both_ways (is_some (too_long_at (edited made_base db move))) (texts_long false h) long) passes_length)

-- ---- as it is planned

pub refused_one_move : (file : Text) (key : Meant) (position : ℕ) (fault : Fault) → OfReading file (λ db. position ≤ last_position db (change key (Moves position))) → IsMeantFault file key fault →
    IsRefusalFor (change key (Moves position)) file fault
refused_one_move file key position fault low (none_meant none) = λ db reads. move-one-missing (which_seen key) position db (low db reads) (none db reads)
refused_one_move file key position fault low (unclear there two) = λ db reads. let it = there db reads in move-one-unclear (which_seen key) position db (low db reads) it.0 it.1 (two db reads)
