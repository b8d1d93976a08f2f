-- Why a move is refused, and that it is not.
use Rattle.bib_edit.proofs.Words.{◌≡◌, ℕ, ◌<◌, ◌≤◌, ◌+◌, ◌-◌, Bool, true, false, List, Some, is_some, length, find, slice_get, sym, ◌∙◌, ap, subst, arith, option_map_or, cond-true, true≢false, both_ways, All-nil, name_limit, file_limit, Text, IsTree, IsValue, Item, Reading, Reads, months}
use Rattle.bib_edit.proofs.Words.{too_long_at, entries_of, keys_of, entry_named, Edit, MoveEntry, BadKey, BadName, BadValue, BadPosition, NotFound, Ambiguous, KeyInUse, NameInUse, Referred, WouldMerge, FileTooLong, TextTooLong, holders, is_entry, in_line, with_item, remove_entry, edited}
use Rattle.bib_edit.proofs.Words.{last_position, IsAccepted, IsFirstRefusal, pieces_of, only, Field, fields_of, made_base, OfReading, IsRefusal, IsHeldAt, IsHolderFault, none_holds, many_hold, IsFirstAt, JoinsCleanly, next_item, moved_pieces, IsFieldLong, IsMovable, Piece, olds_len, news_len}
use Rattle.edit_spec.proofs.EditedItems.{found-is, trees_of}
use Rattle.bib_data.specs.declared.edit.Edit.TheVariants as asked
use Rattle.bib_edit.specs.declared.fault.EditFault.{EditFault as Fault}
use Rattle.bib_edit.proofs.FoundItems.{held-at, held-within}
use Rattle.bib_edit.proofs.PieceLengths.{makes-long, makes-short}
use Rattle.bib_edit.proofs.JoinedTexts.{joins-clean, clean-joins}
use Rattle.bib_edit.proofs.LongTexts.{any_long, too_long-any}
use Rattle.bib_edit.proofs.PlacedTexts.{is_long_in, removed-short, inserted-long}
use Rattle.bib_edit.proofs.MovedPieces.{first-item, move-pieces}
use Rattle.bib_edit.proofs.MovedTexts.{macros-next_item, entry-long, entry-is}
use Rattle.bib_edit.specs.Numbers.{is_numbered}
use Rattle.bib_edit.proofs.AskedEdits.{of-move_entry}
use Rattle.bib_edit.proofs.Ranks.{Passes, no_reason, more, is_first, all_clear}

-- item n, which is the entry that the key names
pub record IsFound (key : Text) (db : Reading) (n : ℕ) (item : Item) : Type 0 where
  pub is : find (λ item. is_entry key item.tree) db.items ≡ Some item
  pub stands : slice_get db.items n ≡ Some item
  pub passes : is_entry key item.tree ≡ true
  pub tree : IsTree name_limit item.tree

pub found-item : (key : Text) (file : Text) (db : Reading) (n : ℕ) → Reads file db → IsFirstAt (is_entry key) db.items n → (item : Item) × IsFound key db n item
found-item key file db n reads at =
    let it = first-item (is_entry key) db.items n at in (
      it.0,
      record {
        is = it.1;
        stands = it.2;
        passes = it.3;
        tree = found-is (λ (item : Item). IsTree name_limit item.tree) (λ item. is_entry key item.tree) db.items it.0 it.1 (trees_of db.items reads.items);
      },
    )

-- what is told of an item's fields, of those of the moved entry
pub long-there : (db : Reading) (n position k : ℕ) (long : Bool) (fs its : List Field) → k ≡ next_item n position → fs ≡ its → IsFieldLong long db k fs → IsFieldLong long db (next_item n position) its
long-there db n position k long fs its at are h = subst (IsFieldLong long db (next_item n position)) are (subst (λ j. IsFieldLong long db j fs) at h)

module _ (key : Text) (position : ℕ) (db : Reading) where
  abbrev E : Edit
  E = MoveEntry key position

  passes_given : Passes made_base db E 3
  passes_given = more BadValue (λ h. h (All-nil (IsValue name_limit))) (more BadName (λ h. true≢false h) (more BadKey (λ h. true≢false h) no_reason))

  pub move-high : last_position db E < position → IsFirstRefusal made_base db E BadPosition
  move-high h = is_first BadPosition h passes_given

  module _ (low : position ≤ last_position db E) where
    passes_place : Passes made_base db E 4
    passes_place = more BadPosition (λ h. omega (arith, h, low)) passes_given

    pub move-missing : holders key db ≡ 0 → IsFirstRefusal made_base db E NotFound
    move-missing none = is_first NotFound none passes_place

    pub move-ambiguous : 1 < holders key db → IsFirstRefusal made_base db E Ambiguous
    move-ambiguous twice = is_first Ambiguous twice (more NotFound (λ none. omega (arith, none, twice)) passes_place)

    module _ (n : ℕ) (lone : IsHeldAt key db n) where
      passes_found : Passes made_base db E 9
      passes_found =
          let once = lone.once in
          more Referred (λ h. h) (more NameInUse (λ h. h) (more KeyInUse (λ h. h) (more Ambiguous (λ twice. omega (arith, twice, once)) (more NotFound (λ none. omega (arith, none, once)) passes_place))))

      pub move-merges : (JoinsCleanly db n → ⊥) → IsFirstRefusal made_base db E WouldMerge
      move-merges unclean = is_first WouldMerge (λ clean. unclean (clean-joins (is_entry key) db n (held-at key db n lone) clean)) passes_found

      module _ (joins : JoinsCleanly db n) (file : Text) (reads : Reads file db) where
        passes_joined : Passes made_base db E 10
        passes_joined = more WouldMerge (λ merges. merges (joins-clean (is_entry key) db n (held-at key db n lone) file reads joins)) passes_found

  module _ (n : ℕ) (can : IsMovable key position db n) where
    -- the place is one of what remains, or its end
    pub position-within : position < length db.items
    position-within =
        let named = only key (keys_of (entries_of db)) can.lone.once in
        let last : last_position db E ≡ length db.items - 1 = cond-true (is_some (entry_named (entries_of db) key)) (length db.items - 1) (length db.items) (ap is_some named.1) in
        let some = held-within key db n can.lone in
        let low = can.low in
        omega (arith, last, some, low)

    pub moved : moved_pieces db n position ≡ pieces_of made_base db E
    moved = sym (move-pieces key db n position (held-at key db n can.lone))

    module _ (file : Text) (reads : Reads file db) (ps : List Piece) (made : ps ≡ moved_pieces db n position) where
      pub move-long_file : file_limit + olds_len ps < length file + news_len ps → IsFirstRefusal made_base db E FileTooLong
      move-long_file over = is_first FileTooLong (makes-long E file db reads ps (made ∙ moved) over) (passes_joined can.low n can.lone can.joins file reads)

      module _ (short : length file + news_len ps ≤ file_limit + olds_len ps) where
        passes_length : Passes made_base db E 11
        passes_length = more FileTooLong (makes-short E file db reads ps (made ∙ moved) short) (passes_joined can.low n can.lone can.joins file reads)

        texts_long : any_long months db.items ≡ false → (item : Item) → IsFound key db n item → (long : Bool) → IsFieldLong long db (next_item n position) (fields_of item.tree) → is_some (too_long_at (edited made_base db E)) ≡ long
        texts_long none item found long h =
            let entry = entry-is key item.tree found.passes in
            ap (λ o. is_some (too_long_at (option_map_or (λ item. with_item position (in_line item.tree) (remove_entry key db)) o db))) found.is
            ∙ too_long-any (with_item position (in_line item.tree) (remove_entry key db))
            ∙ inserted-long months (remove_entry key db).items position (in_line item.tree) entry.0 entry.1 (removed-short key months db.front db.items none)
            ∙ ap (λ m. is_long_in m item.tree) (macros-next_item key months db.front db.items n position (held-at key db n can.lone))
            ∙ entry-long key db (next_item n position) long item.tree found.passes found.tree h

        pub move-long_text : any_long months db.items ≡ false → (item : Item) → IsFound key db n item → IsFieldLong true db (next_item n position) (fields_of item.tree) → IsFirstRefusal made_base db E TextTooLong
        move-long_text none item found h = is_first TextTooLong (texts_long none item found true h) passes_length

        pub move-accepted : any_long months db.items ≡ false → (item : Item) → IsFound key db n item → IsFieldLong false db (next_item n position) (fields_of item.tree) → IsAccepted made_base db E
        move-accepted none item found h = all_clear (more TextTooLong (λ long. both_ways (is_some (too_long_at (edited made_base db E))) (texts_long none item found false h) long) passes_length)

-- ---- as it is asked for

pub refused_address : (key file : Text) → is_numbered key ≡ false → (position : ℕ) (fault : Fault) → OfReading file (λ db. position ≤ last_position db (MoveEntry key position)) → IsHolderFault file key fault → IsRefusal file (asked.MoveEntry key position) fault
refused_address key file plain position fault low (none_holds h) = λ db reads. of-move_entry key position plain (λ e. IsFirstRefusal made_base db e NotFound) (move-missing key position db (low db reads) (h db reads))
refused_address key file plain position fault low (many_hold h) = λ db reads. of-move_entry key position plain (λ e. IsFirstRefusal made_base db e Ambiguous) (move-ambiguous key position db (low db reads) (h db reads))
