-- Why an insertion is refused, and that it is not; its pieces, and the length of the file that they make.
use Rattle.bib_edit.proofs.Words.{◌≡◌, ℕ, ◌<◌, ◌≤◌, ◌+◌, true, false, is_some, List, [], ◌∷◌, ◌++◌, length, take, drop, sym, ◌∙◌, ap, ap₂, subst, subst₂, arith, both_ways, take-append-drop, append-nil, map-append, true_from_ne_false, length-append, file_limit, name_limit, Text, Reading, Reads, bytes_of, too_long_at, Opens, IsOpenable, EditFault}
use Rattle.bib_edit.proofs.Words.{BadKey, BadName, BadValue, BadPosition, NotFound, Ambiguous, KeyInUse, NameInUse, Referred, WouldMerge, FileTooLong, TextTooLong, Kept, pieces_of_chunks, Piece, Fit, kept_item, kept_items, one_reading}
use Rattle.bib_edit.specs.ManyEntries.{put_in}
use Rattle.bib_spec.specs.Pieces.{applied}
use Rattle.insert_spec.specs.Insertion.{line_end_before, inserted, put_bytes, is_key_taken, is_name_taken, RefusesInsertion, IsAcceptedInsertion, IsPlannedInsertion, IsFirstRefusedInsertion}
use Rattle.insert_spec.proofs.PutItems.{items_bytes, items-append, put-bytes}
use Rattle.insert_spec.proofs.PutFiles.{pieces-fit, pieces-lead, insertion-reads, insertion-opens}
use Rattle.edit_spec.proofs.Unrefuted.{unrefuted_texts}
use Rattle.bib_edit.specs.Removal.{ContinuesCleanly}
use Rattle.bib_edit.specs.Insertions.{IsInsertable, IsPlannedAs, PlannedInsertionsLead, PlannedInsertionsOpen}
use Rattle.bib_edit.proofs.PiecePlaces.{insertion-pieces, no-pieces}
use Rattle.bib_edit.proofs.InsertedTexts.{continues-clean, clean-continues}
use Rattle.bib_edit.proofs.Ranks.{Clears, no_reason, more, all_clear}

-- ---- pieces

-- the pieces of a text that is put in are one, or none
pub put-pieces : (t : Text) (db : Reading) (n : ℕ) → pieces_of_chunks (Kept db.front ∷ (kept_items (take n db.items) ++ (put_bytes t ++ kept_items (drop n db.items)))) ≡ put_in db n t
put-pieces (b ∷ t) db n = insertion-pieces (b ∷ t) db n
put-pieces [] db n =
    ap (λ l. pieces_of_chunks (Kept db.front ∷ l)) (sym (map-append kept_item (take n db.items) (drop n db.items)) ∙ ap kept_items (take-append-drop n db.items) ∙ sym (append-nil (kept_items db.items)))
    ∙ no-pieces db

module _ (position : ℕ) (new db : Reading) where
  abbrev Applies : EditFault → Type 0
  Applies fault = RefusesInsertion fault position new db

  -- the new file is as much longer as the text that is put in is long
  pub length-inserted : (file : Text) → Reads file db → length (bytes_of (inserted position new db)) ≡ length file + length (line_end_before position new db ++ bytes_of new)
  length-inserted file reads =
      let text = line_end_before position new db ++ bytes_of new in
      let before = items_bytes (take position db.items) in
      let after = items_bytes (drop position db.items) in
      let made = ap length (put-bytes (line_end_before position new db) new position db.front db.items) in
      let one = length-append db.front (before ++ (text ++ after)) in
      let two = length-append before (text ++ after) in
      let three = length-append text after in
      let whole = ap length (sym reads.bytes) in
      let four = length-append db.front (items_bytes db.items) in
      let five = ap length (ap items_bytes (sym (take-append-drop position db.items)) ∙ items-append (take position db.items) (drop position db.items)) in
      let six = length-append before after in
      omega (arith, made, one, two, three, whole, four, five, six)

  -- ---- refusals

  passes_given : Clears Applies 3
  passes_given = more BadValue (λ h. h) (more BadName (λ h. h) (more BadKey (λ h. h) no_reason))

  pub insert-high : length db.items < position → IsFirstRefusedInsertion position new db BadPosition
  insert-high high = record { holds = high; first = passes_given.of }

  module _ (place : position ≤ length db.items) where
    passes_place : Clears Applies 6
    passes_place = more Ambiguous (λ h. h) (more NotFound (λ h. h) (more BadPosition (λ high. omega (arith, place, high)) passes_given))

    pub insert-held : is_key_taken new db ≡ true → IsFirstRefusedInsertion position new db KeyInUse
    insert-held taken = record { holds = taken; first = passes_place.of }

    module _ (keys : is_key_taken new db ≡ false) where
      passes_keys : Clears Applies 7
      passes_keys = more KeyInUse (λ taken. both_ways (is_key_taken new db) keys taken) passes_place

      pub insert-defined : is_name_taken new db ≡ true → IsFirstRefusedInsertion position new db NameInUse
      insert-defined taken = record { holds = taken; first = passes_keys.of }

      module _ (names : is_name_taken new db ≡ false) where
        passes_names : Clears Applies 9
        passes_names = more Referred (λ h. h) (more NameInUse (λ taken. both_ways (is_name_taken new db) names taken) passes_keys)

        pub insert-merges : (ContinuesCleanly db position (line_end_before position new db ++ new.front) → ⊥) → IsFirstRefusedInsertion position new db WouldMerge
        insert-merges unclean = record { holds = λ clean. unclean (clean-continues position new db place clean); first = passes_names.of }

  module _ (file text : Text) (reads : Reads file db) (reads_new : Reads text new) (can : IsInsertable position new db) where
    passes_joined : Clears Applies 10
    passes_joined =
        more WouldMerge (λ merges. merges (continues-clean position new db can.place file text reads reads_new can.joins)) (passes_names can.place can.keys can.names)

    pub insert-long : file_limit < length (bytes_of (inserted position new db)) → IsFirstRefusedInsertion position new db FileTooLong
    insert-long over = record { holds = over; first = passes_joined.of }

    pub insert-planned : length (bytes_of (inserted position new db)) ≤ file_limit → IsPlannedInsertion position new db
    insert-planned short = (more FileTooLong (λ over. omega (arith, short, over)) passes_joined).of

-- ---- a planned insertion

module _ (position : ℕ) (new db : Reading) (planned : IsPlannedInsertion position new db) where
  passes_all_but_texts : Clears (λ fault. RefusesInsertion fault position new db) 11
  passes_all_but_texts = record { of = planned }

  pub accepted : (RefusesInsertion TextTooLong position new db → ⊥) → IsAcceptedInsertion position new db
  accepted short = all_clear (more TextTooLong short passes_all_but_texts)

  pub insert-long_text : RefusesInsertion TextTooLong position new db → IsFirstRefusedInsertion position new db TextTooLong
  insert-long_text long = record { holds = long; first = planned }

module _ (file text : Text) (position : ℕ) (pieces : List Piece) (is : IsPlannedAs file text position pieces) where
  module _ (db : Reading) (reads : Reads file db) (new : Reading) (reads_new : Reads text new) where
    abbrev planned : IsPlannedInsertion position new db
    planned = is.planned db reads new reads_new

    pub plan-leads : applied pieces file ≡ bytes_of (inserted position new db)
    plan-leads = ap₂ applied (is.pieces_are db reads new reads_new) (sym reads.bytes) ∙ pieces-lead position new db

    pub plan-opens : (RefusesInsertion TextTooLong position new db → ⊥) → Opens (applied pieces file) (inserted position new db)
    plan-opens short = subst (λ (ps : List Piece). Opens (applied ps file) (inserted position new db)) (sym (is.pieces_are db reads new reads_new)) (insertion-opens file text position new db reads reads_new planned short)

    made_reads : Reads (applied pieces file) (inserted position new db)
    made_reads =
        subst (λ (t : Text). Reads t (inserted position new db)) (sym plan-leads)
        (insertion-reads file text position new db reads reads_new (unrefuted_texts (inserted position new db) (planned WouldMerge (omega arith))))

    -- if the new file can be opened, no text is too long
    pub opens-short : IsOpenable (applied pieces file) → RefusesInsertion TextTooLong position new db → ⊥
    opens-short opens long =
        let same : opens.0 ≡ inserted position new db = one_reading name_limit (applied pieces file) opens.0 (inserted position new db) opens.1.reads made_reads in
        both_ways (is_some (too_long_at (inserted position new db))) (ap (λ (r : Reading). is_some (too_long_at r)) (sym same) ∙ ap is_some opens.1.texts) long

    pub unopened-long : (IsOpenable (applied pieces file) → ⊥) → RefusesInsertion TextTooLong position new db
    unopened-long not = true_from_ne_false (is_some (too_long_at (inserted position new db))) (λ none. not (inserted position new db, plan-opens (λ long. both_ways (is_some (too_long_at (inserted position new db))) none long)))

  pub plan-fits : Fit pieces file
  plan-fits =
      let db = is.file_opens.0 in
      let reads = is.file_opens.1.reads in
      let new = is.text_opens.0 in
      subst₂ Fit (sym (is.pieces_are db reads new is.text_opens.1.reads)) reads.bytes (pieces-fit position new db)

pub planned-lead : PlannedInsertionsLead
planned-lead = record {
  fit = λ file text position pieces is. plan-fits file text position pieces is;
  lead = λ file text position pieces is db reads new reads_new. plan-leads file text position pieces is db reads new reads_new;
}

pub planned-open : PlannedInsertionsOpen
planned-open = record {
  opens = λ file text position pieces is allowed.
      let db = is.file_opens.0 in
      let reads = is.file_opens.1.reads in
      let new = is.text_opens.0 in
      let reads_new = is.text_opens.1.reads in
      (inserted position new db, plan-opens file text position pieces is db reads new reads_new (allowed db reads new reads_new TextTooLong));
  allowed = λ file text position pieces is opens db reads new reads_new.
      accepted position new db (is.planned db reads new reads_new) (opens-short file text position pieces is db reads new reads_new opens);
  refused = λ file text position pieces is not db reads new reads_new.
      insert-long_text position new db (is.planned db reads new reads_new) (unopened-long file text position pieces is db reads new reads_new not);
}
