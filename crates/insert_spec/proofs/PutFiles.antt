-- The pieces of an insertion fit the file and lead to the bytes of the new database, which can be opened if nothing refuses it.
use Rattle.std.proofs.Common.{◌≡◌, ◌≤◌, ℕ, Bool, true, false, [], ◌∷◌, ◌++◌, length, take, drop, nat_lt, is_some, ⊎_elim, refl, sym, ◌∙◌, ap, ap₂, subst, append-nil, take-append-drop, arith}
use Rattle.std.proofs.lemmas.Bool.{cases_Bool, ltb-true, ltb-false}
use Rattle.bib_spec.specs.Bytes.{file_limit}
use Rattle.bib_spec.specs.Text.{Text}
use Rattle.bib_spec.specs.Reading.{Reading, Reads, bytes_of}
use Rattle.bib_spec.specs.Texts.{too_long_at}
use Rattle.bib_spec.specs.Pieces.{Fit, applied}
use Rattle.bib_spec.proofs.Chunks.{chunks-fit, chunks-lead}
use Rattle.bib_spec.proofs.Keys.{option_cases}
use Rattle.edit_spec.specs.Edits.{WouldMerge, FileTooLong}
use Rattle.edit_spec.specs.EditChunks.{kept_items}
use Rattle.edit_spec.proofs.TreeChunks.{read, old-read, new-read, read-append, items-kept}
use Rattle.edit_spec.proofs.EditedItems.{trees_of, clean_reads}
use Rattle.edit_spec.proofs.Unrefuted.{unrefuted_texts}
use Rattle.insert_spec.specs.Insertion.{line_end_before, inserted, put_bytes, chunks, pieces_of}
use Rattle.insert_spec.specs.Laws.{insertion_leads, insertion_reads, insertion_opens}
use Rattle.insert_spec.proofs.PutItems.{items_bytes, items-append, put-are, put-bytes}

-- ---- chunks

put_old : (t : Text) → read false (put_bytes t) ≡ []
put_old [] = refl
put_old (b ∷ t) = refl

put_new : (t : Text) → read true (put_bytes t) ≡ t
put_new [] = refl
put_new (b ∷ t) = append-nil (b ∷ t)

module _ (position : ℕ) (new db : Reading) where
  abbrev put : Text
  put = line_end_before position new db ++ bytes_of new

  chunks-read : (b : Bool) → read b (chunks position new db) ≡
      db.front ++ (items_bytes (take position db.items) ++ (read b (put_bytes put) ++ items_bytes (drop position db.items)))
  chunks-read b = ap (λ t. db.front ++ t)
      (read-append b (kept_items (take position db.items)) (put_bytes put ++ kept_items (drop position db.items))
      ∙ ap₂ ◌++◌ (items-kept b (take position db.items))
      (read-append b (put_bytes put) (kept_items (drop position db.items)) ∙ ap (λ t. read b (put_bytes put) ++ t) (items-kept b (drop position db.items))))

  chunks-old : read false (chunks position new db) ≡ bytes_of db
  chunks-old = chunks-read false
      ∙ ap (λ t. db.front ++ (items_bytes (take position db.items) ++ (t ++ items_bytes (drop position db.items)))) (put_old put)
      ∙ ap (λ t. db.front ++ t) (sym (items-append (take position db.items) (drop position db.items)) ∙ ap items_bytes (take-append-drop position db.items))

  chunks-new : read true (chunks position new db) ≡ bytes_of (inserted position new db)
  chunks-new = chunks-read true
      ∙ ap (λ t. db.front ++ (items_bytes (take position db.items) ++ (t ++ items_bytes (drop position db.items)))) (put_new put)
      ∙ sym (put-bytes (line_end_before position new db) new position db.front db.items)

  pub pieces-fit : Fit (pieces_of position new db) (bytes_of db)
  pieces-fit = subst (λ (t : Text). Fit (pieces_of position new db) t) (old-read (chunks position new db) ∙ chunks-old) (chunks-fit (chunks position new db))

  pub pieces-lead : applied (pieces_of position new db) (bytes_of db) ≡ bytes_of (inserted position new db)
  pieces-lead =
      ap (applied (pieces_of position new db)) (sym (old-read (chunks position new db) ∙ chunks-old))
      ∙ chunks-lead (chunks position new db) ∙ new-read (chunks position new db) ∙ chunks-new

pub insertion-leads : insertion_leads
insertion-leads = record { fit = λ position new db within. pieces-fit position new db; lead = λ position new db within. pieces-lead position new db }

-- ---- the new file

pub insertion-reads : insertion_reads
insertion-reads file text position new db reads reads_new clean =
    clean_reads (inserted position new db)
    (put-are (line_end_before position new db) new position db.front db.items (trees_of new.items reads_new.items) (trees_of db.items reads.items)) clean

pub insertion-opens : insertion_opens
insertion-opens file text position new db reads reads_new planned short =
    let db_new = inserted position new db in
    let leads : applied (pieces_of position new db) file ≡ bytes_of db_new = ap (applied (pieces_of position new db)) (sym reads.bytes) ∙ pieces-lead position new db in
    let clean = unrefuted_texts db_new (planned WouldMerge (omega arith)) in
    record {
      reads = subst (λ (t : Text). Reads t db_new) (sym leads) (insertion-reads file text position new db reads reads_new clean);
      short = subst (λ (t : Text). length t ≤ file_limit) (sym leads) fits;
      texts = ⊎_elim (λ none. none) (λ some. absurd (short (ap is_some some.1))) (option_cases (too_long_at db_new));
    }
  where
    fits : length (bytes_of (inserted position new db)) ≤ file_limit
    fits = ⊎_elim
        (λ t. absurd (planned FileTooLong (omega arith) (ltb-true file_limit (length (bytes_of (inserted position new db))) t)))
        (λ t. ltb-false file_limit (length (bytes_of (inserted position new db))) t)
        (cases_Bool (nat_lt file_limit (length (bytes_of (inserted position new db)))))
