-- An edit whose pieces are tried on a copy of the file: its limits are judged by what becomes of the copy.
use Rattle.bib_edit.proofs.Words.{◌≡◌, ℕ, ◌≤◌, false, is_some, List, Option, Some, None, IfSome, length, refl, sym, ◌∙◌, ap, ap₂, subst, subst₂, arith, both_ways, true≢false, true_from_ne_false, file_limit, name_limit, Text, Reading, Reads, bytes_of, too_long_at, IsOpenable}
use Rattle.bib_edit.proofs.Words.{Edit, Refuses, FileTooLong, TextTooLong, Piece, Fit, edited, pieces_of, pieces-lead, IsAccepted, IsFirstRefusal, made_base, olds_len, news_len, one_reading}
use Rattle.bib_spec.specs.Pieces.{applied}
use Rattle.bib_edit.specs.Faults.{reason_of}
use Rattle.bib_edit.specs.MacroValues.{MakeShortFile, MakeOpenFile, IsLengthFault, long_file, long_text, no_memory}
use Rattle.bib_edit.specs.declared.fault.EditFault.{EditFault as Fault}
use Rattle.bib_edit.proofs.PieceLists.{lengths-edited}
use Rattle.bib_edit.proofs.PieceLengths.{makes-long, makes-short, goes-within}
use Rattle.bib_edit.proofs.Ranks.{Passes, more, is_first, all_clear}

none-is : (o : Option ℕ) → is_some o ≡ false → o ≡ None
none-is None h = refl
none-is (Some n) h = absurd (true≢false h)

-- the edit makes a reading, and these are its pieces
module _ (e : Edit) (file : Text) (db : Reading) (reads : Reads file db) (made : Reads (bytes_of (edited made_base db e)) (edited made_base db e)) (ps : List Piece) (are : ps ≡ pieces_of made_base db e) where
  abbrev new : Reading
  new = edited made_base db e

  pub tried-fit : Fit ps file
  tried-fit = subst₂ Fit (sym are) reads.bytes (pieces-lead made_base db e).0

  pub tried-goes : length file ≤ file_limit → olds_len ps ≤ file_limit
  tried-goes short = let within = goes-within e file db reads ps are in omega (arith, within, short)

  tried-lead : applied ps file ≡ bytes_of new
  tried-lead = ap₂ applied are (sym reads.bytes) ∙ (pieces-lead made_base db e).1

  made_reads : Reads (applied ps file) new
  made_reads = subst (λ (t : Text). Reads t new) (sym tried-lead) made

  made_short : MakeShortFile ps file → length (applied ps file) ≤ file_limit
  made_short short =
      let lead = ap length tried-lead in
      let lengths = lengths-edited made_base db e in
      let olds = ap olds_len are in
      let news = ap news_len are in
      let whole = ap length reads.bytes in
      omega (arith, short, lead, lengths, olds, news, whole)

  opens-short : IsOpenable (applied ps file) → Refuses made_base TextTooLong db e → ⊥
  opens-short opens long =
      let same : opens.0 ≡ new = one_reading name_limit (applied ps file) opens.0 new opens.1.reads made_reads in
      both_ways (is_some (too_long_at new)) (ap (λ (r : Reading). is_some (too_long_at r)) (sym same) ∙ ap is_some opens.1.texts) long

  -- the new file can be opened, if its texts are short
  pub tried-opens : is_some (too_long_at new) ≡ false → MakeShortFile ps file → IsOpenable (applied ps file)
  tried-opens none short = (new, record { reads = made_reads; short = made_short short; texts = none-is (too_long_at new) none })

  unopened-long : MakeShortFile ps file → (IsOpenable (applied ps file) → ⊥) → Refuses made_base TextTooLong db e
  unopened-long short not = true_from_ne_false (is_some (too_long_at new)) (λ none. not (tried-opens none short))

  -- no other reason refuses it
  module _ (passes : Passes made_base db e 10) where
    pub tried-refused : (fault : Fault) → IsLengthFault ps file fault → IfSome (reason_of fault) (IsFirstRefusal made_base db e)
    tried-refused fault (long_file over) = is_first FileTooLong (makes-long e file db reads ps are over) passes
    tried-refused fault (long_text short not) = is_first TextTooLong (unopened-long short not) (more FileTooLong (makes-short e file db reads ps are short) passes)
    tried-refused fault no_memory = tt

    pub tried-accepted : MakeOpenFile ps file → IsAccepted made_base db e
    tried-accepted made_file = all_clear (more TextTooLong (opens-short made_file.opens) (more FileTooLong (makes-short e file db reads ps are made_file.short) passes))
