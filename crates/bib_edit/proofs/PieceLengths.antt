-- Lengths of pieces, added up from the front, and of the file that they make.
use Rattle.bib_edit.proofs.Words.{◌≡◌, ℕ, ◌+◌, ◌<◌, ◌≤◌, List, [], ◌∷◌, length, sym, ◌∙◌, ap, ap₂, subst, subst₂, arith, length-append, file_limit, Text, Reading, Reads, bytes_of, Record, Piece, Chunk, Kept, Replaced, old_of, pieces_from, Edit, FileTooLong, Refuses}
use Rattle.bib_edit.proofs.Words.{edited, chunks, pieces_of, chunks-are-files, olds_len, news_len, made_base, IsOpenable, ArePiecesOf}
use Rattle.bib_data.specs.declared.edit.Edit.{Edit as Asked}
use Rattle.bib_edit.proofs.AskedEdits.{asked_for}
use Rattle.bib_edit.proofs.PieceLists.{lengths-edited}

olds-within : (at : ℕ) (chunks : List Chunk) → olds_len (pieces_from at chunks) ≤ length (old_of chunks)
olds-within at [] = omega arith
olds-within at (Kept t ∷ chunks) = let rest = olds-within (at + length t) chunks in let long = length-append t (old_of chunks) in omega (arith, rest, long)
olds-within at (Replaced old new ∷ chunks) = let rest = olds-within (at + length old) chunks in let long = length-append old (old_of chunks) in omega (arith, rest, long)

olds-edited : (base : Record → Text) (db : Reading) (e : Edit) → olds_len (pieces_of base db e) ≤ length (bytes_of db)
olds-edited base db e = subst (λ (t : Text). olds_len (pieces_of base db e) ≤ length t) (chunks-are-files base db e).0 (olds-within 0 (chunks base db e))

-- ---- whether an edit makes the file too long, told by its pieces

module _ (e : Edit) (file : Text) (db : Reading) (reads : Reads file db) (ps : List Piece) (are : ps ≡ pieces_of made_base db e) where
  made : length (bytes_of (edited made_base db e)) + olds_len ps ≡ length file + news_len ps
  made =
      ap (λ (qs : List Piece). length (bytes_of (edited made_base db e)) + olds_len qs) are
      ∙ lengths-edited made_base db e
      ∙ ap₂ (λ (t : Text) (qs : List Piece). length t + news_len qs) reads.bytes (sym are)

  pub makes-long : file_limit + olds_len ps < length file + news_len ps → Refuses made_base FileTooLong db e
  makes-long over = let lengths = made in omega (arith, over, lengths)

  pub makes-short : length file + news_len ps ≤ file_limit + olds_len ps → Refuses made_base FileTooLong db e → ⊥
  makes-short short over = let lengths = made in omega (arith, short, over, lengths)

  -- if nothing comes
  pub makes-no-longer : news_len ps ≡ 0 → length file ≤ file_limit → Refuses made_base FileTooLong db e → ⊥
  makes-no-longer none short = makes-short (omega (arith, none, short))

  -- what goes is part of the file
  pub goes-within : olds_len ps ≤ length file
  goes-within = subst₂ (λ (qs : List Piece) (t : Text). olds_len qs ≤ length t) (sym are) reads.bytes (olds-edited made_base db e)

pub asked-short : (file : Text) (asked : Asked) (ps : List Piece) → ArePiecesOf file asked ps → IsOpenable file → olds_len ps ≤ file_limit
asked-short file asked ps are is =
    let e = asked_for asked in
    let within = goes-within e.0 file is.0 is.1.reads ps (are is.0 is.1.reads e.0 e.1) in
    let short = is.1.short in omega (arith, within, short)
