-- The pieces of a planned edit replace no more bytes than a file can have.
use Rattle.bib_edit.proofs.Words.{List, ◌≤◌, arith, file_limit, Text, Piece, IsOpenable, Edit, olds_len}
use Rattle.bib_edit.specs.OneOfSeveral.{ArePiecesFor}
use Rattle.bib_edit.proofs.PieceLengths.{goes-within}

pub planned-short : (e : Edit) (file : Text) (ps : List Piece) → ArePiecesFor e file ps → IsOpenable file → olds_len ps ≤ file_limit
planned-short e file ps are is =
    let within = goes-within e file is.0 is.1.reads ps (are is.0 is.1.reads) in
    let short = is.1.short in omega (arith, within, short)
