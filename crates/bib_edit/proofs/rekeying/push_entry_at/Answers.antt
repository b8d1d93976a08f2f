use Rattle.bib_edit.proofs.Words.{◌≡◌, List, ◌++◌, Option, ◌∙◌, ap, ap₂, append_assoc, option_copied, Text, Piece, OfReading, entry_at, key_of, key_piece, crossref_piece, new_target, pieces_at}
use Rattle.bib_edit.proofs.EntryPieces.{pieces-seen, entry-seen}
use Rattle.bib_edit.proofs.Results.{on_ok-as}
use Rattle.bib_edit.proofs.rekeying.push_entry_at.Goals as goal

pub push_key-requires : goal.push_key-requires
push_key-requires g c =
    let db = c.opens.ensures.0 in
    let reads = c.opens.ensures.1.reads in
    let lt = c.requires.number db reads in
    let e = entry_at db c.args.entry.n lt in
    entry-seen c.args.new.now db c.args.db.now c.args.entry.n e.1.number c.args.entry.start c.args.entry.view.now reads c.opens.ensures.1.short
    lt e.1.numbered (c.requires.place db reads e.1.number e.1.numbered) (c.requires.view db reads)

pub push_crossref-requires : goal.push_crossref-requires
push_crossref-requires g c =
    let db = c.opens.ensures.0 in
    let reads = c.opens.ensures.1.reads in
    let lt = c.requires.number db reads in
    let e = entry_at db c.args.entry.n lt in
    entry-seen c.args.new.now db c.args.db.now c.args.entry.n e.1.number c.args.entry.start c.args.entry.view.now reads c.opens.ensures.1.short
    lt e.1.numbered (c.requires.place db reads e.1.number e.1.numbered) (c.requires.view db reads)

pub returns-clause-pieces : goal.returns-clause-pieces
returns-clause-pieces g c =
    let start = c.args.entry.start in
    let view = c.args.entry.view.now in
    on_ok-as (c.push_crossref.new.pieces.items ≡ c.push_key.new.pieces.items ++ crossref_piece start view (option_copied c.new_target.result))
    (OfReading c.args.db.now (λ r. c.push_crossref.new.pieces.items ≡ c.args.pieces.now.items ++ pieces_at c.args.new.now r c.args.entry.n))
    (λ is db reads.
    let lt = c.requires.number db reads in
    let e = entry_at db c.args.entry.n lt in
    is
    ∙ ap₂ (λ (done : List Piece) (o : Option Text). done ++ crossref_piece start view o)
    (c.in_ok-push_key.ensures.pieces ∙ ap (λ o. c.args.pieces.now.items ++ key_piece start view o) c.of.ensures)
    (c.new_target.ensures db reads)
    ∙ append_assoc c.args.pieces.now.items (key_piece start view (key_of c.args.new.now c.args.entry.n)) (crossref_piece start view (new_target c.args.new.now db c.args.entry.n))
    ∙ ap (λ ps. c.args.pieces.now.items ++ ps)
    (pieces-seen c.args.new.now db c.args.entry.n e.1.number start view lt e.1.numbered (c.requires.place db reads e.1.number e.1.numbered) (c.requires.view db reads)))
    c.push_crossref.result c.push_crossref.ensures.pieces
