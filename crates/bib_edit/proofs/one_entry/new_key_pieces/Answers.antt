use Rattle.bib_edit.proofs.Words.{◌≡◌, ◌∙◌, ◌++◌, ℕ, List, Some, ap₂, arith, Piece, OfReading, item-ends, entry_item, key_piece, rekeying}
use Rattle.edit_spec.specs.Edits.{RenamesKey}
use Rattle.bib_edit.specs.OneOfSeveral.{ArePiecesFor, change}
use Rattle.bib_edit.proofs.Results.{if_ok-as}
use Rattle.bib_edit.specs.Numbers.{which_seen}
use Rattle.bib_edit.proofs.MeantItems.{meant-within}
use Rattle.bib_edit.proofs.MeantTexts.{meant-entry}
use Rattle.bib_edit.proofs.RenamedKeys.{one-alone}
use Rattle.bib_edit.proofs.LaterKeys.{first-rekeyed, later-rekeyed}
use Rattle.bib_edit.proofs.one_entry.new_key_pieces.Goals as goal

pub renaming-requires-clause-named : goal.renaming-requires-clause-named
renaming-requires-clause-named g c db reads = (c.in-Some.ensures.first db reads).0

pub renaming-requires-clause-alone : goal.renaming-requires-clause-alone
renaming-requires-clause-alone g c = one-alone c.in_ok-new.new c.in-Some.m c.args.to.now c.in_ok-new.ensures.0 c.in_ok-new.ensures.1

pub item-view-requires : goal.item-view-requires
item-view-requires g c db reads = meant-within (which_seen c.args.key) db c.args.n (c.requires db reads)

pub item_place-requires : goal.item_place-requires
item_place-requires g c db reads = let within = meant-within (which_seen c.args.key) db c.args.n (c.requires db reads) in omega (arith, within)

pub push_key-requires : goal.push_key-requires
push_key-requires g c =
    let db = c.opens.ensures.0 in
    let reads = c.opens.ensures.1.reads in
    let short = c.opens.ensures.1.short in
    let it = meant-entry (which_seen c.args.key) db c.args.n (c.requires db reads) in
    let ends = item-ends c.args.db.now db c.args.n (entry_item it.entry it.trail) reads it.at in
    let start = c.item_place.ensures db reads in
    record { entry = it.entry; trail = it.trail; is = c.item-view.ensures db reads (entry_item it.entry it.trail) it.at; within = omega (arith, short, ends, start) }

pub returns-in-Some-clause-pieces : goal.returns-in-Some-clause-pieces
returns-in-Some-clause-pieces g c =
    if_ok-as (λ (ps : List Piece). OfReading c.args.db.now (λ r. ps ≡ rekeying c.in_ok-new.new r)) (ArePiecesFor (change c.args.key (RenamesKey c.args.to.now)) c.args.db.now)
    (λ ps are db reads.
    let first = c.in-Some.ensures.first db reads in
    are db reads ∙ first-rekeyed (which_seen c.args.key) db c.args.to.now c.args.n (c.requires db reads) c.in_ok-new.new c.in-Some.m first.1 first.0 c.in_ok-new.ensures.0 c.in_ok-new.ensures.1)
    c.renaming.result c.renaming.ensures.pieces

pub returns-clause-pieces : goal.returns-clause-pieces
returns-clause-pieces g c db reads =
    c.from_vec.ensures ∙ c.in_ok-push_key.ensures.pieces
    ∙ ap₂ (λ (done : List Piece) (s : ℕ). done ++ key_piece s c.item-view.result (Some c.args.to.now)) c.new-pieces.ensures.items (c.item_place.ensures db reads)
    ∙ later-rekeyed (which_seen c.args.key) db c.args.to.now c.args.n (c.requires db reads) (c.in_default.ensures.later db reads) c.item-view.result (c.item-view.ensures db reads)
