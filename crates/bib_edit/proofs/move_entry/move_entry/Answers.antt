use Rattle.bib_edit.proofs.Words.{◌≡◌, ◌≤◌, length, sym, ◌∙◌, ap, subst, err_from_is_err_and, Reading, Reads, View, fields_of, FieldsHaveValues, IsFieldLong}
use Rattle.bib_data.specs.declared.edit.Edit.TheVariants as asked
use Rattle.bib_edit.proofs.LimitTests.{not_over}
use Rattle.bib_edit.proofs.PieceLengths.{asked-short}
use Rattle.bib_edit.proofs.OpenFiles.{opens-as, none-long}
use Rattle.bib_edit.proofs.MovedTexts.{entry-values, next_item-within}
use Rattle.bib_edit.proofs.FoundItems.{held-at, held-within}
use Rattle.bib_edit.proofs.AskedEdits.{of-move_entry}
use Rattle.bib_edit.proofs.Moved.{found-item, long-there, position-within, moved, move-long_file, move-long_text, move-accepted}
use Rattle.bib_edit.proofs.move_entry.move_entry.Goals as goal

pub returns-in_err-n-clause-refused : goal.returns-in_err-n-clause-refused
returns-in_err-n-clause-refused g c =
    let p = err_from_is_err_and c.from_residual.result c.from_residual.ensures.1 in
    rw (p.1, p.2) c.in_err-n.ensures.refused

pub next_item-requires : goal.next_item-requires
next_item-requires g c db reads = position-within c.args.key.now c.args.position db c.in_ok-n.n (c.in_ok-n.ensures.movable db reads)

pub item-requires : goal.item-requires
item-requires g c db reads = held-within c.args.key.now db c.in_ok-n.n (c.in_ok-n.ensures.movable db reads).lone

pub is_field_long-requires-clause-place : goal.is_field_long-requires-clause-place
is_field_long-requires-clause-place g c db reads =
    subst (λ k. k ≤ length db.items) (sym c.next_item.ensures) (next_item-within c.in_ok-n.n c.args.position (length db.items) (position-within c.args.key.now c.args.position db c.in_ok-n.n (c.in_ok-n.ensures.movable db reads)))

pub is_field_long-requires-clause-values : goal.is_field_long-requires-clause-values
is_field_long-requires-clause-values g c =
    let db : Reading = c.opens.ensures.0 in
    let reads : Reads c.args.db.now db = c.opens.ensures.1.reads in
    let found = found-item c.args.key.now c.args.db.now db c.in_ok-n.n reads (held-at c.args.key.now db c.in_ok-n.n (c.in_ok-n.ensures.movable db reads).lone) in
    let fields : c.fields.result ≡ fields_of found.0.tree = c.fields.ensures.fields ∙ ap (λ (v : View). v.fields) (c.item.ensures db reads found.0 found.1.stands) in
    subst FieldsHaveValues (sym fields) (entry-values c.args.key.now found.0.tree found.1.passes found.1.tree)

pub are_too_long-requires : goal.are_too_long-requires
are_too_long-requires g c = asked-short c.args.db.now (asked.MoveEntry c.args.key.now c.args.position) _
    (λ db reads. of-move_entry c.args.key.now c.args.position c.requires _ (c.as_slice.ensures ∙ c.in_ok-pieces.ensures.pieces db reads ∙ moved c.args.key.now c.args.position db c.in_ok-n.n (c.in_ok-n.ensures.movable db reads))) c.opens.ensures

pub returns-then-are_too_long-clause-refused : goal.returns-then-are_too_long-clause-refused
returns-then-are_too_long-clause-refused g c db reads =
    of-move_entry c.args.key.now c.args.position c.requires _ (move-long_file c.args.key.now c.args.position db c.in_ok-n.n (c.in_ok-n.ensures.movable db reads) c.args.db.now reads _ (c.as_slice.ensures ∙ c.in_ok-pieces.ensures.pieces db reads) (c.are_too_long.ensures.0 c.if-are_too_long.true))

pub returns-then-branch-clause-refused : goal.returns-then-branch-clause-refused
returns-then-branch-clause-refused g c db reads =
    let can = c.in_ok-n.ensures.movable db reads in
    let found = found-item c.args.key.now c.args.db.now db c.in_ok-n.n reads (held-at c.args.key.now db c.in_ok-n.n can.lone) in
    let fields : c.fields.result ≡ fields_of found.0.tree = c.fields.ensures.fields ∙ ap (λ (v : View). v.fields) (c.item.ensures db reads found.0 found.1.stands) in
    let none = none-long c.args.db.now db (opens-as c.args.db.now db c.one_reading.ensures c.opens.ensures reads) in
    of-move_entry c.args.key.now c.args.position c.requires _ (move-long_text c.args.key.now c.args.position db c.in_ok-n.n can c.args.db.now reads _ (c.as_slice.ensures ∙ c.in_ok-pieces.ensures.pieces db reads) (not_over c.are_too_long.result _ _ c.are_too_long.ensures.1 c.if-are_too_long.false) none found.0 found.1
    (long-there db c.in_ok-n.n c.args.position c.next_item.result _ c.fields.result (fields_of found.0.tree) c.next_item.ensures fields (subst (λ b. IsFieldLong b db c.next_item.result c.fields.result) c.if-branch.true (c.in_ok-is_field_long.ensures.long db reads))))

pub moved_pieces-requires-clause-number : goal.moved_pieces-requires-clause-number
moved_pieces-requires-clause-number g c db reads = held-within c.args.key.now db c.in_ok-n.n (c.in_ok-n.ensures.movable db reads).lone

pub moved_pieces-requires-clause-position : goal.moved_pieces-requires-clause-position
moved_pieces-requires-clause-position g c db reads = position-within c.args.key.now c.args.position db c.in_ok-n.n (c.in_ok-n.ensures.movable db reads)

pub returns-clause-pieces : goal.returns-clause-pieces
returns-clause-pieces g c db reads =
    of-move_entry c.args.key.now c.args.position c.requires _ (c.in_ok-pieces.ensures.pieces db reads ∙ moved c.args.key.now c.args.position db c.in_ok-n.n (c.in_ok-n.ensures.movable db reads))

pub returns-clause-allowed : goal.returns-clause-allowed
returns-clause-allowed g c db reads =
    let can = c.in_ok-n.ensures.movable db reads in
    let found = found-item c.args.key.now c.args.db.now db c.in_ok-n.n reads (held-at c.args.key.now db c.in_ok-n.n can.lone) in
    let fields : c.fields.result ≡ fields_of found.0.tree = c.fields.ensures.fields ∙ ap (λ (v : View). v.fields) (c.item.ensures db reads found.0 found.1.stands) in
    let none = none-long c.args.db.now db (opens-as c.args.db.now db c.one_reading.ensures c.opens.ensures reads) in
    of-move_entry c.args.key.now c.args.position c.requires _ (move-accepted c.args.key.now c.args.position db c.in_ok-n.n can c.args.db.now reads _ (c.as_slice.ensures ∙ c.in_ok-pieces.ensures.pieces db reads) (not_over c.are_too_long.result _ _ c.are_too_long.ensures.1 c.if-are_too_long.false) none found.0 found.1
    (long-there db c.in_ok-n.n c.args.position c.next_item.result _ c.fields.result (fields_of found.0.tree) c.next_item.ensures fields (subst (λ b. IsFieldLong b db c.next_item.result c.fields.result) c.if-branch.false (c.in_ok-is_field_long.ensures.long db reads))))
