use Rattle.bib_edit.proofs.Words.{◌≡◌, ◌≤◌, length, sym, ◌∙◌, ap, subst, err_from_is_err_and, Reading, Reads, View, fields_of, FieldsHaveValues, IsFieldLong}
use Rattle.edit_spec.specs.Edits.{Moves}
use Rattle.bib_edit.specs.Numbers.{which_seen}
use Rattle.bib_edit.specs.OneOfSeveral.{change}
use Rattle.bib_edit.proofs.LimitTests.{not_over}
use Rattle.bib_edit.proofs.PlannedPieces.{planned-short}
use Rattle.bib_edit.proofs.OpenFiles.{opens-as, none-long}
use Rattle.bib_edit.proofs.MovedTexts.{next_item-within}
use Rattle.bib_edit.proofs.MeantItems.{meant-within}
use Rattle.bib_edit.proofs.MeantTexts.{meant-entry}
use Rattle.bib_edit.proofs.Moved.{long-there}
use Rattle.bib_edit.proofs.MovedOne.{meant_item, meant-values, position-within_one, moved_one, move-one-long_file, move-one-long_text, move-one-accepted}
use Rattle.bib_edit.proofs.one_entry.move_one.Goals as goal

pub returns-in_err-n-clause-refused : goal.returns-in_err-n-clause-refused
returns-in_err-n-clause-refused g c =
    let p = err_from_is_err_and c.from_residual.result c.from_residual.ensures.1 in
    rw (p.1, p.2) c.in_err-n.ensures.refused

pub moved_pieces-requires-clause-number : goal.moved_pieces-requires-clause-number
moved_pieces-requires-clause-number g c db reads = meant-within (which_seen c.args.key) db c.in_ok-n.n (c.in_ok-n.ensures.movable db reads).meant.item

pub moved_pieces-requires-clause-position : goal.moved_pieces-requires-clause-position
moved_pieces-requires-clause-position g c db reads =
    let can = c.in_ok-n.ensures.movable db reads in
    position-within_one (which_seen c.args.key) c.args.position db can.low c.in_ok-n.n can.meant.item

pub are_too_long-requires : goal.are_too_long-requires
are_too_long-requires g c = planned-short (change c.args.key (Moves c.args.position)) c.args.db.now _
    (λ db reads.
    let can = c.in_ok-n.ensures.movable db reads in
    c.as_slice.ensures ∙ c.in_ok-pieces.ensures.pieces db reads ∙ moved_one (which_seen c.args.key) c.args.position db can.low c.in_ok-n.n can.meant.item) c.opens.ensures

pub returns-then-are_too_long-clause-refused : goal.returns-then-are_too_long-clause-refused
returns-then-are_too_long-clause-refused g c db reads =
    let can = c.in_ok-n.ensures.movable db reads in
    move-one-long_file (which_seen c.args.key) c.args.position db can.low c.in_ok-n.n can.meant.item can.meant.clear can.joins c.args.db.now reads _ (c.as_slice.ensures ∙ c.in_ok-pieces.ensures.pieces db reads)
    (c.are_too_long.ensures.0 c.if-are_too_long.true)

pub next_item-requires : goal.next_item-requires
next_item-requires g c db reads =
    let can = c.in_ok-n.ensures.movable db reads in
    position-within_one (which_seen c.args.key) c.args.position db can.low c.in_ok-n.n can.meant.item

pub item-requires : goal.item-requires
item-requires g c db reads = meant-within (which_seen c.args.key) db c.in_ok-n.n (c.in_ok-n.ensures.movable db reads).meant.item

pub is_field_long-requires-clause-place : goal.is_field_long-requires-clause-place
is_field_long-requires-clause-place g c db reads =
    let can = c.in_ok-n.ensures.movable db reads in
    subst (λ k. k ≤ length db.items) (sym c.next_item.ensures)
    (next_item-within c.in_ok-n.n c.args.position (length db.items) (position-within_one (which_seen c.args.key) c.args.position db can.low c.in_ok-n.n can.meant.item))

pub is_field_long-requires-clause-values : goal.is_field_long-requires-clause-values
is_field_long-requires-clause-values g c =
    let db : Reading = c.opens.ensures.0 in
    let reads : Reads c.args.db.now db = c.opens.ensures.1.reads in
    let can = c.in_ok-n.ensures.movable db reads in
    let item = meant_item (which_seen c.args.key) db c.in_ok-n.n can.meant.item in
    let fields : c.fields.result ≡ fields_of item.tree = c.fields.ensures.fields ∙ ap (λ (v : View). v.fields) (c.item.ensures db reads item (meant-entry (which_seen c.args.key) db c.in_ok-n.n can.meant.item).at) in
    subst FieldsHaveValues (sym fields) (meant-values (which_seen c.args.key) c.args.db.now db c.in_ok-n.n can.meant.item reads)

pub returns-then-branch-clause-refused : goal.returns-then-branch-clause-refused
returns-then-branch-clause-refused g c db reads =
    let can = c.in_ok-n.ensures.movable db reads in
    let item = meant_item (which_seen c.args.key) db c.in_ok-n.n can.meant.item in
    let fields : c.fields.result ≡ fields_of item.tree = c.fields.ensures.fields ∙ ap (λ (v : View). v.fields) (c.item.ensures db reads item (meant-entry (which_seen c.args.key) db c.in_ok-n.n can.meant.item).at) in
    let none = none-long c.args.db.now db (opens-as c.args.db.now db c.one_reading.ensures c.opens.ensures reads) in
    move-one-long_text (which_seen c.args.key) c.args.position db can.low c.in_ok-n.n can.meant.item can.meant.clear can.joins c.args.db.now reads _ (c.as_slice.ensures ∙ c.in_ok-pieces.ensures.pieces db reads)
    (not_over c.are_too_long.result _ _ c.are_too_long.ensures.1 c.if-are_too_long.false) none
    (long-there db c.in_ok-n.n c.args.position c.next_item.result _ c.fields.result (fields_of item.tree) c.next_item.ensures fields (subst (λ b. IsFieldLong b db c.next_item.result c.fields.result) c.if-branch.true (c.in_ok-is_field_long.ensures.long db reads)))

pub returns-clause-pieces : goal.returns-clause-pieces
returns-clause-pieces g c db reads =
    let can = c.in_ok-n.ensures.movable db reads in
    c.in_ok-pieces.ensures.pieces db reads ∙ moved_one (which_seen c.args.key) c.args.position db can.low c.in_ok-n.n can.meant.item

pub returns-clause-allowed : goal.returns-clause-allowed
returns-clause-allowed g c db reads =
    let can = c.in_ok-n.ensures.movable db reads in
    let item = meant_item (which_seen c.args.key) db c.in_ok-n.n can.meant.item in
    let fields : c.fields.result ≡ fields_of item.tree = c.fields.ensures.fields ∙ ap (λ (v : View). v.fields) (c.item.ensures db reads item (meant-entry (which_seen c.args.key) db c.in_ok-n.n can.meant.item).at) in
    let none = none-long c.args.db.now db (opens-as c.args.db.now db c.one_reading.ensures c.opens.ensures reads) in
    move-one-accepted (which_seen c.args.key) c.args.position db can.low c.in_ok-n.n can.meant.item can.meant.clear can.joins c.args.db.now reads _ (c.as_slice.ensures ∙ c.in_ok-pieces.ensures.pieces db reads)
    (not_over c.are_too_long.result _ _ c.are_too_long.ensures.1 c.if-are_too_long.false) none
    (long-there db c.in_ok-n.n c.args.position c.next_item.result _ c.fields.result (fields_of item.tree) c.next_item.ensures fields (subst (λ b. IsFieldLong b db c.next_item.result c.fields.result) c.if-branch.false (c.in_ok-is_field_long.ensures.long db reads)))
