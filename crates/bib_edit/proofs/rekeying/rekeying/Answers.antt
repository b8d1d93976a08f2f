use Rattle.bib_edit.proofs.Words.{ℕ, ◌<◌, ◌≤◌, ◌∙◌, length, sym, ap, arith, length-append, same_Some, entries_of, tree_bytes, View, start_of, entry_within, entry_stands, slice_get-within, item-ends, place-next}
use Rattle.bib_edit.proofs.EntryPieces.{first-pieces, next-pieces, all-pieces}
use Rattle.bib_edit.proofs.rekeying.rekeying.Goals as goal

pub entries-init : goal.entries-init
entries-init g c = (λ db reads. first-pieces c.args.new.now db c.new-pieces.result.items c.new-pieces.ensures.items, c.item_place-place.ensures)

pub entry_item-next-requires : goal.entry_item-next-requires
entry_item-next-requires g c db reads =
    let count = c.entry_count-n-end.ensures db reads in
    let test = c.entries-test.true in
    omega (arith, count, test)

pub place_from-start-requires-clause-to : goal.place_from-start-requires-clause-to
place_from-start-requires-clause-to g c db reads =
    let count = c.entry_count-n-end.ensures db reads in
    let test = c.entries-test.true in
    let lt : c.entries.n < length (entries_of db) = omega (arith, count, test) in
    let within = entry_within db c.entries.n c.entry_item-next.result lt (c.entry_item-next.ensures db reads) in
    omega (arith, within)

pub place_from-start-requires-clause-at : goal.place_from-start-requires-clause-at
place_from-start-requires-clause-at g c = c.entries.invariant.1

pub push_entry_at-requires-clause-number : goal.push_entry_at-requires-clause-number
push_entry_at-requires-clause-number g c db reads =
    let count = c.entry_count-n-end.ensures db reads in
    let test = c.entries-test.true in
    omega (arith, count, test)

pub push_entry_at-requires-clause-place : goal.push_entry_at-requires-clause-place
push_entry_at-requires-clause-place g c db reads i at =
    c.place_from-start.ensures db reads ∙ ap (start_of db) (same_Some c.entry_item-next.result i (sym (c.entry_item-next.ensures db reads) ∙ at))

pub item-view-requires : goal.item-view-requires
item-view-requires g c db reads =
    let count = c.entry_count-n-end.ensures db reads in
    let test = c.entries-test.true in
    let lt : c.entries.n < length (entries_of db) = omega (arith, count, test) in
    entry_within db c.entries.n c.entry_item-next.result lt (c.entry_item-next.ensures db reads)

pub push_entry_at-requires-clause-view : goal.push_entry_at-requires-clause-view
push_entry_at-requires-clause-view g c db reads i listed =
    c.item-view.ensures db reads i (entry_stands db c.entries.n c.entry_item-next.result i (c.entry_item-next.ensures db reads) listed)

pub overflow_add-item : goal.overflow_add-item
overflow_add-item g c =
    let db = c.opens.ensures.0 in
    let reads = c.opens.ensures.1.reads in
    let count = c.entry_count-n-end.ensures db reads in
    let test = c.entries-test.true in
    let lt : c.entries.n < length (entries_of db) = omega (arith, count, test) in
    let within = entry_within db c.entries.n c.entry_item-next.result lt (c.entry_item-next.ensures db reads) in
    let items = c.item_count.ensures db reads in
    let many = c.item_count.type_inv in
    omega (arith, within, items, many)

pub overflow_add-place-in-entries : goal.overflow_add-place-in-entries
overflow_add-place-in-entries g c =
    let db = c.opens.ensures.0 in
    let reads = c.opens.ensures.1.reads in
    let short = c.opens.ensures.1.short in
    let count = c.entry_count-n-end.ensures db reads in
    let test = c.entries-test.true in
    let lt : c.entries.n < length (entries_of db) = omega (arith, count, test) in
    let it = slice_get-within db.items c.entry_item-next.result (entry_within db c.entries.n c.entry_item-next.result lt (c.entry_item-next.ensures db reads)) in
    let ends = item-ends c.args.db.now db c.entry_item-next.result it.0 reads it.1 in
    let place = c.place_from-start.ensures db reads in
    let b = ap (length {A = ℕ}) (c.body.ensures ∙ ap (λ (v : View). v.body) (c.item-view.ensures db reads it.0 it.1)) in
    let t = ap (length {A = ℕ}) (c.trail.ensures ∙ ap (λ (v : View). v.trail) (c.item-view.ensures db reads it.0 it.1)) in
    omega (arith, short, ends, place, b, t, length-append (tree_bytes it.0.tree) it.0.trail)

pub entries-preserved : goal.entries-preserved
entries-preserved g c = (
  λ db reads.
      let count = c.entry_count-n-end.ensures db reads in
      let test = c.entries-test.true in
      let lt : c.entries.n < length (entries_of db) = omega (arith, count, test) in
      next-pieces c.args.new.now db c.entries.n c.entries.pieces.items c.push_entry_at.new.pieces.items lt (c.entries.invariant.0 db reads) (c.in_ok-push_entry_at.ensures.pieces db reads),
  λ db reads.
      let count = c.entry_count-n-end.ensures db reads in
      let test = c.entries-test.true in
      let lt : c.entries.n < length (entries_of db) = omega (arith, count, test) in
      let within = entry_within db c.entries.n c.entry_item-next.result lt (c.entry_item-next.ensures db reads) in
      place-next db c.entry_item-next.result c.place_from-start.result c.item-view.result c.body.result.now c.trail.result.now within (c.item-view.ensures db reads) c.body.ensures c.trail.ensures (c.place_from-start.ensures db reads),
)

pub returns-clause-pieces : goal.returns-clause-pieces
returns-clause-pieces g c db reads =
    let count = c.entry_count-n-end.ensures db reads in
    let test = c.entries-test.false in
    let past : length (entries_of db) ≤ c.entries.n = omega (arith, count, test) in
    c.from_vec.ensures ∙ all-pieces c.args.new.now db c.entries.n c.entries.pieces.items past (c.entries.invariant.0 db reads)
