use Rattle.bib_edit.proofs.Words.{refl, sym, ◌∙◌, arith, length-map, entries_of, keys_of}
use Rattle.insert_spec.specs.Insertion.{is_taken, is_key_taken}
use Rattle.bib_edit.proofs.NextKeys.{next-key}
use Rattle.bib_edit.proofs.AnyWalks.{any-found, any-later, any-none}
use Rattle.bib_edit.proofs.clashes.is_key_taken.Goals as goal

pub entries-init : goal.entries-init
entries-init g c db reads new reads_new = refl

pub returns-then-is_taken : goal.returns-then-is_taken
returns-then-is_taken g c db reads new reads_new =
    let count = c.entry_count-n-end.ensures new reads_new in
    let test = c.entries-test.true in
    let next = next-key new c.entries.n (omega (arith, count, test)) c.key.result.now c.entry.result c.key.ensures (c.entry.ensures new reads_new) in
    any-found (is_taken new db) (keys_of (entries_of new)) c.entries.n (is_key_taken new db) (c.entries.invariant db reads new reads_new) c.key.result.now next
    (sym (c.is_taken.ensures db reads new reads_new) ∙ c.if-is_taken.true)

pub entries-preserved : goal.entries-preserved
entries-preserved g c db reads new reads_new =
    let count = c.entry_count-n-end.ensures new reads_new in
    let test = c.entries-test.true in
    let next = next-key new c.entries.n (omega (arith, count, test)) c.key.result.now c.entry.result c.key.ensures (c.entry.ensures new reads_new) in
    any-later (is_taken new db) (keys_of (entries_of new)) c.entries.n (is_key_taken new db) (c.entries.invariant db reads new reads_new) c.key.result.now next
    (sym (c.is_taken.ensures db reads new reads_new) ∙ c.if-is_taken.false)

pub returns : goal.returns
returns g c db reads new reads_new =
    let count = c.entry_count-n-end.ensures new reads_new in
    let test = c.entries-test.false in
    let keys = length-map (entries_of new) (λ entry. entry.key) in
    any-none (is_taken new db) (keys_of (entries_of new)) c.entries.n (is_key_taken new db) (c.entries.invariant db reads new reads_new) (omega (arith, count, test, keys))
