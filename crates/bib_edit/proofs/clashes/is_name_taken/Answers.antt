use Rattle.bib_edit.proofs.Words.{refl, sym, ◌∙◌, arith}
use Rattle.bib_keys.proofs.Walks.{next-of}
use Rattle.insert_spec.specs.Insertion.{defines_taken, is_name_taken}
use Rattle.bib_edit.proofs.AnyWalks.{any-found, any-later, any-none}
use Rattle.bib_edit.proofs.clashes.is_name_taken.Goals as goal

pub items-init : goal.items-init
items-init g c db reads new reads_new = refl

pub returns-then-defines_taken : goal.returns-then-defines_taken
returns-then-defines_taken g c db reads new reads_new =
    let count = c.item_count-n-end.ensures new reads_new in
    let test = c.items-test.true in
    let next = next-of new.items c.items.n (omega (arith, count, test)) in
    any-found (λ item. defines_taken db item.tree) new.items c.items.n (is_name_taken new db) (c.items.invariant db reads new reads_new) next.0 next.2
    (sym (c.defines_taken.ensures db reads next.0 (c.item.ensures new reads_new next.0 next.1)) ∙ c.if-defines_taken.true)

pub items-preserved : goal.items-preserved
items-preserved g c db reads new reads_new =
    let count = c.item_count-n-end.ensures new reads_new in
    let test = c.items-test.true in
    let next = next-of new.items c.items.n (omega (arith, count, test)) in
    any-later (λ item. defines_taken db item.tree) new.items c.items.n (is_name_taken new db) (c.items.invariant db reads new reads_new) next.0 next.2
    (sym (c.defines_taken.ensures db reads next.0 (c.item.ensures new reads_new next.0 next.1)) ∙ c.if-defines_taken.false)

pub returns : goal.returns
returns g c db reads new reads_new =
    let count = c.item_count-n-end.ensures new reads_new in
    let test = c.items-test.false in
    any-none (λ item. defines_taken db item.tree) new.items c.items.n (is_name_taken new db) (c.items.invariant db reads new reads_new) (omega (arith, count, test))
