use Rattle.bib_edit.proofs.Words.{◌+◌, sym, ◌∙◌, arith, drop}
use Rattle.bib_keys.proofs.Walks.{next-of}
use Rattle.edit_spec.specs.Edits.{is_used_before_next}
use Rattle.bib_edit.proofs.UnusedDefinitions.{seen-no_more, seen-here, seen-later, seen-nowhere}
use Rattle.bib_edit.proofs.one_definition.is_seen.Goals as goal

pub returns-then-defines-clause-seen : goal.returns-then-defines-clause-seen
returns-then-defines-clause-seen g c db reads =
    let count = c.item_count-count.ensures db reads in
    let test = c.items-test.true in
    let next = next-of db.items c.items.k (omega (arith, count, test)) in
    seen-no_more c.args.name.now db.items c.items.k (is_used_before_next c.args.name.now (drop (c.args.n + 1) db.items)) (c.items.invariant db reads) next.0 next.2
    (sym (c.defines.ensures next.0 (c.item.ensures db reads next.0 next.1)) ∙ c.if-defines.true)

pub returns-then-branch-clause-seen : goal.returns-then-branch-clause-seen
returns-then-branch-clause-seen g c db reads =
    let count = c.item_count-count.ensures db reads in
    let test = c.items-test.true in
    let next = next-of db.items c.items.k (omega (arith, count, test)) in
    seen-here c.args.name.now db.items c.items.k (is_used_before_next c.args.name.now (drop (c.args.n + 1) db.items)) (c.items.invariant db reads) next.0 next.2
    (sym (c.defines.ensures next.0 (c.item.ensures db reads next.0 next.1)) ∙ c.if-defines.false)
    (sym (c.in_ok-has_part.ensures db reads next.0 next.1) ∙ c.if-branch.true)

pub items-preserved : goal.items-preserved
items-preserved g c db reads =
    let count = c.item_count-count.ensures db reads in
    let test = c.items-test.true in
    let next = next-of db.items c.items.k (omega (arith, count, test)) in
    seen-later c.args.name.now db.items c.items.k (is_used_before_next c.args.name.now (drop (c.args.n + 1) db.items)) (c.items.invariant db reads) next.0 next.2
    (sym (c.defines.ensures next.0 (c.item.ensures db reads next.0 next.1)) ∙ c.if-defines.false)
    (sym (c.in_ok-has_part.ensures db reads next.0 next.1) ∙ c.if-branch.false)

pub returns-clause-seen : goal.returns-clause-seen
returns-clause-seen g c db reads =
    let count = c.item_count-count.ensures db reads in
    let test = c.items-test.false in
    seen-nowhere c.args.name.now db.items c.items.k (is_used_before_next c.args.name.now (drop (c.args.n + 1) db.items)) (c.items.invariant db reads) (omega (arith, count, test))
