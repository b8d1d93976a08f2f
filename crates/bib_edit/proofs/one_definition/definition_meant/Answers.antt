use Rattle.bib_edit.proofs.Words.{◌≡◌, suc, Bool, sym, ◌∙◌, ap, arith, drop, defines, Item}
use Rattle.bib_keys.proofs.Walks.{next-of}
use Rattle.edit_spec.specs.Edits.{nth_of, definition_meant}
use Rattle.bib_edit.proofs.NthWalks.{after, from_start, nth-found, nth-counted, nth-passed, nth-none}
use Rattle.bib_edit.proofs.one_definition.definition_meant.Goals as goal
use Rattle.bib_edit.proofs.one_definition.definition_meant.Goals.{then-defines+else-left-eq0, else-defines}

pub items-init : goal.items-init
items-init g c db reads = from_start (definition_meant c.args.name.now c.args.number db.items)

pub returns-then-left-eq0 : goal.returns-then-left-eq0
returns-then-left-eq0 g c db reads =
    let test : Item → Bool = λ item. defines c.args.name.now item.tree in
    let count = c.item_count-n-end.ensures db reads in
    let within = c.items-test.true in
    let next = next-of db.items c.items.n (omega (arith, count, within)) in
    nth-found test db.items c.items.n (definition_meant c.args.name.now c.args.number db.items)
    (c.items.invariant db reads ∙ ap (λ left. after c.items.n (nth_of test left (drop c.items.n db.items))) c.if-left-eq0.true)
    next.0 next.2 (sym (c.defines.ensures next.0 (c.item.ensures db reads next.0 next.1)) ∙ c.if-defines.true)

pub items-preserved : goal.items-preserved
items-preserved g c db reads =
    let test : Item → Bool = λ item. defines c.args.name.now item.tree in
    let count = c.item_count-n-end.ensures db reads in
    let within = c.items-test.true in
    let next = next-of db.items c.items.n (omega (arith, count, within)) in
    let is = sym (c.defines.ensures next.0 (c.item.ensures db reads next.0 next.1)) in
    elim c.if-defines.branch [
      | then-defines+else-left-eq0 w ↦
          let some = w.if-left-eq0.false in
          let less = w.left-is in
          let more : c.items.left ≡ suc c.if-defines.left = omega (arith, some, less) in
          nth-counted test db.items c.items.n (definition_meant c.args.name.now c.args.number db.items) c.if-defines.left
          (c.items.invariant db reads ∙ ap (λ left. after c.items.n (nth_of test left (drop c.items.n db.items))) more) next.0 next.2 (is ∙ w.if-defines.true)
      | else-defines w ↦
          nth-passed test db.items c.items.n (definition_meant c.args.name.now c.args.number db.items) c.if-defines.left
          (c.items.invariant db reads ∙ ap (λ left. after c.items.n (nth_of test left (drop c.items.n db.items))) (sym w.left-is)) next.0 next.2 (is ∙ w.if-defines.false)
    ]

pub returns : goal.returns
returns g c db reads =
    let test : Item → Bool = λ item. defines c.args.name.now item.tree in
    let count = c.item_count-n-end.ensures db reads in
    let past = c.items-test.false in
    nth-none test db.items c.items.n (definition_meant c.args.name.now c.args.number db.items) c.items.left (c.items.invariant db reads) (omega (arith, count, past))
