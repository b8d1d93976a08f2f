use Rattle.bib_edit.proofs.Words.{◌≡◌, ℕ, ◌-◌, arith, ap, sym, ◌∙◌, subst, slice_get-within, View}
use Rattle.bib_store.proofs.TableSteps.{no_macro}
use Rattle.bib_edit.proofs.DefinitionsEnd.{IsEndIn, lead-within, end-lead, end-definition, end-other}
use Rattle.bib_edit.proofs.define_macro.definitions_end.Goals as goal

pub items-init : goal.items-init
items-init g c db reads k is =
    let count = c.count_before_entries-count.ensures db reads in
    subst (λ (n : ℕ). IsEndIn db.items n) (omega (arith, is, count)) (end-lead db.items)

pub item-requires : goal.item-requires
item-requires g c db reads =
    let count = c.count_before_entries-count.ensures db reads in
    let test = c.items-test.true in
    let within = lead-within db.items in omega (arith, count, test, within)

pub returns-in-Macro-clause-end : goal.returns-in-Macro-clause-end
returns-in-Macro-clause-end g c db reads =
    let count = c.count_before_entries-count.ensures db reads in
    let test = c.items-test.true in
    let within = lead-within db.items in
    let end : ℕ = c.count_before_entries-count.result - c.items.passed in
    let it = slice_get-within db.items (end - 1) (omega (arith, count, test, within)) in
    end-definition db.items end (end - 1) (c.items.invariant db reads end (omega (arith, test))) (omega (arith, test)) (omega (arith, count)) it.0 it.1
    (sym (ap (λ (v : View). v.kind) (c.item.ensures db reads it.0 it.1)) ∙ sym c.kind.ensures ∙ c.in-Macro.is)

pub returns-in-Macro-clause-within : goal.returns-in-Macro-clause-within
returns-in-Macro-clause-within g c db reads =
    let count = c.count_before_entries-count.ensures db reads in
    let within = lead-within db.items in omega (arith, count, within)

pub items-preserved : goal.items-preserved
items-preserved g c db reads k is =
    let count = c.count_before_entries-count.ensures db reads in
    let test = c.items-test.true in
    let within = lead-within db.items in
    let end : ℕ = c.count_before_entries-count.result - c.items.passed in
    let it = slice_get-within db.items (end - 1) (omega (arith, count, test, within)) in
    let same : end - 1 ≡ k = omega (arith, is) in
    subst (λ (n : ℕ). IsEndIn db.items n) same
    (end-other db.items end (end - 1) (c.items.invariant db reads end (omega (arith, test))) (omega (arith, test)) (omega (arith, count)) it.0 it.1
    (λ e. no_macro c.kind.result c.in-Entry.is (c.kind.ensures ∙ ap (λ (v : View). v.kind) (c.item.ensures db reads it.0 it.1) ∙ e)))

pub returns-clause-end : goal.returns-clause-end
returns-clause-end g c db reads =
    let test = c.items-test.false in
    let bound = c.items.auto.passed-end in
    sym (c.items.invariant db reads 0 (omega (arith, test, bound)))
