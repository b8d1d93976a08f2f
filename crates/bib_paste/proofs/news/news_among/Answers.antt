use Rattle.std.proofs.Common.{◌++◌, ◌∙◌, sym, ap₂, subst, arith}
use Rattle.bib_spec.specs.Text.{Text}
use Rattle.bib_paste.proofs.NewItems.{IsWrittenTo, at-place, tree-in, written-none, written-more, written-all}
use Rattle.bib_paste.proofs.news.news_among.Goals as goal

pub items-init : goal.items-init
items-init g c db reads =
    subst (IsWrittenTo (g.M.MacroTable.macros c.args.macros.now) db 0)
    (sym (c.in_ok-extend_from_slice.ensures.items ∙ ap₂ (λ (a b : Text). a ++ b) c.in_ok-out.ensures.items (c.front.ensures db reads)))
    (written-none (g.M.MacroTable.macros c.args.macros.now) db)

pub items-preserved : goal.items-preserved
items-preserved g c db reads =
    let count = c.item_count-n-end.ensures db reads in
    let test = c.items-test.true in
    let it = at-place db.items c.items.n (omega (arith, count, test)) in
    written-more (g.M.MacroTable.macros c.args.macros.now) db c.items.n it.0 c.items.out.items c.add_unless_known.new.out.items it.1
    (c.in_ok-add_unless_known.ensures it.0 (tree-in c.args.text.now db c.items.n it.0 reads it.1) (c.item.ensures db reads it.0 it.1)) (c.items.invariant db reads)

pub returns : goal.returns
returns g c db reads =
    let count = c.item_count-n-end.ensures db reads in
    let test = c.items-test.false in
    c.from_vec.ensures ∙ written-all (g.M.MacroTable.macros c.args.macros.now) db c.items.n c.items.out.items (omega (arith, count, test)) (c.items.invariant db reads)
