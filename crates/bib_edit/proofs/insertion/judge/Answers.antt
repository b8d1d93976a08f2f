use Rattle.bib_edit.proofs.Words.{◌≡◌, ◌++◌, sym, ◌∙◌, ap₂, subst, arith, both_ways, Text}
use Rattle.insert_spec.specs.Insertion.{line_end_before}
use Rattle.bib_edit.specs.Removal.{ContinuesCleanly}
use Rattle.bib_edit.proofs.Inserted.{insert-merges}
use Rattle.bib_edit.proofs.insertion.judge.Goals as goal

pub returns-then-not-branch-clause-refused : goal.returns-then-not-branch-clause-refused
returns-then-not-branch-clause-refused g c db reads new reads_new =
    let count = c.item_count.ensures db reads in
    let bound = c.if-position-item_count.false in
    let front : c.as_slice.result.now ≡ line_end_before c.args.position new db ++ new.front =
    c.as_slice.ensures ∙ c.in_ok-front.ensures.joined ∙ ap₂ ◌++◌ (c.requires db reads new reads_new) (c.front.ensures new reads_new) in
    insert-merges c.args.position new db (omega (arith, count, bound))
    (sym (c.is_key_taken.ensures db reads new reads_new) ∙ c.if-is_key_taken.false)
    (sym (c.is_name_taken.ensures db reads new reads_new) ∙ c.if-is_name_taken.false)
    (λ clean. both_ways c.in_ok-continues_cleanly.field-0 c.if-not-branch.true
    ((c.in_ok-continues_cleanly.ensures.clean db reads).1 (subst (λ (t : Text). ContinuesCleanly db c.args.position t) (sym front) clean)))
