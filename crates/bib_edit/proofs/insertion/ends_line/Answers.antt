use Rattle.bib_edit.proofs.Words.{◌≡◌, ◌∙◌, ◌==◌, true, false, length, sym, ap, Text}
use Rattle.insert_spec.specs.Insertion.{ends_line}
use Rattle.bib_edit.proofs.LineEnds.{seen-trail, seen-body}
use Rattle.bib_edit.proofs.insertion.ends_line.Goals as goal

pub returns-then-is_empty : goal.returns-then-is_empty
returns-then-is_empty g c db reads =
    let empty : (length c.item-last.result.trail == 0) ≡ true = ap (λ (t : Text). length t == 0) (sym c.trail.ensures) ∙ sym c.is_empty.ensures ∙ c.if-is_empty.true in
    c.is_line-then-is_empty.ensures ∙ ap ends_line c.body.ensures
    ∙ seen-body db c.item_count-count.result c.item-last.result (c.item_count-count.ensures db reads) c.if-count-eq0.false (c.item-last.ensures db reads) empty

pub returns : goal.returns
returns g c db reads =
    let full : (length c.item-last.result.trail == 0) ≡ false = ap (λ (t : Text). length t == 0) (sym c.trail.ensures) ∙ sym c.is_empty.ensures ∙ c.if-is_empty.false in
    c.is_line-2.ensures ∙ ap ends_line c.trail-2.ensures
    ∙ seen-trail db c.item_count-count.result c.item-last.result (c.item_count-count.ensures db reads) c.if-count-eq0.false (c.item-last.ensures db reads) full
