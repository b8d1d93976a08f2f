use Rattle.bib_items.proofs.Words.{sym, ◌∙◌, ap, arith}
use Rattle.bib_scan.specs.ValueParts.{spans_of}
use Rattle.bib_scan.proofs.TakenApart.{one_value}
use Rattle.bib_scan.specs.PartView.{part_view}
use Rattle.bib_items.proofs.PartMarks.{keeps-trans, first-more, first-all}
use Rattle.bib_items.proofs.marking.Marks.add_parts.Goals as goal

pub parts-preserved : goal.parts-preserved
parts-preserved c = (
  keeps-trans c.args.self.now c.parts.self c.add_part.new.self c.parts.invariant.0 c.add_part.ensures.kept,
  first-more c.parts.self c.add_part.new.self c.args.value.now c.parts.n (part_view c.part.result) c.add_part.ensures.kept c.in_ok-add_part.ensures.added c.part.ensures c.parts.invariant.1,
)

pub returns-clause-added : goal.returns-clause-added
returns-clause-added c =
    first-all c.parts.self c.args.value.now c.parts.n
    (λ v ok same.
    let is = c.requires in
    let count = c.len-n-end.ensures.parts v (is.3 ∙ ap spans_of (one_value is.0 v is.1 ok (is.2 ∙ sym same))) in
    omega (arith, count, c.parts-test.false))
    c.parts.invariant.1
