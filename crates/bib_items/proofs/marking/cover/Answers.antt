use Rattle.bib_items.proofs.PartMarks.{covered-kept}
use Rattle.bib_items.proofs.marking.cover.Goals as goal

pub returns-then-is_ok-clause-kept : goal.returns-then-is_ok-clause-kept
returns-then-is_ok-clause-kept c = λ other has. covered-kept c.args.marks.now c.in-Some.known c.add_item.new.self other c.in-Some.ensures.value c.add_item.ensures.kept has
