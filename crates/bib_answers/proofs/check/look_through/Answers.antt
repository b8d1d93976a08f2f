use Rattle.bib_answers.proofs.Words.{◌∙◌, is_comment, is_definition_tree}
use Rattle.std.proofs.Common.{arith}
use Rattle.bib_answers.proofs.ItemCounts.{counted_all}
use Rattle.bib_answers.proofs.check.look_through.Goals as goal

pub items-preserved : goal.items-preserved
items-preserved c = c.in_ok-look_at.ensures

pub returns-clause-definitions : goal.returns-clause-definitions
returns-clause-definitions c r reads =
    let end = c.item_count-n-end.ensures r reads in
    c.items.invariant.definitions r reads ∙ counted_all (λ item. is_definition_tree item.tree) r.items c.items.n (omega (arith, end, c.items-test.false))

pub returns-clause-comments : goal.returns-clause-comments
returns-clause-comments c r reads =
    let end = c.item_count-n-end.ensures r reads in
    c.items.invariant.comments r reads ∙ counted_all (λ item. is_comment item.tree) r.items c.items.n (omega (arith, end, c.items-test.false))
