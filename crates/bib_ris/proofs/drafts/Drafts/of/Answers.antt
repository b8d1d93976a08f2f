use Rattle.bib_ris.proofs.Words.{◌∙◌, [], sym, ap, Ok, ris_file}
use Rattle.bib_ris.proofs.DraftSteps.{said-more, said-all, said-unbalanced}
use Rattle.bib_ris.proofs.drafts.Drafts.of.Goals as goal

pub returns-in_default-clause-drafts : goal.returns-in_default-clause-drafts
returns-in_default-clause-drafts c =
    let ends = rw c.in_default.is at c.in_ok-first.ensures.none in
    said-all c.args.latex c.args.text.now c.records.rest c.records.drafts c.skipped.result c.records.invariant
    (ends ∙ ap (λ n. Ok (ris_file [] n)) (sym c.skipped.ensures))

pub returns-then-not-branch-clause-refused : goal.returns-then-not-branch-clause-refused
returns-then-not-branch-clause-refused c =
    let next = rw c.in-Some.is at c.in_ok-first.ensures.some in
    let later = c.in_ok-read_on.ensures.said in
    said-unbalanced c.args.latex c.args.text.now c.records.rest c.in_ok-first.after c.records.drafts c.in-Some.ris later.0 c.records.invariant next
    (c.in_ok-add.ensures.unbalanced c.if-not-branch.true) later.1

pub records-preserved : goal.records-preserved
records-preserved c =
    let next = rw c.in-Some.is at c.in_ok-first.ensures.some in
    said-more c.args.latex c.args.text.now c.records.rest c.in_ok-first.after c.records.drafts c.add.new.self c.in-Some.ris c.records.invariant next
    (c.in_ok-add.ensures.added c.if-not-branch.false)
