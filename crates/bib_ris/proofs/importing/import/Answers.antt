use Rattle.bib_ris.proofs.SkippedImports.{some_skipped, refused_at_first}
use Rattle.bib_ris.proofs.importing.import.Goals as goal

pub first_skipped-requires : goal.first_skipped-requires
first_skipped-requires g c = some_skipped c.args.latex c.args.text.now c.in_ok-drafts.drafts c.in_ok-drafts.skipped c.in_ok-drafts.ensures.drafts c.if-skipped-gt0.true

pub returns-then-skipped-gt0-clause-refused : goal.returns-then-skipped-gt0-clause-refused
returns-then-skipped-gt0-clause-refused g c =
    refused_at_first c.args.latex c.args.strict c.args.text.now c.in_ok-drafts.drafts c.in_ok-drafts.skipped c.first_skipped.result c.if-strict.true
    c.in_ok-drafts.ensures.drafts c.if-skipped-gt0.true c.first_skipped.ensures
