use Rattle.journal_format.proofs.PieceTexts.{labelled_step_read}
use Rattle.journal_format.proofs.steps.split_labelled_step.Goals as goal

pub returns-clause-read : goal.returns-clause-read
returns-clause-read c =
    labelled_step_read c.args.text.now c.in_ok-label.after.now c.in_ok-label.label.now c.in_ok-label-2.label c.in_ok-pieces.pieces c.in_ok-pieces.rest.now
    c.in_ok-label-2.ensures c.in_ok-label.ensures.read c.in_ok-pieces.ensures.read
