use Rattle.bibtex_plain.proofs.NameRuns.{misnamed_on, misnamed_here}
use Rattle.bibtex_plain.proofs.names.is_misnamed.Goals as goal

pub returns-then-goes_on : goal.returns-then-goes_on
returns-then-goes_on c more follows =
    misnamed_on c.args.after.now more c.past_space.result.now c.split_run.result.1.now c.args.is_followed c.past_space.ensures c.split_run.ensures.rest c.if-goes_on.ensures follows

pub returns : goal.returns
returns c more follows =
    misnamed_here c.args.after.now more c.past_space.result.now c.split_run.result.0.now c.split_run.result.1.now c.args.is_followed c.is_foreign_name.result
    c.past_space.ensures c.split_run.ensures.front c.split_run.ensures.rest c.if-goes_on.ensures c.is_foreign_name.ensures follows
