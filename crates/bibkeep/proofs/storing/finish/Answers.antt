use Rattle.std.proofs.Common.{◌∙◌, ap, sym}
use Rattle.std.specs.Option.{option_copied}
use Rattle.bibkeep.specs.Telling.TellsEnd.{unstored}
use Rattle.bibkeep.proofs.Finishing.{stored_so, unstored_so}
use Rattle.bibkeep.proofs.storing.finish.Goals as goal

pub returns-in-Ok-clause-finished : goal.returns-in-Ok-clause-finished
returns-in-Ok-clause-finished g c =
    stored_so _ _ _ _ _ _ _ _ (ap option_copied c.in-Some.is) c.end_run-status.ensures.status c.bytes_of-file.ensures c.bytes_of-journal.ensures
    c.in-Ok.ensures.ok

pub returns-in-Err-clause-finished : goal.returns-in-Err-clause-finished
returns-in-Err-clause-finished g c =
    unstored_so _ _ _ _ _ _ _ (ap option_copied c.in-Some.is) (sym c.leaves_some.ensures ∙ c.if-not-leaves_some.false)
    c.end-status.ensures.status c.bytes_of-file.ensures c.in-Err.ensures.err

pub returns-in-Err-clause-told : goal.returns-in-Err-clause-told
returns-in-Err-clause-told g c =
    unstored (sym c.leaves_some.ensures ∙ c.if-not-leaves_some.false) c.end-status.ensures.status _ _ c.end_run-status.ensures.told c.end-status.ensures.told

pub returns-in_default-clause-told : goal.returns-in_default-clause-told
returns-in_default-clause-told g c =
    unstored (sym c.leaves_some.ensures ∙ c.if-not-leaves_some.false) c.end.ensures.status _ _ c.end_run-status.ensures.told c.end.ensures.told
