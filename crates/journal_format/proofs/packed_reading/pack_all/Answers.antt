use Rattle.journal_format.proofs.Words.{IfOk-weaker}
use Rattle.journal_format.proofs.JournalLaws.{journal_read}
use Rattle.journal_format.proofs.packed_reading.pack_all.Goals as goal

pub returns-clause-read : goal.returns-clause-read
returns-clause-read c =
    IfOk-weaker c.pack_from_digest.result _ _ (λ journal d. journal_read c.in_ok-version.version c.args.text.now c.in_ok-version.rest.now journal c.in_ok-version.ensures.read d) c.pack_from_digest.ensures.read
