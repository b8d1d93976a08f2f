use Rattle.bib_streams.proofs.ShownLemmas.{front-write}
use Rattle.bib_streams.proofs.shown.write_shown.Goals as goal

pub returns-then-plain-gt0-clause-shown : goal.returns-then-plain-gt0-clause-shown
returns-then-plain-gt0-clause-shown g c =
    front-write _ _ _ _ _ _ c.plain_len-plain.ensures.plain c.split_at.ensures.front c.write.ensures.bound c.write.ensures.bytes
