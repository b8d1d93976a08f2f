use Rattle.bib_numbers.proofs.MovedNumbers.{put_back}
use Rattle.bib_definitions.proofs.definitions.put.Goals as goal

pub returns-in-Err-clause-err : goal.returns-in-Err-clause-err
returns-in-Err-clause-err c = (
  put_back c.args.n c.args.numbers.now c.insert.new.self c.remove.new.self c.in_ok-insert.ensures.parts.0 c.in_ok-insert.ensures.parts.1 c.in_ok-insert.ensures.ok c.remove.ensures.taken,
  c.in-Err.ensures.err,
)
