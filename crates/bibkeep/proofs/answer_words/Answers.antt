use Rattle.bibkeep.specs.Program.Ends.{given, unread}
use Rattle.bibkeep.proofs.answer_words.Goals as goal

pub returns-in-Err : goal.returns-in-Err
returns-in-Err c = unread _ c.end_without_words.ensures.status

pub returns-in-Err-collect : goal.returns-in-Err-collect
returns-in-Err-collect c = unread _ c.end_without_words-in-Err-collect.ensures.status

pub returns : goal.returns
returns c = given _ c.answer_these.ensures
