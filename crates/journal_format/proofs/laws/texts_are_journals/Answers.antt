use Rattle.journal_format.proofs.JournalLaws.{texts-are-journals}
use Rattle.journal_format.proofs.laws.texts_are_journals.Goals as goal

pub returns : goal.returns
returns c = texts-are-journals
