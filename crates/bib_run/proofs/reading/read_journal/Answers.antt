use Rattle.bib_run.proofs.Words.{rules}
use Rattle.bib_words.specs.Command.{ReadsJournal}
use Rattle.bib_run.specs.Sources.{none, unread, read}
use Rattle.bib_run.proofs.reading.read_journal.Goals as goal

pub returns-then-not-has_journal-clause-ok : goal.returns-then-not-has_journal-clause-ok
returns-then-not-has_journal-clause-ok g c = rw (c.if-not-has_journal.true) none

pub returns-then-not-reads_journal-clause-ok : goal.returns-then-not-reads_journal-clause-ok
returns-then-not-reads_journal-clause-ok g c =
    let left_alone : ¬ ReadsJournal c.args.command.now = search rules in
    rw (c.if-not-has_journal.false) (unread _ left_alone)

pub returns-in-Ok-clause-ok : goal.returns-in-Ok-clause-ok
returns-in-Ok-clause-ok g c =
    let reads : ReadsJournal c.args.command.now = search rules in
    rw (c.if-not-has_journal.false, c.from_vec.ensures) (read _ _ _ reads c.in-Ok.ensures.ok c.in-Ok.ensures.sound)
