use Rattle.bib_run.proofs.Words.{[], rules, sym, subst, ap, ◌∙◌, IfOk-weaker, SessionFault, Text, answer_of}
use Rattle.bib_run.proofs.SessionAnswers.{Tells, tells_file, tells_journal, tells_mismatch}
use Rattle.bib_run.proofs.sessions.unopened.Goals as goal

pub returns-in-Unopened : goal.returns-in-Unopened
returns-in-Unopened c =
    IfOk-weaker c.unread.result _ _ (λ answer h. subst (λ (f : SessionFault). Tells f answer) (sym c.in-Unopened.is) (tells_file c.in-Unopened.fault answer h.0 h.1)) c.unread.ensures

pub returns-in_ok-bad_journal_line-in-BadJournal : goal.returns-in_ok-bad_journal_line-in-BadJournal
returns-in_ok-bad_journal_line-in-BadJournal c =
    subst (λ (f : SessionFault). Tells f c.refused.result) (sym c.in-BadJournal.is)
    (tells_journal c.in-BadJournal.place c.refused.result (c.refused.ensures ∙ ap (λ (m : Text). answer_of [] m 1) c.in_ok-bad_journal_line-in-BadJournal.ensures))

pub returns-in_ok-copied-in-JournalMismatch : goal.returns-in_ok-copied-in-JournalMismatch
returns-in_ok-copied-in-JournalMismatch c =
    subst (λ (f : SessionFault). Tells f c.refused-in-JournalMismatch.result) (sym c.in-JournalMismatch.is)
    (tells_mismatch c.refused-in-JournalMismatch.result (c.refused-in-JournalMismatch.ensures ∙ ap (λ (m : Text). answer_of [] m 1) (search rules)))
