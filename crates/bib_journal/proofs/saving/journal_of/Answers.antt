use Rattle.bib_journal.proofs.Words.{◌∙◌, ap, subst, reverse, IfOk-weaker, Text, IsDigest, journal_text}
use Rattle.bib_journal.proofs.saving.journal_of.Goals as goal

pub returns-clause-text : goal.returns-clause-text
returns-clause-text c =
    IfOk-weaker c.write_journal.result _ _
    (λ text e. e ∙ ap (λ (d : Text). journal_text (record { digest = d; past = c.args.past.now; future = reverse c.args.undone.now })) (c.as_slice.ensures ∙ c.in_ok-digest.ensures.value))
    c.write_journal.ensures

pub returns-clause-digest : goal.returns-clause-digest
returns-clause-digest c =
    IfOk-weaker c.write_journal.result _ _ (λ text e. subst IsDigest c.in_ok-digest.ensures.value c.in_ok-digest.ensures.form) c.write_journal.ensures
