use Rattle.bib_run.proofs.Words.{◌≡◌, ◌∙◌, Bool, ap, subst, shown}
use Rattle.bib_run.specs.Shown.{kept_with}
use Rattle.bib_run.proofs.UpToJournal.{shown_same}
use Rattle.bib_run.proofs.answering.answer_of.Goals as goal

pub returns : goal.returns
returns c =
    let up = c.in_ok-stored.ensures in
    let given = c.in_ok-stored.stored in
    let command = c.args.command.now in
    let same = subst (λ (b : Bool). kept_with b given ≡ kept_with b up.stored) c.drops_journal-no_journal.ensures up.same in
    record {
      stored = up.stored;
      answers = up.answers;
      shown = c.shown.ensures ∙ ap (shown command.print) c.kept_with-kept.ensures ∙ shown_same command.print command.no_journal given up.stored same;
    }
