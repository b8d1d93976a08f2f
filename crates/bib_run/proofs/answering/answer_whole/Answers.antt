use Rattle.bib_run.proofs.Words.{◌∙◌, refl, ap, IfOk-weaker}
use Rattle.bib_run.specs.EditAnswer.{whole}
use Rattle.bib_run.specs.Shown.{kept_with}
use Rattle.bib_run.proofs.UpToJournal.{whole_same}
use Rattle.bib_run.proofs.answering.answer_whole.Goals as goal

pub returns : goal.returns
returns c =
    let up = c.in_ok-made.ensures in
    let all = c.args.command.now.all_or_nothing in
    IfOk-weaker c.whole.result _ _
    (λ given is. record {
      stored = whole all up.stored;
      answers = record { made = up.stored; edits = up.answers; whole = refl };
      same = ap (kept_with c.args.no_journal) is ∙ whole_same all c.args.no_journal c.in_ok-made.made up.stored up.same;
    })
    c.whole.ensures
