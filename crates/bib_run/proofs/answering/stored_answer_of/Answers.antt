use Rattle.bib_run.proofs.Words.{◌≡◌, Some, IfOk-weaker}
use Rattle.bib_words.specs.Verbs.{verb_of}
use Rattle.bib_run.proofs.UpToJournal.{each_up_to, named_answer, up_to-weaker}
use Rattle.bib_run.proofs.answering.stored_answer_of.Goals as goal

pub returns-then-adds_change : goal.returns-then-adds_change
returns-then-adds_change c =
    let named : verb_of c.args.command.now.name ≡ Some c.in-Some.verb = cc (c.verb.ensures, c.in-Some.is) in
    IfOk-weaker c.answer_change.result _ _
    (λ given h. up_to-weaker c.args.no_journal _ _ given (λ answer is. named_answer c.in-Some.verb c.args.command.now _ _ _ answer named is) h) c.answer_change.ensures

pub returns : goal.returns
returns c =
    let named : verb_of c.args.command.now.name ≡ Some c.in-Some.verb = cc (c.verb.ensures, c.in-Some.is) in
    each_up_to c.args.no_journal _ c.answer_verb.result
    (IfOk-weaker c.answer_verb.result _ _ (λ answer is. named_answer c.in-Some.verb c.args.command.now _ _ _ answer named is) c.answer_verb.ensures)
