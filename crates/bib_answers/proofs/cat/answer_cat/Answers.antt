use Rattle.bib_answers.proofs.Words.{IfOk-weaker, IsReadFault}
use Rattle.bib_answers.specs.Cat.{copied}
use Rattle.bib_answers.proofs.Refusals.{cat_refused}
use Rattle.bib_answers.proofs.cat.answer_cat.Goals as goal

pub returns-in-Ok : goal.returns-in-Ok
returns-in-Ok c =
    let found = c.in-Ok.ensures.found in
    rw (c.done.ensures, c.from_vec.ensures, ← c.as_slice.ensures.value) (copied found.0 (found.1.0, found.1.1))

pub returns-in-Err : goal.returns-in-Err
returns-in-Err c =
    let why : IsReadFault c.args.file.items c.in-Err.fault.kind c.in-Err.fault.place = rw (← c.as_slice.ensures.value) c.in-Err.ensures.fault in
    IfOk-weaker c.unread.result _ _ (λ answer h. cat_refused c.args.file.items _ _ answer why h) c.unread.ensures
