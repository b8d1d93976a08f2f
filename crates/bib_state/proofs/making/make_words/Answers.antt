use Rattle.bib_script.specs.Words.{asked_by_words}
use Rattle.std.specs.Prelude.{◌≡◌, Some}
use Rattle.bib_state.proofs.AskedSteps.{asks_step}
use Rattle.bib_state.proofs.making.make_words.Goals as goal

pub make_asked-requires-clause-asked : goal.make_asked-requires-clause-asked
make_asked-requires-clause-asked c =
    let asked : asked_by_words c.args.words.now ≡ Some c.as_slice.result.now = cc (c.in_ok-requests.ensures.said, c.in-Some.is, c.as_slice.ensures) in
    asks_step c.args.words.now c.as_slice.result.now asked
