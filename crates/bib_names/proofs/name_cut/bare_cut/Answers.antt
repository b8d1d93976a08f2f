use Rattle.bib_spec.proofs.Results.{err_always}
use Rattle.bib_names.proofs.CommaLemmas.{few_commas}
use Rattle.bib_names.proofs.name_cut.bare_cut.Goals as goal

pub returns-in_err-words-2-clause-few : goal.returns-in_err-words-2-clause-few
returns-in_err-words-2-clause-few c =
    err_always c.from_residual-in_err-words-2.result (few_commas c.args.bare.now _ c.in-Some-pieces_after.ensures.parts)
