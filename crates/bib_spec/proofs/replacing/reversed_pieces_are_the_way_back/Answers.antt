use Rattle.bib_spec.proofs.WayBack.{fit_back, applied-reversed, reversed-reversed, moved-and-back}
use Rattle.bib_spec.proofs.replacing.reversed_pieces_are_the_way_back.Goals as goal

pub returns-clause-fit : goal.returns-clause-fit
returns-clause-fit c = fit_back

pub returns-clause-back : goal.returns-clause-back
returns-clause-back c = applied-reversed

pub returns-clause-twice : goal.returns-clause-twice
returns-clause-twice c = reversed-reversed

pub returns-clause-example : goal.returns-clause-example
returns-clause-example c = moved-and-back
