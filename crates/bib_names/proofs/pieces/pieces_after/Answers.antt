use Rattle.bib_names.proofs.Words.{sym, ◌∙◌}
use Rattle.bib_names.proofs.CommaLemmas.{parts_of_more}
use Rattle.bib_names.proofs.pieces.pieces_after.Goals as goal

pub returns-then-is_some-clause-many : goal.returns-then-is_some-clause-many
returns-then-is_some-clause-many c =
    parts_of_more c.args.bare.now c.args.one c.in-Some.two c.comma_from-2.result c.requires c.in-Some.ensures.found (sym c.is_some.ensures ∙ c.if-is_some.true) c.comma_from-2.ensures.found
