use Rattle.bib_names.proofs.Words.{◌∙◌, sym}
use Rattle.bib_names.proofs.SpecialLemmas.{special_at, special_endless, special_none}
use Rattle.bibtex_names.proofs.special.special_end.Goals as goal

pub returns-then-is_level_opening-clause-found : goal.returns-then-is_level_opening-clause-found
returns-then-is_level_opening-clause-found c =
    special_at c.args.text.now c.args.place c.group_end.result (sym c.is_level_opening.ensures ∙ c.if-is_level_opening.true) c.group_end.ensures.found

pub returns-then-is_level_opening-clause-none : goal.returns-then-is_level_opening-clause-none
returns-then-is_level_opening-clause-none c = special_endless c.args.text.now c.args.place c.group_end.result c.group_end.ensures.none

pub returns-else-is_level_opening-clause-none : goal.returns-else-is_level_opening-clause-none
returns-else-is_level_opening-clause-none c = special_none c.args.text.now c.args.place (sym c.is_level_opening.ensures ∙ c.if-is_level_opening.false)
