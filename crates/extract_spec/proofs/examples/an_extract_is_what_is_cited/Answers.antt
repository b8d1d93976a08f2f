unfoldable use Rattle.bib_spec.specs.Text.{is_space}
unfoldable use Rattle.bib_spec.specs.Texts.{months, field_text}
use Rattle.std.proofs.Common.{refl}
use Rattle.extract_spec.proofs.examples.an_extract_is_what_is_cited.Goals as goal

pub returns-clause-first : goal.returns-clause-first
unfolding months field_text is_space
returns-clause-first c = refl

pub returns-clause-second : goal.returns-clause-second
unfolding months field_text is_space
returns-clause-second c = refl

pub returns-clause-month : goal.returns-clause-month
unfolding months field_text is_space
returns-clause-month c = refl

pub returns-clause-defined : goal.returns-clause-defined
unfolding months field_text is_space
returns-clause-defined c = refl

pub returns-clause-ring : goal.returns-clause-ring
unfolding months field_text is_space
returns-clause-ring c = refl

pub returns-clause-star : goal.returns-clause-star
unfolding months field_text is_space
returns-clause-star c = refl
