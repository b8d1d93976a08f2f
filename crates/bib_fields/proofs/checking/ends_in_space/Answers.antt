use Rattle.std.proofs.Common.{◌∙◌, ap}
use Rattle.std.specs.List.{list_all}
use Rattle.bib_spec.specs.Text.{Text, is_space}
use Rattle.bib_fields.proofs.checking.ends_in_space.Goals as goal

pub returns : goal.returns
returns c = c.is_white.ensures ∙ ap (λ (t : Text). list_all is_space t) c.as_slice.ensures
