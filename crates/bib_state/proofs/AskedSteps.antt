-- The requests for which words ask are those of a step.
use Rattle.std.specs.Prelude.{◌≡◌, List, Option, Some, None, option_map}
use Rattle.std.proofs.Common.{sym}
use Rattle.std.proofs.lemmas.Option.{none-some, same_Some}
use Rattle.bib_spec.specs.Text.{Text}
use Rattle.bib_data.specs.declared.request.Request.{Request}
use Rattle.bib_script.specs.Script.{edit_asked}
use Rattle.bib_script.specs.Words.{asked_by_words, step_of, label_of_words}
use Rattle.bib_state.specs.Steps.{AsksStep}

of_edit : (label : Text) (edit : Option Request) (requests : List Request) → option_map (step_of label) edit ≡ Some requests → AsksStep requests
of_edit label (Some edit) requests asked = record { label = label; change = edit; asked = sym (same_Some (step_of label edit) requests asked) }
of_edit label None requests asked = absurd (none-some requests asked)

pub asks_step : (words : List Text) (requests : List Request) → asked_by_words words ≡ Some requests → AsksStep requests
asks_step words requests asked = of_edit (label_of_words words) (edit_asked words) requests asked
