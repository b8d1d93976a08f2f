use Rattle.std.proofs.Common.{◌∙◌}
use Rattle.std.specs.Option.{option_copied}
use Rattle.bib_fields.proofs.ThreeForms.{value-version}
use Rattle.bib_fields.proofs.of_three.has_value.Goals as goal

pub returns : goal.returns
returns c macros any e rows is value_is =
    value-version c.args.version.now macros any e rows c.args.name.now (option_copied c.args.value) c.copied.result c.same_value.result is value_is (c.copied.ensures ∙ c.get.ensures) c.same_value.ensures
