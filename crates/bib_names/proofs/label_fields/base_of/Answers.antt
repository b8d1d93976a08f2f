use Rattle.bib_names.proofs.Words.{◌≡◌, ◌∙◌, IfOk-weaker, Text, label_base, base_from, parts_with}
use Rattle.bib_names.specs.LabelParts.{parts_of}
use Rattle.bib_names.proofs.LabelPartLaws.{base_alone}
use Rattle.bib_names.proofs.label_fields.base_of.Goals as goal

pub returns : goal.returns
returns c =
    let alone = base_alone c.args.fields.now c.none.result c.none.ensures in
    IfOk-weaker c.base_with.result (λ (base : Text). base ≡ base_from (parts_with (parts_of c.args.fields.now) c.none.result)) (λ (base : Text). base ≡ label_base c.args.fields.now) (λ base h. h ∙ alone) c.base_with.ensures
