use Rattle.bib_names.proofs.Words.{◌≡◌, ◌∙◌, sym, IfOk-weaker, Text, letters_of_one, letters_printed}
use Rattle.std.proofs.Common.{Some}
use Rattle.bib_names.proofs.LabelNameLaws.{letters_one}
use Rattle.bib_names.proofs.label.letters_of_one.Goals as goal

pub returns-in-Some : goal.returns-in-Some
returns-in-Some c =
    let one = letters_one c.args.name.now (Some c.in-Some.name) (sym c.in-Some.is ∙ c.in_ok-name.ensures) in
    IfOk-weaker c.letters_printed.result (λ (t : Text). t ≡ letters_printed c.in-Some.name) (λ (t : Text). t ≡ letters_of_one c.args.name.now) (λ t h. h ∙ sym one) c.letters_printed.ensures
