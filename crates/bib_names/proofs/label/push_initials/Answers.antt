use Rattle.bib_names.proofs.Words.{◌≡◌, ◌∙◌, rules, sym, print_of, initials_template}
use Rattle.std.proofs.Common.{Some}
use Rattle.bib_names.proofs.LabelNameLaws.{print_initials}
use Rattle.bib_names.proofs.label.push_initials.Goals as goal

pub returns-in_ok-initials_printed-in-Some : goal.returns-in_ok-initials_printed-in-Some
returns-in_ok-initials_printed-in-Some c =
    let print : print_of initials_template c.args.name.now ≡ c.as_slice.result.now =
    print_initials c.args.name.now (Some c.in-Some.name) (sym c.in-Some.is ∙ c.in_ok-name.ensures) ∙ sym (c.as_slice.ensures.value ∙ c.in_ok-initials_printed-in-Some.ensures) in
    rw print (search rules)
