use Rattle.std.proofs.Common.{◌≡◌, ◌∙◌, sym, ap, rules}
use Rattle.std.specs.Str.{bytes_eq}
use Rattle.bibtex_names.specs.Printing.{printed}
use Rattle.bibtex_labels.specs.Label.{whole_template, others, ends_with_others}
use Rattle.bibtex_labels.proofs.NameLemmas.{last_is_others}
use Rattle.bibtex_labels.proofs.names.ends_with_others.Goals as goal

pub returns : goal.returns
returns c =
    let test : c.eq.result ≡ bytes_eq (printed whole_template c.in-Some.last.now) others = search rules in
    test ∙ sym (ap ends_with_others c.in-Some.ensures.cases.0 ∙ last_is_others c.in-Some.field-0-1.now c.in-Some.last.now)
