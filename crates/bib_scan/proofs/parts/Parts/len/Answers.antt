use Rattle.bib_scan.proofs.Words.{◌≡◌, length, ◌∙◌, ap, rules, parts_of, PartSpan}
use Rattle.bib_scan.proofs.TakenApart.{length-spans_of}
use Rattle.bib_scan.proofs.parts.Parts.len.Goals as goal

pub returns-clause-parts : goal.returns-clause-parts
returns-clause-parts c v is =
    let count : length c.self.inside.spans.items ≡ length (parts_of v) = ap (length {A = PartSpan}) (c.self.view_is ∙ is) ∙ length-spans_of v in
    search (rules, count)
