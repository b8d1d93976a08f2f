use Rattle.bib_answers.proofs.Words.{◌∙◌, List, ap, sym, Text}
use Rattle.bib_shelf.specs.Joined.{located_in}
use Rattle.bib_shelf.proofs.Files.{files_are_in}
use Rattle.bib_answers.proofs.named_files.NamedFiles.locate.Goals as goal

pub returns : goal.returns
returns c =
    let of = c.self.invariant in
    c.locate.ensures of.0 of.1.spans ∙ ap (λ (fs : List Text). located_in fs c.args.place) (sym (files_are_in of.0 _ of.1)) ∙ ap (λ v. located_in v.files c.args.place) c.self.view_is
